-- Lines are read one after the other, and blocks of lines.
use Rattle.std.proofs.Common.{◌≡◌, ℕ, ◌+◌, ◌-◌, List, [], ◌∷◌, ◌++◌, Option, Some, All, length, take, slice_get, refl, ap, sym, subst, ◌∙◌, arith, append_assoc, append-nil, length-append}
use Rattle.std.specs.List.{flat_map}
use Rattle.std.proofs.lemmas.Grind.{flat_map-append}
use Rattle.std.proofs.lemmas.List.Elements.{All-nil, All-cons}
use Rattle.rdf_terms.proofs.Common.{Text, Document, statements, AddsAll-append, AddsAll-extends}
use Rattle.nquads_reader.specs.declared.quad.StatedQuad.{StatedQuad}
use Rattle.nquads_reader.specs.Lines.{lines_of}
use Rattle.nquads_reader.specs.declared.fault.LineFault.{LineFault}
use Rattle.nquads_reader.specs.Document.{IsFaultless, IsLeastFaulty, quads_in, AllState, mentioned, IsStatementOf, AreRead}
use Rattle.nquads_reader.specs.Reading.{Appends, IsBlock, TakesQuads}
use Rattle.nquads_reader.specs.Feeding.{TakesLines, StopsAt}
use Rattle.nquads_reader.proofs.Numbering.{statements_kept}
use Rattle.nquads_reader.proofs.ManyQuads.{AllZip-append}

-- ---- lines

abbrev pub IsPassed : Text → Type 0
IsPassed line = (stated : Option StatedQuad) × IsFaultless line stated

pub state_more : (lines : List Text) (quads : List StatedQuad) (line : Text) (more : List StatedQuad) → AllState lines quads → Appends line quads more → AllState (lines ++ line ∷ []) more
state_more lines quads line more h a = subst (AllState (lines ++ line ∷ [])) (sym a.appended) (by lines quads h)
  where
    by : (ls : List Text) (qs : List StatedQuad) → AllState ls qs → AllState (ls ++ line ∷ []) (qs ++ quads_in a.stated)
    by [] qs k = (a.stated, [], a.faultless, ap (λ rs. rs ++ quads_in a.stated) k ∙ sym (append-nil (quads_in a.stated)), refl)
    by (l ∷ ls) qs k = (k.0, k.1 ++ quads_in a.stated, k.2, ap (λ rs. rs ++ quads_in a.stated) k.3 ∙ append_assoc (quads_in k.0) k.1 (quads_in a.stated), by ls k.1 k.4)

states_append : (lines : List Text) (quads : List StatedQuad) (others : List Text) (more : List StatedQuad) → AllState lines quads → AllState others more → AllState (lines ++ others) (quads ++ more)
states_append [] quads others more h k = subst (λ qs. AllState others (qs ++ more)) (sym h) k
states_append (l ∷ ls) quads others more h k = (h.0, h.1 ++ more, h.2, ap (λ qs. qs ++ more) h.3 ∙ append_assoc (quads_in h.0) h.1 more, states_append ls h.1 others more h.4 k)

pub all_passed : (lines : List Text) (quads : List StatedQuad) → AllState lines quads → All IsPassed lines
all_passed [] quads h = All-nil IsPassed
all_passed (l ∷ ls) quads h = All-cons IsPassed l ls (h.0, h.2) (all_passed ls h.1 h.4)

pub next_passed : (lines passed : List Text) (line : Text) (rest : List Text) → lines ≡ passed ++ line ∷ rest → lines ≡ (passed ++ line ∷ []) ++ rest
next_passed lines passed line rest h = h ∙ sym (append_assoc passed (line ∷ []) rest)

pub no_lines : (rest : Text) → length rest ≡ 0 → lines_of rest ≡ []
no_lines [] h = refl
no_lines (c ∷ cs) h = absurd (omega arith)

-- ---- what lines add to a document

takes_both : (more others : List StatedQuad) (a b c : Document) → TakesQuads more a b → TakesQuads others b c → TakesQuads (more ++ others) a c
takes_both more others a b c h k =
    let kept = statements_kept b.labels c.labels (AddsAll-extends b.labels (flat_map mentioned others) c.labels k.labels) more h.numbered h.numbers in
    record {
      numbered = h.numbered ++ k.numbered;
      labels = rw (flat_map-append mentioned more others) (AddsAll-append a.labels (flat_map mentioned more) b.labels (flat_map mentioned others) c.labels h.labels k.labels);
      numbers = AllZip-append (IsStatementOf c.labels) more h.numbered others k.numbered kept k.numbers;
      adds = AddsAll-append (statements a) h.numbered (statements b) k.numbered (statements c) h.adds k.adds;
    }

module _ (xs ys : List Text) (a b c : Document) (m n p : ℕ) (h : TakesLines xs a b m n) where
  pub takes_append : TakesLines ys b c n p → TakesLines (xs ++ ys) a c m p
  takes_append k = record {
    quads = h.quads ++ k.quads;
    states = states_append xs h.quads ys k.quads h.states k.states;
    takes = takes_both h.quads k.quads a b c h.takes k.takes;
    counted = omega (arith, h.counted, k.counted, length-append xs ys);
  }

  pub stops_behind : (fault : LineFault) → StopsAt ys fault b c n p → StopsAt (xs ++ ys) fault a c m p
  stops_behind fault k = record {
    front = xs ++ k.front;
    line = k.line;
    rest = k.rest;
    splits = ap (λ ls. xs ++ ls) k.splits ∙ sym (append_assoc xs k.front (k.line ∷ k.rest));
    takes = record {
      quads = h.quads ++ k.takes.quads;
      states = states_append xs h.quads k.front k.takes.quads h.states k.takes.states;
      takes = takes_both h.quads k.takes.quads a b c h.takes k.takes.takes;
      counted = omega (arith, h.counted, k.takes.counted, length-append xs k.front);
    };
    has_fault = k.has_fault;
  }

pub stops_before : (xs ys : List Text) (fault : LineFault) (a c : Document) (m p : ℕ) → StopsAt xs fault a c m p → StopsAt (xs ++ ys) fault a c m p
stops_before xs ys fault a c m p k = record {
  front = k.front;
  line = k.line;
  rest = k.rest ++ ys;
  splits = ap (λ ls. ls ++ ys) k.splits ∙ append_assoc k.front (k.line ∷ k.rest) ys;
  takes = k.takes;
  has_fault = k.has_fault;
}

-- ---- one more block

pub behind_block : (lines behind passed more rest : List Text) → lines ≡ passed ++ behind → behind ≡ more ++ rest → lines ≡ (passed ++ more) ++ rest
behind_block lines behind passed more rest h k = h ∙ ap (λ ls. passed ++ ls) k ∙ sym (append_assoc passed more rest)

pub block_taken : (bytes : Text) (quads : List StatedQuad) (n : ℕ) (rest : Text) (old new : Document) (before : ℕ) → (block : IsBlock bytes quads n rest) → TakesQuads quads old new
    → TakesLines block.passed old new before (before + n)
block_taken bytes quads n rest old new before block takes = record { quads = quads; states = block.states; takes = takes; counted = ap (λ i. before + i) block.counted }

-- what was read, and lines behind it
pub read_more : (xs ys : List Text) (old new : Document) (m n : ℕ) → AreRead xs old.labels (statements old) → TakesLines ys old new m n → AreRead (xs ++ ys) new.labels (statements new)
read_more xs ys old new m n h k =
    let kept = statements_kept old.labels new.labels (AddsAll-extends old.labels (flat_map mentioned k.quads) new.labels k.takes.labels) h.stated h.numbered h.numbers in
    record {
      stated = h.stated ++ k.quads;
      numbered = h.numbered ++ k.takes.numbered;
      faultless = states_append xs h.stated ys k.quads h.faultless k.states;
      labels_are = rw (flat_map-append mentioned h.stated k.quads) (AddsAll-append [] (flat_map mentioned h.stated) old.labels (flat_map mentioned k.quads) new.labels h.labels_are k.takes.labels);
      numbers = AllZip-append (IsStatementOf new.labels) h.stated h.numbered k.quads k.takes.numbered kept k.takes.numbers;
      statements_are = AddsAll-append [] h.numbered (statements old) k.takes.numbered (statements new) h.statements_are k.takes.adds;
    }

-- ---- the first line with a fault

pub take_front : (front more : List Text) → take (length front) (front ++ more) ≡ front
take_front [] more = refl
take_front (l ∷ ls) more = ap (λ rest. l ∷ rest) (take_front ls more)

at_front : (front : List Text) (line : Text) (more : List Text) → slice_get (front ++ line ∷ more) (length front) ≡ Some line
at_front [] line more = refl
at_front (l ∷ ls) line more = at_front ls line more

pub least_behind : (HasFault : Text → Type 0) (front : List Text) (line : Text) (more : List Text) (quads : List StatedQuad) → AllState front quads → HasFault line
    → IsLeastFaulty HasFault (front ++ line ∷ more) (length front + 1)
least_behind HasFault front line more quads h fault =
    let same : length front + 1 - 1 ≡ length front = omega arith in
    record {
      counted = omega arith;
      line = line;
      at = rw same (at_front front line more);
      fault = fault;
      before = rw (same, take_front front (line ∷ more)) (all_passed front quads h);
    }
