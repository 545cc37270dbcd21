-- What a reader holds of the bytes that came, when more of them come and when they end.
use Rattle.std.proofs.Common.{◌≡◌, ◌≢◌, ℕ, zero, suc, ◌+◌, ◌-◌, ◌<◌, ◌≤◌, List, [], ◌∷◌, ◌++◌, Some, All, length, take, slice_get, refl, ap, sym, subst, ◌∙◌, arith, append_assoc, length-append}
use Rattle.std.proofs.lemmas.Option.{slice_get_within}
use Rattle.rdf_terms.proofs.Common.{Text, Document, statements}
use Rattle.nquads_reader.specs.Lines.{lines_of}
use Rattle.nquads_reader.specs.Document.{IsNotUtf8, IsBad, HasRelativeIri, IsLeastFaulty, AllState, AreRead, IsNQuads, IsCauseOf}
use Rattle.nquads_reader.specs.Reading.{IsFaultOf, fault_at}
use Rattle.nquads_reader.specs.Pieces.{ends_with_cr, IsCut, AreTaken, IsFirstFaultOf, AreStopped}
use Rattle.nquads_reader.specs.Feeding.{behind_line_end, ended_lines, tail_behind, TakesLines, StopsAt}
use Rattle.nquads_reader.specs.declared.quad.StatedQuad.{StatedQuad}
use Rattle.nquads_reader.specs.declared.fault.LineFault.{LineFault}
use Rattle.nquads_reader.specs.declared.fault.LineFault.TheVariants.{NotUtf8, BadLine, RelativeIri, NoMemory}
use Rattle.nquads_reader.specs.declared.fault.ReadFault.{ReadFault}
use Rattle.nquads_reader.specs.declared.fault.ReadFault.TheVariants.{NotUtf8 as NotUtf8In, BadLine as BadLineIn, RelativeIri as RelativeIriIn, TooManyQuads, NoMemory as Memory}
use Rattle.nquads_reader.proofs.Cuts.{piece_cut, find_cut, lines_cut}
use Rattle.nquads_reader.proofs.ReadLines.{IsPassed, read_more, take_front, least_behind}

-- ---- the least faulty line stays so

get_front : (xs ys : List Text) (n : ℕ) (x : Text) → slice_get xs n ≡ Some x → slice_get (xs ++ ys) n ≡ Some x
get_front [] ys zero x h = cc
get_front [] ys (suc n) x h = cc
get_front (z ∷ zs) ys zero x h = h
get_front (z ∷ zs) ys (suc n) x h = get_front zs ys n x h

take_within : (xs ys : List Text) (n : ℕ) → n ≤ length xs → take n (xs ++ ys) ≡ take n xs
take_within xs ys zero h = refl
take_within [] ys (suc n) h = absurd (omega arith)
take_within (x ∷ xs) ys (suc n) h = ap (λ rest. x ∷ rest) (take_within xs ys n (omega arith))

module _ (HasFault : Text → Type 0) (lines more : List Text) (n : ℕ) (least : IsLeastFaulty HasFault lines n) where
  pub least_within : n - 1 < length lines
  least_within = slice_get_within lines (n - 1) least.line least.at

  pub least_more : IsLeastFaulty HasFault (lines ++ more) n
  least_more =
      let within : n - 1 ≤ length lines = omega (arith, least_within) in
      record {
        counted = least.counted;
        line = least.line;
        at = get_front lines more (n - 1) least.line least.at;
        fault = least.fault;
        before = subst (All IsPassed) (sym (take_within lines more (n - 1) within)) least.before;
      }

first_more : (lines more : List Text) (before : ℕ) (fault : ReadFault) → IsFirstFaultOf lines before fault → IsFirstFaultOf (lines ++ more) before fault × (before < length lines)
first_more lines more before (NotUtf8In n) h = ((h.0, least_more IsNotUtf8 lines more n h.1), omega (arith, h.0, least_within IsNotUtf8 lines more n h.1))
first_more lines more before (BadLineIn n) h = ((h.0, least_more IsBad lines more n h.1), omega (arith, h.0, least_within IsBad lines more n h.1))
first_more lines more before (RelativeIriIn n) h = ((h.0, least_more HasRelativeIri lines more n h.1), omega (arith, h.0, least_within HasRelativeIri lines more n h.1))
first_more lines more before TooManyQuads h = absurd h
first_more lines more before Memory h = absurd h

first_cause : (bytes : Text) (before : ℕ) (fault : ReadFault) → IsFirstFaultOf (lines_of bytes) before fault → IsCauseOf bytes fault
first_cause bytes before (NotUtf8In n) h = h.1
first_cause bytes before (BadLineIn n) h = h.1
first_cause bytes before (RelativeIriIn n) h = h.1
first_cause bytes before TooManyQuads h = absurd h
first_cause bytes before Memory h = absurd h

-- the first line behind these has the fault
first_at : (front : List Text) (line : Text) (more : List Text) (quads : List StatedQuad) → AllState front quads → (fault : LineFault) → fault ≢ NoMemory → IsFaultOf line fault
    → IsFirstFaultOf (front ++ line ∷ more) (length front) (fault_at (length front + 1) fault)
first_at front line more quads h NotUtf8 other fault = (refl, least_behind IsNotUtf8 front line more quads h fault)
first_at front line more quads h BadLine other fault = (refl, least_behind IsBad front line more quads h fault)
first_at front line more quads h RelativeIri other fault = (refl, least_behind HasRelativeIri front line more quads h fault)
first_at front line more quads h NoMemory other fault = absurd (other refl)

-- ---- lines that go on, or stop, behind what was read

record StopsRead (lines : List Text) (new : Document) (before : ℕ) (fault : ReadFault) : Type 0 where
  first : IsFirstFaultOf lines before fault
  states : AreRead (take before lines) new.labels (statements new)

module _ (xs ys : List Text) (old new : Document) (m n : ℕ) (counted : m ≡ length xs) (read : AreRead xs old.labels (statements old)) where
  stops_read : (fault : LineFault) → fault ≢ NoMemory → StopsAt ys fault old new m n → StopsRead (xs ++ ys) new n (fault_at (n + 1) fault)
  stops_read fault other k =
      let front : List Text = xs ++ k.front in
      let whole : front ++ k.line ∷ k.rest ≡ xs ++ ys = append_assoc xs k.front (k.line ∷ k.rest) ∙ ap (λ ls. xs ++ ls) (sym k.splits) in
      let number : length front ≡ n = length-append xs k.front ∙ ap (λ i. i + length k.front) (sym counted) ∙ sym k.takes.counted in
      let states = read_more xs k.front old new m n read k.takes in
      let here : StopsRead (front ++ k.line ∷ k.rest) new (length front) (fault_at (length front + 1) fault) = record {
        first = first_at front k.line k.rest states.stated states.faultless fault other k.has_fault;
        states = subst (λ ls. AreRead ls new.labels (statements new)) (sym (take_front front (k.line ∷ k.rest))) states;
      } in
      subst (λ ls. StopsRead ls new n (fault_at (n + 1) fault)) whole (subst (λ i. StopsRead (front ++ k.line ∷ k.rest) new i (fault_at (i + 1) fault)) number here)

module _ (bytes : Text) (draft : Document) (lines : ℕ) (tail : Text) (taken : AreTaken bytes draft lines tail) where
  -- ---- a further piece

  module _ (piece closed unended : Text) (cut : IsCut (behind_line_end (ends_with_cr bytes) piece) closed unended) (new : Document) (n : ℕ) where
    pub goes_on : TakesLines (ended_lines tail closed) draft new lines n → AreTaken (bytes ++ piece) new n (tail_behind tail closed ++ unended)
    goes_on takes =
        let next = piece_cut bytes taken.ended tail taken.cut piece closed unended cut in
        record {
          ended = next.now_ended;
          cut = next.cut;
          counted = takes.counted ∙ ap (λ i. i + length (ended_lines tail closed)) taken.counted ∙ sym (ap length next.lines ∙ length-append (lines_of taken.ended) (ended_lines tail closed));
          states = subst (λ ls. AreRead ls new.labels (statements new)) (sym next.lines) (read_more (lines_of taken.ended) (ended_lines tail closed) draft new lines n taken.states takes);
        }

    pub stops : (fault : LineFault) → fault ≢ NoMemory → StopsAt (ended_lines tail closed) fault draft new lines n → AreStopped (bytes ++ piece) new n (fault_at (n + 1) fault)
    stops fault other stop =
        let next = piece_cut bytes taken.ended tail taken.cut piece closed unended cut in
        let read = subst (λ ls. StopsRead ls new n (fault_at (n + 1) fault)) (sym next.lines)
        (stops_read (lines_of taken.ended) (ended_lines tail closed) draft new lines n taken.counted taken.states fault other stop) in
        record {
          ended = next.now_ended;
          tail = tail_behind tail closed ++ unended;
          cut = next.cut;
          first = read.first;
          states = read.states;
        }

  -- ---- the end of the bytes

  module _ (new : Document) (n : ℕ) where
    pub all_read : TakesLines (lines_of tail) draft new lines n → IsNQuads bytes new.labels (statements new)
    all_read takes =
        subst (λ ls. AreRead ls new.labels (statements new)) (sym (lines_cut bytes taken.ended tail taken.cut)) (read_more (lines_of taken.ended) (lines_of tail) draft new lines n taken.states takes)

    pub last_stops : (fault : LineFault) → fault ≢ NoMemory → StopsAt (lines_of tail) fault draft new lines n → IsCauseOf bytes (fault_at (n + 1) fault)
    last_stops fault other stop =
        let read = stops_read (lines_of taken.ended) (lines_of tail) draft new lines n taken.counted taken.states fault other stop in
        first_cause bytes n (fault_at (n + 1) fault) (subst (λ ls. IsFirstFaultOf ls n (fault_at (n + 1) fault)) (sym (lines_cut bytes taken.ended tail taken.cut)) read.first)

-- ---- a reader that stopped

module _ (bytes : Text) (draft : Document) (lines : ℕ) (fault : ReadFault) (stopped : AreStopped bytes draft lines fault) where
  pub stays_stopped : (piece : Text) → AreStopped (bytes ++ piece) draft lines fault
  stays_stopped piece =
      let cut = find_cut (behind_line_end (ends_with_cr bytes) piece) in
      let next = piece_cut bytes stopped.ended stopped.tail stopped.cut piece cut.0 cut.1 cut.2 in
      let more = first_more (lines_of stopped.ended) (ended_lines stopped.tail cut.0) lines fault stopped.first in
      let within : lines ≤ length (lines_of stopped.ended) = omega (arith, more.1) in
      record {
        ended = next.now_ended;
        tail = tail_behind stopped.tail cut.0 ++ cut.1;
        cut = next.cut;
        first = subst (λ ls. IsFirstFaultOf ls lines fault) (sym next.lines) more.0;
        states =
            subst (λ ls. AreRead ls draft.labels (statements draft)) (sym (ap (take lines) next.lines
            ∙ take_within (lines_of stopped.ended) (ended_lines stopped.tail cut.0) lines within)) stopped.states;
      }

  pub stopped_cause : IsCauseOf bytes fault
  stopped_cause =
      first_cause bytes lines fault
      (subst (λ ls. IsFirstFaultOf ls lines fault) (sym (lines_cut bytes stopped.ended stopped.tail stopped.cut))
      (first_more (lines_of stopped.ended) (lines_of stopped.tail) lines fault stopped.first).0)
