-- How far a part of a name goes.
use Rattle.std.proofs.Common.{◌≡◌, ◌≢◌, ◌≤◌, List, [], ◌∷◌, ◌++◌, All, length, refl, sym, ap, subst, ◌∙◌, arith, ◌⊎◌, inl, inr}
use Rattle.std.proofs.lemmas.List.Folds.{concat-append}
use Rattle.std.specs.Prelude.{encode_utf8_all}
use Rattle.std.specs.List.{concat}
use Rattle.std.specs.Str.{IsUtf8}
use Rattle.std.proofs.lemmas.List.{append_assoc, append-nil, length-append}
use Rattle.std.proofs.lemmas.List.Elements.{All-push, All-append}
use Rattle.rdf_terms.specs.Lists.{Text}
use Rattle.terminals.specs.Terminal.{Characters}
use Rattle.terminals.proofs.Marks.{encodes_ascii_front}
use Rattle.trig_lexer.specs.declared.parts.Part.{Part}
use Rattle.trig_lexer.specs.declared.parts.Place.TheVariants.{First, Later}
use Rattle.trig_lexer.specs.Fronts.{BeginsWithShape, BeginsWithNoShape, BeginsWithLongestShape, TextReads, TextReadsNone}
use Rattle.trig_lexer.specs.Names.{IsPiece, GoesOnAsPart, IsPart}
use Rattle.trig_lexer.proofs.Texts.{step_mark, reads_at}
use Rattle.trig_lexer.proofs.Pieces.{IsInner, same_first, all_parts_left, pieces_front, ends_before_dots}

-- pieces, the last of which may end a part, then dots, and what is left
pub record Parted (part : Part) (text end rest : Text) : Type 0 where
  pub pieces : List Characters
  pub dots : List Characters
  pub behind : Characters
  pub text_is : text ≡ encode_utf8_all (concat pieces ++ (concat dots ++ behind))
  pub end_is : end ≡ encode_utf8_all (concat dots ++ behind)
  pub rest_is : rest ≡ encode_utf8_all behind
  pub all : All (IsInner part) pieces
  pub all_dots : All (λ p. p ≡ 46 ∷ []) dots
  pub ends : (pieces ≡ []) ⊎ ((inner : List Characters) × (last : Characters) × (pieces ≡ inner ++ last ∷ []) × IsPiece part Later last)

all_none : (P : Characters → Type 0) → All P []
all_none P = λ k d l. absurd (omega arith)

dots_inner : (part : Part) (dots : List Characters) → All (λ p. p ≡ 46 ∷ []) dots → All (IsInner part) dots
dots_inner part dots all = λ k d l. inr (all k d l)

pub parted_start : (part : Part) (text : Text) → IsUtf8 text → Parted part text text text
parted_start part text utf8 = record {
  pieces = [];
  dots = [];
  behind = utf8.0;
  text_is = sym utf8.1.1;
  end_is = sym utf8.1.1;
  rest_is = sym utf8.1.1;
  all = all_none (IsInner part);
  all_dots = all_none (λ p. p ≡ 46 ∷ []);
  ends = inl refl;
}

concat-push : (pieces : List Characters) (piece behind : Characters) → concat (pieces ++ piece ∷ []) ++ behind ≡ concat pieces ++ (piece ++ behind)
concat-push pieces piece behind =
    ap (λ s. s ++ behind) (concat-append pieces (piece ∷ []) ∙ ap (λ s. concat pieces ++ s) (append-nil piece)) ∙ append_assoc (concat pieces) piece behind

pub parted_piece : (part : Part) (text end rest next : Text) → Parted part text end rest → TextReads (BeginsWithShape (IsPiece part Later)) rest next → Parted part text next next
parted_piece part text end rest next so x =
    let at = reads_at (BeginsWithShape (IsPiece part Later)) rest next so.behind x so.rest_is in
    record {
      pieces = (so.pieces ++ so.dots) ++ at.2.front ∷ [];
      dots = [];
      behind = at.0;
      text_is = so.text_is ∙ ap encode_utf8_all
          (ap (λ b. concat so.pieces ++ (concat so.dots ++ b)) at.2.splits ∙ sym (append_assoc (concat so.pieces) (concat so.dots) (at.2.front ++ at.0))
          ∙ ap (λ f. f ++ (at.2.front ++ at.0)) (sym (concat-append so.pieces so.dots)) ∙ sym (concat-push (so.pieces ++ so.dots) at.2.front at.0));
      end_is = at.1;
      rest_is = at.1;
      all = All-push (IsInner part) (so.pieces ++ so.dots) at.2.front (All-append (IsInner part) so.pieces so.dots so.all (dots_inner part so.dots so.all_dots)) (inl at.2.fits);
      all_dots = all_none (λ p. p ≡ 46 ∷ []);
      ends = inr (so.pieces ++ so.dots, at.2.front, refl, at.2.fits);
    }

pub parted_dot : (part : Part) (text end rest next : Text) → Parted part text end rest → rest ≡ 46 ∷ next → Parted part text end next
parted_dot part text end rest next so dot =
    let step = step_mark so.behind rest next 46 (omega arith) so.rest_is dot in
    let same : concat so.dots ++ so.behind ≡ concat (so.dots ++ (46 ∷ []) ∷ []) ++ step.0 =
    ap (λ b. concat so.dots ++ b) step.1 ∙ sym (concat-push so.dots (46 ∷ []) step.0) in
    record {
      pieces = so.pieces;
      dots = so.dots ++ (46 ∷ []) ∷ [];
      behind = step.0;
      text_is = so.text_is ∙ ap (λ b. encode_utf8_all (concat so.pieces ++ b)) same;
      end_is = so.end_is ∙ ap encode_utf8_all same;
      rest_is = step.2;
      all = so.all;
      all_dots = All-push (λ p. p ≡ 46 ∷ []) so.dots (46 ∷ []) so.all_dots refl;
      ends = so.ends;
    }

module _ (part : Part) (text end rest : Text) (so : Parted part text end rest) (no_piece : TextReadsNone (BeginsWithNoShape (IsPiece part Later)) rest)
    (no_dot : (next : Text) → rest ≢ 46 ∷ next) where
  stops : (piece more : Characters) → so.behind ≡ piece ++ more → ¬ (IsInner part piece)
  stops piece more e (inl x) = no_piece so.behind so.rest_is piece more e x
  stops piece more e (inr dot) =
      no_dot (encode_utf8_all more) (so.rest_is ∙ ap encode_utf8_all (e ∙ ap (λ p. p ++ more) dot) ∙ encodes_ascii_front 46 more (omega arith))

  goes_on : (pieces : List Characters) → All (IsInner part) pieces → (pieces ≡ []) ⊎ ((inner : List Characters) × (last : Characters) × (pieces ≡ inner ++ last ∷ []) × IsPiece part Later last)
      → GoesOnAsPart part (concat pieces)
  goes_on pieces all (inl nothing) = inl (ap concat nothing)
  goes_on pieces all (inr (inner, last, e, ends)) =
      inr (
        inner,
        last,
        ap concat e ∙ concat-append inner (last ∷ []) ∙ ap (λ s. concat inner ++ s) (append-nil last),
        all_parts_left (IsInner part) inner (last ∷ []) (subst (All (IsInner part)) e all),
        ends,
      )

  longest : (other other_rest : Characters) → concat so.pieces ++ (concat so.dots ++ so.behind) ≡ other ++ other_rest → GoesOnAsPart part other → length other ≤ length (concat so.pieces)
  longest other other_rest e (inl nothing) = omega (arith, ap length nothing)
  longest other other_rest e (inr (inner, last, is, all, ends)) =
      let whole : concat (inner ++ last ∷ []) ≡ other = concat-append inner (last ∷ []) ∙ ap (λ s. concat inner ++ s) (append-nil last) ∙ sym is in
      let fronts : concat (so.pieces ++ so.dots) ++ so.behind ≡ concat (inner ++ last ∷ []) ++ other_rest =
      ap (λ f. f ++ so.behind) (concat-append so.pieces so.dots) ∙ append_assoc (concat so.pieces) (concat so.dots) so.behind ∙ e ∙ ap (λ o. o ++ other_rest) (sym whole) in
      let split = pieces_front part (so.pieces ++ so.dots) (inner ++ last ∷ []) so.behind other_rest fronts
      (All-append (IsInner part) so.pieces so.dots so.all (dots_inner part so.dots so.all_dots)) (All-push (IsInner part) inner last all (inl ends)) stops in
      let within = ends_before_dots part so.pieces so.dots inner split.0 last split.1 so.all_dots ends in
      omega (arith, ap length whole)

  pub parted_end : TextReads (BeginsWithLongestShape (GoesOnAsPart part)) text end
  parted_end = record {
    text_characters = concat so.pieces ++ (concat so.dots ++ so.behind);
    rest_characters = concat so.dots ++ so.behind;
    text_is = so.text_is;
    rest_is = so.end_is;
    reads = record { front = concat so.pieces; splits = refl; fits = goes_on so.pieces so.all so.ends; longest = longest };
  }

-- ---- a part is its first piece and what goes on behind it

module _ (part : Part) (text more rest : Text) (first : TextReads (BeginsWithShape (IsPiece part First)) text more) where
  pub part_found : TextReads (BeginsWithLongestShape (GoesOnAsPart part)) more rest → TextReads (BeginsWithLongestShape (IsPart part)) text rest
  part_found x =
      let at = reads_at (BeginsWithLongestShape (GoesOnAsPart part)) more rest first.rest_characters x first.rest_is in
      record {
        text_characters = first.text_characters;
        rest_characters = at.0;
        text_is = first.text_is;
        rest_is = at.1;
        reads = record {
          front = first.reads.front ++ at.2.front;
          splits = first.reads.splits ∙ ap (λ r. first.reads.front ++ r) at.2.splits ∙ sym (append_assoc first.reads.front at.2.front at.0);
          fits = record { first = first.reads.front; more = at.2.front; spelling = refl; begins = first.reads.fits; goes_on = at.2.fits };
          longest = λ other other_rest e is.
              let whole : first.reads.front ++ first.rest_characters ≡ is.first ++ (is.more ++ other_rest) =
              sym first.reads.splits ∙ e ∙ ap (λ s. s ++ other_rest) is.spelling ∙ append_assoc is.first is.more other_rest in
              let same = same_first part first.reads.front is.first first.rest_characters (is.more ++ other_rest) whole first.reads.fits is.begins in
              let within = at.2.longest is.more other_rest same.1 is.goes_on in
              omega (arith, ap length is.spelling, length-append is.first is.more, length-append first.reads.front at.2.front, ap length same.0);
        };
      }
