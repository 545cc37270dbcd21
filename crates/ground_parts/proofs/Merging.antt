-- Merges of texts: there is one at most, and it may be made of merges.
use Rattle.std.proofs.Common.{List, ap, inl, inr, refl, subst, sym, ◌++◌, ◌∙◌, ◌∷◌, ◌≡◌, ◌⊎◌}
use Rattle.std.proofs.lemmas.List.Elements.{All-weaker}
use Rattle.rdf_terms.proofs.Common.{In, In-append, In-append_left, In-append_right, Text, ascending_unique, joined}
use Rattle.canonical_writer.proofs.LineTexts.{IsLine as IsWrittenLine, same_lines}
use Rattle.ground_parts.specs.Lines.{AreLinesOf, HasLine, IsLine, IsLineOfSome, IsMerge, MergesAreOne, MergesOfMerges}

-- ---- the lines of a text

written_line : (text : Text) → IsLine text → IsWrittenLine text
written_line text l = record { body = l.content; ended = l.ended; one_feed = l.one_feed }

pub line_from_written : (text : Text) → IsWrittenLine text → IsLine text
line_from_written text l = record { content = l.body; ended = l.ended; one_feed = l.one_feed }

pub lines_are_one : (text : Text) (xs ys : List Text) → AreLinesOf text xs → AreLinesOf text ys → xs ≡ ys
lines_are_one text xs ys p q =
    same_lines xs ys (All-weaker IsLine IsWrittenLine written_line xs p.are_lines) (All-weaker IsLine IsWrittenLine written_line ys q.are_lines) (sym p.spelled ∙ q.spelled)

pub In-lines : (text line : Text) (lines : List Text) → AreLinesOf text lines → HasLine text line → In line lines
In-lines text line lines p h = subst (In line) (lines_are_one text h.lines lines h.are_lines p) h.there

-- ---- merges

pub merges_are_one : MergesAreOne
merges_are_one texts merged other m n = m.are_lines.spelled ∙ (ap joined same ∙ sym n.are_lines.spelled)
  where
    same : m.lines ≡ n.lines
    same = ascending_unique m.lines n.lines m.ascending n.ascending (λ l h. (n.all l).1 ((m.all l).0 h)) (λ l h. (m.all l).1 ((n.all l).0 h))

-- what is a line of some of the texts matters, and nothing else of them
pub merge_again : (texts others : List Text) (merged : Text) → ((line : Text) → IsLineOfSome texts line → IsLineOfSome others line)
    → ((line : Text) → IsLineOfSome others line → IsLineOfSome texts line) → IsMerge texts merged → IsMerge others merged
merge_again texts others merged f g m = record {
  lines = m.lines;
  are_lines = m.are_lines;
  ascending = m.ascending;
  all = λ l. ((λ h. f l ((m.all l).0 h)), (λ h. (m.all l).1 (g l h)));
}

pub IsLineOfSome-left : (texts others : List Text) (line : Text) → IsLineOfSome texts line → IsLineOfSome (texts ++ others) line
IsLineOfSome-left texts others line w = record { text = w.text; there = In-append_left texts others w.text w.there; has_line = w.has_line }

pub IsLineOfSome-right : (texts others : List Text) (line : Text) → IsLineOfSome others line → IsLineOfSome (texts ++ others) line
IsLineOfSome-right texts others line w = record { text = w.text; there = In-append_right texts others w.text w.there; has_line = w.has_line }

module _ (texts others : List Text) (part : Text) (p : IsMerge texts part) where
  split_part : (line : Text) → IsLineOfSome (part ∷ others) line → IsLineOfSome (texts ++ others) line
  split_part line w = by w.there
    where
      by : (w.text ≡ part) ⊎ In w.text others → IsLineOfSome (texts ++ others) line
      by (inl e) = IsLineOfSome-left texts others line ((p.all line).0 (In-lines part line p.lines p.are_lines (subst (λ t. HasLine t line) e w.has_line)))
      by (inr h) = IsLineOfSome-right texts others line (record { text = w.text; there = h; has_line = w.has_line })

  put_together : (line : Text) → IsLineOfSome (texts ++ others) line → IsLineOfSome (part ∷ others) line
  put_together line w = by (In-append texts others w.text w.there)
    where
      of_part : In line p.lines → HasLine part line
      of_part h = record { lines = p.lines; are_lines = p.are_lines; there = h }

      by : In w.text texts ⊎ In w.text others → IsLineOfSome (part ∷ others) line
      by (inl h) = record { text = part; there = inl refl; has_line = of_part ((p.all line).1 (record { text = w.text; there = h; has_line = w.has_line })) }
      by (inr h) = record { text = w.text; there = inr h; has_line = w.has_line }

pub merges_of_merges : MergesOfMerges
merges_of_merges texts others part merged p = (
  merge_again (part ∷ others) (texts ++ others) merged (split_part texts others part p) (put_together texts others part p),
  merge_again (texts ++ others) (part ∷ others) merged (put_together texts others part p) (split_part texts others part p),
)
