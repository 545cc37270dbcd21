-- A blank node's label at the front of a text.
use Rattle.std.proofs.Common.{◌≡◌, ℕ, ◌-◌, ◌≤◌, true, false, List, [], ◌∷◌, ◌++◌, length, take, refl, sym, ap, subst, ◌∙◌, arith, true≢false}
use Rattle.std.specs.Prelude.{encode_utf8, encode_utf8_all, slice_range}
use Rattle.std.specs.Str.{IsUtf8, IsCharBoundary}
use Rattle.std.proofs.lemmas.List.{append_assoc, length-append, take_at}
use Rattle.std.proofs.lemmas.Str.{encode_same, encodes-append, length-encode, len_utf8_bounds, IsCharBoundary-at_seam}
use Rattle.terminals.specs.declared.labels.Grammar.{Grammar}
use Rattle.terminals.specs.Terminal.{TextBeginsWith, TextBeginsWithNone}
use Rattle.terminals.specs.Terminals.{begins_label, GoesOnAsLabelIn, BlankNodeLabel}
use Rattle.terminals.proofs.Escaping.{same_tail}
use Rattle.terminals.proofs.Running.{slice_front}
use Rattle.terminals.proofs.Marks.{encodes_ascii_front}

module _ (grammar : Grammar) (text under label : List ℕ) (mark : text ≡ 95 ∷ under) (colon : under ≡ 58 ∷ label) where
  -- the label of any reading of the text
  other_label : (characters spelled value rest : List ℕ) → text ≡ encode_utf8_all characters → characters ≡ spelled ++ rest → (is : BlankNodeLabel grammar spelled value)
      → label ≡ encode_utf8 is.first ++ encode_utf8_all (is.more ++ rest)
  other_label characters spelled value rest text_is splits is =
      let whole : characters ≡ 95 ∷ 58 ∷ is.first ∷ (is.more ++ rest) = splits ∙ ap (λ s. s ++ rest) (is.mark ∙ ap (λ v. 95 ∷ 58 ∷ v) is.label) in
      let bytes : encode_utf8_all characters ≡ 95 ∷ 58 ∷ encode_utf8_all (is.first ∷ (is.more ++ rest)) =
      ap encode_utf8_all whole ∙ encodes_ascii_front 95 (58 ∷ is.first ∷ (is.more ++ rest)) (omega arith)
      ∙ ap (λ t. 95 ∷ t) (encodes_ascii_front 58 (is.first ∷ (is.more ++ rest)) (omega arith)) in
      let read : 95 ∷ 58 ∷ label ≡ 95 ∷ 58 ∷ encode_utf8_all (is.first ∷ (is.more ++ rest)) = sym (mark ∙ ap (λ u. 95 ∷ u) colon) ∙ text_is ∙ bytes in
      same_tail 58 58 label _ (same_tail 95 95 (58 ∷ label) (58 ∷ encode_utf8_all (is.first ∷ (is.more ++ rest))) read)

  pub label_none_empty : label ≡ [] → TextBeginsWithNone (BlankNodeLabel grammar) text
  label_none_empty nothing characters text_is spelled value rest splits is =
      let whole = ap length (sym nothing ∙ other_label characters spelled value rest text_is splits is) in
      absurd (omega (arith, whole, length-append (encode_utf8 is.first) (encode_utf8_all (is.more ++ rest)), length-encode is.first, (len_utf8_bounds is.first).0))

  pub label_none_first : (first : ℕ) (more : List ℕ) → label ≡ encode_utf8 first ++ more → begins_label grammar first ≡ false → TextBeginsWithNone (BlankNodeLabel grammar) text
  label_none_first first more front none characters text_is spelled value rest splits is =
      let same = encode_same first is.first more (encode_utf8_all (is.more ++ rest)) (sym front ∙ other_label characters spelled value rest text_is splits is) in
      true≢false (sym is.begins ∙ ap (begins_label grammar) (sym same.0) ∙ none)

  module _ (first : ℕ) (more rest : List ℕ) (front : label ≡ encode_utf8 first ++ more) (goes_on : GoesOnAsLabelIn grammar more rest) where
    label_splits : label ≡ encode_utf8_all (first ∷ goes_on.more) ++ rest
    label_splits = front ∙ ap (λ m. encode_utf8 first ++ m) goes_on.text_is ∙ sym (append_assoc (encode_utf8 first) (encode_utf8_all goes_on.more) rest)

    label_len : length (encode_utf8_all (first ∷ goes_on.more)) ≡ length label - length rest
    label_len = omega (arith, ap length label_splits, length-append (encode_utf8_all (first ∷ goes_on.more)) rest)

    pub cut_behind_label : IsUtf8 rest → IsCharBoundary label (length label - length rest)
    cut_behind_label utf8 = subst (IsCharBoundary label) label_len (IsCharBoundary-at_seam label (encode_utf8_all (first ∷ goes_on.more)) rest label_splits utf8)

    pub label_found : (value : List ℕ) → value ≡ slice_range label 0 (length label - length rest) → begins_label grammar first ≡ true
        → TextBeginsWith (BlankNodeLabel grammar) text value rest
    label_found value cut begins = record {
      text_characters = 95 ∷ 58 ∷ first ∷ (goes_on.more ++ goes_on.rest_characters);
      value_characters = first ∷ goes_on.more;
      rest_characters = goes_on.rest_characters;
      text_is = mark ∙ ap (λ u. 95 ∷ u) (colon ∙ ap (λ l. 58 ∷ l) bytes)
          ∙ sym (encodes_ascii_front 95 (58 ∷ first ∷ (goes_on.more ++ goes_on.rest_characters)) (omega arith)
          ∙ ap (λ t. 95 ∷ t) (encodes_ascii_front 58 (first ∷ (goes_on.more ++ goes_on.rest_characters)) (omega arith)));
      value_is = cut ∙ slice_front label (length label - length rest) ∙ ap (take (length label - length rest)) label_splits
          ∙ take_at (encode_utf8_all (first ∷ goes_on.more)) rest (length label - length rest) label_len;
      rest_is = goes_on.rest_is;
      begins = record {
        spelled = 95 ∷ 58 ∷ first ∷ goes_on.more;
        splits = refl;
        fits = record { first = first; more = goes_on.more; mark = refl; label = refl; begins = begins; goes_on = goes_on.fits };
        longest = longest;
      };
    }
      where
        bytes : label ≡ encode_utf8_all (first ∷ (goes_on.more ++ goes_on.rest_characters))
        bytes = label_splits ∙ ap (λ r. encode_utf8_all (first ∷ goes_on.more) ++ r) goes_on.rest_is ∙ sym (encodes-append (first ∷ goes_on.more) goes_on.rest_characters)

        longest : (other other_value other_rest : List ℕ) → 95 ∷ 58 ∷ first ∷ (goes_on.more ++ goes_on.rest_characters) ≡ other ++ other_rest
            → BlankNodeLabel grammar other other_value → length other ≤ length (95 ∷ 58 ∷ first ∷ goes_on.more)
        longest other other_value other_rest e is =
            let spelled : other ≡ 95 ∷ 58 ∷ is.first ∷ is.more = is.mark ∙ ap (λ v. 95 ∷ 58 ∷ v) is.label in
            let whole : 95 ∷ 58 ∷ first ∷ (goes_on.more ++ goes_on.rest_characters) ≡ 95 ∷ 58 ∷ is.first ∷ (is.more ++ other_rest) = e ∙ ap (λ s. s ++ other_rest) spelled in
            let tails : goes_on.more ++ goes_on.rest_characters ≡ is.more ++ other_rest = cc in
            let short = goes_on.longest is.more other_rest tails is.goes_on in
            omega (arith, ap length spelled)
