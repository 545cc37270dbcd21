-- The escapes of a local part.
use Rattle.std.proofs.Common.{◌≡◌, ℕ, ◌<◌, true, false, [], ◌∷◌, ◌++◌, length, refl, sym, ap, ◌∙◌, arith, inl, inr, true≢false}
use Rattle.std.specs.Prelude.{encode_utf8, encode_utf8_all}
use Rattle.std.specs.Str.{IsUtf8}
use Rattle.std.proofs.lemmas.List.{length-append}
use Rattle.std.proofs.lemmas.Str.{encodes-append}
use Rattle.rdf_terms.specs.Lists.{Text}
use Rattle.char_tables.specs.Rows.{is_in}
use Rattle.char_tables.specs.Classes.{hex}
use Rattle.terminals.specs.Terminal.{Characters}
use Rattle.terminals.proofs.Escaping.{same_head, same_tail}
use Rattle.terminals.proofs.Labelling.{rest_smaller}
use Rattle.trig_lexer.specs.declared.parts.Part.{Part}
use Rattle.trig_lexer.specs.declared.parts.Part.TheVariants.{Prefix, Local}
use Rattle.trig_lexer.specs.declared.parts.Place.{Place}
use Rattle.trig_lexer.specs.Fronts.{BeginsWithShape, BeginsWithNoShape, TextReads, TextReadsNone}
use Rattle.trig_lexer.specs.Names.{escaped_in_local, IsPercent, IsLocalEscape, takes, IsEscapeIn, IsPiece}
use Rattle.trig_lexer.proofs.Texts.{step_char, step_mark, step_end, reads_then}

module _ (text behind : Text) (mark : text ≡ 37 ∷ behind) where
  percent_read : (cs front more : Characters) → text ≡ encode_utf8_all cs → cs ≡ front ++ more → (is : IsPercent front) → behind ≡ encode_utf8_all (is.first ∷ is.second ∷ more)
  percent_read cs front more text_is e is =
      let step = step_mark cs text behind 37 (omega arith) text_is mark in
      let whole : 37 ∷ step.0 ≡ 37 ∷ is.first ∷ is.second ∷ more = sym step.1 ∙ e ∙ ap (λ f. f ++ more) is.spelling in
      step.2 ∙ ap encode_utf8_all (same_tail 37 37 step.0 (is.first ∷ is.second ∷ more) whole)

  module _ (first : ℕ) (under : Text) (one : behind ≡ encode_utf8 first ++ under) where
    second_read : (cs front more : Characters) → text ≡ encode_utf8_all cs → cs ≡ front ++ more → (is : IsPercent front)
        → (is.first ≡ first) × (under ≡ encode_utf8_all (is.second ∷ more))
    second_read cs front more text_is e is =
        let step = step_char (is.first ∷ is.second ∷ more) behind under first (percent_read cs front more text_is e is) one in
        (same_head is.first first (is.second ∷ more) step.0 step.1, step.2 ∙ ap encode_utf8_all (sym (same_tail is.first first (is.second ∷ more) step.0 step.1)))

    pub percent_none_second : under ≡ [] → TextReadsNone (BeginsWithNoShape IsPercent) text
    percent_none_second nothing cs text_is front more e is =
        absurd (omega (arith, ap length (step_end (is.second ∷ more) under (second_read cs front more text_is e is).1 nothing)))

    pub percent_none_hex : is_in hex first ≡ false → TextReadsNone (BeginsWithNoShape IsPercent) text
    percent_none_hex none cs text_is front more e is =
        true≢false (sym is.first_hex ∙ ap (is_in hex) (second_read cs front more text_is e is).0 ∙ none)

    module _ (second : ℕ) (rest : Text) (two : under ≡ encode_utf8 second ++ rest) where
      pub percent_none_second_hex : is_in hex second ≡ false → TextReadsNone (BeginsWithNoShape IsPercent) text
      percent_none_second_hex none cs text_is front more e is =
          let step = step_char (is.second ∷ more) under rest second (second_read cs front more text_is e is).1 two in
          true≢false (sym is.second_hex ∙ ap (is_in hex) (same_head is.second second more step.0 step.1) ∙ none)

      pub percent_found : IsUtf8 text → is_in hex first ≡ true → is_in hex second ≡ true → TextReads (BeginsWithShape IsPercent) text rest
      percent_found utf8 first_hex second_hex =
          let a = step_mark utf8.0 text behind 37 (omega arith) (sym utf8.1.1) mark in
          let b = step_char a.0 behind under first a.2 one in
          let c = step_char b.0 under rest second b.2 two in
          record {
            text_characters = utf8.0;
            rest_characters = c.0;
            text_is = sym utf8.1.1;
            rest_is = c.2;
            reads = record {
              front = 37 ∷ first ∷ second ∷ [];
              splits = a.1 ∙ ap (λ s. 37 ∷ s) (b.1 ∙ ap (λ s. first ∷ s) c.1);
              fits = record { first = first; second = second; spelling = refl; first_hex = first_hex; second_hex = second_hex };
            };
          }

module _ (text behind : Text) (mark : text ≡ 92 ∷ behind) where
  escape_read : (cs front more : Characters) → text ≡ encode_utf8_all cs → cs ≡ front ++ more → (is : IsLocalEscape front) → behind ≡ encode_utf8_all (is.c ∷ more)
  escape_read cs front more text_is e is =
      let step = step_mark cs text behind 92 (omega arith) text_is mark in
      let whole : 92 ∷ step.0 ≡ 92 ∷ is.c ∷ more = sym step.1 ∙ e ∙ ap (λ f. f ++ more) is.spelling in
      step.2 ∙ ap encode_utf8_all (same_tail 92 92 step.0 (is.c ∷ more) whole)

  module _ (c : ℕ) (rest : Text) (one : behind ≡ encode_utf8 c ++ rest) where
    pub escape_none_other : is_in escaped_in_local c ≡ false → TextReadsNone (BeginsWithNoShape IsLocalEscape) text
    escape_none_other none cs text_is front more e is =
        let step = step_char (is.c ∷ more) behind rest c (escape_read cs front more text_is e is) one in
        true≢false (sym is.escaped ∙ ap (is_in escaped_in_local) (same_head is.c c more step.0 step.1) ∙ none)

    pub escape_found : IsUtf8 text → is_in escaped_in_local c ≡ true → TextReads (BeginsWithShape IsLocalEscape) text rest
    escape_found utf8 escaped =
        let a = step_mark utf8.0 text behind 92 (omega arith) (sym utf8.1.1) mark in
        let b = step_char a.0 behind rest c a.2 one in
        record {
          text_characters = utf8.0;
          rest_characters = b.0;
          text_is = sym utf8.1.1;
          rest_is = b.2;
          reads = record { front = 92 ∷ c ∷ []; splits = a.1 ∙ ap (λ s. 92 ∷ s) b.1; fits = record { c = c; spelling = refl; escaped = escaped } };
        }

-- ---- a piece of a part

module _ (part : Part) (place : Place) (text : Text) where
  piece_front : (front : Characters) → IsPiece part place front → (c : ℕ) × (more : Characters) × (front ≡ c ∷ more)
  piece_front front (inl (c, e, t)) = (c, [], e)
  piece_front front (inr escape) = escape_some part front escape
    where
      escape_some : (part : Part) (front : Characters) → IsEscapeIn part front → (c : ℕ) × (more : Characters) × (front ≡ c ∷ more)
      escape_some Prefix front escape = absurd escape
      escape_some Local front (inl percent) = (37, percent.first ∷ percent.second ∷ [], percent.spelling)
      escape_some Local front (inr local) = (92, local.c ∷ [], local.spelling)

  pub piece_none_end : text ≡ [] → TextReadsNone (BeginsWithNoShape (IsPiece part place)) text
  piece_none_end nothing cs text_is front more e is =
      let some = piece_front front is in
      absurd (omega (arith, ap length (sym (step_end cs text text_is nothing) ∙ e ∙ ap (λ f. f ++ more) some.2)))

  module _ (c : ℕ) (rest : Text) (one : text ≡ encode_utf8 c ++ rest) where
    pub piece_found : IsUtf8 text → takes part place c ≡ true → TextReads (BeginsWithShape (IsPiece part place)) text rest
    piece_found utf8 taken =
        let step = step_char utf8.0 text rest c (sym utf8.1.1) one in
        record {
          text_characters = utf8.0;
          rest_characters = step.0;
          text_is = sym utf8.1.1;
          rest_is = step.2;
          reads = record { front = c ∷ []; splits = step.1; fits = inl (c, refl, taken) };
        }

    pub piece_none : takes part place c ≡ false → TextReadsNone (BeginsWithNoShape (IsEscapeIn part)) text → TextReadsNone (BeginsWithNoShape (IsPiece part place)) text
    piece_none none no_escape cs text_is front more e (inr escape) = no_escape cs text_is front more e escape
    piece_none none no_escape cs text_is front more e (inl (d, is, taken)) =
        let step = step_char cs text rest c text_is one in
        let whole : c ∷ step.0 ≡ d ∷ more = sym step.1 ∙ e ∙ ap (λ f. f ++ more) is in
        true≢false (sym taken ∙ ap (takes part place) (sym (same_head c d step.0 more whole)) ∙ none)

  pub piece_from_escape : (rest : Text) → TextReads (BeginsWithShape (IsEscapeIn part)) text rest → TextReads (BeginsWithShape (IsPiece part place)) text rest
  piece_from_escape rest x = reads_then x (record { front = x.reads.front; splits = x.reads.splits; fits = inr x.reads.fits })

  pub piece_smaller : (rest : Text) → TextReads (BeginsWithShape (IsPiece part place)) text rest → length rest < length text
  piece_smaller rest x =
      let some = piece_front x.reads.front x.reads.fits in
      let whole : text ≡ encode_utf8 some.0 ++ (encode_utf8_all some.1 ++ rest) =
      x.text_is ∙ ap encode_utf8_all (x.reads.splits ∙ ap (λ f. f ++ x.rest_characters) some.2)
      ∙ ap (λ r. encode_utf8 some.0 ++ r) (encodes-append some.1 x.rest_characters ∙ ap (λ r. encode_utf8_all some.1 ++ r) (sym x.rest_is)) in
      let under = rest_smaller text (encode_utf8_all some.1 ++ rest) some.0 whole in
      omega (arith, length-append (encode_utf8_all some.1) rest)
