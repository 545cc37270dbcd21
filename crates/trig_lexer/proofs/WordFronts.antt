-- Words and marks at the front of a text.
use Rattle.std.proofs.Common.{◌≡◌, ℕ, suc, ◌<◌, true, List, [], ◌∷◌, ◌++◌, length, take, drop, map, refl, sym, ap, subst, ◌∙◌, arith}
use Rattle.std.specs.Prelude.{encode_utf8, encode_utf8_all}
use Rattle.std.specs.Char.{to_ascii_lowercase}
use Rattle.std.specs.Str.{IsAscii, IsUtf8, IsCharBoundary, all_scalars}
use Rattle.std.proofs.lemmas.List.{length-map, length-append, take-append-drop}
use Rattle.std.proofs.lemmas.Bool.Decides.{nat_tests}
use Rattle.std.proofs.lemmas.Str.{encode_same, encodes-append, encodes_same, encodes-IsAscii, length-encode, len_utf8_bounds, IsUtf8-drop, IsCharBoundary-at_seam}
use Rattle.std.proofs.lemmas.Str.Ascii.{IsAscii-nil, IsAscii-cons}
use Rattle.rdf_terms.specs.Lists.{Text, In}
use Rattle.terminals.specs.Terminal.{Characters}
use Rattle.terminals.proofs.Escaping.{same_head, same_tail, same_split}
use Rattle.terminals.proofs.Running.{all_scalars-append_right}
use Rattle.trig_lexer.specs.declared.kind.Kind.{Kind}
use Rattle.trig_lexer.specs.Longest.{TextBeginsWithLongest, TextBeginsWithNoToken, Only}
use Rattle.trig_lexer.specs.Words.{IsInAnyCase, marks}
use Rattle.trig_lexer.specs.Groups.{MarkShapes}

-- all that has the shape is ASCII and of one length
pub record HasLength (shape : Characters → Type 0) (n : ℕ) : Type 0 where
  pub ascii : (spelled : Characters) → shape spelled → IsAscii spelled
  pub is : (spelled : Characters) → shape spelled → length spelled ≡ n

module _ (kind : Kind) (shape : Characters → Type 0) (n : ℕ) (has : HasLength shape n) (text : Text) where
  pub front_found : (front rest : Text) → text ≡ front ++ rest → shape front → IsUtf8 rest → TextBeginsWithLongest (Only kind shape) text kind rest
  front_found front rest e fits utf8 = record {
    text_characters = front ++ utf8.0;
    rest_characters = utf8.0;
    text_is = e ∙ (λ i. sym ascii i ++ sym utf8.1.1 i) ∙ sym (encodes-append front utf8.0);
    rest_is = sym utf8.1.1;
    reads = record {
      spelled = front;
      splits = refl;
      fits = (refl, fits);
      longest = λ other others other_rest f is. let here = has.is front fits in let there = has.is others is.1 in omega arith;
    };
  }
    where
      ascii : encode_utf8_all front ≡ front
      ascii = encodes-IsAscii front (has.ascii front fits)

  -- where such a front stands in the text
  front_at : (characters spelled rest : Characters) → text ≡ encode_utf8_all characters → characters ≡ spelled ++ rest → shape spelled → text ≡ spelled ++ encode_utf8_all rest
  front_at characters spelled rest e splits fits =
      e ∙ ap encode_utf8_all splits ∙ encodes-append spelled rest ∙ ap (λ f. f ++ encode_utf8_all rest) (encodes-IsAscii spelled (has.ascii spelled fits))

  pub front_differs : (front rest : Text) → text ≡ front ++ rest → length front ≡ n → ¬ (shape front) → TextBeginsWithNoToken (Only kind shape) text
  front_differs front rest e len differs characters text_is other spelled more splits (same, fits) =
      let there = has.is spelled fits in
      let whole : front ++ rest ≡ spelled ++ encode_utf8_all more = sym e ∙ front_at characters spelled more text_is splits fits in
      let one = same_split front spelled rest (encode_utf8_all more) whole (omega arith) in
      differs (subst shape (sym one.0) fits)

  pub front_cut : IsUtf8 text → ¬ (IsCharBoundary text n) → TextBeginsWithNoToken (Only kind shape) text
  front_cut utf8 cut characters text_is other spelled more splits (same, fits) =
      let known : characters ≡ utf8.0 = encodes_same characters utf8.0 (sym text_is ∙ sym utf8.1.1) in
      let scalars : all_scalars more ≡ true = all_scalars-append_right spelled more (ap all_scalars (sym splits ∙ known) ∙ utf8.1.0) in
      cut (subst (IsCharBoundary text) (has.is spelled fits)
      (IsCharBoundary-at_seam text spelled (encode_utf8_all more) (front_at characters spelled more text_is splits fits) (more, (scalars, refl))))

pub exact_length : (word : Text) → IsAscii word → HasLength (λ spelled. spelled ≡ word) (length word)
exact_length word ascii = record { ascii = λ spelled e. subst IsAscii (sym e) ascii; is = λ spelled e. ap length e }

lowercase_ascii : (c : ℕ) → to_ascii_lowercase c < 128 → c < 128
lowercase_ascii c h = grind (arith, nat_tests)

lowercase_stays_ascii : (c : ℕ) → c < 128 → to_ascii_lowercase c < 128
lowercase_stays_ascii c h = grind (arith, nat_tests)

any_case_ascii : (word spelled : List ℕ) → IsAscii word → map to_ascii_lowercase spelled ≡ map to_ascii_lowercase word → IsAscii spelled
any_case_ascii word [] ascii e = IsAscii-nil
any_case_ascii [] (c ∷ spelled) ascii e = absurd (omega (arith, ap length e))
any_case_ascii (d ∷ word) (c ∷ spelled) ascii e =
    let head : to_ascii_lowercase c ≡ to_ascii_lowercase d = same_head (to_ascii_lowercase c) (to_ascii_lowercase d) (map to_ascii_lowercase spelled) (map to_ascii_lowercase word) e in
    let tail : map to_ascii_lowercase spelled ≡ map to_ascii_lowercase word =
    same_tail (to_ascii_lowercase c) (to_ascii_lowercase d) (map to_ascii_lowercase spelled) (map to_ascii_lowercase word) e in
    let low = lowercase_stays_ascii d (ascii 0) in
    IsAscii-cons c spelled (lowercase_ascii c (subst (λ x. x < 128) (sym head) low)) (any_case_ascii word spelled (λ i. ascii (suc i)) tail)

pub any_case_length : (word : Text) → IsAscii word → HasLength (IsInAnyCase word) (length word)
any_case_length word ascii = record {
  ascii = λ spelled e. any_case_ascii word spelled ascii e;
  is = λ spelled e. omega (arith, ap length e, length-map spelled to_ascii_lowercase, length-map word to_ascii_lowercase);
}

-- the parts of a text that is cut
pub cut_is : (text front rest : Text) (n : ℕ) → front ≡ take n text → rest ≡ drop n text → text ≡ front ++ rest
cut_is text front rest n e f = sym (take-append-drop n text) ∙ (λ i. sym e i ++ sym f i)

pub cut_utf8 : (text rest : Text) (n : ℕ) → rest ≡ drop n text → IsUtf8 text → IsCharBoundary text n → IsUtf8 rest
cut_utf8 text rest n e utf8 boundary = subst IsUtf8 (sym e) (IsUtf8-drop text n utf8 boundary)

-- ---- marks of one character

pub mark_found : (text rest : Text) (c : ℕ) (kind : Kind) → text ≡ encode_utf8 c ++ rest → IsUtf8 rest → In (c, kind) marks → TextBeginsWithLongest MarkShapes text kind rest
mark_found text rest c kind e utf8 is = record {
  text_characters = c ∷ utf8.0;
  rest_characters = utf8.0;
  text_is = e ∙ ap (λ r. encode_utf8 c ++ r) (sym utf8.1.1);
  rest_is = sym utf8.1.1;
  reads = record {
    spelled = c ∷ [];
    splits = refl;
    fits = (c, refl, is);
    longest = λ other others other_rest f x. omega (arith, ap length x.1);
  };
}

pub mark_none : (text rest : Text) (c : ℕ) → text ≡ encode_utf8 c ++ rest → ((kind : Kind) → ¬ (In (c, kind) marks)) → TextBeginsWithNoToken MarkShapes text
mark_none text rest c e none characters text_is kind spelled more splits (d, one, is) =
    let whole : encode_utf8 c ++ rest ≡ encode_utf8 d ++ encode_utf8_all more = sym e ∙ text_is ∙ ap encode_utf8_all (splits ∙ ap (λ s. s ++ more) one) in
    let same = encode_same c d rest (encode_utf8_all more) whole in
    none kind (subst (λ x. In (x, kind) marks) (sym same.0) is)

pub mark_none_empty : (text : Text) → text ≡ [] → TextBeginsWithNoToken MarkShapes text
mark_none_empty text e characters text_is kind spelled more splits (d, one, is) =
    let whole : [] ≡ encode_utf8 d ++ encode_utf8_all more = sym e ∙ text_is ∙ ap encode_utf8_all (splits ∙ ap (λ s. s ++ more) one) in
    absurd (omega (arith, ap length whole, length-append (encode_utf8 d) (encode_utf8_all more), length-encode d, (len_utf8_bounds d).0))
