-- How far digits go.
use Rattle.std.proofs.Common.{◌≡◌, ℕ, ◌<◌, ◌≤◌, true, false, List, ◌∷◌, ◌++◌, length, take, drop, sym, ap, subst, ◌∙◌, arith}
use Rattle.std.specs.Char.{is_ascii_digit}
use Rattle.std.specs.List.{prefix_len}
use Rattle.std.specs.Str.{IsAscii, IsUtf8, IsCharBoundary}
use Rattle.std.proofs.lemmas.Bool.Decides.{nat_tests}
use Rattle.std.proofs.lemmas.List.{take-append-drop}
use Rattle.std.proofs.lemmas.Str.Ascii.{IsAscii-from_all}
use Rattle.terminals.proofs.Escaping.{same_head, same_split}
use Rattle.terminals.proofs.Labelling.{passing_within}
use Rattle.terminals.proofs.Tagging.{passing_front, passing_stops, cut_behind_ascii}
use Rattle.trig_lexer.specs.Numbers.{AreDigits, BeginsWithDigits}

pub digit_ascii : (c : ℕ) → is_ascii_digit c ≡ true → c < 128
digit_ascii c h = grind (arith, nat_tests)

pub digits_ascii : (xs : List ℕ) → AreDigits xs → IsAscii xs
digits_ascii xs all = IsAscii-from_all xs (λ k d l. digit_ascii _ (all k d l))

front_digits : (text : List ℕ) (n : ℕ) → n ≡ prefix_len is_ascii_digit text → AreDigits (take n text)
front_digits text n is = subst (λ k. AreDigits (take k text)) (sym is) (passing_front is_ascii_digit text)

pub cut_behind_digits : (text : List ℕ) (n : ℕ) → IsUtf8 text → n ≡ prefix_len is_ascii_digit text → n ≤ length text → IsCharBoundary text n
cut_behind_digits text n utf8 is within =
    cut_behind_ascii text n utf8 within (digits_ascii (take n text) (front_digits text n is))

pub digits_found : (text rest : List ℕ) (n : ℕ) → n ≡ prefix_len is_ascii_digit text → rest ≡ drop n text → BeginsWithDigits text rest
digits_found text rest n is cut = record {
  digits = take n text;
  splits = sym (take-append-drop n text) ∙ ap (λ r. take n text ++ r) (sym cut);
  are_digits = front_digits text n is;
  ends = λ c more e. passing_stops is_ascii_digit text c more (ap (λ k. drop k text) (sym is) ∙ sym cut ∙ e);
}

-- other digits at the front reach no further
pub digits_within : (text rest other other_rest : List ℕ) (so : BeginsWithDigits text rest) → text ≡ other ++ other_rest → AreDigits other → length other ≤ length so.digits
digits_within text rest other other_rest so e all = passing_within is_ascii_digit so.digits other rest other_rest (sym so.splits ∙ e) all so.ends

-- and where no digit follows them, they are the same
pub digits_same : (text rest other more : List ℕ) (c : ℕ) (so : BeginsWithDigits text rest) → text ≡ other ++ c ∷ more → AreDigits other → is_ascii_digit c ≡ false
    → (so.digits ≡ other) × (rest ≡ c ∷ more)
digits_same text rest other more c so e all none =
    let at_most = digits_within text rest other (c ∷ more) so e all in
    let at_least = passing_within is_ascii_digit other so.digits (c ∷ more) rest (sym e ∙ so.splits) so.are_digits
    (λ d behind f. subst (λ z. is_ascii_digit z ≡ false) (same_head c d more behind f) none) in
    same_split so.digits other rest (c ∷ more) (sym so.splits ∙ e) (omega arith)
