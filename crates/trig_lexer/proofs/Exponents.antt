-- The exponent of a DOUBLE.
use Rattle.std.proofs.Common.{◌≡◌, ◌≢◌, ℕ, ◌+◌, ◌<◌, ◌≤◌, true, false, List, [], ◌∷◌, ◌++◌, length, refl, sym, ap, subst, ◌∙◌, arith, inl, inr}
use Rattle.std.specs.Char.{is_ascii_digit}
use Rattle.std.specs.Str.{IsAscii}
use Rattle.std.proofs.lemmas.Bool.Decides.{nat_tests}
use Rattle.std.proofs.lemmas.List.{append_assoc, length-append}
use Rattle.std.proofs.lemmas.Str.Ascii.{IsAscii-cons}
use Rattle.terminals.proofs.Escaping.{same_tail}
use Rattle.trig_lexer.specs.Fronts.{BeginsWithNoShape, BeginsWithLongestShape}
use Rattle.trig_lexer.specs.Numbers.{AreSomeDigits, IsExponentLetter, IsExponent, BeginsWithSign, BeginsWithDigits, BeginsWithLetter, BeginsWithNoLetter}
use Rattle.trig_lexer.proofs.Digits.{digits_ascii, digits_within}
use Rattle.trig_lexer.proofs.Signs.{IsSignMark, BeginsUnsigned, signed_same, signed_length, signed_ascii}

letter_ascii : (c : ℕ) → IsExponentLetter c → c < 128
letter_ascii c (inl e) = omega arith
letter_ascii c (inr e) = omega arith

pub letter_no_digit : (c : ℕ) → IsExponentLetter c → is_ascii_digit c ≡ false
letter_no_digit c (inl e) = ap is_ascii_digit e
letter_no_digit c (inr e) = ap is_ascii_digit e

pub digit_no_sign : (c : ℕ) → is_ascii_digit c ≡ true → ¬ (IsSignMark c)
digit_no_sign c h (inl e) = grind (arith, nat_tests)
digit_no_sign c h (inr e) = grind (arith, nat_tests)

pub digits_unsigned : (xs : List ℕ) → AreSomeDigits xs → BeginsUnsigned xs
digits_unsigned [] (all, some) = absurd (omega arith)
digits_unsigned (c ∷ more) (all, some) = (c, more, refl, digit_no_sign c (all 0 0 (omega arith)))

pub exponent_ascii : (xs : List ℕ) → IsExponent xs → IsAscii xs
exponent_ascii xs is =
    subst IsAscii (sym is.spelling)
    (IsAscii-cons is.letter is.power (letter_ascii is.letter is.letter_is) (signed_ascii AreSomeDigits (λ ds h. digits_ascii ds h.0) is.power is.is_power))

pub letter_none : (text : List ℕ) → ((rest : List ℕ) → text ≢ 101 ∷ rest) → ((rest : List ℕ) → text ≢ 69 ∷ rest) → BeginsWithNoLetter text
letter_none text no_e no_capital letter rest e (inl is) = no_e rest (e ∙ ap (λ c. c ∷ rest) is)
letter_none text no_e no_capital letter rest e (inr is) = no_capital rest (e ∙ ap (λ c. c ∷ rest) is)

module _ (text power : List ℕ) (letter : BeginsWithLetter text power) where
  behind_letter : (exponent rest : List ℕ) → text ≡ exponent ++ rest → (is : IsExponent exponent) → power ≡ is.power ++ rest
  behind_letter exponent rest e is = same_tail letter.0 is.letter power (is.power ++ rest) (sym letter.1 ∙ e ∙ ap (λ s. s ++ rest) is.spelling)

  module _ (unsigned rest : List ℕ) (sign : BeginsWithSign power unsigned) (digits : BeginsWithDigits unsigned rest) where
    -- the digits of another exponent at the front
    other_digits : (other other_rest : List ℕ) → text ≡ other ++ other_rest → (is : IsExponent other)
        → (length other ≤ 1 + (length sign.sign + length digits.digits)) × (0 < length digits.digits)
    other_digits other other_rest e is =
        let behind = behind_letter other other_rest e is in
        let same = signed_same AreSomeDigits digits_unsigned power unsigned sign is.power other_rest behind is.is_power in
        let size = signed_length AreSomeDigits digits_unsigned power unsigned sign is.power other_rest behind is.is_power in
        let within = digits_within unsigned rest is.is_power.unsigned other_rest digits same.1 is.is_power.fits.0 in
        let some = is.is_power.fits.1 in
        let whole = ap length is.spelling in
        (omega arith, omega arith)

    pub exponent_none_digits : length unsigned ≤ length rest → BeginsWithNoShape IsExponent text
    exponent_none_digits short other other_rest e is =
        let some = (other_digits other other_rest e is).1 in
        let whole = ap length digits.splits ∙ length-append digits.digits rest in
        absurd (omega arith)

    pub exponent_found : length rest < length unsigned → BeginsWithLongestShape IsExponent text rest
    exponent_found short = record {
      front = letter.0 ∷ (sign.sign ++ digits.digits);
      splits = letter.1 ∙ ap (λ p. letter.0 ∷ p) (sign.splits ∙ ap (λ u. sign.sign ++ u) digits.splits ∙ sym (append_assoc sign.sign digits.digits rest));
      fits = record {
        letter = letter.0;
        power = sign.sign ++ digits.digits;
        spelling = refl;
        letter_is = letter.2;
        is_power = record { sign = sign.sign; unsigned = digits.digits; spelling = refl; is_sign = sign.is_sign; fits = (digits.are_digits, some) };
      };
      longest = λ other other_rest e other_is. let within = (other_digits other other_rest e other_is).0 in omega (arith, length-append sign.sign digits.digits);
    }
      where
        some : 0 < length digits.digits
        some = let whole = ap length digits.splits ∙ length-append digits.digits rest in omega arith
