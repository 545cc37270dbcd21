-- Numbers behind a sign.
use Rattle.std.proofs.Common.{ℕ, List, [], ◌∷◌, ◌++◌, refl, sym, ap, subst, ◌∙◌, arith, ◌⊎◌, inl, inr}
use Rattle.std.specs.Str.{IsAscii}
use Rattle.std.proofs.lemmas.List.{append_assoc, length-append}
use Rattle.std.proofs.lemmas.Str.{IsAscii-append}
use Rattle.std.proofs.lemmas.Str.Ascii.{IsAscii-cons}
use Rattle.trig_lexer.specs.declared.kind.Kind.{Kind}
use Rattle.trig_lexer.specs.declared.kind.Kind.TheVariants.{Integer, Decimal, Double}
use Rattle.trig_lexer.specs.Longest.{BeginsWithLongest, BeginsWithNoToken}
use Rattle.trig_lexer.specs.Numbers.{AreDigits, AreSomeDigits, IsFraction, IsMantissa, HasExponent, IsSigned, NumberShapes, UnsignedShapes, BeginsWithSign}
use Rattle.trig_lexer.proofs.Digits.{digits_ascii}
use Rattle.trig_lexer.proofs.Signs.{BeginsUnsigned, IsSignMark, signed_same, signed_length, signed_ascii}
use Rattle.trig_lexer.proofs.Exponents.{digit_no_sign, digits_unsigned, exponent_ascii}
use Rattle.trig_lexer.proofs.Unsigned.{unsigned_is}

-- a number is one without a sign, behind a sign or none
signed : (kind : Kind) (xs : List ℕ) → NumberShapes kind xs → IsSigned (UnsignedShapes kind) xs
signed Integer xs is = is
signed Decimal xs is = is
signed Double xs is = is
signed _ xs is = absurd is

-- ---- what numbers without a sign begin with

point_no_sign : ¬ (IsSignMark 46)
point_no_sign (inl e) = omega arith
point_no_sign (inr e) = omega arith

-- digits, or none, and then something unsigned
behind_digits : (digits more : List ℕ) → AreDigits digits → BeginsUnsigned more → BeginsUnsigned (digits ++ more)
behind_digits [] more all begins = begins
behind_digits (c ∷ digits) more all begins = (c, digits ++ more, refl, digit_no_sign c (all 0 0 (omega arith)))

behind_point : (more : List ℕ) → BeginsUnsigned (46 ∷ more)
behind_point more = (46, more, refl, point_no_sign)

mantissa_unsigned : (xs : List ℕ) → IsMantissa xs → BeginsUnsigned xs
mantissa_unsigned xs (inl (whole, fraction, e, some, all)) = subst BeginsUnsigned (sym e) (behind_digits whole (46 ∷ fraction) some.0 (behind_point fraction))
mantissa_unsigned xs (inr (inl (fraction, e, some))) = subst BeginsUnsigned (sym e) (behind_point fraction)
mantissa_unsigned xs (inr (inr some)) = digits_unsigned xs some

unsigned_begins : (kind : Kind) (xs : List ℕ) → UnsignedShapes kind xs → BeginsUnsigned xs
unsigned_begins kind xs is = by (unsigned_is kind xs is)
  where
    by : AreSomeDigits xs ⊎ (IsFraction xs ⊎ HasExponent xs) → BeginsUnsigned xs
    by (inl x) = digits_unsigned xs x
    by (inr (inl x)) = subst BeginsUnsigned (sym x.spelling) (behind_digits x.whole (46 ∷ x.fraction) x.are_whole (behind_point x.fraction))
    by (inr (inr x)) =
        let first = mantissa_unsigned x.mantissa x.is_mantissa in
        (first.0, first.1 ++ x.exponent, x.spelling ∙ ap (λ m. m ++ x.exponent) first.2, first.3)

-- ---- all of them are ASCII

fraction_ascii : (whole fraction : List ℕ) → AreDigits whole → AreDigits fraction → IsAscii (whole ++ 46 ∷ fraction)
fraction_ascii whole fraction before behind =
    IsAscii-append whole (46 ∷ fraction) (digits_ascii whole before) (IsAscii-cons 46 fraction (omega arith) (digits_ascii fraction behind))

mantissa_ascii : (xs : List ℕ) → IsMantissa xs → IsAscii xs
mantissa_ascii xs (inl (whole, fraction, e, some, all)) = subst IsAscii (sym e) (fraction_ascii whole fraction some.0 all)
mantissa_ascii xs (inr (inl (fraction, e, some))) = subst IsAscii (sym e) (IsAscii-cons 46 fraction (omega arith) (digits_ascii fraction some.0))
mantissa_ascii xs (inr (inr some)) = digits_ascii xs some.0

unsigned_ascii : (kind : Kind) (xs : List ℕ) → UnsignedShapes kind xs → IsAscii xs
unsigned_ascii kind xs is = by (unsigned_is kind xs is)
  where
    by : AreSomeDigits xs ⊎ (IsFraction xs ⊎ HasExponent xs) → IsAscii xs
    by (inl x) = digits_ascii xs x.0
    by (inr (inl x)) = subst IsAscii (sym x.spelling) (fraction_ascii x.whole x.fraction x.are_whole x.are_fraction.0)
    by (inr (inr x)) = subst IsAscii (sym x.spelling) (IsAscii-append x.mantissa x.exponent (mantissa_ascii x.mantissa x.is_mantissa) (exponent_ascii x.exponent x.is_exponent))

pub number_ascii : (kind : Kind) (xs : List ℕ) → NumberShapes kind xs → IsAscii xs
number_ascii kind xs is = signed_ascii (UnsignedShapes kind) (unsigned_ascii kind) xs (signed kind xs is)

-- ---- the number at the front

with_sign : (kind : Kind) (sign xs : List ℕ) → (is : UnsignedShapes kind xs) → ((shape : List ℕ → Type 0) → shape xs → IsSigned shape (sign ++ xs)) → NumberShapes kind (sign ++ xs)
with_sign Integer sign xs is make = make (UnsignedShapes Integer) is
with_sign Decimal sign xs is make = make (UnsignedShapes Decimal) is
with_sign Double sign xs is make = make (UnsignedShapes Double) is
with_sign _ sign xs is make = is

module _ (text rest : List ℕ) (sign : BeginsWithSign text rest) where
  pub number_found : (kind : Kind) (behind : List ℕ) → BeginsWithLongest UnsignedShapes rest kind behind → BeginsWithLongest NumberShapes text kind behind
  number_found kind behind is = record {
    spelled = sign.sign ++ is.spelled;
    splits = sign.splits ∙ ap (λ r. sign.sign ++ r) is.splits ∙ sym (append_assoc sign.sign is.spelled behind);
    fits = with_sign kind sign.sign is.spelled is.fits (λ shape fits. record { sign = sign.sign; unsigned = is.spelled; spelling = refl; is_sign = sign.is_sign; fits = fits });
    longest = λ other others other_rest e fits.
        let number = signed other others fits in
        let same = signed_same (UnsignedShapes other) (unsigned_begins other) text rest sign others other_rest e number in
        let size = signed_length (UnsignedShapes other) (unsigned_begins other) text rest sign others other_rest e number in
        let within = is.longest other number.unsigned other_rest same.1 number.fits in
        omega (arith, length-append sign.sign is.spelled);
  }

  pub number_none : BeginsWithNoToken UnsignedShapes rest → BeginsWithNoToken NumberShapes text
  number_none none kind spelled behind e is =
      let number = signed kind spelled is in
      let same = signed_same (UnsignedShapes kind) (unsigned_begins kind) text rest sign spelled behind e number in
      none kind number.unsigned behind same.1 number.fits
