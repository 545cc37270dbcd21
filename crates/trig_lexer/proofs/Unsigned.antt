-- A number without a sign.
use Rattle.std.proofs.Common.{◌≡◌, ◌≢◌, ℕ, ◌+◌, ◌<◌, ◌≤◌, List, [], ◌∷◌, ◌++◌, length, refl, sym, ap, ◌∙◌, arith, ◌⊎◌, inl, inr}
use Rattle.std.proofs.lemmas.List.{append_assoc, length-append}
use Rattle.terminals.proofs.Escaping.{same_head, same_tail}
use Rattle.trig_lexer.specs.declared.kind.Kind.{Kind}
use Rattle.trig_lexer.specs.declared.kind.Kind.TheVariants.{Integer, Decimal, Double}
use Rattle.trig_lexer.specs.Longest.{BeginsWithLongest, BeginsWithNoToken}
use Rattle.trig_lexer.specs.Fronts.{BeginsWithNoShape, BeginsWithLongestShape}
use Rattle.trig_lexer.specs.Numbers.{AreDigits, AreSomeDigits, IsFraction, IsMantissa, IsExponentLetter, IsExponent, HasExponent, UnsignedShapes, BeginsWithDigits}
use Rattle.trig_lexer.proofs.Digits.{digits_within, digits_same}
use Rattle.trig_lexer.proofs.Exponents.{letter_no_digit}

pub unsigned_is : (kind : Kind) (xs : List ℕ) → UnsignedShapes kind xs → AreSomeDigits xs ⊎ (IsFraction xs ⊎ HasExponent xs)
unsigned_is Integer xs is = inl is
unsigned_is Decimal xs is = inr (inl is)
unsigned_is Double xs is = inr (inr is)
unsigned_is _ xs is = absurd is

-- ---- another number at the front, by the digits that stand there

record Whole (digits other : List ℕ) : Type 0 where
  within : length other ≤ length digits
  some : 0 < length digits

record Fraction (digits behind other rest : List ℕ) : Type 0 where
  fraction : List ℕ
  behind_is : behind ≡ 46 ∷ (fraction ++ rest)
  are_digits : AreDigits fraction
  size : length other ≡ length digits + (1 + length fraction)
  some : 0 < length fraction

record WholeExponent (digits behind other rest : List ℕ) : Type 0 where
  exponent : List ℕ
  behind_is : behind ≡ exponent ++ rest
  is_exponent : IsExponent exponent
  size : length other ≡ length digits + length exponent
  some : 0 < length digits

record FractionExponent (digits behind other rest : List ℕ) : Type 0 where
  fraction : List ℕ
  letter : ℕ
  more : List ℕ
  exponent : List ℕ
  behind_is : behind ≡ 46 ∷ (fraction ++ letter ∷ more)
  are_digits : AreDigits fraction
  is_letter : IsExponentLetter letter
  exponent_is : letter ∷ more ≡ exponent ++ rest
  is_exponent : IsExponent exponent
  size : length other ≡ length digits + (1 + (length fraction + length exponent))
  some : 0 < length digits + length fraction

module _ (text behind : List ℕ) (whole : BeginsWithDigits text behind) where
  whole_read : (other rest : List ℕ) → text ≡ other ++ rest → AreSomeDigits other → Whole whole.digits other
  whole_read other rest e is = let within = digits_within text behind other rest whole e is.0 in let some = is.1 in record { within = within; some = omega arith }

  fraction_read : (other rest : List ℕ) → text ≡ other ++ rest → IsFraction other → Fraction whole.digits behind other rest
  fraction_read other rest e is =
      let same = digits_same text behind is.whole (is.fraction ++ rest) 46 whole (e ∙ ap (λ s. s ++ rest) is.spelling ∙ append_assoc is.whole (46 ∷ is.fraction) rest) is.are_whole refl in
      record {
        fraction = is.fraction;
        behind_is = same.1;
        are_digits = is.are_fraction.0;
        size = omega (arith, ap length is.spelling, length-append is.whole (46 ∷ is.fraction), ap length same.0);
        some = is.are_fraction.1;
      }

  -- what stands before an exponent
  mantissa_read : (mantissa : List ℕ) (letter : ℕ) (more : List ℕ) → IsExponentLetter letter → text ≡ mantissa ++ letter ∷ more → IsMantissa mantissa
      → ((behind ≡ letter ∷ more) × (length mantissa ≡ length whole.digits) × (0 < length whole.digits))
      ⊎ ((fraction : List ℕ) × (behind ≡ 46 ∷ (fraction ++ letter ∷ more)) × AreDigits fraction × (length mantissa ≡ length whole.digits + (1 + length fraction))
      × (0 < length whole.digits + length fraction))
  mantissa_read mantissa letter more l e (inl (before, fraction, spelling, before_digits, fraction_digits)) =
      let same = digits_same text behind before (fraction ++ letter ∷ more) 46 whole (e ∙ ap (λ s. s ++ letter ∷ more) spelling
      ∙ append_assoc before (46 ∷ fraction) (letter ∷ more)) before_digits.0 refl in
      let size = ap length spelling ∙ length-append before (46 ∷ fraction) in
      let count = ap length same.0 in
      let some = before_digits.1 in
      inr (fraction, same.1, fraction_digits, omega arith, omega arith)
  mantissa_read mantissa letter more l e (inr (inl (fraction, spelling, fraction_digits))) =
      let same = digits_same text behind [] (fraction ++ letter ∷ more) 46 whole (e ∙ ap (λ s. s ++ letter ∷ more) spelling) (λ k d m. absurd (omega arith)) refl in
      let size = ap length spelling in
      let count = ap length same.0 in
      let some = fraction_digits.1 in
      inr (fraction, same.1, fraction_digits.0, omega arith, omega arith)
  mantissa_read mantissa letter more l e (inr (inr (all, some))) =
      let same = digits_same text behind mantissa more letter whole e all (letter_no_digit letter l) in
      let count = ap length same.0 in
      inl (same.1, omega arith, omega arith)

  double_read : (other rest : List ℕ) → text ≡ other ++ rest → HasExponent other → WholeExponent whole.digits behind other rest ⊎ FractionExponent whole.digits behind other rest
  double_read other rest e is = by (mantissa_read is.mantissa is.is_exponent.letter (is.is_exponent.power ++ rest) is.is_exponent.letter_is splits is.is_mantissa)
    where
      front : is.exponent ++ rest ≡ is.is_exponent.letter ∷ (is.is_exponent.power ++ rest)
      front = ap (λ s. s ++ rest) is.is_exponent.spelling

      splits : text ≡ is.mantissa ++ is.is_exponent.letter ∷ (is.is_exponent.power ++ rest)
      splits = e ∙ ap (λ s. s ++ rest) is.spelling ∙ append_assoc is.mantissa is.exponent rest ∙ ap (λ s. is.mantissa ++ s) front

      size : length other ≡ length is.mantissa + length is.exponent
      size = ap length is.spelling ∙ length-append is.mantissa is.exponent

      by : ((behind ≡ is.is_exponent.letter ∷ (is.is_exponent.power ++ rest)) × (length is.mantissa ≡ length whole.digits) × (0 < length whole.digits))
          ⊎ ((fraction : List ℕ) × (behind ≡ 46 ∷ (fraction ++ is.is_exponent.letter ∷ (is.is_exponent.power ++ rest))) × AreDigits fraction
          × (length is.mantissa ≡ length whole.digits + (1 + length fraction)) × (0 < length whole.digits + length fraction))
          → WholeExponent whole.digits behind other rest ⊎ FractionExponent whole.digits behind other rest
      by (inl (b, s, n)) = inl (record { exponent = is.exponent; behind_is = b ∙ sym front; is_exponent = is.is_exponent; size = omega (arith, size, s); some = n })
      by (inr (fraction, b, all, s, n)) = inr (record {
        fraction = fraction;
        letter = is.is_exponent.letter;
        more = is.is_exponent.power ++ rest;
        exponent = is.exponent;
        behind_is = b;
        are_digits = all;
        is_letter = is.is_exponent.letter_is;
        exponent_is = sym front;
        is_exponent = is.is_exponent;
        size = omega (arith, size, s);
        some = n;
      })

  whole_len : length text ≡ length whole.digits + length behind
  whole_len = ap length whole.splits ∙ length-append whole.digits behind

  -- ---- where no point follows the digits

  module _ (no_point : (rest : List ℕ) → behind ≢ 46 ∷ rest) where
    unpointed_read : (kind : Kind) (other rest : List ℕ) → text ≡ other ++ rest → UnsignedShapes kind other → Whole whole.digits other ⊎ WholeExponent whole.digits behind other rest
    unpointed_read kind other rest e is = by (unsigned_is kind other is)
      where
        exponent : WholeExponent whole.digits behind other rest ⊎ FractionExponent whole.digits behind other rest → Whole whole.digits other ⊎ WholeExponent whole.digits behind other rest
        exponent (inl x) = inr x
        exponent (inr x) = absurd (no_point _ x.behind_is)

        by : AreSomeDigits other ⊎ (IsFraction other ⊎ HasExponent other) → Whole whole.digits other ⊎ WholeExponent whole.digits behind other rest
        by (inl x) = inl (whole_read other rest e x)
        by (inr (inl x)) = absurd (no_point _ (fraction_read other rest e x).behind_is)
        by (inr (inr x)) = exponent (double_read other rest e x)

    pub none_unpointed : length text ≤ length behind → BeginsWithNoToken UnsignedShapes text
    none_unpointed short kind other rest e is =
        elim (unpointed_read kind other rest e is) [
          | inl x ↦ absurd (omega (arith, whole_len, x.some))
          | inr x ↦ absurd (omega (arith, whole_len, x.some))
        ]

    pub double_unpointed : (rest : List ℕ) → length behind < length text → BeginsWithLongestShape IsExponent behind rest → BeginsWithLongest UnsignedShapes text Double rest
    double_unpointed rest some is = record {
      spelled = whole.digits ++ is.front;
      splits = whole.splits ∙ ap (λ b. whole.digits ++ b) is.splits ∙ sym (append_assoc whole.digits is.front rest);
      fits = record { mantissa = whole.digits; exponent = is.front; spelling = refl; is_mantissa = inr (inr (whole.are_digits, omega (arith, whole_len))); is_exponent = is.fits };
      longest = λ kind other other_rest e fits.
          elim (unpointed_read kind other other_rest e fits) [
            | inl x ↦ omega (arith, x.within, length-append whole.digits is.front)
            | inr x ↦ omega (arith, x.size, is.longest x.exponent other_rest x.behind_is x.is_exponent, length-append whole.digits is.front)
          ];
    }

    pub integer_unpointed : length behind < length text → BeginsWithNoShape IsExponent behind → BeginsWithLongest UnsignedShapes text Integer behind
    integer_unpointed some none = record {
      spelled = whole.digits;
      splits = whole.splits;
      fits = (whole.are_digits, omega (arith, whole_len));
      longest = λ kind other other_rest e fits.
          elim (unpointed_read kind other other_rest e fits) [
            | inl x ↦ x.within
            | inr x ↦ absurd (none x.exponent other_rest x.behind_is x.is_exponent)
          ];
    }

  -- ---- where a point and maybe digits follow them

  module _ (after_point end : List ℕ) (point : behind ≡ 46 ∷ after_point) (fraction : BeginsWithDigits after_point end) where
    record PointRead (other : List ℕ) : Type 0 where
      within : length other ≤ length whole.digits + (1 + length fraction.digits)
      some : 0 < length fraction.digits

    record ExponentRead (other rest : List ℕ) : Type 0 where
      exponent : List ℕ
      end_is : end ≡ exponent ++ rest
      is_exponent : IsExponent exponent
      size : length other ≡ length whole.digits + (1 + (length fraction.digits + length exponent))
      some : 0 < length whole.digits + length fraction.digits

    pointed_read : (kind : Kind) (other rest : List ℕ) → text ≡ other ++ rest → UnsignedShapes kind other → Whole whole.digits other ⊎ (PointRead other ⊎ ExponentRead other rest)
    pointed_read kind other rest e is = by (unsigned_is kind other is)
      where
        behind_point : (xs : List ℕ) → behind ≡ 46 ∷ xs → after_point ≡ xs
        behind_point xs f = same_tail 46 46 after_point xs (sym point ∙ f)

        no_letter : (letter : ℕ) (more : List ℕ) → IsExponentLetter letter → behind ≡ letter ∷ more → ⊥
        no_letter letter more (inl l) f = absurd (omega (arith, same_head 46 letter after_point more (sym point ∙ f)))
        no_letter letter more (inr l) f = absurd (omega (arith, same_head 46 letter after_point more (sym point ∙ f)))

        exponent : WholeExponent whole.digits behind other rest ⊎ FractionExponent whole.digits behind other rest → Whole whole.digits other ⊎ (PointRead other ⊎ ExponentRead other rest)
        exponent (inl x) = absurd (no_letter x.is_exponent.letter (x.is_exponent.power ++ rest) x.is_exponent.letter_is (x.behind_is ∙ ap (λ s. s ++ rest) x.is_exponent.spelling))
        exponent (inr x) =
            let same = digits_same after_point end x.fraction x.more x.letter fraction (behind_point (x.fraction ++ x.letter ∷ x.more) x.behind_is) x.are_digits (letter_no_digit x.letter x.is_letter)
            in
            let count = ap length same.0 in
            inr (inr (record { exponent = x.exponent; end_is = same.1 ∙ x.exponent_is; is_exponent = x.is_exponent; size = omega (arith, x.size); some = omega (arith, x.some) }))

        by : AreSomeDigits other ⊎ (IsFraction other ⊎ HasExponent other) → Whole whole.digits other ⊎ (PointRead other ⊎ ExponentRead other rest)
        by (inl x) = inl (whole_read other rest e x)
        by (inr (inl x)) =
            let read = fraction_read other rest e x in
            let within = digits_within after_point end read.fraction rest fraction (behind_point (read.fraction ++ rest) read.behind_is) read.are_digits in
            inr (inl (record { within = omega (arith, read.size); some = omega (arith, read.some) }))
        by (inr (inr x)) = exponent (double_read other rest e x)

    fraction_len : length after_point ≡ length fraction.digits + length end
    fraction_len = ap length fraction.splits ∙ length-append fraction.digits end

    decimal_splits : text ≡ (whole.digits ++ 46 ∷ fraction.digits) ++ end
    decimal_splits = whole.splits ∙ ap (λ b. whole.digits ++ b) (point ∙ ap (λ a. 46 ∷ a) fraction.splits) ∙ sym (append_assoc whole.digits (46 ∷ fraction.digits) end)

    decimal_len : length (whole.digits ++ 46 ∷ fraction.digits) ≡ length whole.digits + (1 + length fraction.digits)
    decimal_len = omega (arith, length-append whole.digits (46 ∷ fraction.digits))

    point_len : length behind ≡ 1 + length after_point
    point_len = omega (arith, ap length point)

    pub none_pointed : length text ≡ length end + 1 → BeginsWithNoToken UnsignedShapes text
    none_pointed alone kind other rest e is =
        elim (pointed_read kind other rest e is) [
          | inl x ↦ absurd (omega (arith, whole_len, point_len, fraction_len, x.some))
          | inr (inl x) ↦ absurd (omega (arith, whole_len, point_len, fraction_len, x.some))
          | inr (inr x) ↦ absurd (omega (arith, whole_len, point_len, fraction_len, x.some))
        ]

    mantissa_is : length text ≢ length end + 1 → IsMantissa (whole.digits ++ 46 ∷ fraction.digits)
    mantissa_is some = by whole.digits whole.are_digits whole_len
      where
        by : (digits : List ℕ) → AreDigits digits → length text ≡ length digits + length behind → IsMantissa (digits ++ 46 ∷ fraction.digits)
        by [] all len = inr (inl (fraction.digits, refl, (fraction.are_digits, omega (arith, point_len, fraction_len))))
        by (d ∷ digits) all len = inl (d ∷ digits, fraction.digits, refl, (all, omega arith), fraction.are_digits)

    pub double_pointed : (rest : List ℕ) → length text ≢ length end + 1 → BeginsWithLongestShape IsExponent end rest → BeginsWithLongest UnsignedShapes text Double rest
    double_pointed rest some is = record {
      spelled = (whole.digits ++ 46 ∷ fraction.digits) ++ is.front;
      splits = decimal_splits ∙ ap (λ b. (whole.digits ++ 46 ∷ fraction.digits) ++ b) is.splits ∙ sym (append_assoc (whole.digits ++ 46 ∷ fraction.digits) is.front rest);
      fits = record { mantissa = whole.digits ++ 46 ∷ fraction.digits; exponent = is.front; spelling = refl; is_mantissa = mantissa_is some; is_exponent = is.fits };
      longest = λ kind other other_rest e fits.
          elim (pointed_read kind other other_rest e fits) [
            | inl x ↦ omega (arith, x.within, decimal_len, length-append (whole.digits ++ 46 ∷ fraction.digits) is.front)
            | inr (inl x) ↦ omega (arith, x.within, decimal_len, length-append (whole.digits ++ 46 ∷ fraction.digits) is.front)
            | inr (inr x) ↦ omega (arith, x.size, decimal_len, is.longest x.exponent other_rest x.end_is x.is_exponent, length-append (whole.digits ++ 46 ∷ fraction.digits) is.front)
          ];
    }

    pub decimal_pointed : length end < length after_point → BeginsWithNoShape IsExponent end → BeginsWithLongest UnsignedShapes text Decimal end
    decimal_pointed some none = record {
      spelled = whole.digits ++ 46 ∷ fraction.digits;
      splits = decimal_splits;
      fits = record { whole = whole.digits; fraction = fraction.digits; spelling = refl; are_whole = whole.are_digits; are_fraction = (fraction.are_digits, omega (arith, fraction_len)) };
      longest = λ kind other other_rest e fits.
          elim (pointed_read kind other other_rest e fits) [
            | inl x ↦ omega (arith, x.within, decimal_len)
            | inr (inl x) ↦ omega (arith, x.within, decimal_len)
            | inr (inr x) ↦ absurd (none x.exponent other_rest x.end_is x.is_exponent)
          ];
    }

    pub integer_pointed : length text ≢ length end + 1 → length after_point ≤ length end → BeginsWithNoShape IsExponent end → BeginsWithLongest UnsignedShapes text Integer behind
    integer_pointed some no_fraction none = record {
      spelled = whole.digits;
      splits = whole.splits;
      fits = (whole.are_digits, omega (arith, whole_len, point_len, fraction_len));
      longest = λ kind other other_rest e fits.
          elim (pointed_read kind other other_rest e fits) [
            | inl x ↦ x.within
            | inr (inl x) ↦ absurd (omega (arith, fraction_len, x.some))
            | inr (inr x) ↦ absurd (none x.exponent other_rest x.end_is x.is_exponent)
          ];
    }
