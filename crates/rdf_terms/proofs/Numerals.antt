-- Numerals: written digit by digit, with a value, so that different numbers have different numerals.
use Rattle.std.proofs.Common.{◌≡◌, ℕ, zero, suc, ◌+◌, ◌/◌, ◌%◌, ◌^◌, ◌<◌, ◌≤◌, ◌≢◌, ◌⊎◌, List, [], ◌∷◌, ◌++◌, length, reverse, inl, inr, refl, sym, ap, ◌∙◌, subst, arith, length-append}
use mathlib.Core.List.{reverse-cons}
use Rattle.std.specs.Str.{IsAscii}
use Rattle.std.specs.Str.Parse.{digits_value}
use Rattle.std.specs.Fmt.{decimal}
use Rattle.std.specs.List.{All}
use Rattle.std.proofs.lemmas.Bool.{ne_eqb, eq-eqb, cond-true, cond-false}
use Rattle.std.proofs.lemmas.Fmt.{decimal_digit, decimal_step_wide}
use Rattle.std.proofs.lemmas.Int.Digits.{digits_value_push}
use Rattle.std.proofs.lemmas.List.{append_cancel_left}
use Rattle.std.proofs.lemmas.Str.{digit_value_digit}
use Rattle.rdf_terms.specs.Lists.{Text, In}
use Rattle.rdf_terms.specs.Numeral.{next_digits, digits_from_last, numeral}
use Rattle.rdf_terms.specs.CanonicalForm.{identifier, prefix_text}
use Rattle.rdf_terms.specs.declared.term.Prefix.{Prefix}
use Rattle.rdf_terms.proofs.Membership.{In-append}
use Rattle.rdf_terms.proofs.MadeLists.{All-from_each}

-- ---- the last digit, and those before it

next-counts : (d : ℕ) (ds : List ℕ) → d ≢ 57 → next_digits (d ∷ ds) ≡ suc d ∷ ds
next-counts d ds h = cond-false _ _ _ (ne_eqb d 57 h)

next-carries : (d : ℕ) (ds : List ℕ) → d ≡ 57 → next_digits (d ∷ ds) ≡ 48 ∷ next_digits ds
next-carries d ds h = cond-true _ _ _ (eq-eqb d 57 h)

-- a digit alone, or the last digit after those of a tenth
abbrev IsByDigits : ℕ → Type 0
IsByDigits n = (n < 10 → digits_from_last n ≡ (48 + n) ∷ []) × (10 ≤ n → digits_from_last n ≡ (48 + n % 10) ∷ digits_from_last (n / 10))

below_or_not : (m n : ℕ) → (m < n) ⊎ (n ≤ m)
below_or_not m n = grind arith

digits-zero : digits_from_last 0 ≡ 48 ∷ []
unfolding digits_from_last
digits-zero = refl

digits-suc : (n : ℕ) → digits_from_last (suc n) ≡ next_digits (digits_from_last n)
unfolding digits_from_last
digits-suc n = refl

digits-one : digits_from_last 1 ≡ 49 ∷ []
digits-one = digits-suc 0 ∙ ap next_digits digits-zero

next_alone : (n : ℕ) → digits_from_last n ≡ (48 + n) ∷ [] → suc n < 10 → digits_from_last (suc n) ≡ (48 + suc n) ∷ []
next_alone n here h =
    let more : suc (48 + n) ≡ 48 + suc n = omega arith in
    digits-suc n ∙ ap next_digits here ∙ next-counts (48 + n) [] (λ e. omega arith) ∙ ap (λ d. d ∷ []) more

-- from 9 to 10
first_carry : (n : ℕ) → digits_from_last n ≡ (48 + n) ∷ [] → n ≡ 9 → digits_from_last (suc n) ≡ (48 + suc n % 10) ∷ digits_from_last (suc n / 10)
first_carry n here h =
    let last : 48 ≡ 48 + suc n % 10 = omega arith in
    let front : 1 ≡ suc n / 10 = omega arith in
    digits-suc n ∙ ap next_digits here ∙ next-carries (48 + n) [] (omega arith) ∙ ap (λ d. d ∷ (49 ∷ [])) last ∙ ap (λ ds. (48 + suc n % 10) ∷ ds) (sym digits-one ∙ ap digits_from_last front)

count : (n : ℕ) → digits_from_last n ≡ (48 + n % 10) ∷ digits_from_last (n / 10) → n % 10 < 9 → digits_from_last (suc n) ≡ (48 + suc n % 10) ∷ digits_from_last (suc n / 10)
count n here h =
    let last : suc (48 + n % 10) ≡ 48 + suc n % 10 = omega arith in
    let front : n / 10 ≡ suc n / 10 = omega arith in
    digits-suc n ∙ ap next_digits here ∙ next-counts (48 + n % 10) (digits_from_last (n / 10)) (λ e. omega arith) ∙ (λ i. last i ∷ digits_from_last (front i))

carry : (n : ℕ) → digits_from_last n ≡ (48 + n % 10) ∷ digits_from_last (n / 10) → n % 10 ≡ 9 → digits_from_last (suc n) ≡ (48 + suc n % 10) ∷ digits_from_last (suc n / 10)
carry n here h =
    let last : 48 ≡ 48 + suc n % 10 = omega arith in
    let front : suc (n / 10) ≡ suc n / 10 = omega arith in
    digits-suc n ∙ ap next_digits here ∙ next-carries (48 + n % 10) (digits_from_last (n / 10)) (omega arith)
    ∙ ap (λ ds. 48 ∷ ds) (sym (digits-suc (n / 10))) ∙ (λ i. last i ∷ digits_from_last (front i))

next_by_digits : (n : ℕ) → IsByDigits n → IsByDigits (suc n)
next_by_digits n here = (λ h. next_alone n (here.0 (omega arith)) h, more)
  where
    more : 10 ≤ suc n → digits_from_last (suc n) ≡ (48 + suc n % 10) ∷ digits_from_last (suc n / 10)
    more h =
        elim (below_or_not n 10)
        [ inl l ↦ first_carry n (here.0 l) (omega arith) | inr l ↦ elim (below_or_not (n % 10) 9) [ inl c ↦ count n (here.1 l) c | inr c ↦ carry n (here.1 l) (omega arith) ] ]

by_digits : (n : ℕ) → IsByDigits n
by_digits zero = (λ h. digits-zero, λ h. absurd (omega arith))
by_digits (suc n) = next_by_digits n (by_digits n)

-- ---- the numeral by its last digit, as code writes it

pub numeral-digit : (n : ℕ) → n < 10 → numeral n ≡ (48 + n) ∷ []
unfolding numeral
numeral-digit n h = ap reverse ((by_digits n).0 h)

pub numeral-step : (n : ℕ) → 10 ≤ n → numeral n ≡ numeral (n / 10) ++ (48 + n % 10) ∷ []
unfolding numeral
numeral-step n h = ap reverse ((by_digits n).1 h) ∙ reverse-cons (48 + n % 10) (digits_from_last (n / 10))

-- what holds of one digit, and of one more digit at the end, holds of a numeral
module _ (P : ℕ → Text → Type 0) (one : (n : ℕ) → n < 10 → P n ((48 + n) ∷ [])) (more : (n : ℕ) (ds : Text) → 10 ≤ n → P (n / 10) ds → P n (ds ++ (48 + n % 10) ∷ [])) where
  up_to : (k n : ℕ) → n ≤ k → P n (numeral n)
  up_to zero n le = subst (P n) (sym (numeral-digit n (omega arith))) (one n (omega arith))
  up_to (suc k) n le =
      elim (below_or_not n 10)
      [ inl l ↦ subst (P n) (sym (numeral-digit n l)) (one n l) | inr l ↦ subst (P n) (sym (numeral-step n l)) (more n (numeral (n / 10)) l (up_to k (n / 10) (omega arith))) ]

  pub numeral-by_steps : (n : ℕ) → P n (numeral n)
  numeral-by_steps n = up_to n n (omega arith)

-- ---- bytes

-- the bytes '0' to '9'
abbrev pub IsDigit : ℕ → Type 0
IsDigit b = (48 ≤ b) × (b ≤ 57)

pub In-numeral : (n b : ℕ) → In b (numeral n) → IsDigit b
In-numeral n b = numeral-by_steps (λ m ds. In b ds → IsDigit b) one more n
  where
    one : (m : ℕ) → m < 10 → In b ((48 + m) ∷ []) → IsDigit b
    one m h (inl e) = (omega arith, omega arith)
    one m h (inr e) = absurd e

    more : (m : ℕ) (ds : Text) → 10 ≤ m → (In b ds → IsDigit b) → In b (ds ++ (48 + m % 10) ∷ []) → IsDigit b
    more m ds h before there = elim (In-append ds ((48 + m % 10) ∷ []) b there) [ inl l ↦ before l | inr r ↦ one (m % 10) (omega arith) r ]

pub All-numeral : (n : ℕ) → All IsDigit (numeral n)
All-numeral n = All-from_each IsDigit (numeral n) (In-numeral n)

IsAscii-from_digits : (bs : Text) → ((b : ℕ) → In b bs → IsDigit b) → IsAscii bs
IsAscii-from_digits [] h i = omega arith
IsAscii-from_digits (b ∷ bs) h zero = omega (arith, (h b (inl refl)).1)
IsAscii-from_digits (b ∷ bs) h (suc i) = IsAscii-from_digits bs (λ c there. h c (inr there)) i

-- ---- length, and the first digit

pub numeral-nonempty : (n : ℕ) → 0 < length (numeral n)
numeral-nonempty = numeral-by_steps (λ m ds. 0 < length ds) (λ m h. omega arith) (λ m ds h before. omega (arith, length-append ds ((48 + m % 10) ∷ [])))

pub length-numeral-le : (k n : ℕ) → 0 < k → n < 10 ^ k → length (numeral n) ≤ k
length-numeral-le k n some fits = numeral-by_steps (λ m ds. (j : ℕ) → 0 < j → m < 10 ^ j → length ds ≤ j) (λ m h j a b. omega arith) more n k some fits
  where
    more : (m : ℕ) (ds : Text) → 10 ≤ m → ((j : ℕ) → 0 < j → m / 10 < 10 ^ j → length ds ≤ j) → (j : ℕ) → 0 < j → m < 10 ^ j → length (ds ++ (48 + m % 10) ∷ []) ≤ j
    more m ds l h zero a b = absurd (omega arith)
    more m ds l h (suc zero) a b = absurd (omega arith)
    more m ds l h (suc (suc j)) a b = omega (arith, length-append ds ((48 + m % 10) ∷ []), h (suc j) (omega arith) (omega arith))

-- ---- a numeral has its number as value

pub digits_value-numeral : (n : ℕ) → digits_value 10 (numeral n) ≡ n
digits_value-numeral = numeral-by_steps (λ m ds. digits_value 10 ds ≡ m)
    (λ m h. omega (arith, digit_value_digit (48 + m) (omega arith)))
    (λ m ds h before. omega (arith, digits_value_push 10 ds (48 + m % 10), digit_value_digit (48 + m % 10) (omega arith), before))

pub numeral-injective : (m n : ℕ) → numeral m ≡ numeral n → m ≡ n
numeral-injective m n e = sym (digits_value-numeral m) ∙ ap (digits_value 10) e ∙ digits_value-numeral n

-- different places have different identifiers
pub identifier-injective : (prefix : Prefix) (m n : ℕ) → identifier prefix m ≡ identifier prefix n → m ≡ n
identifier-injective prefix m n e = numeral-injective m n (append_cancel_left (prefix_text prefix) (numeral m) (numeral n) e)

-- ---- what the library writes of a number

pub numeral-decimal_wide : (n : ℕ) → n < 10 ^ 64 → numeral n ≡ decimal n
numeral-decimal_wide = numeral-by_steps (λ m ds. m < 10 ^ 64 → ds ≡ decimal m)
    (λ m h small. sym (decimal_digit m h))
    (λ m ds h before small. ap (λ w. w ++ (48 + m % 10) ∷ []) (before (omega arith)) ∙ sym (decimal_step_wide m h small))

pub numeral-decimal : (n : ℕ) → n < 2 ^ 64 → numeral n ≡ decimal n
numeral-decimal n h = numeral-decimal_wide n (omega arith)
