-- Digits that are written from the last one on.
use Rattle.std.proofs.Common.{◌≡◌, ℕ, zero, suc, ◌+◌, ◌-◌, ◌*◌, ◌/◌, ◌%◌, ◌^◌, ◌<◌, ◌≤◌, List, [], ◌∷◌, ◌++◌, length, drop, slice_set, refl, sym, ap, ◌∙◌, subst, append_assoc, arith}
use Rattle.std.proofs.Math.Nat.{pow-suc}
use Rattle.std.proofs.lemmas.Grind.{drop-set_at}
use Rattle.rdf_terms.proofs.Common.{numeral, numeral-digit, numeral-step}

-- there is room in front for the digits that are left
pub room : (rest start : ℕ) → 9 < rest → rest < 10 ^ (start + 1) → 0 < start
room rest zero more fits = absurd (omega (arith, fits))
room rest (suc start) more fits = omega arith

pub tenth_fits : (rest start : ℕ) → 9 < rest → rest < 10 ^ (start + 1) → rest / 10 < 10 ^ ((start - 1) + 1)
tenth_fits rest zero more fits = absurd (omega (arith, fits))
tenth_fits rest (suc start) more fits =
    let here : suc start + 1 ≡ suc (start + 1) = omega arith in
    let there : (suc start - 1) + 1 ≡ start + 1 = omega arith in
    let p = 10 ^ (start + 1) in
    let tens : 10 ^ (suc start + 1) ≡ p * 10 = ap (λ k. 10 ^ k) here ∙ pow-suc 10 (start + 1) in
    let tenth : rest / 10 < p = omega (arith, fits, tens) in
    subst (λ k. rest / 10 < 10 ^ k) (sym there) tenth

-- one more digit stands in front of those that were written
pub digit_written : (number rest start : ℕ) (digits : List ℕ) → 9 < rest → 0 < start → start < length digits → numeral number ≡ numeral rest ++ drop (start + 1) digits
    → numeral number ≡ numeral (rest / 10) ++ drop ((start - 1) + 1) (slice_set digits start (48 + rest % 10))
digit_written number rest start digits more some within e =
    let digit = 48 + rest % 10 in
    e ∙ ap (λ l. l ++ drop (start + 1) digits) (numeral-step rest more) ∙ append_assoc (numeral (rest / 10)) (digit ∷ []) (drop (start + 1) digits)
    ∙ ap (λ l. numeral (rest / 10) ++ l) (sym (drop-set_at digits start ((start - 1) + 1) digit (omega arith) within))

-- the first digit is the last one to be written
pub first_written : (number rest start : ℕ) (digits : List ℕ) → rest ≤ 9 → start < length digits → numeral number ≡ numeral rest ++ drop (start + 1) digits
    → drop start (slice_set digits start (48 + rest)) ≡ numeral number
first_written number rest start digits alone within e =
    drop-set_at digits start start (48 + rest) refl within ∙ sym (e ∙ ap (λ l. l ++ drop (start + 1) digits) (numeral-digit rest (omega arith)))
