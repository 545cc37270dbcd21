-- Those of the numbers below some bound that pass a test, ascending, and their pairs.
use Rattle.std.proofs.Common.{◌≡◌, ℕ, ◌+◌, ◌<◌, ◌↔◌, Bool, true, false, if◌then◌else◌, [], ◌∷◌, ◌++◌, length, map, get_or, refl, ap, ◌∙◌, arith, add-one}
use Rattle.std.specs.List.{filter}
use Rattle.std.specs.List.Sorted.{IsStrictlyIncreasing}
use Rattle.std.proofs.lemmas.List.{map-append}
use Rattle.std.proofs.lemmas.List.Kept.{IsStrictlyIncreasing-filter}
use Rattle.rdf_terms.proofs.Common.{In, numbers_below, In-numbers_below, In-filter, from_In-filter, get_or-numbers_below, length-numbers_below}
use Rattle.rdf_terms.proofs.Ranks.{filter-numbers_below_suc}

IsStrictlyIncreasing-numbers_below : (n : ℕ) → IsStrictlyIncreasing (numbers_below n)
IsStrictlyIncreasing-numbers_below n k l =
    let e : length (numbers_below n) ≡ n = length-numbers_below n in
    let a : get_or (numbers_below n) k 0 ≡ k = get_or-numbers_below n k (omega arith) in
    let b : get_or (numbers_below n) (k + 1) 0 ≡ k + 1 = get_or-numbers_below n (k + 1) (omega arith) in
    omega arith

pub passing-ascend : (p : ℕ → Bool) (n : ℕ) → IsStrictlyIncreasing (filter p (numbers_below n))
passing-ascend p n = IsStrictlyIncreasing-filter p (numbers_below n) (IsStrictlyIncreasing-numbers_below n)

pub In-passing : (p : ℕ → Bool) (n : ℕ) → ((k : ℕ) → p k ≡ true → k < n) → (k : ℕ) → In k (filter p (numbers_below n)) ↔ (p k ≡ true)
In-passing p n within k = ((λ i. (let q = from_In-filter p k (numbers_below n) i in q.1)), λ e. In-filter p k (numbers_below n) (In-numbers_below n k (within k e)) e)

pub map-passing : {B : Type 0} (pair : ℕ → B) (p : ℕ → Bool) (n : ℕ)
    → map pair (filter p (numbers_below (n + 1))) ≡ map pair (filter p (numbers_below n)) ++ (if p n then pair n ∷ [] else [])
map-passing pair p n =
    ap (λ m. map pair (filter p (numbers_below m))) (add-one n)
    ∙ (ap (map pair) (filter-numbers_below_suc p n (p n) refl)
    ∙ (map-append pair (filter p (numbers_below n)) (if p n then n ∷ [] else [])
    ∙ ap (λ xs. map pair (filter p (numbers_below n)) ++ xs) (by (p n))))
  where
    by : (b : Bool) → map pair (if b then n ∷ [] else []) ≡ (if b then pair n ∷ [] else [])
    by true = refl
    by false = refl
