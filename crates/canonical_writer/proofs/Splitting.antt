-- Texts that are told apart by a byte that ends them.
use Rattle.std.proofs.Common.{◌≡◌, ◌≢◌, ℕ, [], ◌∷◌, ◌++◌, All, refl, sym}
use Rattle.std.proofs.lemmas.List.Elements.{All-head, All-tail}
use Rattle.rdf_terms.specs.Lists.{Text}

abbrev pub head_of : Text → ℕ
head_of [] = 0
head_of (x ∷ xs) = x

abbrev pub tail_of : Text → Text
tail_of [] = []
tail_of (x ∷ xs) = xs

-- what stands before the first d, and what stands behind it
pub split_at : (d : ℕ) (xs ys r s : Text) → All (λ c. c ≢ d) xs → All (λ c. c ≢ d) ys → xs ++ d ∷ r ≡ ys ++ d ∷ s → (xs ≡ ys) × (r ≡ s)
split_at d [] [] r s p q e = let h : r ≡ s = cc in (refl, h)
split_at d [] (y ∷ ys) r s p q e = let h : d ≡ y = cc in absurd (All-head (λ c. c ≢ d) y ys q (sym h))
split_at d (x ∷ xs) [] r s p q e = let h : x ≡ d = cc in absurd (All-head (λ c. c ≢ d) x xs p h)
split_at d (x ∷ xs) (y ∷ ys) r s p q e =
    let h : x ≡ y = cc in
    let t : xs ++ d ∷ r ≡ ys ++ d ∷ s = cc in
    let u : (xs ≡ ys) × (r ≡ s) = split_at d xs ys r s (All-tail (λ c. c ≢ d) x xs p) (All-tail (λ c. c ≢ d) y ys q) t in
    (λ i. h i ∷ u.0 i, u.1)
