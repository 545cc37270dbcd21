-- Filters: one behind another, and the two parts that one makes of a list.
use Rattle.std.proofs.Common.{Bool, List, [], cond, false, filter, not, refl, sym, true, true≢false, ◌++◌, ◌∙◌, ◌∷◌, ◌≡◌, All}
use Rattle.std.proofs.lemmas.List.Elements.{All-head, All-tail}
use Rattle.rdf_terms.proofs.Common.{Permutes, Permutes-refl, permutes_cons, permutes_trans}
use Rattle.rdf_terms.proofs.Permutations.{Permutes-middle}

module _ {A : Type 0} where
  -- the first filter lets through all that the second does
  pub filter-filter : (s t : A → Bool) → ((x : A) → t x ≡ true → s x ≡ true) → (xs : List A) → filter t (filter s xs) ≡ filter t xs
  filter-filter s t sub [] = refl
  filter-filter s t sub (x ∷ xs) = by (s x) refl (t x) refl (filter-filter s t sub xs)
    where
      by : (a : Bool) → s x ≡ a → (b : Bool) → t x ≡ b → filter t (filter s xs) ≡ filter t xs → filter t (cond a (x ∷ filter s xs) (filter s xs)) ≡ cond b (x ∷ filter t xs) (filter t xs)
      by true p true q rest = λ i. cond (q i) (x ∷ rest i) (rest i)
      by true p false q rest = λ i. cond (q i) (x ∷ rest i) (rest i)
      by false p true q rest = absurd (true≢false (sym (sub x q) ∙ p))
      by false p false q rest = rest

  pub filter-none : (t : A → Bool) (xs : List A) → All (λ x. t x ≡ false) xs → filter t xs ≡ []
  filter-none t [] h = refl
  filter-none t (x ∷ xs) h =
      (λ i. cond (All-head (λ x. t x ≡ false) x xs h i) (x ∷ filter t xs) (filter t xs)) ∙ filter-none t xs (All-tail (λ x. t x ≡ false) x xs h)

  -- what passes the test, and what does not
  pub filter-parts : (t : A → Bool) (xs : List A) → Permutes xs (filter t xs ++ filter (λ x. not (t x)) xs)
  filter-parts t [] = Permutes-refl []
  filter-parts t (x ∷ xs) = by (t x) (filter-parts t xs)
    where
      by : (a : Bool) → Permutes xs (filter t xs ++ filter (λ x. not (t x)) xs)
          → Permutes (x ∷ xs) (cond a (x ∷ filter t xs) (filter t xs) ++ cond (not a) (x ∷ filter (λ x. not (t x)) xs) (filter (λ x. not (t x)) xs))
      by true rest = permutes_cons rest
      by false rest = permutes_trans (permutes_cons rest) (Permutes-middle x (filter t xs) (filter (λ x. not (t x)) xs))
