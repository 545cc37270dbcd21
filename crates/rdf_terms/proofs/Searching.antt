-- What a binary search finds in a list that ascends by a total order.
use Rattle.std.proofs.Common.{◌≡◌, ℕ, ◌<◌, ◌≤◌, ◌⊎◌, ◌↔◌, Bool, List, length, get_or, Result, Ok, Err, is_ok, inl, inr, sym, ap, ◌∙◌, subst, true≢false, IsTrue, arith}
use Rattle.std.specs.declared.cmp.Ordering.{Ordering}
use Rattle.std.specs.declared.cmp.Ordering.TheVariants.{Less, Equal, Greater}
use Rattle.std.specs.Cmp.{IsTotalOrder}
use Rattle.std.specs.List.Sorted.{IsSorted, IsSearchInRange, IsBinarySearchResult, IsPartitionPoint}
use Rattle.std.proofs.lemmas.Cmp.{tied_itself}
use Rattle.std.proofs.lemmas.List.Sorted.{searchable_from_sorted}
use Rattle.rdf_terms.specs.Lists.{In}
use Rattle.rdf_terms.proofs.MadeLists.{In-get_or, place_within}

order : (k i : ℕ) → (k < i) ⊎ (i ≤ k)
order k i = grind arith

pub found_in : {A : Type 0} {cmp : A → A → Ordering} → IsTotalOrder cmp → ((a b : A) → cmp a b ≡ Equal → a ≡ b) → (xs : List A) (x : A) (r : Result ℕ ℕ) → IsSorted cmp xs
    → IsSearchInRange r (length xs) → IsBinarySearchResult (λ y. cmp y x) xs r → (b : Bool) → b ≡ is_ok r → IsTrue b ↔ In x xs
found_in total same xs x (Ok i) up bound looked b e = (λ _. subst (λ y. In y xs) (same (get_or xs i x) x (looked x)) (In-get_or xs i x bound), λ _. e)
found_in {cmp = cmp} total same xs x (Err i) up bound looked b e = (λ t. absurd (true≢false (sym t ∙ e)), λ h. absurd (gone (place_within xs x x h)))
  where
    point : IsPartitionPoint (λ y. cmp y x ≡ Less) (λ y. cmp y x ≡ Greater) xs i
    point = looked (searchable_from_sorted total (λ q. q) xs x up)

    gone : (k : ℕ) × (k < length xs) × (get_or xs k x ≡ x) → ⊥
    gone p = by (order p.0 i)
      where
        equal : cmp (get_or xs p.0 x) x ≡ Equal
        equal = ap (λ y. cmp y x) p.2 ∙ tied_itself total x

        by : (p.0 < i) ⊎ (i ≤ p.0) → ⊥
        by (inl l) = not_less (sym (point.0 p.0 x (omega arith) l) ∙ equal)
          where
            not_less : Less ≡ Equal → ⊥
            not_less h = cc
        by (inr l) = not_greater (sym (point.1 p.0 x l p.1) ∙ equal)
          where
            not_greater : Greater ≡ Equal → ⊥
            not_greater h = cc
