-- Results in the order of their hashes and start nodes are those that the counted run takes, where the start nodes came ascending.
use Rattle.std.proofs.Common.{◌≡◌, ◌<◌, true, false, not, cond, Bool, List, [], ◌∷◌, ◌⊎◌, map, nat_cmp, inl, inr, refl, sym, ap, ◌∙◌, subst, true≢false, Ordering, Less, Equal, Greater}
use Rattle.std.specs.Cmp.{IsTotalOrder}
use Rattle.std.specs.Cmp.Lexicographic.{slice_cmp}
use Rattle.std.specs.Ordering.{is_gt, ordering_reverse, ordering_then}
use Rattle.std.specs.List.Sorted.{IsSorted}
use Rattle.std.proofs.lemmas.Cmp.{nat_cmp_total, nat_list_cmp_total, ranked}
use Rattle.rdf_terms.proofs.Common.{AreDistinct, In, Permutes, is_at_most, In-map, AreDistinct-Permutes, In-Permutes, Permutes-map, Permutes-sym}
use Rattle.canon_model.specs.Allowed.{HashPathResult, start_of}
use Rattle.canon_model.specs.CountedRun.{insert_result, sort_results}
use Rattle.canon_model.proofs.SortedResults.{sort_results-permutes, from_In-insert_result}
use Rattle.canon_core.specs.HashOrder.{StrictlyAscends, result_cmp}
use Rattle.canon_core.specs.Results.{StartsAscend}
use Rattle.canon_core.proofs.Ascending.{ascends_from_sort, nat_cmp-less, not_itself, same_ascending}
use Rattle.canon_core.proofs.RankedNodes.{result_cmp_total, tied_numbers}

AreDistinct-ascending : {A : Type 0} (cmp : A → A → Ordering) → IsTotalOrder cmp → (xs : List A) → StrictlyAscends cmp xs → AreDistinct xs
AreDistinct-ascending cmp o [] a = tt
AreDistinct-ascending cmp o (x ∷ xs) a = ((λ h. not_itself cmp o x (a.0 x h)), AreDistinct-ascending cmp o xs a.1)

-- ---- the sort of the counted run

before_at_most : (r q : HashPathResult) → is_at_most r.hash q.hash ≡ true → r.start < q.start → result_cmp r q ≡ Less
before_at_most r q e l = by (slice_cmp nat_cmp r.hash q.hash) e
  where
    by : (o : Ordering) → not (is_gt o) ≡ true → ordering_then o (nat_cmp r.start q.start) ≡ Less
    by Less f = refl
    by Equal f = nat_cmp-less r.start q.start l
    by Greater f = absurd (true≢false (sym f))

before_not_at_most : (r q : HashPathResult) → is_at_most r.hash q.hash ≡ false → result_cmp q r ≡ Less
before_not_at_most r q e = by (slice_cmp nat_cmp r.hash q.hash) refl e
  where
    by : (o : Ordering) → slice_cmp nat_cmp r.hash q.hash ≡ o → not (is_gt o) ≡ false → ordering_then (slice_cmp nat_cmp q.hash r.hash) (nat_cmp q.start r.start) ≡ Less
    by Less d f = absurd (true≢false f)
    by Equal d f = absurd (true≢false f)
    by Greater d f = ap (λ o. ordering_then o (nat_cmp q.start r.start)) (nat_list_cmp_total.antisymm q.hash r.hash ∙ ap ordering_reverse d)

insert-ascends : (r : HashPathResult) (qs : List HashPathResult) → StrictlyAscends result_cmp qs → ((q : HashPathResult) → In q qs → r.start < q.start)
    → StrictlyAscends result_cmp (insert_result r qs)
insert-ascends r [] a low = (λ q h. absurd h, tt)
insert-ascends r (q ∷ qs) a low = by (is_at_most r.hash q.hash) refl (insert-ascends r qs a.1 (λ s h. low s (inr h)))
  where
    by : (t : Bool) → is_at_most r.hash q.hash ≡ t → StrictlyAscends result_cmp (insert_result r qs) → StrictlyAscends result_cmp (cond t (r ∷ q ∷ qs) (q ∷ insert_result r qs))
    by true e ih =
        let first : result_cmp r q ≡ Less = before_at_most r q e (low q (inl refl)) in (
          λ z. elim [
            | inl h ↦ subst (λ w. result_cmp r w ≡ Less) (sym h) first
            | inr h ↦ result_cmp_total.trans r q z first (a.0 z h)
          ],
          a,
        )
    by false e ih = (
      λ z h. elim (from_In-insert_result r z qs h) [
        | inl g ↦ subst (λ w. result_cmp q w ≡ Less) (sym g) (before_not_at_most r q e)
        | inr g ↦ a.0 z g
      ],
      ih,
    )

sort-ascends : (rs : List HashPathResult) → StartsAscend rs → StrictlyAscends result_cmp (sort_results rs)
sort-ascends [] a = tt
sort-ascends (r ∷ rs) a =
    insert-ascends r (sort_results rs) (sort-ascends rs a.1)
    (λ q h. ranked r.start q.start Less (sym (a.0 q.start (In-map start_of rs q (In-Permutes q (Permutes-sym (sort_results-permutes rs)) h)))))

-- ---- what code's sort gives

pub results-sorted : (rs qs : List HashPathResult) → StartsAscend rs → Permutes rs qs → IsSorted result_cmp qs → qs ≡ sort_results rs
results-sorted rs qs a p up =
    same_ascending result_cmp result_cmp_total qs (sort_results rs)
    (ascends_from_sort result_cmp result_cmp_total start_of (λ x y e. tied_numbers (slice_cmp nat_cmp x.hash y.hash) x.start y.start e) qs up
    (AreDistinct-Permutes (Permutes-map start_of p) (AreDistinct-ascending nat_cmp nat_cmp_total (map start_of rs) a)))
    (sort-ascends rs a) (λ x h. In-Permutes x (sort_results-permutes rs) (In-Permutes x (Permutes-sym p) h)) (λ x h. In-Permutes x p (In-Permutes x (Permutes-sym (sort_results-permutes rs)) h))
