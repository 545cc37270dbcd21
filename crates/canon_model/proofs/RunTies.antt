-- Each tie that the counted run of a dataset logs is tied, and its exchange may be checked.
use Rattle.std.proofs.Common.{Bool, List, [], ap, cond, false, inl, inr, map, refl, subst, sym, true, ℕ, ◌++◌, ◌∙◌, ◌∷◌, ◌≡◌}
use Rattle.std.specs.Cmp.Lexicographic.{bytes_decides}
use Rattle.std.specs.Str.{bytes_eq}
use Rattle.rdf_terms.proofs.Common.{from_In-map, In-Permutes, Permutes-sym, Dataset, IsValid, In, Text}
use Rattle.canon_model.specs.Allowed.{HashPathResult, first_degree_hashes, issue_results, issued_for_unique_hashes, unissued_nodes}
use Rattle.canon_model.specs.CountedRun.{counted_hashes, counted_results, counted_start, result_of, ties_of_results, ties_with, trace_of_starts}
use Rattle.canon_model.specs.Laws.{TiesOfRunAreTied}
use Rattle.canon_model.specs.Outcome.{HashNDegreeQuads}
use Rattle.canon_model.specs.Hashing.{Hashing}
use Rattle.canon_model.specs.Ties.{AreTiedResults, IsTie}
use Rattle.canon_model.proofs.CallTies.{AreTies, are_ties-append, are_ties-none, ties_of_call_are_tied}
use Rattle.canon_model.proofs.CanonicalLists.{AreCanonical, unique_hashes-canonical, valid_start}
use Rattle.canon_model.proofs.CountedAllowed.{counted_results-canonical, outcome_of_start}
use Rattle.canon_model.proofs.LocalSymmetry.{are_quads}
use Rattle.canon_model.proofs.SortedResults.{sort_results-permutes}
use Rattle.canon_model.proofs.StartNodes.{unissued_node}
use Rattle.canon_model.proofs.TiedLists.{tied_results-exchanged}
use Rattle.canon_model.proofs.Totality.{mentions_nodes}

module _ (ρ : Hashing) (D : Dataset) (valid : IsValid D) where
  module _ (c : List ℕ) (k : AreCanonical D c) (h : Text) where
    start-ties : (x : ℕ) → In x (unissued_nodes ρ D c h) → AreTies ρ D (counted_start ρ D c x).trace.ties
    start-ties x i = let s = unissued_node ρ D c h x i in ties_of_call_are_tied ρ D c x (x ∷ []) valid (valid_start D c k x s.0 s.1)

    starts-ties : (xs : List ℕ) → ((x : ℕ) → In x xs → In x (unissued_nodes ρ D c h)) → AreTies ρ D (trace_of_starts ρ D c xs).ties
    starts-ties [] sub = are_ties-none ρ D
    starts-ties (x ∷ xs) sub = are_ties-append ρ D (counted_start ρ D c x).trace.ties _ (start-ties x (sub x (inl refl))) (starts-ties xs (λ y g. sub y (inr g)))

    pub from_start : (r : HashPathResult) → In r (counted_results ρ D c h) → (x : ℕ) × In x (unissued_nodes ρ D c h) × (r ≡ result_of ρ D c x)
    from_start r i = from_In-map (result_of ρ D c) (unissued_nodes ρ D c h) r (In-Permutes r (Permutes-sym (sort_results-permutes (map (result_of ρ D c) (unissued_nodes ρ D c h)))) i)

    pair-tied : (x y : ℕ) → In x (unissued_nodes ρ D c h) → In y (unissued_nodes ρ D c h) → (result_of ρ D c x).hash ≡ (result_of ρ D c y).hash
        → AreTiedResults ρ D c [] (result_of ρ D c x).issuer (result_of ρ D c y).issuer
    pair-tied x y i j e = record {
      none_passed = refl;
      left_start = x;
      right_start = y;
      hash = (result_of ρ D c x).hash;
      same_first_degree_hash = (unissued_node ρ D c h x i).2 ∙ sym (unissued_node ρ D c h y j).2;
      left_outcome = outcome_of_start ρ D valid c k h x i;
      right_outcome = subst (λ w. HashNDegreeQuads ρ D c y (y ∷ []) w (result_of ρ D c y).issuer) (sym e) (outcome_of_start ρ D valid c k h y j);
    }

    pair-tie : (x y : ℕ) → In x (unissued_nodes ρ D c h) → In y (unissued_nodes ρ D c h) → (result_of ρ D c x).hash ≡ (result_of ρ D c y).hash
        → IsTie ρ D (record { canonical = c; passed = []; left = (result_of ρ D c x).issuer; right = (result_of ρ D c y).issuer })
    pair-tie x y i j e =
        let t = pair-tied x y i j e in
        record { tied = inl t; may_be_exchanged = tied_results-exchanged ρ D (mentions_nodes D valid) (are_quads D valid) c [] (result_of ρ D c x).issuer (result_of ρ D c y).issuer t }

    ties_with-ties : (f : HashPathResult) (rs : List HashPathResult) → In f (counted_results ρ D c h) → ((r : HashPathResult) → In r rs → In r (counted_results ρ D c h))
        → AreTies ρ D (ties_with c f rs)
    ties_with-ties f [] fi sub = are_ties-none ρ D
    ties_with-ties f (r ∷ rs) fi sub = by (bytes_eq f.hash r.hash) refl (ties_with-ties f rs fi (λ q g. sub q (inr g))) (ties_with-ties r rs (sub r (inl refl)) (λ q g. sub q (inr g)))
      where
        by : (t : Bool) → bytes_eq f.hash r.hash ≡ t → AreTies ρ D (ties_with c f rs) → AreTies ρ D (ties_with c r rs)
            → AreTies ρ D (cond t (record { canonical = c; passed = []; left = f.issuer; right = r.issuer } ∷ ties_with c f rs) (ties_with c r rs))
        by true e u v t (inr g) = u t g
        by true e u v t (inl g) =
            let a = from_start f fi in
            let z = from_start r (sub r (inl refl)) in
            let tie = pair-tie a.0 z.0 a.1 z.1 (ap (λ (w : HashPathResult). w.hash) (sym a.2) ∙ (bytes_decides f.hash r.hash).0 e ∙ ap (λ (w : HashPathResult). w.hash) z.2) in
            subst (IsTie ρ D) (sym (g ∙ (λ x. record { canonical = c; passed = []; left = (a.2 x).issuer; right = (z.2 x).issuer }))) tie
        by false e u v t g = v t g

    pub results-ties : AreTies ρ D (ties_of_results c (counted_results ρ D c h))
    results-ties = by (counted_results ρ D c h) (λ r g. g)
      where
        by : (rs : List HashPathResult) → ((r : HashPathResult) → In r rs → In r (counted_results ρ D c h)) → AreTies ρ D (ties_of_results c rs)
        by [] sub = are_ties-none ρ D
        by (r ∷ rs) sub = ties_with-ties r rs (sub r (inl refl)) (λ q g. sub q (inr g))

  hashes-ties : (hs : List Text) (c : List ℕ) → AreCanonical D c → AreTies ρ D (counted_hashes ρ D hs c).trace.ties
  hashes-ties [] c k = are_ties-none ρ D
  hashes-ties (h ∷ hs) c k =
      let starts = (trace_of_starts ρ D c (unissued_nodes ρ D c h)).ties in
      let own = ties_of_results c (counted_results ρ D c h) in
      are_ties-append ρ D (starts ++ own) _ (are_ties-append ρ D starts own (starts-ties c k h (unissued_nodes ρ D c h) (λ x g. g)) (results-ties c k h))
      (hashes-ties hs (issue_results c (counted_results ρ D c h)) (counted_results-canonical ρ D valid c k h))

pub ties_of_run_are_tied : TiesOfRunAreTied
ties_of_run_are_tied ρ D valid = hashes-ties ρ D valid (first_degree_hashes ρ D) (issued_for_unique_hashes ρ D) (unique_hashes-canonical ρ D)
