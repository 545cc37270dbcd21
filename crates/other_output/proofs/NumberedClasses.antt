-- An isomorphic dataset: it is valid, it has the same classes, and the same nodes are alone under their hashes.
use Rattle.std.proofs.Common.{arith, List, [], ap, flat_map, inl, inr, map, refl, subst, sym, ℕ, ◌++◌, ◌<◌, ◌∙◌, ◌∷◌, ◌≡◌, ◌⊎◌}
use Rattle.std.proofs.lemmas.List.{length-map, map-append}
use Rattle.std.specs.Str.{bytes_eq}
use Rattle.rdf_terms.proofs.Common.{All-from_each, AreDistinct-Permutes, each-from_All, In-map, IsUsed, IsValid, IsValidStatement, relabel_statement, from_In-map, In-Permutes, Permutes-filter, Permutes-from_equal, Permutes-map, Permutes-sym, length-Permutes, sorted-Permutes, Dataset, Carries, Relabelling, In, Permutes, Text, numbers_below, permutes_trans, map-map, AreDistinct-numbers_below, In-numbers_below, from_In-numbers_below}
use Rattle.rdf_terms.proofs.Finishing.{IsValidStatement-relabelled, mentions-relabelled}
use Rattle.canon_model.specs.Allowed.{first_degree_hashes, has_first_degree_hash, issued_for_unique_hashes, nodes_with_hash, single}
use Rattle.canon_model.specs.FirstDegree.{hash_first_degree_quads}
use Rattle.canon_model.specs.Groups.{each_text_once}
use Rattle.canon_model.specs.Hashing.{Hashing}
use Rattle.canon_model.specs.Issuer.{issue_each}
use Rattle.canon_model.proofs.Equivariance.{AreDistinct-map, relabel_statement-back, same_test}
use Rattle.canon_model.proofs.LocalSymmetry.{Permutes-from_subset}
use Rattle.canon_model.proofs.Maps.{filter-map, map_agree}
use Rattle.canon_model.proofs.Relabel.{hash_first_degree_quads-relabel}
use Rattle.canon_model.proofs.RelabelRun.{issue_results-relabel}

numbers_below-permutes : (n : ℕ) (σ : Relabelling n) → Permutes (map σ.to (numbers_below n)) (numbers_below n)
numbers_below-permutes n σ =
    Permutes-from_subset (map σ.to (numbers_below n)) (numbers_below n) (AreDistinct-map σ.to σ.from σ.from-to (numbers_below n) (AreDistinct-numbers_below n)) (length-map (numbers_below n) σ.to)
    (λ y h. let r = from_In-map σ.to (numbers_below n) y h in subst (λ w. In w (numbers_below n)) (sym r.2) (In-numbers_below n (σ.to r.0) (σ.to_node r.0 (from_In-numbers_below n r.0 r.1))))

single-permutes : (σ : ℕ → ℕ) (xs ys : List ℕ) → Permutes (map σ xs) ys → single ys ≡ map σ (single xs)
single-permutes σ [] [] p = refl
single-permutes σ [] (y ∷ ys) p = let e = length-Permutes p in absurd (omega arith)
single-permutes σ (x ∷ []) [] p = let e = length-Permutes p in absurd (omega arith)
single-permutes σ (x ∷ []) (y ∷ []) p = ap (λ w. w ∷ []) (one (In-Permutes y (Permutes-sym p) (inl refl)))
  where
    one : (y ≡ σ x) ⊎ ⊥ → y ≡ σ x
    one (inl e) = e
    one (inr h) = absurd h
single-permutes σ (x ∷ []) (y ∷ z ∷ ys) p = let e = length-Permutes p in absurd (omega arith)
single-permutes σ (x ∷ w ∷ xs) [] p = let e = length-Permutes p in absurd (omega arith)
single-permutes σ (x ∷ w ∷ xs) (y ∷ []) p = let e = length-Permutes p in absurd (omega arith)
single-permutes σ (x ∷ w ∷ xs) (y ∷ z ∷ ys) p = refl

pub IsValid-relabelled : (D E : Dataset) (σ : Relabelling D.nodes) → Carries σ.to D E → IsValid D → IsValid E
IsValid-relabelled D E σ car v = record {
  valid = All-from_each (IsValidStatement E.nodes) E.statements (λ st i.
      let r = from_In-map (relabel_statement σ.to) D.statements st (In-Permutes st (Permutes-sym car.statements) i) in
      subst (IsValidStatement E.nodes) (sym r.2) (subst (λ n. IsValidStatement n (relabel_statement σ.to r.0)) (sym car.nodes)
      (IsValidStatement-relabelled D.nodes r.0 (each-from_All (IsValidStatement D.nodes) D.statements r.0 v.valid r.1) σ.to D.nodes (λ n h m. σ.to_node n h))));
  distinct = AreDistinct-Permutes car.statements (AreDistinct-map (relabel_statement σ.to) (relabel_statement σ.from) (relabel_statement-back σ.from σ.to σ.from-to) D.statements v.distinct);
  used = λ n h.
      let u = v.used (σ.from n) (σ.from_node n (subst (λ k. n < k) car.nodes h)) in
      subst (IsUsed E.statements) (σ.to-from n) (record {
        statement = relabel_statement σ.to u.statement;
        there = In-Permutes (relabel_statement σ.to u.statement) car.statements (In-map (relabel_statement σ.to) D.statements u.statement u.there);
        mentioned = mentions-relabelled σ.to (σ.from n) u.statement u.mentioned;
      });
}

module _ (ρ : Hashing) (D E : Dataset) (σ : Relabelling D.nodes) (car : Carries σ.to D E) where
  abbrev hash : ℕ → Text
  hash = hash_first_degree_quads ρ E

  pub same_hash : (x : ℕ) → hash_first_degree_quads ρ E (σ.to x) ≡ hash_first_degree_quads ρ D x
  same_hash x = hash_first_degree_quads-relabel σ.to (same_test σ.to σ.from σ.from-to) ρ car x

  numbers_below-relabel : Permutes (map σ.to (numbers_below D.nodes)) (numbers_below E.nodes)
  numbers_below-relabel = subst (λ n. Permutes (map σ.to (numbers_below D.nodes)) (numbers_below n)) (sym car.nodes) (numbers_below-permutes D.nodes σ)

  pub first_degree_hashes-relabel : first_degree_hashes ρ E ≡ first_degree_hashes ρ D
  first_degree_hashes-relabel = ap each_text_once (sorted-Permutes (permutes_trans (Permutes-map hash (Permutes-sym numbers_below-relabel))
      (Permutes-from_equal (map-map hash σ.to (numbers_below D.nodes) ∙ map_agree _ _ same_hash (numbers_below D.nodes)))))

  nodes_with_hash-relabel : (h : Text) → Permutes (map σ.to (nodes_with_hash ρ D h)) (nodes_with_hash ρ E h)
  nodes_with_hash-relabel h =
      permutes_trans (Permutes-from_equal (sym (filter-map σ.to (has_first_degree_hash ρ E h) (has_first_degree_hash ρ D h) (λ x. ap (λ w. bytes_eq w h) (same_hash x)) (numbers_below D.nodes))))
      (Permutes-filter (has_first_degree_hash ρ E h) numbers_below-relabel)

  single-relabel : (hs : List Text) → flat_map (λ h. single (nodes_with_hash ρ E h)) hs ≡ map σ.to (flat_map (λ h. single (nodes_with_hash ρ D h)) hs)
  single-relabel [] = refl
  single-relabel (h ∷ hs) =
      (λ i. single-permutes σ.to (nodes_with_hash ρ D h) (nodes_with_hash ρ E h) (nodes_with_hash-relabel h) i ++ single-relabel hs i)
      ∙ sym (map-append σ.to (single (nodes_with_hash ρ D h)) (flat_map (λ h. single (nodes_with_hash ρ D h)) hs))

  pub issued_for_unique_hashes-relabel : issued_for_unique_hashes ρ E ≡ map σ.to (issued_for_unique_hashes ρ D)
  issued_for_unique_hashes-relabel =
      ap (λ hs. issue_each [] (flat_map (λ h. single (nodes_with_hash ρ E h)) hs)) first_degree_hashes-relabel ∙ ap (issue_each []) (single-relabel (first_degree_hashes ρ D))
      ∙ sym (issue_results-relabel ρ D E σ car [] (record { start = 0; hash = []; issuer = flat_map (λ h. single (nodes_with_hash ρ D h)) (first_degree_hashes ρ D) } ∷ []))
