-- Lists of outcomes that stand in front of two lists, the one carried to the other.
use Rattle.std.proofs.Common.{List, [], ap, append_assoc, inl, inr, length, map, refl, subst, suc, sym, true≢false, ℕ, ◌++◌, ◌∙◌, ◌∷◌, ◌≡◌}
use Rattle.std.proofs.lemmas.List.{map-append}
use Rattle.rdf_terms.proofs.Common.{In, Dataset, IsValid, Symmetry}
use Rattle.canon_model.specs.Coverage.{BeginsWith}
use Rattle.canon_model.specs.Hashing.{Hashing}
use Rattle.canon_model.specs.Outcome.{HashNDegreeQuads}
use Rattle.canon_model.specs.Allowed.{HashPathResult}
use Rattle.canon_model.proofs.Components.{IsComponent}
use Rattle.canon_model.proofs.Equivariance.{equivariance}
use Rattle.canon_model.proofs.ExchangeSymmetry.{append_split}
use Rattle.canon_model.proofs.Issuers.{In-from_is_issued, Keeps, are_distinct_from_once, is_issued-from_In, map_fixed}
use Rattle.canon_model.proofs.LocalSymmetry.{are_quads}
use Rattle.canon_model.proofs.OutcomeComponents.{component_of_outcome}
use Rattle.canon_model.proofs.OutcomesGrow.{n_degree_within-grows}
use Rattle.canon_model.proofs.Symmetries.{Linked, linked_trans}
use Rattle.canon_model.proofs.Totality.{mentions_nodes}
use Rattle.other_output.proofs.IssuedFronts.{same_front}

-- the lists of some results, one after the other
abbrev pub issuers : List HashPathResult → List ℕ
issuers [] = []
issuers (r ∷ rs) = r.issuer ++ issuers rs

module _ (ρ : Hashing) (D : Dataset) (valid : IsValid D) (c : List ℕ) where
  pub component : (r : HashPathResult) → HashNDegreeQuads ρ D c r.start (r.start ∷ []) r.hash r.issuer → IsComponent D (are_quads D valid) c r.start r.issuer
  component r w = component_of_outcome ρ D (mentions_nodes D valid) (are_quads D valid) c r.start r.hash r.issuer w

  pub begins : (r : HashPathResult) → HashNDegreeQuads ρ D c r.start (r.start ∷ []) r.hash r.issuer → BeginsWith (r.start ∷ []) r.issuer
  begins r w = (n_degree_within-grows c ρ D (suc D.nodes) r.start (r.start ∷ []) r.hash r.issuer (refl, tt) w.outcome).0

  module _ (σ : Symmetry D) (fixes : Keeps σ.relabelling.to c) where
    abbrev to : ℕ → ℕ
    to = σ.relabelling.to

    -- one of the fronts is the other
    module _ (r q : HashPathResult) (w : HashNDegreeQuads ρ D c r.start (r.start ∷ []) r.hash r.issuer) (v : HashNDegreeQuads ρ D c q.start (q.start ∷ []) q.hash q.issuer)
        (us vs : List ℕ) (e : q.issuer ++ vs ≡ map σ.relabelling.to r.issuer ++ us) where
      start_is : q.start ≡ σ.relabelling.to r.start
      start_is =
          let same : Path (List ℕ) (q.start ∷ ((begins q v).tail ++ vs)) (to r.start ∷ (map to (begins r w).tail ++ us)) =
          ap (λ l. l ++ vs) (sym (begins q v).is) ∙ e ∙ ap (λ l. map to l ++ us) (begins r w).is in
          cc

      moved : HashNDegreeQuads ρ D c q.start (q.start ∷ []) r.hash (map σ.relabelling.to r.issuer)
      moved = subst (λ d. HashNDegreeQuads ρ D d q.start (q.start ∷ []) r.hash (map to r.issuer)) (map_fixed to c fixes)
          (subst (λ x. HashNDegreeQuads ρ D (map to c) x (x ∷ []) r.hash (map to r.issuer)) (sym start_is)
          ((equivariance ρ D D σ.relabelling σ.keeps c r.start (r.start ∷ []) r.hash r.issuer).0 w))

      pub issuer_is : q.issuer ≡ map σ.relabelling.to r.issuer
      issuer_is =
          let a = component_of_outcome ρ D (mentions_nodes D valid) (are_quads D valid) c q.start r.hash (map to r.issuer) moved in
          let b = component q v in
          same_front q.issuer (map to r.issuer) vs us e (are_distinct_from_once q.issuer b.distinct) (are_distinct_from_once (map to r.issuer) a.distinct)
          (λ z h. In-from_is_issued z (map to r.issuer) (b.whole (map to r.issuer) a.closed q.start z b.start (is_issued-from_In z q.issuer h) a.start))
          (λ z h. In-from_is_issued z q.issuer (a.whole q.issuer b.closed q.start z a.start (is_issued-from_In z (map to r.issuer) h) b.start))

    -- ---- several in turn: where the first is carried to the second and so on, it is carried to the last

    linked_once : (l k : List ℕ) → k ≡ map σ.relabelling.to l → Linked D c [] l k
    linked_once l k e = record { s = σ; canon = fixes; begun = λ x h. absurd (true≢false (sym h)); is = e }

    pub linked_to_last : (new : List HashPathResult) → ((q : HashPathResult) → In q new → HashNDegreeQuads ρ D c q.start (q.start ∷ []) q.hash q.issuer)
        → (r k : HashPathResult) → HashNDegreeQuads ρ D c r.start (r.start ∷ []) r.hash r.issuer → HashNDegreeQuads ρ D c k.start (k.start ∷ []) k.hash k.issuer
        → (us vs : List ℕ) → issuers new ++ (k.issuer ++ vs) ≡ map σ.relabelling.to (r.issuer ++ (issuers new ++ us)) → Linked D c [] r.issuer k.issuer
    linked_to_last [] f r k w v us vs e = linked_once r.issuer k.issuer (issuer_is r k w v (map to us) vs (e ∙ map-append to r.issuer us))
    linked_to_last (q ∷ new) f r k w v us vs e =
        let behind = (q.issuer ++ issuers new) ++ us in
        let onward = issuers new ++ (k.issuer ++ vs) in
        let both : q.issuer ++ onward ≡ map to r.issuer ++ map to behind = sym (append_assoc q.issuer (issuers new) (k.issuer ++ vs)) ∙ e ∙ map-append to r.issuer behind in
        let first : q.issuer ≡ map to r.issuer = issuer_is r q w (f q (inl refl)) (map to behind) onward both in
        let rest = (append_split q.issuer onward (map to r.issuer) (map to behind) (ap length first) both).1 in
        linked_trans D c [] r.issuer q.issuer k.issuer (linked_once r.issuer q.issuer first)
        (linked_to_last new (λ p h. f p (inr h)) q k (f q (inl refl)) v us vs (rest ∙ ap (map to) (append_assoc q.issuer (issuers new) us)))
