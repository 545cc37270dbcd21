-- Results that are issued for behind two lists add the same to both, where these have issued for the same of their start nodes.
use Rattle.std.proofs.Common.{Bool, List, [], ap, append-nil, append_assoc, false, inl, inr, refl, sym, true, ℕ, ◌++◌, ◌||◌, ◌∙◌, ◌∷◌, ◌≡◌}
use Rattle.rdf_terms.proofs.Common.{Dataset, In}
use Rattle.canon_model.specs.Allowed.{HashPathResult, issue_results}
use Rattle.canon_model.specs.Issuer.{is_issued, issue_each}
use Rattle.canon_model.proofs.Components.{IsBase, IsComponent, base-component, base-component_new, issue_each-component_known, issue_each-component_new}
use Rattle.canon_model.proofs.Issuers.{is_issued-append}
use Rattle.canon_model.proofs.LocalSymmetry.{AreQuads}
use Rattle.other_output.proofs.CarriedFronts.{issuers}

module _ (D : Dataset) (quads : AreQuads D) (c : List ℕ) where
  pub base_results : (rs : List HashPathResult) (cur : List ℕ) → IsBase D quads c cur → ((r : HashPathResult) → In r rs → IsComponent D quads c r.start r.issuer)
      → IsBase D quads c (issue_results cur rs)
  base_results [] cur b f = b
  base_results (r ∷ rs) cur b f = base_results rs (issue_each cur r.issuer) (base-component D quads c cur r.start r.issuer b (f r (inl refl))) (λ q h. f q (inr h))

  -- what is added: the lists of the results whose start nodes are new
  pub record SameAdded (rs : List HashPathResult) (cur cur' : List ℕ) : Type 0 where
    pub new : List HashPathResult
    pub sub : (q : HashPathResult) → In q new → In q rs
    pub added : issue_results cur rs ≡ cur ++ issuers new
    pub added' : issue_results cur' rs ≡ cur' ++ issuers new

  pub same_added : (rs : List HashPathResult) (cur cur' : List ℕ) → IsBase D quads c cur → IsBase D quads c cur' → ((r : HashPathResult) → In r rs → IsComponent D quads c r.start r.issuer)
      → ((r : HashPathResult) → In r rs → is_issued r.start cur ≡ is_issued r.start cur') → SameAdded rs cur cur'
  same_added [] cur cur' b b' f same = record { new = []; sub = λ q h. h; added = sym (append-nil cur); added' = sym (append-nil cur') }
  same_added (r ∷ rs) cur cur' b b' f same = by (is_issued r.start cur) refl (λ a a' k k' s. same_added rs a a' k k' (λ q h. f q (inr h)) s)
    where
      component : IsComponent D quads c r.start r.issuer
      component = f r (inl refl)

      grown : (q : HashPathResult) → In q rs → is_issued q.start (cur ++ r.issuer) ≡ is_issued q.start (cur' ++ r.issuer)
      grown q h = is_issued-append q.start cur r.issuer ∙ ap (λ t. t || is_issued q.start r.issuer) (same q (inr h)) ∙ sym (is_issued-append q.start cur' r.issuer)

      by : (t : Bool) → is_issued r.start cur ≡ t
          → ((a a' : List ℕ) → IsBase D quads c a → IsBase D quads c a' → ((q : HashPathResult) → In q rs → is_issued q.start a ≡ is_issued q.start a') → SameAdded rs a a')
          → SameAdded (r ∷ rs) cur cur'
      by true e ih =
          let e' = sym (same r (inl refl)) ∙ e in
          let u = ih cur cur' b b' (λ q h. same q (inr h)) in
          record {
            new = u.new;
            sub = λ q h. inr (u.sub q h);
            added = ap (λ l. issue_results l rs) (issue_each-component_known D quads c cur r.start r.issuer b component e) ∙ u.added;
            added' = ap (λ l. issue_results l rs) (issue_each-component_known D quads c cur' r.start r.issuer b' component e') ∙ u.added';
          }
      by false e ih =
          let e' = sym (same r (inl refl)) ∙ e in
          let u = ih (cur ++ r.issuer) (cur' ++ r.issuer) (base-component_new D quads c cur r.start r.issuer b component e)
          (base-component_new D quads c cur' r.start r.issuer b' component e') grown in
          record {
            new = r ∷ u.new;
            sub = λ q. elim [ inl h ↦ inl h | inr h ↦ inr (u.sub q h) ];
            added = ap (λ l. issue_results l rs) (issue_each-component_new D quads c cur r.start r.issuer b component e) ∙ u.added ∙ append_assoc cur r.issuer (issuers u.new);
            added' = ap (λ l. issue_results l rs) (issue_each-component_new D quads c cur' r.start r.issuer b' component e') ∙ u.added' ∙ append_assoc cur' r.issuer (issuers u.new);
          }
