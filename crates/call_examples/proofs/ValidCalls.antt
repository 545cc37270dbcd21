-- What a call of a node with no issuer but its own may be made with.
use Rattle.std.proofs.Common.{List, [], inl, inr, refl, subst, sym, ℕ, ◌<◌, ◌∷◌, ◌≡◌}
use Rattle.rdf_terms.specs.Dataset.{Dataset}
use Rattle.canon_model.specs.Issuer.{IsValidCall}

alone : (D : Dataset) (n : ℕ) → n < D.nodes → IsValidCall D [] n (n ∷ [])
alone D n h = record {
  canonical_nodes = λ x m. absurd m;
  temporary_nodes = λ x m. elim m [ inl e ↦ subst (λ y. y < D.nodes) (sym e) h | inr z ↦ absurd z ];
  canonical_once = tt;
  temporary_once = ((λ m. m), tt);
  apart = λ x m. absurd m;
  listed = inl refl;
}

pub valid_call : (D : Dataset) (c i : List ℕ) (n : ℕ) → c ≡ [] → i ≡ n ∷ [] → n < D.nodes → IsValidCall D c n i
valid_call D c i n none one h = subst (λ d. IsValidCall D d n i) (sym none) (subst (IsValidCall D [] n) (sym one) (alone D n h))
