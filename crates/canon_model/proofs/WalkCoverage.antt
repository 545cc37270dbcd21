-- A walk adds to its issuer exactly the free nodes of the permutation and those that can be reached from them, each once.
use Rattle.std.proofs.Common.{List, inl, inr, subst, suc, sym, true≢false, ℕ, ◌∙◌, ◌↔◌, ◌⊎◌}
use Rattle.rdf_terms.proofs.Common.{In-append, In-append_right, Dataset, AreDistinct, In}
use Rattle.canon_model.specs.Coverage.{Reached}
use Rattle.canon_model.specs.Laws.{Coverage}
use Rattle.canon_model.specs.Outcome.{HashNDegreeQuads}
use Rattle.canon_model.proofs.Coverage.{Reaches, reached_free, walk-reaches}
use Rattle.canon_model.proofs.Issuers.{AreOnce, are_distinct_from_once, are_once-apart, are_once_from_distinct, is_issued-from_In}
use Rattle.canon_model.proofs.OutcomesGrow.{n_degree_within-grows, permutation_path-grows}

-- the nodes behind the issuer that was passed in
behind : (D : Dataset) (c i : List ℕ) (S : ℕ → Type 0) (j : List ℕ) (r : Reaches D c i S j) → AreOnce j → (x : ℕ) → (In x r.begins.tail ↔ Reached D c i S x)
behind D c i S j r once x = (
  λ h. new h ((r.nodes x).0 (subst (In x) (sym r.begins.is) (In-append_right i r.begins.tail x h))),
  λ q. there q (In-append i r.begins.tail x (subst (In x) r.begins.is ((r.nodes x).1 (inr q)))),
)
  where
    new : In x r.begins.tail → In x i ⊎ Reached D c i S x → Reached D c i S x
    new h (inl a) = absurd (are_once-apart i r.begins.tail (subst AreOnce r.begins.is once) x a h)
    new h (inr q) = q

    there : Reached D c i S x → In x i ⊎ In x r.begins.tail → In x r.begins.tail
    there q (inl a) = absurd (true≢false (sym (is_issued-from_In x i a) ∙ (reached_free D c i S q).1))
    there q (inr b) = b

pub coverage : Coverage
coverage ρ D c i p π j w = record {
  begins = r.begins;
  nodes = r.nodes;
  added = λ d. behind D c i (λ y. In y p) j r (once d);
  once = λ d. are_distinct_from_once j (once d);
}
  where
    r : Reaches D c i (λ y. In y p) j
    r = walk-reaches ρ D c i p π j w

    once : AreDistinct i → AreOnce j
    once d = (permutation_path-grows c (HashNDegreeQuads ρ D c) (λ m k h l o v. n_degree_within-grows c ρ D (suc D.nodes) m k h l o v.outcome) i p π j (are_once_from_distinct i d) w).1
