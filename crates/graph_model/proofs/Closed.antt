-- The end of a walk is a closed set of nodes.
use Rattle.std.proofs.Common.{◌≡◌, ℕ, ◌⊎◌, List, [], ◌∷◌, ◌++◌, sym, subst, inl, inr, append_assoc}
use Rattle.rdf_terms.proofs.Common.{In, Statement, decide_in}
use Rattle.std.proofs.lemmas.List.{append-nil}
use Rattle.graph_model.specs.Components.{MayFollow, WalksOn, IsComponentWalk, IsClosed}

-- nothing follows the whole of a walk
pub ended : (G : List Statement) (taken rest : List ℕ) → WalksOn G taken rest → (y : ℕ) → ¬ (MayFollow G (taken ++ rest) y)
ended G taken [] w y = subst (λ l. ¬ (MayFollow G l y)) (sym (append-nil taken)) (w y)
ended G taken (x ∷ rest) w y = subst (λ l. ¬ (MayFollow G l y)) (append_assoc taken (x ∷ []) rest) (ended G (taken ++ x ∷ []) rest w.1 y)

pub components_are_closed : (G : List Statement) (walk : List ℕ) → IsComponentWalk G walk → IsClosed G walk
components_are_closed G walk w st there x y a b i = by (decide_in y walk)
  where
    by : In y walk ⊎ (¬ (In y walk)) → In y walk
    by (inl h) = h
    by (inr n) =
        let e : walk ≡ w.first ∷ w.rest = w.walk_is in
        let m : MayFollow G walk y = record { other = x; is_taken = i; share = record { triple = st; there = there; mentions_first = a; mentions_second = b }; fresh = n } in
        absurd (ended G (w.first ∷ []) w.rest w.goes_on y (subst (λ l. MayFollow G l y) e m))
