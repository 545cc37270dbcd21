-- Ground quads neither break a symmetry nor make one.
use Rattle.std.proofs.Common.{List, [], ap, filter, map, not, refl, subst, sym, zero, suc, ℕ, ◌++◌, ◌<◌, ◌∙◌, ◌∷◌, ◌≡◌, inl, inr}
use Rattle.std.proofs.lemmas.Bool.{not-true}
use Rattle.std.proofs.lemmas.List.{map-append}
use Rattle.rdf_terms.proofs.Common.{Carries, Dataset, In, Permutes, Permutes-filter, Permutes-from_equal, Permutes-map, Permutes-sym, Symmetry, from_In-filter, permutes_trans, relabel_statement}
use Rattle.rdf_terms.proofs.MadeLists.{map-same}
use Rattle.rdf_terms.proofs.Permutations.{Permutes-append_right}
use Rattle.canon_model.specs.Hashing.{Hashing}
use Rattle.canon_model.specs.CountedRun.{Counted, Tie}
use Rattle.canon_model.specs.JoinedTies.{IsFirstUnjoined, IsJoinedTie, IsSettled, JoinedCount}
use Rattle.canon_model.specs.Ties.{IsJoined}
use Rattle.canon_model.proofs.Maps.{filter-map}
use Rattle.ground_parts.specs.Ground.{HaveSameQuadsWithNodes, has_blank_node, quads_with_nodes}
use Rattle.ground_parts.specs.Laws.{JoinedTiesGoByNodes, JoinsGoByNodes, SymmetriesGoByNodes}
use Rattle.ground_parts.proofs.Filtered.{filter-parts}
use Rattle.ground_parts.proofs.Ground.{has_blank_node-relabel, relabel_statement-ground, same_quads_with_nodes_is_equivalence}
use Rattle.ground_parts.proofs.SameRuns.{counted_runs_go_by_nodes}

-- ---- the quads with nodes alone are carried

carried_nodes : (σ : ℕ → ℕ) (D : Dataset) → Carries σ D D → Permutes (map (relabel_statement σ) (quads_with_nodes D)) (quads_with_nodes D)
carried_nodes σ D k =
    permutes_trans (Permutes-from_equal (sym (filter-map (relabel_statement σ) has_blank_node has_blank_node (has_blank_node-relabel σ) D.statements)))
    (Permutes-filter has_blank_node k.statements)

ground_stay : (σ : ℕ → ℕ) (D : Dataset) → map (relabel_statement σ) (filter (λ st. not (has_blank_node st)) D.statements) ≡ filter (λ st. not (has_blank_node st)) D.statements
ground_stay σ D = map-same (relabel_statement σ) (filter (λ st. not (has_blank_node st)) D.statements)
    (λ st h. relabel_statement-ground σ st (not-true (has_blank_node st) (from_In-filter (λ st. not (has_blank_node st)) st D.statements h).1))

carried_whole : (σ : ℕ → ℕ) (D : Dataset) → Permutes (map (relabel_statement σ) (quads_with_nodes D)) (quads_with_nodes D) → Carries σ D D
carried_whole σ D p = record { nodes = refl; statements = permutes_trans (Permutes-map (relabel_statement σ) parts) (permutes_trans moved (Permutes-sym parts)) }
  where
    parts : Permutes D.statements (quads_with_nodes D ++ filter (λ st. not (has_blank_node st)) D.statements)
    parts = filter-parts has_blank_node D.statements

    moved : Permutes (map (relabel_statement σ) (quads_with_nodes D ++ filter (λ st. not (has_blank_node st)) D.statements)) (quads_with_nodes D ++ filter (λ st. not (has_blank_node st)) D.statements)
    moved =
        permutes_trans (Permutes-from_equal (map-append (relabel_statement σ) (quads_with_nodes D) (filter (λ st. not (has_blank_node st)) D.statements)
        ∙ ap (λ w. map (relabel_statement σ) (quads_with_nodes D) ++ w) (ground_stay σ D)))
        (Permutes-append_right (filter (λ st. not (has_blank_node st)) D.statements) p)

carries-more : (D E : Dataset) → HaveSameQuadsWithNodes D E → (σ : ℕ → ℕ) → Carries σ D D → Carries σ E E
carries-more D E s σ k =
    carried_whole σ E (permutes_trans (Permutes-map (relabel_statement σ) (Permutes-sym s.statements)) (permutes_trans (carried_nodes σ D k) s.statements))

-- ---- ties

abbrev symmetry-more : (D E : Dataset) → HaveSameQuadsWithNodes D E → Symmetry D → Symmetry E
symmetry-more D E s τ = record {
  relabelling = record {
    to = τ.relabelling.to;
    from = τ.relabelling.from;
    from-to = τ.relabelling.from-to;
    to-from = τ.relabelling.to-from;
    to_node = λ n h. subst (λ m. τ.relabelling.to n < m) (sym s.nodes) (τ.relabelling.to_node n (subst (λ m. n < m) s.nodes h));
    from_node = λ n h. subst (λ m. τ.relabelling.from n < m) (sym s.nodes) (τ.relabelling.from_node n (subst (λ m. n < m) s.nodes h));
  };
  keeps = carries-more D E s τ.relabelling.to τ.keeps;
}

joined-more : (D E : Dataset) → HaveSameQuadsWithNodes D E → (c left right : List ℕ) → IsJoined D c left right → IsJoined E c left right
joined-more D E s c left right w = record {
  as_long = w.as_long;
  symmetry = symmetry-more D E s w.symmetry;
  is_exchange = w.is_exchange;
  fixes_canonical = w.fixes_canonical;
}

module _ (D E : Dataset) (s : HaveSameQuadsWithNodes D E) where
  tie-more : (t : Tie) → IsJoinedTie D t → IsJoinedTie E t
  tie-more t w = joined-more D E s t.canonical t.left t.right w

  not-more : (t : Tie) → ¬ (IsJoinedTie D t) → ¬ (IsJoinedTie E t)
  not-more t f w = f (joined-more E D (same_quads_with_nodes_is_equivalence.symmetric D E s) t.canonical t.left t.right w)

  count-more : (ties : List Tie) (count : ℕ) → JoinedCount D ties count → JoinedCount E ties count
  count-more [] count w = w
  count-more (t ∷ ties) zero w = (not-more t w.0, count-more ties zero w.1)
  count-more (t ∷ ties) (suc count) (inl w) = inl (tie-more t w.0, count-more ties count w.1)
  count-more (t ∷ ties) (suc count) (inr w) = inr (not-more t w.0, count-more ties (suc count) w.1)

  first-more : (ties : List Tie) (t : Tie) → IsFirstUnjoined D ties t → IsFirstUnjoined E ties t
  first-more ties t w = record {
    before = w.before;
    behind = w.behind;
    ties_are = w.ties_are;
    joined_before = λ u h. tie-more u (w.joined_before u h);
    not_joined = not-more t w.not_joined;
  }

  pub settled-more : (ρ : Hashing) → IsSettled ρ D → IsSettled ρ E
  settled-more ρ w t h = tie-more t (w t (subst (λ (run : Counted (List ℕ)). In t run.trace.ties) (counted_runs_go_by_nodes ρ D E s) h))

pub symmetries_go_by_nodes : SymmetriesGoByNodes
symmetries_go_by_nodes D E s σ = (carries-more D E s σ, carries-more E D (same_quads_with_nodes_is_equivalence.symmetric D E s) σ)

pub joined_ties_go_by_nodes : JoinedTiesGoByNodes
joined_ties_go_by_nodes D E s c left right =
    (joined-more D E s c left right, joined-more E D (same_quads_with_nodes_is_equivalence.symmetric D E s) c left right)

pub joins_go_by_nodes : JoinsGoByNodes
joins_go_by_nodes ρ D E s = let t = same_quads_with_nodes_is_equivalence.symmetric D E s in record {
  settled = (settled-more D E s ρ, settled-more E D t ρ);
  count = λ ties count. (count-more D E s ties count, count-more E D t ties count);
  first = λ ties u. (first-more D E s ties u, first-more E D t ties u);
}
