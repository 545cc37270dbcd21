-- The hashes and groups of a dataset are those of its quads with nodes.
use Rattle.std.proofs.Common.{List, None, Option, Some, [], ap, cond, eqb, flat_map, map, map-id, refl, subst, sym, ℕ, ◌++◌, ◌∙◌, ◌∷◌, ◌≡◌}
use Rattle.rdf_terms.proofs.Common.{Permutes, Permutes-from_equal, Text, Dataset, Carries, joined, sorted, canonical_line, relabel_statement, permutes_trans}
use Rattle.rdf_terms.specs.declared.term.Term.{Term}
use Rattle.rdf_terms.specs.declared.term.Term.TheVariants.{Blank, Iri, Literal}
use Rattle.canon_model.specs.Hashing.{Hashing}
use Rattle.canon_model.specs.FirstDegree.{first_degree_names, hash_first_degree_quads}
use Rattle.canon_model.specs.RelatedHash.{hash_related_blank_node, related_input}
use Rattle.canon_model.specs.Groups.{blank_node_list, entries_of_statement, entry_of_graph_name, entry_of_term, groups, iri_text, related_entries, related_hashes}
use Rattle.canon_model.specs.declared.position.Position.{Position}
use Rattle.canon_model.specs.declared.position.Position.TheVariants.{Graph, Object, Subject}
use Rattle.canon_model.proofs.Maps.{map_identity}
use Rattle.canon_model.proofs.Relabel.{hash_first_degree_quads-relabel, related_entries-relabel, relabel_entry}
use Rattle.canon_model.proofs.RelabelGroups.{blank_node_list-relabel, related_hashes-relabel}
use Rattle.canon_model.proofs.Symmetries.{relabel_statement-identity}
use Rattle.ground_parts.specs.Ground.{HaveSameQuadsWithNodes, quads_with_nodes, without_ground_quads}
use Rattle.ground_parts.specs.Laws.{AreSameGroups, FirstDegreeHashesGoByNodes, GroupsGoByNodes, RelatedHashesGoByNodes}
use Rattle.ground_parts.proofs.Ground.{statements_of-quads_with_nodes}

-- ---- a dataset, and the same without its ground quads

module _ (ρ : Hashing) (D : Dataset) where
  pub first_degree-left_out : hash_first_degree_quads ρ (without_ground_quads D) ≡ hash_first_degree_quads ρ D
  unfolding hash_first_degree_quads
  first_degree-left_out = λ k n. ρ.hash (joined (sorted (map (canonical_line (first_degree_names n)) (statements_of-quads_with_nodes D n k))))

  pub related-left_out : hash_related_blank_node ρ (without_ground_quads D) ≡ hash_related_blank_node ρ D
  unfolding hash_related_blank_node
  related-left_out = λ k c i m p position. ρ.hash (related_input (first_degree-left_out k m) c i m p position)

  entry_of_term-left_out : (c i : List ℕ) (n : ℕ) (p : Text) (position : Position) (t : Term) → entry_of_term ρ (without_ground_quads D) c i n p position t ≡ entry_of_term ρ D c i n p position t
  entry_of_term-left_out c i n p position (Iri t) = refl
  entry_of_term-left_out c i n p position (Blank m) = λ k. cond (eqb m n) [] (record { hash = related-left_out k c i m p position; node = m } ∷ [])
  entry_of_term-left_out c i n p position (Literal l) = refl

  entry_of_graph_name-left_out : (c i : List ℕ) (n : ℕ) (p : Text) (g : Option Term) → entry_of_graph_name ρ (without_ground_quads D) c i n p g ≡ entry_of_graph_name ρ D c i n p g
  entry_of_graph_name-left_out c i n p None = refl
  entry_of_graph_name-left_out c i n p (Some t) = entry_of_term-left_out c i n p Graph t

  entries_of_statement-left_out : (c i : List ℕ) (n : ℕ) → entries_of_statement ρ (without_ground_quads D) c i n ≡ entries_of_statement ρ D c i n
  entries_of_statement-left_out c i n =
      λ k st. entry_of_term-left_out c i n (iri_text st.predicate) Subject st.subject k
      ++ (entry_of_term-left_out c i n (iri_text st.predicate) Object st.object k ++ entry_of_graph_name-left_out c i n (iri_text st.predicate) st.graph_name k)

  related_entries-left_out : (c i : List ℕ) (n : ℕ) → related_entries ρ (without_ground_quads D) c i n ≡ related_entries ρ D c i n
  unfolding related_entries
  related_entries-left_out c i n = λ k. flat_map (entries_of_statement-left_out c i n k) (statements_of-quads_with_nodes D n k)

  pub groups-left_out : (c i : List ℕ) (n : ℕ) → groups ρ (without_ground_quads D) c i n ≡ groups ρ D c i n
  groups-left_out c i n = λ k. record {
    hashes = related_hashes (related_entries-left_out c i n k);
    nodes = blank_node_list ρ (related_entries-left_out c i n k);
  }

-- ---- two datasets without their ground quads

pub carries-left_out : (D E : Dataset) → HaveSameQuadsWithNodes D E → Carries (λ x. x) (without_ground_quads D) (without_ground_quads E)
carries-left_out D E s = record {
  nodes = s.nodes;
  statements =
      permutes_trans (Permutes-from_equal (map_identity (relabel_statement (λ x. x)) relabel_statement-identity (quads_with_nodes D))) s.statements;
}

-- lists whose nodes keep their numbers
pub map-identity : map (λ (x : ℕ). x) ≡ (λ (xs : List ℕ). xs)
map-identity = λ k xs. map-id xs k

module _ (ρ : Hashing) (D E : Dataset) (s : HaveSameQuadsWithNodes D E) where
  pub first_degree-same : (n : ℕ) → hash_first_degree_quads ρ E n ≡ hash_first_degree_quads ρ D n
  first_degree-same n =
      (λ k. sym (first_degree-left_out ρ E) k n) ∙ (hash_first_degree_quads-relabel (λ x. x) (λ x y. refl) ρ (carries-left_out D E s) n ∙ (λ k. first_degree-left_out ρ D k n))

  entries-same : (c i : List ℕ) (n : ℕ) → Permutes (map (relabel_entry (λ x. x)) (related_entries ρ (without_ground_quads D) c i n)) (related_entries ρ (without_ground_quads E) c i n)
  entries-same c i n =
      subst (λ (f : List ℕ → List ℕ). Permutes (map (relabel_entry (λ x. x)) (related_entries ρ (without_ground_quads D) c i n))
      (related_entries ρ (without_ground_quads E) (f c) (f i) n)) map-identity
      (related_entries-relabel (λ x. x) (λ x y. refl) ρ (carries-left_out D E s) c i n)

  groups-between : (c i : List ℕ) (n : ℕ) → AreSameGroups (groups ρ (without_ground_quads D) c i n) (groups ρ (without_ground_quads E) c i n)
  groups-between c i n = record {
    hashes = related_hashes-relabel (λ x. x) (λ x y. refl) _ _ (entries-same c i n);
    nodes = λ h. subst (λ (f : List ℕ → List ℕ). Permutes (f (blank_node_list ρ (related_entries ρ (without_ground_quads D) c i n) h))
        (blank_node_list ρ (related_entries ρ (without_ground_quads E) c i n) h)) map-identity
        (blank_node_list-relabel (λ x. x) (λ x y. refl) ρ _ _ (entries-same c i n) h);
  }

  pub groups-same : (c i : List ℕ) (n : ℕ) → AreSameGroups (groups ρ D c i n) (groups ρ E c i n)
  groups-same c i n =
      subst (λ g. AreSameGroups g (groups ρ E c i n)) (groups-left_out ρ D c i n)
      (subst (AreSameGroups (groups ρ (without_ground_quads D) c i n)) (groups-left_out ρ E c i n) (groups-between c i n))

pub first_degree_hashes_go_by_nodes : FirstDegreeHashesGoByNodes
first_degree_hashes_go_by_nodes ρ D E s n = first_degree-same ρ D E s n

pub related_hashes_go_by_nodes : RelatedHashesGoByNodes
unfolding hash_related_blank_node
related_hashes_go_by_nodes ρ D E s c i m p position = ap (λ h. ρ.hash (related_input h c i m p position)) (first_degree-same ρ D E s m)

pub groups_go_by_nodes : GroupsGoByNodes
groups_go_by_nodes ρ D E s c i n = groups-same ρ D E s c i n
