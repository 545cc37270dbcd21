-- Datasets whose nodes are numbered along one list have the same quads, and so one form.
use Rattle.std.proofs.Common.{◌≡◌, ℕ, ◌<◌, List, map, sym, ap, subst, ◌∙◌}
use Rattle.rdf_terms.proofs.Common.{In, Dataset, IsValid, IsValidStatement, Permutes-sym, Permutes-from_equal, permutes_trans, numbers_below, relabel_statement, each-from_All, from_In-map, In-numbers_below, map-agree}
use Rattle.rdf_terms.proofs.Finishing.{mentioned_low}
use Rattle.canonical_writer.specs.Determined.{CarriesLists}
use Rattle.canon_model.specs.QuadOrder.{HaveSameQuads}
use Rattle.canon_model.proofs.ExchangeSymmetry.{map_same_in}
use Rattle.canon_model.proofs.Issuers.{is_issued-from_In}
use Rattle.canon_model.proofs.LocalSymmetry.{quad_agree}

module _ (D E F : Dataset) (valid : IsValid D) (order : List ℕ) (a : CarriesLists D E order (numbers_below D.nodes)) (b : CarriesLists D F order (numbers_below D.nodes)) where
  in_order : (n : ℕ) → n < D.nodes → In n order
  in_order n h =
      let to = a.relabelling.to in
      let p = from_In-map to order (to n) (subst (In (to n)) (sym a.lists) (In-numbers_below D.nodes (to n) (a.relabelling.to_node n h))) in
      let is : n ≡ p.0 = sym (a.relabelling.from-to n) ∙ ap a.relabelling.from p.2 ∙ a.relabelling.from-to p.0 in
      subst (λ m. In m order) (sym is) p.1

  -- the two relabellings agree on the nodes, and so on each statement
  one_number : (n : ℕ) → n < D.nodes → a.relabelling.to n ≡ b.relabelling.to n
  one_number n h = map_same_in a.relabelling.to b.relabelling.to order (a.lists ∙ sym b.lists) n (is_issued-from_In n order (in_order n h))

  same_statements : map (relabel_statement a.relabelling.to) D.statements ≡ map (relabel_statement b.relabelling.to) D.statements
  same_statements = map-agree (relabel_statement a.relabelling.to) (relabel_statement b.relabelling.to) D.statements (λ st i.
      let v = each-from_All (IsValidStatement D.nodes) D.statements st valid.valid i in
      quad_agree a.relabelling.to b.relabelling.to st v.predicate_kind (λ n m. one_number n (mentioned_low D.nodes n st v m)))

  pub numbered_quads : HaveSameQuads E F
  numbered_quads = record {
    nodes = b.carries.nodes ∙ sym a.carries.nodes;
    statements = permutes_trans (Permutes-sym a.carries.statements) (permutes_trans (Permutes-from_equal same_statements) b.carries.statements);
  }
