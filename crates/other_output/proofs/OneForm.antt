-- Datasets whose nodes are numbered along one list have the same quads, and so one form.
use Rattle.std.proofs.Common.{◌≡◌, ℕ, ◌<◌, ◌≤◌, List, map, sym, ap, subst, ◌∙◌, arith}
use Rattle.rdf_terms.specs.declared.term.Prefix.TheVariants.{Canonical}
use Rattle.rdf_terms.proofs.Common.{In, Dataset, IsValid, IsValidStatement, Permutes-map, Permutes-sym, Permutes-from_equal, permutes_trans, canonical_line, issued_names, joined_sorted-Permutes, numbers_below, relabel_statement, each-from_All, from_In-map, In-numbers_below, map-agree}
use Rattle.rdf_terms.proofs.Finishing.{mentioned_low}
use Rattle.canonical_writer.specs.Determined.{CarriesLists}
use Rattle.canon_model.specs.Hashing.{Hashing}
use Rattle.canon_model.specs.Allowed.{canonical_form}
use Rattle.canon_model.specs.CountedRun.{Counted, counted_run}
use Rattle.canon_model.specs.Output.{chosen_form, units_of}
use Rattle.canon_model.specs.QuadOrder.{HaveSameQuads}
use Rattle.canon_model.proofs.ExchangeSymmetry.{map_same_in}
use Rattle.canon_model.proofs.Issuers.{is_issued-from_In}
use Rattle.canon_model.proofs.LocalSymmetry.{quad_agree}
use Rattle.canon_model.proofs.QuadOrder.{counted_run_of_quads}
use Rattle.other_output.specs.OneForm.{OneFormAlong, OneLimitAlong}

module _ (D E F : Dataset) (valid : IsValid D) (order : List ℕ) (a : CarriesLists D E order (numbers_below D.nodes)) (b : CarriesLists D F order (numbers_below D.nodes)) where
  in_order : (n : ℕ) → n < D.nodes → In n order
  in_order n h =
      let to = a.relabelling.to in
      let p = from_In-map to order (to n) (subst (In (to n)) (sym a.lists) (In-numbers_below D.nodes (to n) (a.relabelling.to_node n h))) in
      let is : n ≡ p.0 = sym (a.relabelling.from-to n) ∙ ap a.relabelling.from p.2 ∙ a.relabelling.from-to p.0 in
      subst (λ m. In m order) (sym is) p.1

  -- the two relabellings agree on the nodes, and so on each statement
  agree : (n : ℕ) → n < D.nodes → a.relabelling.to n ≡ b.relabelling.to n
  agree n h = map_same_in a.relabelling.to b.relabelling.to order (a.lists ∙ sym b.lists) n (is_issued-from_In n order (in_order n h))

  same_statements : map (relabel_statement a.relabelling.to) D.statements ≡ map (relabel_statement b.relabelling.to) D.statements
  same_statements = map-agree (relabel_statement a.relabelling.to) (relabel_statement b.relabelling.to) D.statements (λ st i.
      let v = each-from_All (IsValidStatement D.nodes) D.statements st valid.valid i in
      quad_agree a.relabelling.to b.relabelling.to st v.predicate_kind (λ n m. agree n (mentioned_low D.nodes n st v m)))

  same_quads : HaveSameQuads E F
  same_quads = record {
    nodes = b.carries.nodes ∙ sym a.carries.nodes;
    statements = permutes_trans (Permutes-sym a.carries.statements) (permutes_trans (Permutes-from_equal same_statements) b.carries.statements);
  }

  form_same : (c : List ℕ) → canonical_form E c ≡ canonical_form F c
  form_same c = joined_sorted-Permutes (Permutes-map (canonical_line (issued_names Canonical c)) same_quads.statements)

  pub chosen_form-numbered : (ρ : Hashing) → chosen_form ρ E ≡ chosen_form ρ F
  chosen_form-numbered ρ = form_same (counted_run ρ E).value ∙ ap (λ r. canonical_form F r.value) (sym (counted_run_of_quads ρ E F same_quads))

  pub units-numbered : (ρ : Hashing) → units_of ρ E ≡ units_of ρ F
  units-numbered ρ = sym (ap (λ (r : Counted (List ℕ)). r.trace.units) (counted_run_of_quads ρ E F same_quads))

pub one_form_along : OneFormAlong
one_form_along ρ D t valid a b f g = f.chosen ∙ chosen_form-numbered D f.numbered g.numbered valid _ f.along g.along ρ ∙ sym g.chosen

pub one_limit_along : OneLimitAlong
one_limit_along ρ D t valid limit p w =
    let passes : limit < units_of ρ p.numbered = p.passes in
    let within : units_of ρ w.numbered ≤ limit = w.within in
    let same : units_of ρ p.numbered ≡ units_of ρ w.numbered = units-numbered D p.numbered w.numbered valid _ p.along w.along ρ in
    omega (arith, passes, within, same)
