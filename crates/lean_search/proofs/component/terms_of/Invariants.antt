use Rattle.std.proofs.Common.{◌≡◌, ◌<◌, take, map, length}
use Rattle.std.specs.List.{All}
use Rattle.rdf_terms.specs.Document.{term_at}
use Rattle.rdf_terms.specs.declared.term.Term.TheVariants.{Blank}
use Rattle.lean_search.proofs.component.terms_of.Given as goal

abbrev pub invariant-loop-node : goal.invariant-loop-node
invariant-loop-node l = record {
  terms : map (term_at l.graph.terms) l.terms.items ≡ map Blank (take l.node-index l.walk);
  in_range : All (λ t. t < length l.graph.terms) l.terms.items;
}
