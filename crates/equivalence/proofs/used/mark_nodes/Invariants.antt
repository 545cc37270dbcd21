use Rattle.std.proofs.Common.{◌≡◌, ℕ, length, take}
use Rattle.std.specs.List.{list_any}
use Rattle.rdf_terms.specs.Dataset.{mentions}
use Rattle.rdf_terms.specs.Document.{statement}
use Rattle.map_search.specs.Marks.{mark_at}
use Rattle.equivalence.proofs.used.mark_nodes.Given as goal

abbrev pub invariant-loop-triple : goal.invariant-loop-triple
invariant-loop-triple l = record {
  count : length l.marks ≡ length l.graph.labels;
  marks : (k : ℕ) → mark_at l.marks k ≡ list_any (λ q. mentions k (statement l.graph.terms q)) (take l.triple-index l.triples);
}
