use Rattle.std.proofs.Common.{◌≡◌, ◌++◌, map}
use Rattle.rdf_terms.specs.Lists.{In}
use Rattle.rdf_terms.specs.Isomorphism.{relabel_term}
use Rattle.rdf_terms.specs.Document.{number_in}
use Rattle.rdf_terms.specs.HashedTerm.{terms_of}
use Rattle.rdf_terms.specs.declared.term.Term.{Term}
use Rattle.rdf_terms.proofs.table.TermTable.renumbered.Given as goal

abbrev pub invariant-loop-entry : goal.invariant-loop-entry
invariant-loop-entry l = record {
  made : l.fresh ++ map (relabel_term (number_in l.numbers)) (terms_of l.entry-iterator) ≡ map (relabel_term (number_in l.numbers)) l.fn.self;
  known : (t : Term) → In t (terms_of l.entry-iterator) → In t l.fn.self;
}
