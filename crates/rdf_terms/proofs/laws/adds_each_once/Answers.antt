use Rattle.rdf_terms.specs.Terms.{Statement}
use Rattle.rdf_terms.specs.declared.term.Label.{Label}
use Rattle.rdf_terms.proofs.FirstPlaces.{adds_each_once}
use Rattle.rdf_terms.proofs.laws.adds_each_once.Goals as goal

pub returns-clause-statements : goal.returns-clause-statements
returns-clause-statements c = adds_each_once Statement

pub returns-clause-labels : goal.returns-clause-labels
returns-clause-labels c = adds_each_once Label
