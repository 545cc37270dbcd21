-- The derived `==` of terms, labels and quads is a test of equality.
use Rattle.rdf_terms.specs.contracts.term.TermPartialEq.TheImpl.{eq-value as eq-term}
use Rattle.rdf_terms.specs.contracts.term.TermEq.TheImpl.Laws.{laws-law as term_law}
use Rattle.rdf_terms.specs.contracts.term.LabelPartialEq.TheImpl.{eq-value as eq-label}
use Rattle.rdf_terms.specs.contracts.term.LabelEq.TheImpl.Laws.{laws-law as label_law}
use Rattle.rdf_terms.specs.contracts.term.QuadPartialEq.TheImpl.{eq-value as eq-quad}
use Rattle.rdf_terms.specs.contracts.term.QuadEq.TheImpl.Laws.{laws-law as quad_law}
use Rattle.rdf_terms.specs.FedAlike.{same_quad}
use Rattle.rdf_terms.proofs.Equal.{same_term, same_label}
use Rattle.rdf_terms.proofs.Membership.{TellsEqual}

pub terms_tell : TellsEqual eq-term.it
terms_tell = record { same = same_term; itself = term_law.refl }

pub labels_tell : TellsEqual eq-label.it
labels_tell = record { same = same_label; itself = label_law.refl }

pub quads_tell : TellsEqual eq-quad.it
quads_tell = record { same = same_quad; itself = quad_law.refl }
