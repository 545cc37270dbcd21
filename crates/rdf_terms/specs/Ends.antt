-- The subject and the object of a statement, the ends of its edge, and their numbers where the table has them.
use Rattle.std.specs.Prelude.{ℕ, List, Option}
use Rattle.std.specs.List.{position}
use Rattle.std.specs.declared.hash.RandomState.{RandomState}
use Rattle.rdf_terms.specs.References.{term_of}
use Rattle.rdf_terms.specs.HashedTerm.{hashed_ref, hashed_of}
use Rattle.rdf_terms.specs.declared.term.Term.{Term}
use Rattle.rdf_terms.specs.declared.term_ref.StatementRef.{StatementRef}
use Rattle.rdf_terms.specs.declared.hashed_term.HashedTerm.{HashedTerm}
use Rattle.rdf_terms.specs.declared.hashed_term.HashedTermRef.{HashedTermRef}
use Rattle.rdf_terms.specs.declared.ends.HashedEnds.{HashedEnds}
use Rattle.rdf_terms.specs.declared.ends.KnownEnds.{KnownEnds}
use Rattle.rdf_terms.specs.contracts.term.TermPartialEq.TheImpl.{eq-value as eq-term}
use Rattle.rdf_terms.specs.contracts.hashed_term.HashedTermPartialEq.TheImpl.{eq-value as eq-hashed}

-- the term's number, where the table has it
abbrev pub number_of : List Term → Term → Option ℕ
number_of terms t = position (eq-term.it t) terms

-- the numbers of the ends of the statement, where the table has them
abbrev pub known_in : List Term → StatementRef → KnownEnds
known_in terms q = record { subject = number_of terms (term_of q.subject); object = number_of terms (term_of q.object) }

-- the ends of the statement, with their hashes
abbrev pub ends_of : RandomState → StatementRef → HashedEnds
ends_of keys q = record { subject = hashed_ref keys q.subject; object = hashed_ref keys q.object }

-- where an entry is that has this hash and this term
abbrev pub place_in : List HashedTerm → HashedTermRef → Option ℕ
place_in entries q = position (eq-hashed.it (hashed_of q)) entries

abbrev pub places_in : List HashedTerm → HashedEnds → KnownEnds
places_in entries ends = record { subject = place_in entries ends.subject; object = place_in entries ends.object }
