-- Terms with their hashes under the keys of a table.
use Rattle.std.specs.Prelude.{◌≡◌, List, map}
use Rattle.std.specs.declared.hash.RandomState.{RandomState}
use Rattle.rdf_terms.specs.LookupHash.{lookup_hash}
use Rattle.rdf_terms.specs.References.{term_of}
use Rattle.rdf_terms.specs.declared.term.Term.{Term}
use Rattle.rdf_terms.specs.declared.term_ref.TermRef.{TermRef}
use Rattle.rdf_terms.specs.declared.hashed_term.HashedTerm.{HashedTerm}
use Rattle.rdf_terms.specs.declared.hashed_term.HashedTermRef.{HashedTermRef}

-- the term with its hash
abbrev pub hashed : RandomState → Term → HashedTerm
hashed keys t = record { hash = lookup_hash keys t; term = t }

abbrev pub hashed_ref : RandomState → TermRef → HashedTermRef
hashed_ref keys t = record { hash = lookup_hash keys (term_of t); term = t }

-- what a hashed reference stands for
abbrev pub hashed_of : HashedTermRef → HashedTerm
hashed_of r = record { hash = r.hash; term = term_of r.term }

-- the terms alone
abbrev pub terms_of : List HashedTerm → List Term
terms_of entries = map (λ (h : HashedTerm). h.term) entries

-- each hash is that of its term
abbrev pub AreHashed : RandomState → List HashedTerm → Type 0
AreHashed keys entries = entries ≡ map (hashed keys) (terms_of entries)
