-- What an identifier issuer knows (RDF Dataset Canonicalization, section 4.3), and what issuing does to it (section
-- 4.5).
use Rattle.std.specs.Prelude.{ℕ, List, [], ◌∷◌, ◌++◌, is_some, if◌then◌else◌}
use Rattle.rdf_terms.specs.CanonicalForm.{place_of}
use Rattle.rdf_terms.specs.declared.term.Prefix.{Prefix}

-- the prefix of the identifiers, and the nodes that were issued one, in that order: a node's identifier is the prefix
-- and its place in the list
pub record IssuedList : Type 0 where
  pub prefix : Prefix
  pub list : List ℕ

-- the list after an identifier was issued for a node: one that has an identifier keeps it, and any other goes last
abbrev pub list_with : List ℕ → ℕ → List ℕ
list_with list node = if is_some (place_of list node) then list else list ++ node ∷ []
