-- What is left of the graph of a document: the triples at the places that are marked.
use Rattle.std.specs.Prelude.{◌≡◌, ℕ, Bool, List, map, length, None}
use Rattle.rdf_terms.specs.Vocabulary.{In, AreDistinct, Statement, Document, IsDocument, IsInRange, statement, term_at}
use Rattle.rdf_terms.specs.declared.term.Quad.{Quad}
use Rattle.rdf_terms.specs.declared.term.Term.TheVariants.{Blank}
use Rattle.map_search.specs.Index.{IndexView, kept}

-- a document without graph names
pub record IsOneGraph (d : Document) : Type 0 where
  pub document : IsDocument d
  pub terms_once : AreDistinct d.terms
  pub quads_once : AreDistinct d.quads
  pub in_range : (q : Quad) → In q d.quads → IsInRange d.terms q
  pub unnamed : (q : Quad) → In q d.quads → q.g ≡ None

-- the index is one of the document's quads
pub record IsIndexOf (d : Document) (i : IndexView) : Type 0 where
  pub quads_are : i.quads ≡ d.quads
  pub terms_are : i.terms ≡ length d.terms
  pub count : length i.live ≡ length d.quads

-- the triples that are left, by the numbers of their terms and by their terms
abbrev pub quads_left : Document → List Bool → List Quad
quads_left d live = kept d.quads live

abbrev pub left : Document → List Bool → List Statement
left d live = map (statement d.terms) (quads_left d live)

-- these are the numbers of the terms of some nodes, at the same places
abbrev pub AreTermsOf : Document → List ℕ → List ℕ → Type 0
AreTermsOf d nodes terms = map (term_at d.terms) terms ≡ map Blank nodes
