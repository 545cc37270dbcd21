-- A document whose quads ascend, with an index of its nodes.
use Rattle.std.specs.Prelude.{◌≡◌, ℕ, ◌<◌, List, Some, map, length, slice_get, slice_index}
use Rattle.rdf_terms.specs.Vocabulary.{AreDistinct, numbers_below, Document, IsDocument, statements}
use Rattle.rdf_terms.specs.Lexicon.{Lexicon}
use Rattle.rdf_terms.specs.declared.term.Quad.{Quad}
use Rattle.rdf_terms.specs.declared.term.Term.TheVariants.{Blank}
use Rattle.dataset_index.specs.QuadOrder.{Ascend}
use Rattle.dataset_index.specs.Mentions.{places_of}

-- the document of these terms and labels with these quads
abbrev pub with_quads : Lexicon → List Quad → Document
with_quads l quads = record { terms = l.terms; quads = quads; labels = l.labels }

-- the numbers hold the number of each node's term, and the index holds the places of each node's quads
pub record IsIndexed (d : Document) (numbers : List ℕ) (index : List (List ℕ)) : Type 0 where
  pub document : IsDocument d
  pub distinct_terms : AreDistinct d.terms
  pub ascend : Ascend d.quads
  pub numbers_count : length numbers ≡ length d.labels
  pub numbers_are : (n : ℕ) → n < length d.labels → slice_get d.terms (slice_index numbers n) ≡ Some (Blank n)
  pub index_is : index ≡ map (places_of (statements d)) (numbers_below (length d.labels))
