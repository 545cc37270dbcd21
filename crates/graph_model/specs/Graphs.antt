-- Maps of blank nodes to terms, and what they make of a graph: instances, endomorphisms, lean graphs (RDF 1.1
-- Semantics, section 4).
use Rattle.std.specs.Prelude.{◌≡◌, ℕ, List, map, All, None}
use Rattle.rdf_terms.specs.Vocabulary.{In, AreDistinct, Statement}
use Rattle.rdf_terms.specs.declared.term.Term.{Term}
use Rattle.rdf_terms.specs.declared.term.Term.TheVariants.{Blank}

-- a graph (RDF 1.1 Concepts, section 3): no quad has a graph name
abbrev pub IsGraph : List Statement → Type 0
IsGraph triples = All (λ st. st.graph_name ≡ None) triples

-- ---- maps of blank nodes to terms

abbrev pub mapped : (ℕ → Term) → Term → Term
mapped μ (Blank n) = μ n
mapped μ t = t

-- a predicate is an IRI, which every map keeps
abbrev pub mapped_triple : (ℕ → Term) → Statement → Statement
mapped_triple μ st =
    record {
      subject = mapped μ st.subject;
      predicate = st.predicate;
      object = mapped μ st.object;
      graph_name = st.graph_name;
    }

-- the first map, and then the second
abbrev pub composed : (ℕ → Term) → (ℕ → Term) → ℕ → Term
composed μ ν n = mapped ν (μ n)

-- ---- a map of one graph into another

-- every triple of the one is a triple of the other
abbrev pub LiesWithin : List Statement → List Statement → Type 0
LiesWithin G H = (st : Statement) → In st G → In st H

-- the map carries every triple of G into H
abbrev pub CarriesInto : (ℕ → Term) → List Statement → List Statement → Type 0
CarriesInto μ G H = (st : Statement) → In st G → In (mapped_triple μ st) H

abbrev pub IsEndomorphism : (ℕ → Term) → List Statement → Type 0
IsEndomorphism μ G = CarriesInto μ G G

-- some triple of G is carried to this one
abbrev pub IsReached : (ℕ → Term) → List Statement → Statement → Type 0
IsReached μ G st = In st (map (mapped_triple μ) G)

-- H is the image: the carried triples, each once
pub record IsImage (μ : ℕ → Term) (G H : List Statement) : Type 0 where
  pub distinct : AreDistinct H
  pub carried : CarriesInto μ G H
  pub nothing_else : (st : Statement) → In st H → IsReached μ G st

-- I is an instance of G (RDF 1.1 Semantics, section 4): what some map of blank nodes makes of it
pub record IsInstance (G I : List Statement) : Type 0 where
  pub μ : ℕ → Term
  pub is_image : IsImage μ G I

-- H is a proper part of G: a triple of G is none of H
pub record IsProperPart (H G : List Statement) : Type 0 where
  pub within : LiesWithin H G
  pub triple : Statement
  pub there : In triple G
  pub missing : ¬ (In triple H)

-- every endomorphism carries G onto the whole of G, so no instance of G is a proper part of it (RDF 1.1 Semantics,
-- section 4)
abbrev pub IsLean : List Statement → Type 0
IsLean G = (μ : ℕ → Term) → IsEndomorphism μ G → (st : Statement) → In st G → IsReached μ G st
