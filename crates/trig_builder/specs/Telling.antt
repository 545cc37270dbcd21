-- How what is held by numbers of blank nodes stands for what has been told.
use Rattle.std.specs.Prelude.{◌≡◌, ◌⊎◌, ◌<◌, ℕ, List, [], ◌++◌, Option, Some, None, IfSome, reverse, length}
use Rattle.std.specs.List.{AllZip}
use Rattle.rdf_terms.specs.Vocabulary.{In, Statement, IsIri, IsValidTerm, AddsAll, Document, statements}
use Rattle.rdf_terms.specs.declared.term.Term.{Term}
use Rattle.rdf_terms.specs.declared.term.Term.TheVariants.{Blank}
use Rattle.rdf_terms.specs.declared.term.Label.{Label}
use Rattle.trig_terms.specs.Meaning.{Said, StatedQuad, Told, Place}
use Rattle.trig_terms.specs.Meaning.Place.{AtSubject, AtVerb, AtObject, InItems, AtItem, AtPrefixName, AtPrefixIri, AtBaseIri}
use Rattle.trig_builder.specs.declared.TheConstants.{MAX_QUADS}
use Rattle.trig_builder.specs.declared.telling.Telling.{Telling}
use Rattle.trig_builder.specs.declared.place.Place.{Place as HeldPlace}
use Rattle.trig_builder.specs.declared.place.Place.TheVariants.{AtSubject as Subject, AtVerb as Verb, AtObject as Object, InItems as Items, AtItem as Item, AtPrefixName as PrefixName, AtPrefixIri as PrefixIri, AtBaseIri as BaseIri}
use Rattle.trig_builder.specs.Numbered.{IsTermOf, IsGraphNameOf, IsStatementOf, IsName}

pub record View : Type 0 where
  pub labels : List Label
  pub said : List Statement
  pub place : HeldPlace
  pub outer : List HeldPlace  -- the innermost first
  pub graph_name : Option Term
  pub opened : ℕ

abbrev pub view_of : Telling → View
view_of t = record {
  labels = t.draft.labels;
  said = statements t.draft;
  place = t.place;
  outer = reverse t.outer.items;
  graph_name = t.graph_name;
  opened = t.opened;
}

-- ---- places

-- what names the graph that begins here
abbrev pub graph_at : HeldPlace → Option Term
graph_at (Verb label) = Some label
graph_at _ = None

abbrev pub with_verb : Term → HeldPlace → HeldPlace
with_verb verb (Verb subject) = Object subject verb
with_verb verb place = place

abbrev pub without_verb : HeldPlace → HeldPlace
without_verb (Object subject verb) = Verb subject
without_verb place = place

-- ---- what is so at each time, whatever was told

-- a subject is a name, a verb a valid IRI, and a cell one of so many blank nodes
abbrev pub IsSoundPlace : ℕ → HeldPlace → Type 0
IsSoundPlace nodes (Verb subject) = IsName nodes subject
IsSoundPlace nodes (Object subject verb) = IsName nodes subject × (IsIri verb × IsValidTerm nodes verb)
IsSoundPlace nodes (Items last) = IfSome last (λ n. n < nodes)
IsSoundPlace nodes (Item n) = n < nodes
IsSoundPlace nodes _ = Unit {0}

pub record IsSound (v : View) : Type 0 where
  pub graph_name : IfSome v.graph_name (IsName (length v.labels))
  pub place : IsSoundPlace (length v.labels) v.place
  pub outer : (p : HeldPlace) → In p v.outer → IsSoundPlace (length v.labels) p

-- ---- what has been told

abbrev pub IsCell : List Label → Option ℕ → Option Said → Type 0
IsCell labels None None = Unit {0}
IsCell labels (Some n) (Some said) = IsTermOf labels said (Blank n)
IsCell labels _ _ = ⊥

abbrev pub IsPlace : List Label → HeldPlace → Place → Type 0
IsPlace labels Subject AtSubject = Unit {0}
IsPlace labels (Verb s) (AtVerb subject) = IsTermOf labels subject s
IsPlace labels (Object s v) (AtObject subject verb) = IsTermOf labels subject s × IsTermOf labels verb v
IsPlace labels (Items last) (InItems cell) = IsCell labels last cell
IsPlace labels (Item n) (AtItem cell) = IsTermOf labels cell (Blank n)
IsPlace labels PrefixName AtPrefixName = Unit {0}
IsPlace labels PrefixIri AtPrefixIri = Unit {0}
IsPlace labels BaseIri AtBaseIri = Unit {0}
IsPlace labels _ _ = ⊥

-- All that was said is there, each once; or there is more than a document may have of what was said up to some quad,
-- and the rest was passed over.
pub record IsDrafted (labels : List Label) (quads : List StatedQuad) (drafted : List Statement) : Type 0 where
  pub front : List Statement
  pub passed_over : List Statement
  pub numbers : AllZip (IsStatementOf labels) quads (front ++ passed_over)
  pub adds : AddsAll [] front drafted
  pub all_or_full : (passed_over ≡ []) ⊎ (MAX_QUADS < length drafted)

pub record Tells (v : View) (t : Told) : Type 0 where
  pub place : IsPlace v.labels v.place t.place
  pub outer : AllZip (IsPlace v.labels) v.outer t.outer
  pub graph_name : IsGraphNameOf v.labels t.graph_name v.graph_name
  pub opened : v.opened ≡ t.opened
  pub labels : AddsAll [] t.mentioned v.labels
  pub drafted : IsDrafted v.labels t.quads v.said

-- the draft holds what was said: its blank nodes are those that were mentioned, in the order of their first mention,
-- and its quads those that were said, each once
pub record Drafts (d : Document) (t : Told) : Type 0 where
  pub labels : AddsAll [] t.mentioned d.labels
  pub drafted : IsDrafted d.labels t.quads (statements d)
