-- What a document states: the distinct quads of its lines in order of first appearance, with nodes numbered by first
-- mention.
use Rattle.std.specs.Prelude.{◌≡◌, ℕ, ◌-◌, ◌<◌, List, [], ◌∷◌, ◌++◌, Option, Some, None, IfSome, IsUtf8, slice_get, length, All, take}
use Rattle.std.specs.List.{flat_map, AllZip}
use Rattle.rdf_terms.specs.Vocabulary.{Text, Statement, HasScheme, AddsAll}
use Rattle.rdf_terms.specs.declared.term.Term.{Term}
use Rattle.rdf_terms.specs.declared.term.Term.TheVariants.{Iri as IriTerm, Blank, Literal as LiteralTerm}
use Rattle.rdf_terms.specs.declared.term.LiteralKind.{LiteralKind}
use Rattle.rdf_terms.specs.declared.term.LiteralKind.TheVariants.{Typed, Tagged}
use Rattle.rdf_terms.specs.declared.term.Label.{Label}
use Rattle.rdf_terms.specs.declared.term.Label.TheVariants.{Named}
use Rattle.nquads_reader.specs.Lines.{lines_of}
use Rattle.nquads_reader.specs.Grammar.{States}
use Rattle.nquads_reader.specs.declared.TheConstants.{MAX_QUADS}
use Rattle.nquads_reader.specs.declared.fault.ReadFault.{ReadFault}
use Rattle.nquads_reader.specs.declared.fault.ReadFault.TheVariants.{NotUtf8, BadLine, RelativeIri, TooManyQuads, NoMemory}
use Rattle.nquads_reader.specs.declared.quad.Resource.{Resource}
use Rattle.nquads_reader.specs.declared.quad.Resource.TheVariants.{Iri, Label as LabelResource}
use Rattle.nquads_reader.specs.declared.quad.Object.{Object}
use Rattle.nquads_reader.specs.declared.quad.Object.TheVariants.{Resource as ResourceObject, Literal as LiteralObject}
use Rattle.nquads_reader.specs.declared.quad.StatedQuad.{StatedQuad}

-- ---- IRIs with a scheme

abbrev pub IsAbsoluteResource : Resource → Type 0
IsAbsoluteResource (Iri iri) = HasScheme iri
IsAbsoluteResource (LabelResource label) = Unit {0}

abbrev pub IsAbsoluteKind : LiteralKind → Type 0
IsAbsoluteKind (Typed iri) = HasScheme iri
IsAbsoluteKind (Tagged tag) = Unit {0}

abbrev pub IsAbsoluteObject : Object → Type 0
IsAbsoluteObject (ResourceObject resource) = IsAbsoluteResource resource
IsAbsoluteObject (LiteralObject literal) = IsAbsoluteKind literal.kind

-- each IRI of the quad has a scheme, that of a datatype too
pub record HasAbsoluteIris (quad : StatedQuad) : Type 0 where
  pub subject : IsAbsoluteResource quad.subject
  pub predicate : HasScheme quad.predicate
  pub object : IsAbsoluteObject quad.object
  pub graph_name : IfSome quad.graph_name IsAbsoluteResource

-- ---- faults of a line

abbrev pub IsNotUtf8 : Text → Type 0
IsNotUtf8 line = ¬ (IsUtf8 line)

-- UTF-8, and not in the grammar
abbrev pub IsBad : Text → Type 0
IsBad line = IsUtf8 line × ((stated : Option StatedQuad) → ¬ (States line stated))

-- UTF-8 and in the grammar, and one of its IRIs has no scheme
abbrev pub HasRelativeIri : Text → Type 0
HasRelativeIri line = IsUtf8 line × ((quad : StatedQuad) × States line (Some quad) × (¬ (HasAbsoluteIris quad)))

-- none of these, and the line states no quad or this one
pub record IsFaultless (line : Text) (stated : Option StatedQuad) : Type 0 where
  pub utf8 : IsUtf8 line
  pub states : States line stated
  pub absolute : IfSome stated HasAbsoluteIris

-- line n, counted from 1, has this fault, and no line before it has any
pub record IsLeastFaulty (HasFault : Text → Type 0) (lines : List Text) (n : ℕ) : Type 0 where
  pub counted : 0 < n
  pub line : Text
  pub at : slice_get lines (n - 1) ≡ Some line
  pub fault : HasFault line
  pub before : All (λ earlier. (stated : Option StatedQuad) × IsFaultless earlier stated) (take (n - 1) lines)

-- ---- what all lines state

abbrev pub quads_in : Option StatedQuad → List StatedQuad
quads_in None = []
quads_in (Some quad) = quad ∷ []

-- no line has a fault, and the quads that they state are these, line by line
abbrev pub AllState : List Text → List StatedQuad → Type 0
AllState [] quads = quads ≡ []
AllState (line ∷ lines) quads =
    (stated : Option StatedQuad) × (more : List StatedQuad) × IsFaultless line stated
    × (quads ≡ quads_in stated ++ more) × AllState lines more

-- ---- nodes: a label names one node in the whole document

abbrev pub labels_of_resource : Resource → List Label
labels_of_resource (Iri iri) = []
labels_of_resource (LabelResource label) = Named label ∷ []

abbrev pub labels_of_object : Object → List Label
labels_of_object (ResourceObject resource) = labels_of_resource resource
labels_of_object (LiteralObject literal) = []

abbrev pub labels_of_graph_name : Option Resource → List Label
labels_of_graph_name None = []
labels_of_graph_name (Some resource) = labels_of_resource resource

-- the labels that a quad mentions, in their order
abbrev pub mentioned : StatedQuad → List Label
mentioned quad =
    labels_of_resource quad.subject ++ (labels_of_object quad.object ++ labels_of_graph_name quad.graph_name)

-- the term for what a line states, where node n has label n
abbrev pub IsResourceTerm : List Label → Resource → Term → Type 0
IsResourceTerm labels (Iri iri) term = term ≡ IriTerm iri
IsResourceTerm labels (LabelResource label) term =
    (n : ℕ) × (slice_get labels n ≡ Some (Named label)) × (term ≡ Blank n)

abbrev pub IsObjectTerm : List Label → Object → Term → Type 0
IsObjectTerm labels (ResourceObject resource) term = IsResourceTerm labels resource term
IsObjectTerm labels (LiteralObject literal) term = term ≡ LiteralTerm literal

abbrev pub IsGraphNameTerm : List Label → Option Resource → Option Term → Type 0
IsGraphNameTerm labels None name = name ≡ None
IsGraphNameTerm labels (Some resource) name = (term : Term) × IsResourceTerm labels resource term × (name ≡ Some term)

pub record IsStatementOf (labels : List Label) (quad : StatedQuad) (statement : Statement) : Type 0 where
  pub subject : IsResourceTerm labels quad.subject statement.subject
  pub predicate : statement.predicate ≡ IriTerm quad.predicate
  pub object : IsObjectTerm labels quad.object statement.object
  pub graph_name : IsGraphNameTerm labels quad.graph_name statement.graph_name

-- ---- the document

-- no line has a fault; node n has label n, in order of first mention; and these are the distinct quads, in order of
-- first appearance
pub record AreRead (lines : List Text) (labels : List Label) (statements : List Statement) : Type 0 where
  pub stated : List StatedQuad
  pub numbered : List Statement
  pub faultless : AllState lines stated
  pub labels_are : AddsAll [] (flat_map mentioned stated) labels
  pub numbers : AllZip (IsStatementOf labels) stated numbered
  pub statements_are : AddsAll [] numbered statements

abbrev pub IsNQuads : Text → List Label → List Statement → Type 0
IsNQuads bytes labels statements = AreRead (lines_of bytes) labels statements

-- why a document is not read
abbrev pub IsCauseOf : Text → ReadFault → Type 0
IsCauseOf bytes (NotUtf8 n) = IsLeastFaulty IsNotUtf8 (lines_of bytes) n
IsCauseOf bytes (BadLine n) = IsLeastFaulty IsBad (lines_of bytes) n
IsCauseOf bytes (RelativeIri n) = IsLeastFaulty HasRelativeIri (lines_of bytes) n
IsCauseOf bytes TooManyQuads =
    (labels : List Label) × (statements : List Statement) × IsNQuads bytes labels statements
    × (MAX_QUADS < length statements)
IsCauseOf bytes NoMemory = Unit {0}
