-- What a function that reads at the front of a text answers.
use Rattle.std.specs.Prelude.{◌≡◌, ℕ, ◌+◌, ◌*◌, ◌≤◌, List, ◌∷◌, ◌++◌, Option, Some, None, IfSome, IsUtf8, length}
use Rattle.std.specs.List.{flat_map, AllZip}
use Rattle.rdf_terms.specs.Vocabulary.{Text, Statement, IsAbsoluteIri, IsValidKind, Document, AddsAll, statements}
use Rattle.nquads_reader.specs.Lines.{lines_of}
use Rattle.nquads_reader.specs.Document.{IsNotUtf8, IsBad, HasRelativeIri, IsFaultless, quads_in, AllState, mentioned, IsStatementOf}
use Rattle.nquads_reader.specs.declared.quad.Resource.{Resource}
use Rattle.nquads_reader.specs.declared.quad.Resource.TheVariants.{Iri, Label}
use Rattle.nquads_reader.specs.declared.quad.Object.{Object}
use Rattle.nquads_reader.specs.declared.quad.Object.TheVariants.{Resource as ResourceObject, Literal as LiteralObject}
use Rattle.nquads_reader.specs.declared.quad.StatedQuad.{StatedQuad}
use Rattle.nquads_reader.specs.declared.fault.LineFault.{LineFault}
use Rattle.nquads_reader.specs.declared.fault.LineFault.TheVariants.{NotUtf8, BadLine, RelativeIri, NoMemory}
use Rattle.nquads_reader.specs.declared.fault.ReadFault.{ReadFault}
use Rattle.nquads_reader.specs.declared.fault.ReadFault.TheVariants.{NotUtf8 as NotUtf8In, BadLine as BadLineIn, RelativeIri as RelativeIriIn, NoMemory as Memory}

-- the text begins with what was found, seen by view as a value and the rest; where nothing was found, it begins with
-- nothing of the kind
abbrev pub Reads : {X V : Type 0} → (X → V × Text) → (V → Text → Type 0) → Option X → Type 0
Reads {X} {V} view BeginsWith None = (value : V) (rest : Text) → ¬ (BeginsWith value rest)
Reads view BeginsWith (Some x) = BeginsWith (view x).0 (view x).1

-- the line has the fault
abbrev pub IsFaultOf : Text → LineFault → Type 0
IsFaultOf line NotUtf8 = IsNotUtf8 line
IsFaultOf line BadLine = IsBad line
IsFaultOf line RelativeIri = HasRelativeIri line
IsFaultOf line NoMemory = Unit {0}

-- ---- the texts of what a line states are valid

abbrev pub IsValidResource : Resource → Type 0
IsValidResource (Iri iri) = IsAbsoluteIri iri
IsValidResource (Label label) = Unit {0}

abbrev pub IsValidObject : Object → Type 0
IsValidObject (ResourceObject resource) = IsValidResource resource
IsValidObject (LiteralObject literal) = IsUtf8 literal.lexical × IsValidKind literal.kind

pub record IsValidQuad (quad : StatedQuad) : Type 0 where
  pub subject : IsValidResource quad.subject
  pub predicate : IsAbsoluteIri quad.predicate
  pub object : IsValidObject quad.object
  pub graph_name : IfSome quad.graph_name IsValidResource

-- ---- what some lines at the front state

-- the quad that the line states, if any, stands behind the others
pub record Appends (line : Text) (old new : List StatedQuad) : Type 0 where
  pub stated : Option StatedQuad
  pub faultless : IsFaultless line stated
  pub appended : new ≡ old ++ quads_in stated

-- the lines before the rest state the quads, each of which takes seven bytes at least
pub record IsBlock (bytes : Text) (quads : List StatedQuad) (lines : ℕ) (rest : Text) : Type 0 where
  pub passed : List Text
  pub splits : lines_of bytes ≡ passed ++ lines_of rest
  pub states : AllState passed quads
  pub counted : lines ≡ length passed
  pub few : lines + length rest ≤ length bytes
  pub room : 7 * length quads + length rest ≤ length bytes

-- the first line has the fault
pub record IsFaultNext (bytes : Text) (fault : LineFault) : Type 0 where
  pub line : Text
  pub more : List Text
  pub next : lines_of bytes ≡ line ∷ more
  pub has_fault : IsFaultOf line fault

-- the same as a fault of the document
abbrev pub fault_at : ℕ → LineFault → ReadFault
fault_at line NotUtf8 = NotUtf8In line
fault_at line BadLine = BadLineIn line
fault_at line RelativeIri = RelativeIriIn line
fault_at line NoMemory = Memory

-- ---- what quads add to a document

-- the labels that they mention get numbers, and their statements are added
pub record TakesQuads (quads : List StatedQuad) (old new : Document) : Type 0 where
  pub numbered : List Statement
  pub labels : AddsAll old.labels (flat_map mentioned quads) new.labels
  pub numbers : AllZip (IsStatementOf new.labels) quads numbered
  pub adds : AddsAll (statements old) numbered (statements new)
