-- What the steps of reading in pieces do.
use Rattle.std.specs.Prelude.{◌≡◌, ℕ, ◌+◌, ◌*◌, ◌≤◌, Bool, ◌&&◌, List, [], ◌∷◌, ◌++◌, length, drop, if◌then◌else◌}
use Rattle.rdf_terms.specs.Vocabulary.{Text, Document, statements}
use Rattle.nquads_reader.specs.Lines.{lines_of, begins_with_lf}
use Rattle.nquads_reader.specs.Document.{AllState}
use Rattle.nquads_reader.specs.Reading.{IsFaultOf, TakesQuads}
use Rattle.nquads_reader.specs.declared.quad.StatedQuad.{StatedQuad}
use Rattle.nquads_reader.specs.declared.fault.LineFault.{LineFault}

-- ---- bytes

-- an LF at the front belongs to a CR before it
abbrev pub behind_line_end : Bool → Text → Text
behind_line_end after_cr piece = if after_cr && begins_with_lf piece then drop 1 piece else piece

-- the lines that bytes up to a line end make, where a line was begun
abbrev pub ended_lines : Text → Text → List Text
ended_lines tail [] = []
ended_lines tail (c ∷ cs) = lines_of (tail ++ c ∷ cs)

-- what is left of the line that was begun
abbrev pub tail_behind : Text → Text → Text
tail_behind tail [] = tail
tail_behind tail (c ∷ cs) = []

-- ---- lines

-- no line has a fault, what they state is taken, and they are counted
pub record TakesLines (lines : List Text) (old new : Document) (before after : ℕ) : Type 0 where
  pub quads : List StatedQuad
  pub states : AllState lines quads
  pub takes : TakesQuads quads old new
  pub counted : after ≡ before + length lines

-- the lines up to the first one with a fault are taken, and this is its fault
pub record StopsAt (lines : List Text) (fault : LineFault) (old new : Document) (before after : ℕ) : Type 0 where
  pub front : List Text
  pub line : Text
  pub rest : List Text
  pub splits : lines ≡ front ++ line ∷ rest
  pub takes : TakesLines front old new before after
  pub has_fault : IsFaultOf line fault

-- so many bytes are still to be read, and those before them and these are at most so many
pub record HasRoom (limit : ℕ) (draft : Document) (read pending : ℕ) : Type 0 where
  pub quads : 7 * length (statements draft) + pending ≤ limit
  pub labels : 7 * length draft.labels + 3 * pending ≤ 3 * limit
  pub lines : read + pending ≤ limit
