-- A document that comes in pieces: which of its lines are ended by what came so far, and what a reader holds of it.
use Rattle.std.specs.Prelude.{◌≡◌, ℕ, ◌+◌, Bool, true, false, ◌||◌, ◌==◌, ◌⊎◌, List, [], ◌∷◌, ◌++◌, Option, Some, None, All, length, take}
use Rattle.rdf_terms.specs.Vocabulary.{Text, Document, statements}
use Rattle.nquads_reader.specs.Lines.{lines_of}
use Rattle.nquads_reader.specs.Document.{IsNotUtf8, IsBad, HasRelativeIri, IsLeastFaulty, AreRead}
use Rattle.nquads_reader.specs.declared.fault.ReadFault.{ReadFault}
use Rattle.nquads_reader.specs.declared.fault.ReadFault.TheVariants.{NotUtf8, BadLine, RelativeIri}

-- ---- the last line end

-- LF or CR
abbrev pub is_line_end : ℕ → Bool
is_line_end c = c == 10 || c == 13

-- nothing, or the last byte is LF or CR
abbrev pub IsEnded : Text → Type 0
IsEnded [] = Unit {0}
IsEnded (c ∷ []) = is_line_end c ≡ true
IsEnded (c ∷ (d ∷ cs)) = IsEnded (d ∷ cs)

abbrev pub ends_with_cr : Text → Bool
ends_with_cr [] = false
ends_with_cr (c ∷ []) = c == 13
ends_with_cr (c ∷ (d ∷ cs)) = ends_with_cr (d ∷ cs)

-- the bytes up to the last line end, and those behind it; a CR that is the last byte ends its line
pub record IsCut (bytes ended tail : Text) : Type 0 where
  pub whole : bytes ≡ ended ++ tail
  pub ends : IsEnded ended
  pub no_end : All (λ c. is_line_end c ≡ false) tail

-- ---- what a reader holds

pub record Reader : Type 0 where
  -- what the ended lines state
  pub draft : Document
  -- the bytes of the line that is not ended
  pub tail : Text
  -- whether the last byte was a CR, to whose line end an LF may still belong
  pub after_cr : Bool
  -- how many lines were read
  pub lines : ℕ
  -- why no further line is read
  pub fault : Option ReadFault
  -- how many bytes came
  pub fed : ℕ

-- the ended lines of the bytes have no fault, and this is what they state, how many they are, and what stands behind
-- them
pub record AreTaken (bytes : Text) (draft : Document) (lines : ℕ) (tail : Text) : Type 0 where
  pub ended : Text
  pub cut : IsCut bytes ended tail
  pub counted : lines ≡ length (lines_of ended)
  pub states : AreRead (lines_of ended) draft.labels (statements draft)

-- behind so many lines without a fault comes the first one with a fault, and this is the fault
abbrev pub IsFirstFaultOf : List Text → ℕ → ReadFault → Type 0
IsFirstFaultOf lines before (NotUtf8 n) = (n ≡ before + 1) × IsLeastFaulty IsNotUtf8 lines n
IsFirstFaultOf lines before (BadLine n) = (n ≡ before + 1) × IsLeastFaulty IsBad lines n
IsFirstFaultOf lines before (RelativeIri n) = (n ≡ before + 1) × IsLeastFaulty HasRelativeIri lines n
IsFirstFaultOf lines before _ = ⊥

-- an ended line of the bytes has a fault, and this is what the lines before the first such line state
pub record AreStopped (bytes : Text) (draft : Document) (lines : ℕ) (fault : ReadFault) : Type 0 where
  pub ended : Text
  pub tail : Text
  pub cut : IsCut bytes ended tail
  pub first : IsFirstFaultOf (lines_of ended) lines fault
  pub states : AreRead (take lines (lines_of ended)) draft.labels (statements draft)

-- no ended line has a fault
pub record GoesOn (reader : Reader) (bytes : Text) : Type 0 where
  pub fault : reader.fault ≡ None
  pub after_cr : reader.after_cr ≡ ends_with_cr bytes
  pub taken : AreTaken bytes reader.draft reader.lines reader.tail

-- an ended line has one, which is kept, and nothing behind it is
pub record HasStopped (reader : Reader) (bytes : Text) : Type 0 where
  pub fault : ReadFault
  pub kept : reader.fault ≡ Some fault
  pub after_cr : reader.after_cr ≡ false
  pub tail : reader.tail ≡ []
  pub stopped : AreStopped bytes reader.draft reader.lines fault

-- the reader holds what it is to hold of these bytes, and nothing else of them
pub record StandsFor (reader : Reader) (bytes : Text) : Type 0 where
  pub fed : reader.fed ≡ length bytes
  pub holds : GoesOn reader bytes ⊎ HasStopped reader bytes
