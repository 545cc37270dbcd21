-- Canonical lines have no fault, so they are refused only where memory is.
use Rattle.std.proofs.Common.{◌≡◌, ℕ, suc, ◌≤◌, List, [], ◌∷◌, All, map, length, refl, ap, arith}
use Rattle.std.specs.List.{AllZip}
use Rattle.std.proofs.lemmas.List.{length-map}
use Rattle.rdf_terms.proofs.Common.{Text, joined, Statement, IsValidStatement, Naming, canonical_line}
use Rattle.rdf_terms.specs.declared.term.Label.{Label}
use Rattle.canonical_writer.specs.Determined.{HasPlainNames}
use Rattle.nquads_reader.specs.Lines.{lines_of}
use Rattle.nquads_reader.specs.Document.{AllState, IsNotUtf8, IsBad, HasRelativeIri, AreRead, IsCauseOf, IsStatementOf}
use Rattle.nquads_reader.specs.declared.TheConstants.{MAX_QUADS}
use Rattle.nquads_reader.specs.declared.fault.ReadFault.{ReadFault}
use Rattle.nquads_reader.specs.declared.fault.ReadFault.TheVariants.{NotUtf8, BadLine, RelativeIri, TooManyQuads, NoMemory}
use Rattle.nquads_reader.specs.declared.quad.StatedQuad.{StatedQuad}
use Rattle.nquads_reader.proofs.Causes.{no_fault_of_lines, not_utf8_passed, bad_passed, relative_passed}
use Rattle.nquads_reader.proofs.OneReading.{state-same}
use Rattle.nquads_reader.proofs.Room.{all_room}
use Rattle.nquads_reader.proofs.WrittenLines.{lines_state}
use Rattle.nquads_reader.proofs.WrittenQuads.{written_quad}
use Rattle.nquads_reader.proofs.WrittenTerms.{HasNoEmptyName}

one_for_each : {A B : Type 0} (R : A → B → Type 0) (xs : List A) (ys : List B) → AllZip R xs ys → length ys ≡ length xs
one_for_each R [] [] h = refl
one_for_each R [] (y ∷ ys) h = absurd h
one_for_each R (x ∷ xs) [] h = absurd h
one_for_each R (x ∷ xs) (y ∷ ys) h = ap suc (one_for_each R xs ys h.1)

-- there are no more distinct quads than lines that state one
few : (lines : List Text) (quads : List StatedQuad) (labels : List Label) (sts : List Statement) → AllState lines quads → AreRead lines labels sts → length sts ≤ length quads
few lines quads labels sts all read =
    omega (
      arith,
      all_room [] read.numbered sts read.statements_are,
      one_for_each (IsStatementOf labels) read.stated read.numbered read.numbers,
      ap length (state-same lines read.stated quads read.faultless all),
    )

module _ (ν : Naming) (nodes : ℕ) (sts : List Statement) (plain : HasPlainNames nodes ν) (named : HasNoEmptyName nodes ν) (valid : All (IsValidStatement nodes) sts)
    (within : length sts ≤ MAX_QUADS) where
  abbrev bytes : Text
  bytes = joined (map (canonical_line ν) sts)

  all_state : AllState (lines_of bytes) (map (written_quad ν) sts)
  all_state = lines_state ν nodes plain named sts valid

  pub canonical_lines_no_cause : (cause : ReadFault) → IsCauseOf bytes cause → cause ≡ NoMemory
  canonical_lines_no_cause (NotUtf8 line) h = absurd (no_fault_of_lines (lines_of bytes) _ IsNotUtf8 line all_state h not_utf8_passed)
  canonical_lines_no_cause (BadLine line) h = absurd (no_fault_of_lines (lines_of bytes) _ IsBad line all_state h bad_passed)
  canonical_lines_no_cause (RelativeIri line) h = absurd (no_fault_of_lines (lines_of bytes) _ HasRelativeIri line all_state h relative_passed)
  canonical_lines_no_cause TooManyQuads h = absurd (omega (arith, h.3, few (lines_of bytes) (map (written_quad ν) sts) h.0 h.1 all_state h.2, length-map sts (written_quad ν)))
  canonical_lines_no_cause NoMemory h = refl
