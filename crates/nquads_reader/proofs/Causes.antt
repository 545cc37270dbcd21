-- A document that is read has no fault, and one that is not read has one cause.
use Rattle.std.proofs.Common.{◌≡◌, ◌≢◌, ℕ, zero, suc, ◌-◌, ◌<◌, ◌≤◌, List, [], ◌∷◌, Some, IfSome, All, length, take, slice_get, refl, ap, subst, inl, inr, arith}
use Rattle.std.proofs.lemmas.Bool.{cases_lt}
use Rattle.std.proofs.lemmas.List.Elements.{All-head, All-tail}
use Rattle.rdf_terms.proofs.Common.{Text, Statement}
use Rattle.rdf_terms.specs.declared.term.Label.{Label}
use Rattle.nquads_reader.specs.Lines.{lines_of}
use Rattle.nquads_reader.specs.Document.{AllState, HasAbsoluteIris, IsNotUtf8, IsBad, HasRelativeIri, IsLeastFaulty, IsNQuads, IsCauseOf}
use Rattle.nquads_reader.specs.declared.TheConstants.{MAX_QUADS}
use Rattle.nquads_reader.specs.declared.quad.StatedQuad.{StatedQuad}
use Rattle.nquads_reader.specs.declared.fault.ReadFault.{ReadFault}
use Rattle.nquads_reader.specs.declared.fault.ReadFault.TheVariants.{NotUtf8, BadLine, RelativeIri, TooManyQuads, NoMemory}
use Rattle.nquads_reader.proofs.LineTerms.{stated_same}
use Rattle.nquads_reader.proofs.OneReading.{AreRead-same}
use Rattle.nquads_reader.proofs.ReadLines.{IsPassed, all_passed}

-- ---- lines without fault

passed_at : (lines : List Text) (k : ℕ) (line : Text) → All IsPassed lines → slice_get lines k ≡ Some line → IsPassed line
passed_at [] zero line all at = cc
passed_at [] (suc k) line all at = cc
passed_at (x ∷ xs) zero line all at = let same : x ≡ line = cc in subst IsPassed same (All-head IsPassed x xs all)
passed_at (x ∷ xs) (suc k) line all at = passed_at xs k line (All-tail IsPassed x xs all) at

front_at : (lines : List Text) (n k : ℕ) (line : Text) → k < n → slice_get lines k ≡ Some line → slice_get (take n lines) k ≡ Some line
front_at lines zero k line less at = absurd (omega arith)
front_at [] (suc n) k line less at = at
front_at (x ∷ xs) (suc n) zero line less at = at
front_at (x ∷ xs) (suc n) (suc k) line less at = front_at xs n k line (omega arith) at

-- ---- two faults of one line

abbrev Excludes : (Text → Type 0) → (Text → Type 0) → Type 0
Excludes HasFault HasOther = (line : Text) → HasFault line → HasOther line → ⊥

pub not_utf8_passed : (line : Text) → IsNotUtf8 line → IsPassed line → ⊥
not_utf8_passed line fault passed = fault passed.1.utf8

pub bad_passed : (line : Text) → IsBad line → IsPassed line → ⊥
bad_passed line fault passed = fault.1 passed.0 passed.1.states

pub relative_passed : (line : Text) → HasRelativeIri line → IsPassed line → ⊥
relative_passed line fault passed =
    let relative = fault.1 in
    let same = stated_same line passed.0 (Some relative.0) passed.1.states relative.1 in
    relative.2 (subst (λ stated. IfSome stated HasAbsoluteIris) same passed.1.absolute)

not_utf8_bad : Excludes IsNotUtf8 IsBad
not_utf8_bad line fault other = fault other.0

not_utf8_relative : Excludes IsNotUtf8 HasRelativeIri
not_utf8_relative line fault other = fault other.0

bad_relative : Excludes IsBad HasRelativeIri
bad_relative line fault other = fault.1 (Some other.1.0) other.1.1

-- ---- the least faulty line is one

module _ (lines : List Text) (HasFault HasOther : Text → Type 0) (m n : ℕ) (a : IsLeastFaulty HasFault lines m) (b : IsLeastFaulty HasOther lines n) where
  not_before : Excludes HasFault IsPassed → m < n → ⊥
  not_before excludes less = excludes a.line a.fault (passed_at (take (n - 1) lines) (m - 1) a.line b.before (front_at lines (n - 1) (m - 1) a.line (omega arith) a.at))

module _ (lines : List Text) (HasFault HasOther : Text → Type 0) (m n : ℕ) (a : IsLeastFaulty HasFault lines m) (b : IsLeastFaulty HasOther lines n) (x : Excludes HasFault IsPassed)
    (y : Excludes HasOther IsPassed) where
  same_line : m ≡ n
  same_line =
      elim (cases_lt m n) as (λ _. m ≡ n) [
        | inl less ↦ absurd (not_before lines HasFault HasOther m n a b x less)
        | inr more ↦ elim (cases_lt n m) as (λ _. m ≡ n) [
          | inl less ↦ absurd (not_before lines HasOther HasFault n m b a y less)
          | inr least ↦ omega arith
        ]
      ]

  same_text : a.line ≡ b.line
  same_text =
      let at : slice_get lines (n - 1) ≡ Some a.line = subst (λ k. slice_get lines (k - 1) ≡ Some a.line) same_line a.at in
      let there : slice_get lines (n - 1) ≡ Some b.line = b.at in
      cc

  no_two : Excludes HasFault HasOther → ⊥
  no_two excludes = excludes b.line (subst HasFault same_text a.fault) b.fault

-- ---- a document that is read

pub no_fault_of_lines : (lines : List Text) (quads : List StatedQuad) (HasFault : Text → Type 0) (n : ℕ) → AllState lines quads → IsLeastFaulty HasFault lines n
    → ((line : Text) → HasFault line → IsPassed line → ⊥) → ⊥
no_fault_of_lines lines quads HasFault n all least excludes = excludes least.line least.fault (passed_at lines (n - 1) least.line (all_passed lines quads all) least.at)

no_fault : (bytes : Text) (labels : List Label) (sts : List Statement) (HasFault : Text → Type 0) (n : ℕ) → IsNQuads bytes labels sts → IsLeastFaulty HasFault (lines_of bytes) n
    → Excludes HasFault IsPassed → ⊥
no_fault bytes labels sts HasFault n read least excludes = no_fault_of_lines (lines_of bytes) read.stated HasFault n read.faultless least excludes

pub no_cause : (bytes : Text) (labels : List Label) (sts : List Statement) → IsNQuads bytes labels sts → length sts ≤ MAX_QUADS → (fault : ReadFault) → IsCauseOf bytes fault → fault ≡ NoMemory
no_cause bytes labels sts read within (NotUtf8 n) h = absurd (no_fault bytes labels sts IsNotUtf8 n read h not_utf8_passed)
no_cause bytes labels sts read within (BadLine n) h = absurd (no_fault bytes labels sts IsBad n read h bad_passed)
no_cause bytes labels sts read within (RelativeIri n) h = absurd (no_fault bytes labels sts HasRelativeIri n read h relative_passed)
no_cause bytes labels sts read within TooManyQuads h =
    let same = (AreRead-same (lines_of bytes) labels h.0 sts h.1 read h.2).1 in
    absurd (omega (arith, ap length same, h.3))
no_cause bytes labels sts read within NoMemory h = refl

-- ---- a document that is not read

module _ (bytes : Text) where
  abbrev lines : List Text
  lines = lines_of bytes

  abbrev no_quads : (HasFault : Text → Type 0) (n : ℕ) → IsLeastFaulty HasFault lines n → IsCauseOf bytes TooManyQuads → Excludes HasFault IsPassed → ⊥
  no_quads HasFault n least many excludes = no_fault bytes many.0 many.1 HasFault n many.2 least excludes

  pub causes_same : (x y : ReadFault) → IsCauseOf bytes x → IsCauseOf bytes y → x ≢ NoMemory → y ≢ NoMemory → x ≡ y
  causes_same NoMemory y h k memory other = absurd (memory refl)
  causes_same x NoMemory h k memory other = absurd (other refl)
  causes_same (NotUtf8 m) (NotUtf8 n) h k memory other = ap NotUtf8 (same_line lines IsNotUtf8 IsNotUtf8 m n h k not_utf8_passed not_utf8_passed)
  causes_same (NotUtf8 m) (BadLine n) h k memory other = absurd (no_two lines IsNotUtf8 IsBad m n h k not_utf8_passed bad_passed not_utf8_bad)
  causes_same (NotUtf8 m) (RelativeIri n) h k memory other = absurd (no_two lines IsNotUtf8 HasRelativeIri m n h k not_utf8_passed relative_passed not_utf8_relative)
  causes_same (NotUtf8 m) TooManyQuads h k memory other = absurd (no_quads IsNotUtf8 m h k not_utf8_passed)
  causes_same (BadLine m) (NotUtf8 n) h k memory other = absurd (no_two lines IsNotUtf8 IsBad n m k h not_utf8_passed bad_passed not_utf8_bad)
  causes_same (BadLine m) (BadLine n) h k memory other = ap BadLine (same_line lines IsBad IsBad m n h k bad_passed bad_passed)
  causes_same (BadLine m) (RelativeIri n) h k memory other = absurd (no_two lines IsBad HasRelativeIri m n h k bad_passed relative_passed bad_relative)
  causes_same (BadLine m) TooManyQuads h k memory other = absurd (no_quads IsBad m h k bad_passed)
  causes_same (RelativeIri m) (NotUtf8 n) h k memory other = absurd (no_two lines IsNotUtf8 HasRelativeIri n m k h not_utf8_passed relative_passed not_utf8_relative)
  causes_same (RelativeIri m) (BadLine n) h k memory other = absurd (no_two lines IsBad HasRelativeIri n m k h bad_passed relative_passed bad_relative)
  causes_same (RelativeIri m) (RelativeIri n) h k memory other = ap RelativeIri (same_line lines HasRelativeIri HasRelativeIri m n h k relative_passed relative_passed)
  causes_same (RelativeIri m) TooManyQuads h k memory other = absurd (no_quads HasRelativeIri m h k relative_passed)
  causes_same TooManyQuads (NotUtf8 n) h k memory other = absurd (no_quads IsNotUtf8 n k h not_utf8_passed)
  causes_same TooManyQuads (BadLine n) h k memory other = absurd (no_quads IsBad n k h bad_passed)
  causes_same TooManyQuads (RelativeIri n) h k memory other = absurd (no_quads HasRelativeIri n k h relative_passed)
  causes_same TooManyQuads TooManyQuads h k memory other = refl
