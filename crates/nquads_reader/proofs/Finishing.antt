-- What a reader answers for the bytes that it was fed, and how one that stopped goes on.
use Rattle.std.proofs.Common.{◌≡◌, ◌≢◌, ℕ, ◌+◌, ◌++◌, inl, inr, Some, None, length, sym, ap, subst, ◌∙◌, length-append}
use Rattle.rdf_terms.proofs.Common.{Text, Document, statements}
use Rattle.nquads_reader.specs.Lines.{lines_of}
use Rattle.nquads_reader.specs.Document.{IsNQuads, IsCauseOf}
use Rattle.nquads_reader.specs.Reading.{fault_at}
use Rattle.nquads_reader.specs.Pieces.{Reader, GoesOn, HasStopped, StandsFor}
use Rattle.nquads_reader.specs.Feeding.{TakesLines, StopsAt}
use Rattle.nquads_reader.specs.declared.fault.LineFault.{LineFault}
use Rattle.nquads_reader.specs.declared.fault.LineFault.TheVariants.{NotUtf8, BadLine, RelativeIri, NoMemory}
use Rattle.nquads_reader.specs.declared.fault.ReadFault.{ReadFault}
use Rattle.nquads_reader.proofs.Pieces.{all_read, last_stops, stays_stopped, stopped_cause}

-- ---- a reader whose ended lines have no fault

module _ (reader : Reader) (bytes : Text) (none : reader.fault ≡ None) (stands : StandsFor reader bytes) where
  pub going_on : GoesOn reader bytes
  going_on = elim stands.holds as (λ _. GoesOn reader bytes) [
    | inl goes ↦ goes
    | inr stops ↦ let e : Some stops.fault ≡ None = sym stops.kept ∙ none in cc
  ]

  pub whole_read : (new : Document) (n : ℕ) → TakesLines (lines_of reader.tail) reader.draft new reader.lines n → IsNQuads bytes new.labels (statements new)
  whole_read new n takes = all_read bytes reader.draft reader.lines reader.tail going_on.taken new n takes

  pub last_cause : (new : Document) (n : ℕ) (fault : LineFault) → (fault ≢ NoMemory → StopsAt (lines_of reader.tail) fault reader.draft new reader.lines n) → IsCauseOf bytes (fault_at (n + 1) fault)
  last_cause new n NotUtf8 h = last_stops bytes reader.draft reader.lines reader.tail going_on.taken new n NotUtf8 (λ e. cc) (h (λ e. cc))
  last_cause new n BadLine h = last_stops bytes reader.draft reader.lines reader.tail going_on.taken new n BadLine (λ e. cc) (h (λ e. cc))
  last_cause new n RelativeIri h = last_stops bytes reader.draft reader.lines reader.tail going_on.taken new n RelativeIri (λ e. cc) (h (λ e. cc))
  last_cause new n NoMemory h = tt

-- ---- a reader that stopped

module _ (reader : Reader) (bytes : Text) (fault : ReadFault) (some : reader.fault ≡ Some fault) (stands : StandsFor reader bytes) where
  stopped : HasStopped reader bytes
  stopped = elim stands.holds as (λ _. HasStopped reader bytes) [
    | inl goes ↦ let e : None ≡ Some fault = sym goes.fault ∙ some in cc
    | inr stops ↦ stops
  ]

  pub kept_cause : IsCauseOf bytes fault
  kept_cause =
      let same : stopped.fault ≡ fault = let e : Some stopped.fault ≡ Some fault = sym stopped.kept ∙ some in cc in
      subst (IsCauseOf bytes) same (stopped_cause bytes reader.draft reader.lines stopped.fault stopped.stopped)

  pub stays : (piece : Text) → StandsFor (record reader { fed = reader.fed + length piece }) (bytes ++ piece)
  stays piece = record {
    fed = ap (λ n. n + length piece) stands.fed ∙ sym (length-append bytes piece);
    holds =
        inr (record {
          fault = stopped.fault;
          kept = stopped.kept;
          after_cr = stopped.after_cr;
          tail = stopped.tail;
          stopped = stays_stopped bytes reader.draft reader.lines stopped.fault stopped.stopped piece;
        });
  }
