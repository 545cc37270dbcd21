-- A written text is a document, and what is read of it is the dataset again.
use Rattle.std.proofs.Common.{ℕ, ◌<◌, List, [], All, map, refl, sym, ap, subst, ◌∙◌}
use Rattle.std.specs.List.{flat_map}
use Rattle.rdf_terms.proofs.Common.{In, AreDistinct, joined, sorted, Statement, IsValidStatement, AddsAll, Dataset, IsValid, IsUsed, Relabelling, relabel_statement, Naming, canonical_line, canonical_nquads, In-Permutes, Permutes-sym, Permutes-map, AreDistinct-Permutes, labels_tell, sorted-permutes, add_all, AddsAll-AreDistinct, All-from_each, each-from_All, AreDistinct-map}
use Rattle.rdf_terms.specs.declared.term.Label.{Label}
use Rattle.rdf_terms.proofs.Finishing.{relabel_statement-injective}
use Rattle.canonical_writer.proofs.Matching.{Unmapped, unmapped}
use Rattle.nquads_reader.specs.Lines.{lines_of}
use Rattle.nquads_reader.specs.Document.{AllState, mentioned, IsNQuads}
use Rattle.nquads_reader.specs.RoundTrip.{IsNumbered, ReadsBack}
use Rattle.nquads_reader.specs.declared.quad.StatedQuad.{StatedQuad}
use Rattle.nquads_reader.proofs.OneReading.{AreRead-same}
use Rattle.nquads_reader.proofs.ReadLabels.{NumbersNodes, numbering}
use Rattle.nquads_reader.proofs.WrittenQuads.{written_quad}
use Rattle.nquads_reader.proofs.WrittenLines.{lines_state}
use Rattle.nquads_reader.proofs.NumberedNames.{plain_names, no_empty_name, own_names}
use Rattle.nquads_reader.proofs.ReadStatements.{statements_moved}

module _ (D : Dataset) (ν : Naming) (v : IsValid D) (numbered : IsNumbered D.nodes ν) where
  -- the statements in the order of their lines
  in_order : Unmapped (canonical_line ν) D.statements (sorted (map (canonical_line ν) D.statements))
  in_order = unmapped (canonical_line ν) (sorted-permutes (map (canonical_line ν) D.statements)) D.statements refl

  valid_statement : (st : Statement) → In st in_order.moved → IsValidStatement D.nodes st
  valid_statement st there = each-from_All (IsValidStatement D.nodes) D.statements st v.valid (In-Permutes st (Permutes-sym in_order.permutes) there)

  valid : All (IsValidStatement D.nodes) in_order.moved
  valid = All-from_each (IsValidStatement D.nodes) in_order.moved valid_statement

  used : (n : ℕ) → n < D.nodes → IsUsed in_order.moved n
  used n h = let u = v.used n h in record { statement = u.statement; there = In-Permutes u.statement in_order.permutes u.there; mentioned = u.mentioned }

  abbrev stated : List StatedQuad
  stated = map (written_quad ν) in_order.moved

  faultless : AllState (lines_of (canonical_nquads D ν)) stated
  faultless =
      subst (λ lines. AllState (lines_of (joined lines)) stated) (sym in_order.images)
      (lines_state ν D.nodes (plain_names D.nodes ν numbered) (no_empty_name D.nodes ν numbered) in_order.moved valid)

  read_labels : (labels : List Label) × AddsAll [] (flat_map mentioned stated) labels
  read_labels = add_all _ labels_tell [] (flat_map mentioned stated)

  numbered_labels : NumbersNodes ν D.nodes read_labels.0
  numbered_labels = numbering ν D.nodes in_order.moved read_labels.0 valid used (own_names D.nodes ν numbered) read_labels.1

  abbrev to_labels : Relabelling D.nodes
  to_labels = numbered_labels.relabelling

  abbrev read_statements : List Statement
  read_statements = map (relabel_statement to_labels.to) in_order.moved

  distinct_statements : AreDistinct read_statements
  distinct_statements =
      AreDistinct-map (relabel_statement to_labels.to) in_order.moved
      (λ st su i j e. relabel_statement-injective D.nodes st su (valid_statement st i) (valid_statement su j) to_labels.to
      (λ m n _ _ same. sym (to_labels.from-to m) ∙ ap to_labels.from same ∙ to_labels.from-to n) e)
      (AreDistinct-Permutes in_order.permutes v.distinct)

  is_document : IsNQuads (canonical_nquads D ν) read_labels.0 read_statements
  is_document = record {
    stated = stated;
    numbered = read_statements;
    faultless = faultless;
    labels_are = read_labels.1;
    numbers = statements_moved ν D.nodes read_labels.0 to_labels.to numbered_labels.label in_order.moved valid;
    statements_are = AddsAll-AreDistinct [] read_statements distinct_statements;
  }

  reads_back : ReadsBack D ν read_labels.0 read_statements
  reads_back = record {
    relabelling = to_labels;
    carries = record {
      nodes = numbered_labels.as_many;
      statements = Permutes-map (relabel_statement to_labels.to) in_order.permutes;
    };
    label = numbered_labels.label;
  }

  pub is_read : (labels : List Label) × (statements : List Statement) × IsNQuads (canonical_nquads D ν) labels statements
  is_read = (read_labels.0, read_statements, is_document)

  pub ReadsBack-read : (labels : List Label) (statements : List Statement) → IsNQuads (canonical_nquads D ν) labels statements → ReadsBack D ν labels statements
  ReadsBack-read labels statements h =
      let same = AreRead-same (lines_of (canonical_nquads D ν)) read_labels.0 labels read_statements statements is_document h in
      subst (λ ls. ReadsBack D ν ls statements) same.0 (subst (λ sts. ReadsBack D ν read_labels.0 sts) same.1 reads_back)
