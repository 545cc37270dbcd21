-- The document has no fault, so no reader may refuse it.
use Rattle.std.proofs.Common.{ℕ, ◌*◌, ◌≤◌, length, subst, arith}
use Rattle.nquads_reader.specs.declared.TheConstants.{MAX_QUADS}
use Rattle.nquads_reader.proofs.CanonicalLines.{canonical_lines_no_cause}
use Rattle.load_document.specs.LoadDocument.{load_document, IsReadable}
use Rattle.load_document.proofs.Statements.{name, plain_names, named, statements_of, statements-valid, document-lines}
use Rattle.load_document.proofs.Sizes.{statements-few}

pub document-readable : (n : ℕ) → 1 ≤ n → n ≤ 400000 → IsReadable (load_document n)
document-readable n least greatest =
    let few : length (statements_of n) ≤ MAX_QUADS = omega (arith, statements-few n) in
    subst IsReadable (document-lines n) (canonical_lines_no_cause name (3 * n) (statements_of n) (plain_names (3 * n)) (named (3 * n)) (statements-valid n least) few)
