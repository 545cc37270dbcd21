use Rattle.std.proofs.Common.{length}
use Rattle.rdf_terms.specs.CanonicalForm.{issued_name}
use Rattle.rdf_terms.specs.declared.term.Prefix.TheVariants.{Canonical}
use Rattle.canonical_writer.proofs.NamedNodes.{All-HasNames-valid, IsSome-issued_name}
use Rattle.canon_core.proofs.form.write_in_order.Goals as goal

pub write_sorted-requires-clause-named : goal.write_sorted-requires-clause-named
write_sorted-requires-clause-named c =
    let nodes = length c.args.dataset.now.labels in
    let name = issued_name Canonical c.args.order.now in
    let named = All-HasNames-valid nodes name (λ n l. IsSome-issued_name Canonical c.args.order.now n
    ((c.requires.order.all n).1 l)) c.args.dataset.now.terms c.args.dataset.now.quads c.requires.valid.valid in
    rw (c.in_ok-names.ensures, c.terms.ensures.terms, c.quads.ensures.quads) named
