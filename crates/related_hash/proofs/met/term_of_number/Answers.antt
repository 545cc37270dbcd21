use Rattle.std.proofs.Common.{Some, ap, slice_get, sym, ◌∙◌}
use Rattle.dataset_index.proofs.Building.{node_below}
use Rattle.related_hash.proofs.met.term_of_number.Goals as goal

pub returns-clause-known : goal.returns-clause-known
returns-clause-known c =
    λ m h. node_below c.args.dataset.now c.requires.document m c.args.number (ap (λ ts. slice_get ts c.args.number) (sym c.terms.ensures.terms) ∙ sym c.in-Some.ensures.term ∙ ap Some h)
