use Rattle.std.proofs.Common.{ap, ◌∙◌}
use Rattle.rdf_terms.proofs.Common.{sorted, sorted_from_sort_by_text}
use Rattle.canonical_writer.proofs.lines.Lines.sorted.Goals as goal

pub returns : goal.returns
returns c =
    let in_order = c.sort_unstable.ensures in
    sorted_from_sort_by_text (λ p. p.now) _ _ in_order.permutation in_order.sorted ∙ ap sorted c.in_ok-lines.ensures
