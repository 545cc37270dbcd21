use Rattle.std.proofs.Common.{◌↔◌, IsTrue, subst, sym, ap, ◌∙◌}
use Rattle.rdf_terms.specs.Dataset.{IsUsed}
use Rattle.std.specs.List.{list_any}
use Rattle.map_search.specs.Marks.{mark_at}
use Rattle.lean_search.specs.Image.{left}
use Rattle.lean_search.proofs.AtNodes.{any_left}
use Rattle.lean_search.proofs.left.is_left.Goals as goal

pub returns : goal.returns
returns c =
    let e = any_left c.args.graph.now c.args.index.now.live c.args.node in
    let f = c.has_any.ensures in
    let g = c.quads_of.ensures in
    subst (λ b. IsTrue b ↔ IsUsed (left c.args.graph.now c.args.index.now.live) c.args.node) (sym (f ∙ ap (list_any (mark_at c.args.index.now.live)) g)) e
