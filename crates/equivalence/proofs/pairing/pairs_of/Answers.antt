use Rattle.std.proofs.Common.{ℕ, ◌++◌, ◌∷◌, [], if◌then◌else◌, sym, ap, ◌∙◌}
use Rattle.map_search.specs.Marks.{mark_at}
use Rattle.equivalence.proofs.Ascending.{map-passing}
use Rattle.equivalence.proofs.pairing.pairs_of.Goals as goal

pub loop-node-preserved : goal.loop-node-preserved
loop-node-preserved c f h =
    let pair : ℕ → ℕ × ℕ = (λ n. (n, f n)) in
    c.in_ok-push_if.ensures (f c.loop-node.node) (h c.loop-node.node)
    ∙ (ap (λ xs. xs ++ (if mark_at c.args.marks.now c.loop-node.node then (c.loop-node.node, f c.loop-node.node) ∷ [] else [])) (c.loop-node.invariant f h)
    ∙ sym (map-passing pair (mark_at c.args.marks.now) c.loop-node.node))
