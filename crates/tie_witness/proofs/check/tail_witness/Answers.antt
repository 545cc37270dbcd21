use Rattle.std.proofs.Common.{subst, sym, true≢false, List, ℕ, ◌∙◌}
use Rattle.rdf_terms.proofs.Common.{dataset, In}
use Rattle.canon_model.proofs.LocalSymmetry.{are_quads}
use Rattle.tie_witness.specs.Moving.{CarriesQuadsOfMoved, image_in}
use Rattle.tie_witness.specs.Witness.{IsWitness, right_of}
use Rattle.tie_witness.proofs.Judging.{is_witness, not_joined, pairs-of_nodes, tails-are}
use Rattle.tie_witness.proofs.check.tail_witness.Goals as goal

pub moved_pairs-requires : goal.moved_pairs-requires
moved_pairs-requires c = tails-are (dataset c.args.dataset.now) c.args.canon.now.list c.args.passed c.args.left.now c.args.tail.now c.requires c.if-left_tail-tail.false

pub carries_moved-requires-clause-nodes : goal.carries_moved-requires-clause-nodes
carries_moved-requires-clause-nodes c = λ x y h.
    (pairs-of_nodes
    (dataset c.args.dataset.now) c.args.canon.now.list c.args.passed c.args.left.now c.args.tail.now c.requires c.in_ok-pairs.pairs.items c.in_ok-pairs.ensures.moved c.if-left_tail-tail.false x y
    (subst (λ (l : List (ℕ × ℕ)). In (x, y) l) c.as_slice.ensures.value h)).1

pub carries_moved-requires-clause-moved : goal.carries_moved-requires-clause-moved
carries_moved-requires-clause-moved c = λ x y h.
    (pairs-of_nodes
    (dataset c.args.dataset.now) c.args.canon.now.list c.args.passed c.args.left.now c.args.tail.now c.requires c.in_ok-pairs.pairs.items c.in_ok-pairs.ensures.moved c.if-left_tail-tail.false x y
    (subst (λ (l : List (ℕ × ℕ)). In (x, y) l) c.as_slice.ensures.value h)).0

pub returns-then-not-carries_moved : goal.returns-then-not-carries_moved
returns-then-not-carries_moved c =
    not_joined (dataset c.args.dataset.now) c.args.canon.now.list c.args.passed c.args.left.now c.args.tail.now c.requires c.in_ok-pairs.pairs.items c.in_ok-pairs.ensures.moved
    c.if-left_tail-tail.false
    (are_quads (dataset c.args.dataset.now) c.node_count-nodes.ensures.valid)
    (λ all. true≢false
    (sym (c.carries_moved.ensures.1 (subst (λ (l : List (ℕ × ℕ)). CarriesQuadsOfMoved (dataset c.args.dataset.now) (image_in l) l) (sym c.as_slice.ensures.value) all))
    ∙ c.if-not-carries_moved.true))

pub returns : goal.returns
returns c =
    subst (λ (l : List (ℕ × ℕ)). IsWitness (dataset c.args.dataset.now) c.args.canon.now.list c.args.left.now (right_of c.args.passed c.args.left.now c.args.tail.now) l) (sym c.new.ensures)
    (is_witness (dataset c.args.dataset.now) c.args.canon.now.list c.args.passed c.args.left.now c.args.tail.now c.requires c.in_ok-pairs.pairs.items c.in_ok-pairs.ensures.moved
    c.if-left_tail-tail.false (are_quads (dataset c.args.dataset.now) c.node_count-nodes.ensures.valid) c.in_ok-pairs.ensures.ascend
    (subst (λ (l : List (ℕ × ℕ)). CarriesQuadsOfMoved (dataset c.args.dataset.now) (image_in l) l) c.as_slice.ensures.value (c.carries_moved.ensures.0 c.if-not-carries_moved.false)))
