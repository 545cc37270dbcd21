use Rattle.std.proofs.Common.{List, add-one, drop, drop-cons, get_or, subst, sym, ℕ, ◌+◌, ◌++◌, ◌∙◌, ◌∷◌, ◌≡◌}
use Rattle.canon_model.specs.Issuer.{label}
use Rattle.ndegree_hash.specs.PathChoice.{chosen_if}
use Rattle.ndegree_hash.specs.Walks.{IsWalking}
use Rattle.ndegree_hash.proofs.Agreeing.{has_written}
use Rattle.ndegree_hash.proofs.Keeping.{keeps_trail-node}
use Rattle.rdf_terms.proofs.MadeLists.{In-get_or}
use Rattle.ndegree_hash.proofs.Walking.{walking-goes_on}
use Rattle.ndegree_hash.proofs.walk.walk.Goals as goal

pub returns-then-is_past-clause-sound : goal.returns-then-is_past-clause-sound
returns-then-is_past-clause-sound c =
    keeps_trail-node c.args.canon.now.list c.args.nodes.now c.args.trail.now.list c.loop-node.trail.list c.issue_for.new.trail.list (get_or c.args.nodes.now c.loop-node.node-index 0)
    (In-get_or c.args.nodes.now c.loop-node.node-index 0 c.loop-node-test.true) c.in_ok-issue_for.ensures.list c.loop-node.invariant.sound

pub loop-node-preserved : goal.loop-node-preserved
loop-node-preserved c =
    let n : ℕ = get_or c.args.nodes.now c.loop-node.node-index 0 in
    let rest : List ℕ = drop (c.loop-node.node-index + 1) c.args.nodes.now in
    let split : drop c.loop-node.node-index c.args.nodes.now ≡ n ∷ rest = rw (add-one, drop-cons c.args.nodes.now c.loop-node.node-index 0 c.loop-node-test.true) in
    let w = subst
    (IsWalking c.args.canon.now.list c.args.trail.now.list c.args.nodes.now
    (chosen_if c.args.paths.now.has_choice c.args.paths.now.chosen) c.loop-node.trail.list c.loop-node.paths.path) split c.loop-node.invariant.walking in
    let h = has_written c.args.paths.now c.loop-node.paths _ _ _ _ c.loop-node.invariant.choice c.in_ok-push_label.ensures.ok c.is_past.ensures.skips c.is_past.ensures.unchanged in
    record {
      walking =
          subst (λ t. IsWalking c.args.canon.now.list c.args.trail.now.list c.args.nodes.now (chosen_if c.args.paths.now.has_choice c.args.paths.now.chosen) t c.is_past.new.self.path rest)
          (sym c.in_ok-issue_for.ensures.list)
          (walking-goes_on c.args.canon.now.list c.args.trail.now.list c.args.nodes.now
          (chosen_if c.args.paths.now.has_choice c.args.paths.now.chosen) c.loop-node.trail.list c.loop-node.paths.path n rest w c.is_past.new.self.path
          (subst (λ t. c.is_past.new.self.path ≡ c.loop-node.paths.path ++ label c.args.canon.now.list t n) c.in_ok-issue_for.ensures.list h.path)
          (h.skips ∙ c.if-is_past.false));
      choice = h.choice;
      sound = keeps_trail-node c.args.canon.now.list c.args.nodes.now c.args.trail.now.list c.loop-node.trail.list c.issue_for.new.trail.list n
          (In-get_or c.args.nodes.now c.loop-node.node-index 0 c.loop-node-test.true) c.in_ok-issue_for.ensures.list c.loop-node.invariant.sound;
      prefix = c.issue_for.ensures.prefix ∙ c.loop-node.invariant.prefix;
    }
