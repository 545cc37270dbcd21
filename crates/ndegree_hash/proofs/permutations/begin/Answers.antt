use Rattle.std.proofs.Common.{ap, refl, subst}
use Rattle.rdf_terms.specs.Lists.{In}
use Rattle.ndegree_hash.specs.PathChoice.{PathChoice}
use Rattle.ndegree_hash.proofs.Keeping.{known-begun}
use Rattle.ndegree_hash.proofs.BegunPermutations.{begin-leads-skipped, begin-leads-written, same_choice-begun, walks-begun}
use Rattle.ndegree_hash.proofs.TrailParts.{goes_on}
use Rattle.ndegree_hash.proofs.permutations.begin.Goals as goal

pub walk-requires-clause-path : goal.walk-requires-clause-path
walk-requires-clause-path c = ap (λ (p : PathChoice). p.path) c.begin_path.ensures

pub returns-then-skipped-clause-leads : goal.returns-then-skipped-clause-leads
returns-then-skipped-clause-leads c =
    begin-leads-skipped c.args.canon.now.list c.args.trail.now.list c.walk.new.trail.list c.args.frame.now _ c.nodes.result.now c.in_ok-skipped.skipped c.walk.new.paths.path c.requires.at
    (walks-begun c.args.canon.now.list c.args.trail.now.list _ _ c.args.frame.now.paths _ _ _ c.begin_path.ensures c.in_ok-skipped.ensures.walks) c.nodes.ensures c.if-skipped.true
    (goes_on _ _ _ _ (same_choice-begun _ _ _ c.begin_path.ensures c.in_ok-skipped.ensures.choice))

pub returns-clause-leads : goal.returns-clause-leads
returns-clause-leads c =
    begin-leads-written c.args.canon.now.list c.args.trail.now.list c.walk.new.trail.list c.args.frame.now _ c.nodes.result.now c.in_ok-skipped.skipped c.requires.at
    (walks-begun c.args.canon.now.list c.args.trail.now.list _ _ c.args.frame.now.paths _ _ _ c.begin_path.ensures c.in_ok-skipped.ensures.walks) c.nodes.ensures c.if-skipped.false
    (goes_on _ _ _ _ (same_choice-begun _ _ _ c.begin_path.ensures c.in_ok-skipped.ensures.choice)) refl c.mark.ensures

pub returns-then-skipped-clause-keeps : goal.returns-then-skipped-clause-keeps
returns-then-skipped-clause-keeps c = record {
  known =
      λ D k t. known-begun D c.args.canon.now.list c.args.trail.now.list c.walk.new.trail.list c.args.frame.now _ c.requires.at c.in_ok-skipped.ensures.walks.begins
      (goes_on _ _ _ _ (same_choice-begun _ _ _ c.begin_path.ensures c.in_ok-skipped.ensures.choice)) k;
  trail = λ D k t. c.in_ok-skipped.ensures.sound.keeps D (λ x h. k.arrangement x (subst (λ xs. In x xs) c.nodes.ensures h)) t;
}

pub returns-clause-keeps : goal.returns-clause-keeps
returns-clause-keeps c = record {
  known =
      λ D k t. known-begun D c.args.canon.now.list c.args.trail.now.list c.walk.new.trail.list c.args.frame.now _ c.requires.at c.in_ok-skipped.ensures.walks.begins
      (goes_on _ _ _ _ (same_choice-begun _ _ _ c.begin_path.ensures c.in_ok-skipped.ensures.choice)) k;
  trail = λ D k t. c.in_ok-skipped.ensures.sound.keeps D (λ x h. k.arrangement x (subst (λ xs. In x xs) c.nodes.ensures h)) t;
}
