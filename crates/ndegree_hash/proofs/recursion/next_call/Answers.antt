use Rattle.std.proofs.Common.{ap, get_or, refl, ◌++◌, ◌∙◌, ◌∷◌, []}
use Rattle.ndegree_hash.specs.PathChoice.{PathChoice}
use Rattle.ndegree_hash.proofs.Agreeing.{same_choice-written}
use Rattle.ndegree_hash.proofs.Keeping.{known-goes_on}
use Rattle.ndegree_hash.proofs.RecursionSteps.{recursion-calls, recursion-ends}
use Rattle.ndegree_hash.proofs.TrailParts.{goes_on}
use Rattle.ndegree_hash.proofs.recursion.next_call.Goals as goal

pub returns-then-frame-clause-leads : goal.returns-then-frame-clause-leads
returns-then-frame-clause-leads c = recursion-ends c.args.canon.now.list c.args.trail.now.list c.args.frame.now c.requires.at c.if-frame.true

pub returns-clause-leads : goal.returns-clause-leads
returns-clause-leads c =
    recursion-calls c.args.canon.now.list c.args.trail.now.list c.args.frame.now _ _ c.requires.at c.if-frame.false
    (ap (λ l. get_or l c.args.frame.now.next 0) c.list.ensures.list)
    (goes_on _ _ _ _ (same_choice-written _ _ _ _ _ c.in_ok-push_label.ensures.ok c.in_ok-push.ensures.ok))
    (ap (λ (p : PathChoice). p.path) c.in_ok-push.ensures.ok ∙ ap (λ (p : PathChoice). p.path ++ 60 ∷ []) c.in_ok-push_label.ensures.ok)
    refl refl

pub returns-clause-keeps : goal.returns-clause-keeps
returns-clause-keeps c = record {
  known =
      λ D k t. known-goes_on D c.args.canon.now.list c.args.trail.now.list c.args.frame.now _
      (goes_on _ _ _ _ (same_choice-written _ _ _ _ _ c.in_ok-push_label.ensures.ok c.in_ok-push.ensures.ok)) k;
  trail = λ D k t. t;
}
