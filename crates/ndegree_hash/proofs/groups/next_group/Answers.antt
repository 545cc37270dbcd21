use Rattle.std.proofs.Common.{ap, refl, subst, sym, ◌++◌, ◌∙◌}
use Rattle.arrangements.specs.Arrangements.{IsFirst}
use Rattle.ndegree_hash.specs.PathChoice.{PathChoice}
use Rattle.ndegree_hash.proofs.Keeping.{known-group, known-same}
use Rattle.ndegree_hash.proofs.GroupSteps.{group-begins, group-ends}
use Rattle.ndegree_hash.proofs.groups.next_group.Goals as goal

pub returns-in_default-clause-leads : goal.returns-in_default-clause-leads
returns-in_default-clause-leads c = group-ends c.args.canon.now.list c.args.trail.now.list c.args.frame.now _ c.requires c.in_default.ensures.0 refl refl

pub returns-clause-leads : goal.returns-clause-leads
returns-clause-leads c =
    group-begins c.args.canon.now.list c.args.trail.now.list c.args.frame.now _ c.in-Some.group c.requires
    c.in-Some.ensures
    (c.in_ok-extend_from_slice.ensures.items ∙ ap (λ l. c.args.frame.now.text.items ++ l) c.as_bytes.ensures.value)
    (subst (λ bag. IsFirst bag c.in_ok-frame.field-0) c.as_slice.ensures c.in_ok-frame.ensures)
    c.mark.ensures (ap (λ (p : PathChoice). p.has_choice) c.forget.ensures) refl

pub returns-in_default-clause-keeps : goal.returns-in_default-clause-keeps
returns-in_default-clause-keeps c = record {
  known = λ D k t. known-same D c.args.canon.now.list c.args.trail.now.list c.args.trail.now.list c.args.frame.now _ refl (c.in_default.ensures.1 ∙ sym c.in_default.ensures.0) refl k;
  trail = λ D k t. t;
}

pub returns-clause-keeps : goal.returns-clause-keeps
returns-clause-keeps c = record {
  known = λ D k t. known-group D c.args.canon.now.list c.args.trail.now.list c.args.frame.now _ c.in-Some.group c.in-Some.ensures
      (subst (λ bag. IsFirst bag c.in_ok-frame.field-0) c.as_slice.ensures c.in_ok-frame.ensures) (ap (λ (p : PathChoice). p.has_choice) c.forget.ensures) k;
  trail = λ D k t. t;
}
