use Rattle.std.proofs.Common.{refl, ◌∙◌}
use Rattle.ndegree_hash.proofs.Agreeing.{has_written, path-written, same_choice-written_first}
use Rattle.ndegree_hash.proofs.Keeping.{known-goes_on}
use Rattle.ndegree_hash.proofs.RecursionSteps.{resume-goes_on, resume-skips}
use Rattle.ndegree_hash.proofs.TrailParts.{goes_on}
use Rattle.ndegree_hash.proofs.recursion.resume.Goals as goal

pub returns-then-is_past-clause-resumes : goal.returns-then-is_past-clause-resumes
returns-then-is_past-clause-resumes c =
    let h = has_written c.args.frame.now.paths _ _ _ _ _ (same_choice-written_first _ _ _ c.in_ok-push.ensures.ok) c.in_ok-push-2.ensures.ok c.is_past.ensures.skips c.is_past.ensures.unchanged in
    resume-skips c.args.canon.now.list c.args.trail.now.list c.args.frame.now _ c.args.hash.now c.requires
    (goes_on _ _ _ _ h.choice) _ (path-written _ _ _ _ _ _ c.in_ok-push.ensures.ok c.as_bytes.ensures.value h.path) (h.skips ∙ c.if-is_past.true)

pub returns-clause-resumes : goal.returns-clause-resumes
returns-clause-resumes c =
    let h = has_written c.args.frame.now.paths _ _ _ _ _ (same_choice-written_first _ _ _ c.in_ok-push.ensures.ok) c.in_ok-push-2.ensures.ok c.is_past.ensures.skips c.is_past.ensures.unchanged in
    resume-goes_on c.args.canon.now.list c.args.trail.now.list c.args.frame.now _ c.args.hash.now c.requires
    (goes_on _ _ _ _ h.choice) _ (path-written _ _ _ _ _ _ c.in_ok-push.ensures.ok c.as_bytes.ensures.value h.path) refl refl refl (h.skips ∙ c.if-is_past.false)

pub returns-then-is_past-clause-known : goal.returns-then-is_past-clause-known
returns-then-is_past-clause-known c =
    let h = has_written c.args.frame.now.paths _ _ _ _ _ (same_choice-written_first _ _ _ c.in_ok-push.ensures.ok) c.in_ok-push-2.ensures.ok c.is_past.ensures.skips c.is_past.ensures.unchanged in
    λ D k. known-goes_on D c.args.canon.now.list c.args.trail.now.list c.args.frame.now _
    (goes_on _ _ _ _ h.choice) k

pub returns-clause-known : goal.returns-clause-known
returns-clause-known c =
    let h = has_written c.args.frame.now.paths _ _ _ _ _ (same_choice-written_first _ _ _ c.in_ok-push.ensures.ok) c.in_ok-push-2.ensures.ok c.is_past.ensures.skips c.is_past.ensures.unchanged in
    λ D k. known-goes_on D c.args.canon.now.list c.args.trail.now.list c.args.frame.now _
    (goes_on _ _ _ _ h.choice) k
