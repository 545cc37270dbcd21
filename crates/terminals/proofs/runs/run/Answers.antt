use Rattle.std.proofs.Common.{refl}
use Rattle.terminals.proofs.Running.{ran_start, ran_step, cut_behind_run, ran_to_end}
use Rattle.terminals.proofs.runs.run.Goals as goal

pub loop-after-init : goal.loop-after-init
loop-after-init c = ran_start c.args.body c.args.text.now _ c.utf8.text c.after_plain-rest.ensures

pub loop-after-preserved : goal.loop-after-preserved
loop-after-preserved c =
    ran_step c.args.body c.args.text.now _ _ _ _ _ c.loop-after.invariant c.in-Some.ensures.found c.after_plain-rest-in-Some.ensures

pub range-requires-clause-end_boundary : goal.range-requires-clause-end_boundary
range-requires-clause-end_boundary c = cut_behind_run c.args.body c.args.text.now _ _ c.loop-after.invariant

pub returns : goal.returns
returns c = ran_to_end c.args.body c.args.text.now _ _ c.loop-after.invariant c.in_default.ensures.none c.range.ensures.value refl
