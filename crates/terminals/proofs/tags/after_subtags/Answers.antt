use Rattle.terminals.proofs.Tagging.{subtagged_more, subtagged_end, utf8_behind_subtag}
use Rattle.terminals.proofs.tags.after_subtags.Goals as goal

pub loop-next-preserved : goal.loop-next-preserved
loop-next-preserved c = record {
  utf8 = utf8_behind_subtag _ _ c.in-Some.ensures.found c.loop-next.invariant.utf8;
  subtagged = subtagged_more _ _ _ c.loop-next.invariant.subtagged c.in-Some.ensures.found;
}

pub returns : goal.returns
returns c = subtagged_end _ _ c.loop-next.invariant.subtagged c.in_default.ensures.none
