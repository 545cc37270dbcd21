use Rattle.trig_lexer.proofs.WhiteSpace.{gaps_start, gaps_more, gaps_end, gap_smaller, gap_utf8}
use Rattle.trig_lexer.proofs.white_space.after_gaps.Goals as goal

pub loop-next-init : goal.loop-next-init
loop-next-init c = record { utf8 = c.utf8.text; gaps = gaps_start c.args.text.now c.utf8.text }

pub loop-next-smaller : goal.loop-next-smaller
loop-next-smaller c = gap_smaller _ _ c.in-Some.ensures.found

pub loop-next-preserved : goal.loop-next-preserved
loop-next-preserved c = record {
  utf8 = gap_utf8 _ _ c.in-Some.ensures.found c.loop-next.invariant.utf8;
  gaps = gaps_more c.args.text.now _ _ c.loop-next.invariant.gaps c.in-Some.ensures.found;
}

pub returns : goal.returns
returns c = gaps_end c.args.text.now _ c.loop-next.invariant.gaps c.in_default.ensures.none
