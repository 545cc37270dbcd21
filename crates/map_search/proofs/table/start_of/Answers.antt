use Rattle.std.proofs.Common.{◌+◌, ◌-◌, ◌/◌, sym, ◌∙◌, arith}
use Rattle.map_search.proofs.Ordering.{more_before, more_behind}
use Rattle.map_search.proofs.table.start_of.Goals as goal

pub loop-low-preserved-then-is_below : goal.loop-low-preserved-then-is_below
loop-low-preserved-then-is_below c =
    let i = c.loop-low.invariant in
    let t = c.loop-low-test.true in
    record {
      ordered = omega arith;
      within = i.within;
      before = more_before c.args.entries.now c.requires c.args.sought (c.loop-low.low + (c.loop-low.high - c.loop-low.low) / 2) (let w = i.within in omega arith)
          (sym c.is_below.ensures ∙ c.if-is_below.true);
      behind = i.behind;
    }

pub loop-low-preserved : goal.loop-low-preserved
loop-low-preserved c =
    let i = c.loop-low.invariant in
    let t = c.loop-low-test.true in
    record {
      ordered = omega arith;
      within = (let w = i.within in omega arith);
      before = i.before;
      behind = more_behind c.args.entries.now c.requires c.args.sought (c.loop-low.low + (c.loop-low.high - c.loop-low.low) / 2) (sym c.is_below.ensures ∙ c.if-is_below.false);
    }
