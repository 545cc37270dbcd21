use Rattle.std.proofs.Common.{arith}
use Rattle.map_search.specs.declared.rows.Condition.TheVariants.{Subject}
use Rattle.map_search.specs.declared.rows.End.TheVariants.{Fixed}
use Rattle.map_search.proofs.Passing.{none_passed, least_on, stays_on}
use Rattle.map_search.proofs.rows.pass.Goals as goal

pub returns-in-None-clause-none : goal.returns-in-None-clause-none
returns-in-None-clause-none g c =
    none_passed (g.L.Lookup.bound c.args.lookup.now) (g.L.Lookup.meets c.args.lookup.now c.args.images.now) c.args.row.now c.loop-condition.condition-index
    (Subject 0 (Fixed 0)) c.loop-condition-test.true c.args.from c.loop-condition.at c.loop-condition.invariant.least c.in-None.ensures.none

pub loop-condition-preserved : goal.loop-condition-preserved
loop-condition-preserved g c =
    let n = c.in-Some.ensures.some in
    let l = n.behind in
    let b = c.loop-condition.invariant.behind in
    record {
      behind = omega arith;
      within = n.within;
      least = least_on (g.L.Lookup.bound c.args.lookup.now) (g.L.Lookup.meets c.args.lookup.now c.args.images.now) c.args.row.now c.loop-condition.condition-index
          (Subject 0 (Fixed 0)) c.loop-condition-test.true c.args.from c.loop-condition.at c.loop-condition.invariant.least c.in-Some.next n;
      stays = stays_on (g.L.Lookup.bound c.args.lookup.now) (g.L.Lookup.meets c.args.lookup.now c.args.images.now) c.args.row.now c.loop-condition.condition-index
          (Subject 0 (Fixed 0)) c.loop-condition-test.true c.args.from c.loop-condition.at c.loop-condition.invariant.least c.in-Some.next n b c.loop-condition.invariant.stays;
    }
