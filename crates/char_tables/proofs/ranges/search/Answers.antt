use Rattle.std.proofs.Common.{◌≡◌, false, drop, sym, subst, add-one, arith}
use Rattle.char_tables.specs.Rows.{is_in}
use Rattle.char_tables.proofs.Search.{is_in-held, is_in-take, is_in-drop, is_in-split}
use Rattle.char_tables.proofs.ranges.search.Goals as goal

pub loop-low-preserved-then-code-first : goal.loop-low-preserved-then-code-first
loop-low-preserved-then-code-first c = record {
  in_bounds = omega arith;
  within = omega arith;
  none_before = c.loop-low.invariant.none_before;
  none_behind = is_in-drop c.args.rows.now _ c.args.code c.requires (omega arith) c.if-code-first.true;
}

pub loop-low-preserved : goal.loop-low-preserved
loop-low-preserved c = record {
  in_bounds = omega arith;
  within = omega arith;
  none_before = rw add-one (is_in-take c.args.rows.now _ c.args.code c.requires (omega arith) c.if-last-code.true);
  none_behind = c.loop-low.invariant.none_behind;
}

pub returns-else-last-code : goal.returns-else-last-code
returns-else-last-code c = sym (is_in-held c.args.rows.now _ c.args.code (omega arith) c.if-code-first.false c.if-last-code.false)

pub returns : goal.returns
returns c =
    let met : c.loop-low.high ≡ c.loop-low.low = omega arith in
    let behind = subst (λ k. is_in (drop k c.args.rows.now) c.args.code ≡ false) met c.loop-low.invariant.none_behind in
    sym (is_in-split c.args.rows.now c.loop-low.low c.args.code c.loop-low.invariant.none_before behind)
