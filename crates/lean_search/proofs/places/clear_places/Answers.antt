use Rattle.std.proofs.Common.{arith}
use Rattle.lean_search.specs.declared.places.TheConstants.{NONE}
use Rattle.lean_search.proofs.Placing.{all_cleared}
use Rattle.lean_search.proofs.Setting.{set_next}
use Rattle.lean_search.proofs.places.clear_places.Goals as goal

pub loop-term-preserved : goal.loop-term-preserved
loop-term-preserved c = set_next 0 c.args.place_of.now c.loop-term.place_of c.args.terms.now NONE c.loop-term.term-index c.loop-term-test.true c.loop-term.invariant

pub returns : goal.returns
returns c = all_cleared c.args.place_of.now c.loop-term.place_of c.args.terms.now c.loop-term.term-index (let n = c.loop-term-test.false in omega arith) c.requires.places c.loop-term.invariant
