use Rattle.std.proofs.Common.{arith}
use Rattle.lean_search.specs.Workspace.{state_of}
use Rattle.lean_search.proofs.Settling.{searched_to}
use Rattle.lean_search.proofs.search.search_from.Goals as goal

pub returns-clause-searched : goal.returns-clause-searched
returns-clause-searched c =
    searched_to c.args.graph.now c.args.limit (state_of c.loop-start.workspace) c.loop-start.settled c.loop-start.start c.requires.one
    (let a = c.loop-start-test.false in let b = c.loop-start.auto.start-end in let n = c.node_count-start-end.ensures.count in omega arith) c.loop-start.invariant.underway
