use Rattle.std.proofs.Common.{subst}
use Rattle.lean_search.specs.Lean.{IsLeanStop}
use Rattle.equivalence.proofs.Using.{not_named}
use Rattle.equivalence.proofs.compare.lean_form.Goals as goal

pub unreachable-requires : goal.unreachable-requires
unreachable-requires c =
    let s = subst (IsLeanStop c.args.graph.now c.args.limit) c.in-Err-NotOneGraph.field-0-is c.in-Err-NotOneGraph.ensures.stop in
    not_named c.args.graph.now s.place c.in-Err-NotOneGraph.field-0-0 c.requires.unnamed s.there s.named
