use Rattle.std.proofs.Common.{subst, inl, inr}
use Rattle.entail.specs.Answers.{IsEntailStop}
use Rattle.equivalence.proofs.Using.{not_named}
use Rattle.equivalence.proofs.compare.instance_map.Goals as goal

pub unreachable-requires : goal.unreachable-requires
unreachable-requires c =
    elim (subst (IsEntailStop c.args.g.now c.args.e.now c.args.limit) c.in-Err-NotOneGraph.field-0-is c.in-Err-NotOneGraph.ensures.stop) [
      | inl s ↦ not_named c.args.g.now s.1.place c.in-Err-NotOneGraph.field-0-1 c.requires.graph.unnamed s.1.there s.1.named
      | inr s ↦ not_named c.args.e.now s.2.place c.in-Err-NotOneGraph.field-0-1 c.requires.entailed.unnamed s.2.there s.2.named
    ]
