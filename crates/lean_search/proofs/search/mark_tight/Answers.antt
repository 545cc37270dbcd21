use Rattle.std.proofs.Common.{sym, subst}
use Rattle.lean_search.specs.Searched.{IsMarkedAs}
use Rattle.lean_search.proofs.Ending.{marked_as}
use Rattle.lean_search.proofs.search.mark_tight.Goals as goal

pub returns-in-Tight : goal.returns-in-Tight
returns-in-Tight c =
    subst (IsMarkedAs c.args.nodes.now c.args.settled.now c.mark_all.new.marks) (sym c.in-Tight.is)
    (marked_as c.args.nodes.now c.args.settled.now c.mark_all.new.marks c.requires c.mark_all.ensures.here c.mark_all.ensures.others)
