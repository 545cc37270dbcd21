use Rattle.std.proofs.Common.{false, is_ok, sym, ap, true≢false}
use Rattle.dataset_index.proofs.Searching.{found}
use Rattle.lean_search.proofs.shrink.place_in.Goals as goal

pub returns-in-Err-clause-none : goal.returns-in-Err-clause-none
returns-in-Err-clause-none c i =
    true≢false
    (sym ((found c.args.quads.now c.args.quad c.binary_search.result c.requires.ascend c.binary_search.ensures.bound c.binary_search.ensures.position false (sym (ap is_ok c.in-Err.is))).1 i))
