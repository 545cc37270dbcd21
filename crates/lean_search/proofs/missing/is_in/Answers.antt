use Rattle.lean_search.proofs.Searching.{found}
use Rattle.lean_search.proofs.missing.is_in.Goals as goal

pub returns : goal.returns
returns c = found c.args.sorted.now c.args.term c.binary_search.result c.requires c.binary_search.ensures.bound c.binary_search.ensures.position c.is_ok.result c.is_ok.ensures.value
