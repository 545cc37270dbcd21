use Rattle.lean_search.proofs.Outside.{search_goes_on}
use Rattle.lean_search.proofs.laws.search_goes_on.Goals as goal

pub returns : goal.returns
returns c = search_goes_on
