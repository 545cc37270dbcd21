-- The ties that a frame logs, and those that it may still come to.
use Rattle.std.specs.Prelude.{ℕ, ◌+◌, List, [], ◌∷◌, take, length}
use Rattle.rdf_terms.specs.Vocabulary.{In, Dataset}
use Rattle.canon_model.specs.CountedRun.{Tie, ties_of_chosen}
use Rattle.canon_model.specs.Ties.{MayBeExchanged}
use Rattle.ndegree_hash.specs.declared.frame.Frame.{Frame}
use Rattle.ndegree_hash.specs.declared.at.At.{At}
use Rattle.ndegree_hash.specs.declared.at.At.TheVariants.{Recursion, Ended, Close, Call}
use Rattle.ndegree_hash.specs.Frames.{choice_of}

-- what is logged by a step from a place: where a group is closed, each other permutation with the chosen path
abbrev pub ties_at : List ℕ → List ℕ → Frame → At → List Tie
ties_at c t f Close = ties_of_chosen (choice_of t f) c (take f.mark t)
ties_at c t f at = []

-- the exchange of each may be checked
abbrev pub MayBeLogged : Dataset → List Tie → Type 0
MayBeLogged D ties = (tie : Tie) → In tie ties → MayBeExchanged D tie.canonical tie.passed tie.left tie.right

-- The ties that the permutations begun so far may still give: one for each other permutation with the chosen path, and
-- one for that in progress. A unit was spent for each of them.
abbrev pub in_progress : At → ℕ
in_progress Recursion = 1
in_progress Ended = 1
in_progress (Call n) = 1
in_progress at = 0

abbrev pub owed : Frame → At → ℕ
owed f at = length f.others.items + in_progress at
