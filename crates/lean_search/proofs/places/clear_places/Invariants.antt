use Rattle.lean_search.specs.declared.places.TheConstants.{NONE}
use Rattle.lean_search.proofs.Setting.{AreSet}
use Rattle.lean_search.proofs.places.clear_places.Given as goal

abbrev pub invariant-loop-term : goal.invariant-loop-term
invariant-loop-term l = AreSet 0 l.initial.place_of l.place_of l.terms NONE l.term-index
