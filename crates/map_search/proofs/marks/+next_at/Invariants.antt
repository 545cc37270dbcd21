use Rattle.map_search.proofs.marks.+next_at.Given as goal

abbrev pub decreases-next_at : goal.decreases-next_at
decreases-next_at l = l.height
