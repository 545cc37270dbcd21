use Rattle.std.proofs.Common.{ℕ, ◌<◌, get_or}
use Rattle.rdf_terms.specs.Lists.{In}
use Rattle.lean_search.proofs.missing.misses.Given as goal

abbrev pub invariant-loop-term : goal.invariant-loop-term
invariant-loop-term l = (k : ℕ) → k < l.term-index → In (get_or l.terms k 0) l.images
