use Rattle.std.proofs.Common.{◌≡◌, ℕ, ◌<◌, length, get_or}
use Rattle.rdf_terms.specs.Document.{term_at}
use Rattle.entail.specs.Numbers.{IsNumberIn}
use Rattle.entail.proofs.crossing.numbers_of.Given as goal

abbrev pub invariant-loop-number : goal.invariant-loop-number
invariant-loop-number l = record {
  count : length l.numbers.items ≡ l.number;
  each : (k : ℕ) → k < l.number → IsNumberIn l.others (term_at l.terms k) (get_or l.numbers.items k 0);
}
