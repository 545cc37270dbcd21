-- The list of the numbers below a number.
use Rattle.std.proofs.Common.{◌≡◌, ℕ, ◌<◌, Some, map, slice_get, sym, ap, ◌∙◌, subst}
use Rattle.std.proofs.lemmas.Option.{slice_get-map, slice_get-get_or}
use Rattle.std.specs.Option.{option_map}
use Rattle.rdf_terms.proofs.Common.{numbers_below, get_or-numbers_below, length-numbers_below}

slice_get-numbers_below : (n k : ℕ) → k < n → slice_get (numbers_below n) k ≡ Some k
slice_get-numbers_below n k h = slice_get-get_or (numbers_below n) k 0 (subst (λ l. k < l) (sym (length-numbers_below n)) h) ∙ ap Some (get_or-numbers_below n k h)

pub slice_get-map_numbers_below : {B : Type 0} (f : ℕ → B) (n k : ℕ) → k < n → slice_get (map f (numbers_below n)) k ≡ Some (f k)
slice_get-map_numbers_below f n k h = slice_get-map f (numbers_below n) k ∙ ap (option_map f) (slice_get-numbers_below n k h)
