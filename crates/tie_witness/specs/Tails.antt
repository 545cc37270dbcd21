-- What of two tied lists stands behind the nodes that both begin with: their tails.
use Rattle.std.specs.Prelude.{◌≡◌, ◌↔◌, ◌⊎◌, ℕ, Bool, true, false, List, map, length}
use Rattle.rdf_terms.specs.Lists.{In, AreDistinct}
use Rattle.canon_model.specs.Ties.{exchange}
use Rattle.tie_witness.specs.Moving.{AreMovedBy}

-- the lists are equally long, hold each node once, and hold the same nodes, or none in common
pub record AreTails (a b : List ℕ) : Type 0 where
  pub as_long : length a ≡ length b
  pub left_once : AreDistinct a
  pub right_once : AreDistinct b
  pub tails : ((x : ℕ) → (In x a ↔ In x b)) ⊎ ((x : ℕ) → In x a → ¬ (In x b))

-- the lists have no node in common, or they hold the same nodes
abbrev pub IsSameUnless : Bool → List ℕ → List ℕ → Type 0
IsSameUnless true a b = (x : ℕ) → In x a → ¬ (In x b)
IsSameUnless false a b = (x : ℕ) → (In x a ↔ In x b)

-- the pairs are those of the nodes that the exchange moves, each node once
pub record TellsExchange (a b : List ℕ) (pairs : List (ℕ × ℕ)) : Type 0 where
  pub moved : AreMovedBy (exchange a b) pairs
  pub once : AreDistinct (map (λ (p : ℕ × ℕ). p.0) pairs)
