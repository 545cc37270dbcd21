-- The results of the start nodes of a class, and their ties.
use Rattle.std.specs.Prelude.{ℕ, List, [], ◌∷◌, map}
use Rattle.std.specs.Ordering.{nat_cmp}
use Rattle.rdf_terms.specs.Dataset.{Dataset}
use Rattle.canon_model.specs.Allowed.{HashPathResult, start_of}
use Rattle.canon_model.specs.Issuer.{IsValidCall}
use Rattle.canon_core.specs.HashOrder.{StrictlyAscends}

-- a call from the node with a fresh issuer is valid
abbrev pub MayStart : Dataset → List ℕ → ℕ → Type 0
MayStart D c n = IsValidCall D c n (n ∷ [])

-- the start nodes ascend
abbrev pub StartsAscend : List HashPathResult → Type 0
StartsAscend results = StrictlyAscends nat_cmp (map start_of results)
