-- The arrangements of a bag of nodes: the lists that have the same nodes, each as often. They stand in lexicographic
-- order.
use Rattle.std.specs.Prelude.{◌≡◌, ℕ, true, ◌↔◌, List, [], ◌∷◌}
use Rattle.rdf_terms.specs.Vocabulary.{In, Permutes, is_before, is_at_most, AreStrictlyAscending}

-- no arrangement of the bag stands before xs
pub record IsFirst (bag xs : List ℕ) : Type 0 where
  pub permutes : Permutes bag xs
  pub least : (ys : List ℕ) → Permutes bag ys → is_at_most xs ys ≡ true

-- no arrangement of the same bag stands behind xs
abbrev pub IsLast : List ℕ → Type 0
IsLast xs = (ys : List ℕ) → Permutes xs ys → is_at_most ys xs ≡ true

-- ys is the least of the arrangements of the same bag that stand behind xs
pub record IsNext (xs ys : List ℕ) : Type 0 where
  pub permutes : Permutes xs ys
  pub behind : is_before xs ys ≡ true
  pub least : (zs : List ℕ) → Permutes xs zs → is_before xs zs ≡ true → is_at_most ys zs ≡ true

-- ---- the whole sequence

-- from xs one goes through these arrangements, each the next of the one before it, up to the last
pub data GoesThrough : List ℕ → List (List ℕ) → Type 0 where
  at_last : {xs : List ℕ} → IsLast xs → GoesThrough xs (xs ∷ [])
  goes_on : {xs ys : List ℕ} {rest : List (List ℕ)} → IsNext xs ys → GoesThrough ys rest → GoesThrough xs (xs ∷ rest)

-- these are the arrangements of the bag, each once and in order
pub record AreAllArrangements (bag : List ℕ) (all : List (List ℕ)) : Type 0 where
  pub each : (xs : List ℕ) → In xs all ↔ Permutes bag xs
  pub ascend : AreStrictlyAscending all

-- from the first arrangement of a bag on, the steps up to the last come by all its arrangements
abbrev pub GoesThroughAll : Type 0
GoesThroughAll =
    (bag xs : List ℕ) (all : List (List ℕ)) → IsFirst bag xs → GoesThrough xs all → AreAllArrangements bag all

-- each bag has a first arrangement, and from it the steps come to a last
abbrev pub ComesToALast : Type 0
ComesToALast = (bag : List ℕ) → (xs : List ℕ) × (all : List (List ℕ)) × IsFirst bag xs × GoesThrough xs all
