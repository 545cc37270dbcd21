-- The check of an exchange: whether the exchange of two tied lists is a symmetry of the dataset.
use Rattle.std.specs.Prelude.{◌≡◌, ◌↔◌, ℕ, ◌<◌, ◌≤◌, List, [], ◌∷◌, ◌++◌, take, length, Option, MatchOption}
use Rattle.rdf_terms.specs.Vocabulary.{In, Dataset}
use Rattle.rdf_terms.specs.declared.pair_list.Bijection.{Bijection}
use Rattle.canon_model.specs.Ties.{exchange, IsJoined, MayBeExchanged}

-- the lists may be exchanged, and begin alike in so many places
pub record MayBeChecked (D : Dataset) (c : List ℕ) (passed : ℕ) (left right : List ℕ) : Type 0 where
  pub within_left : passed ≤ length left
  pub within_right : passed ≤ length right
  pub exchanged : MayBeExchanged D c (take passed left) left right

-- the first numbers of the pairs ascend
abbrev pub AscendByFirst : List (ℕ × ℕ) → Type 0
AscendByFirst [] = Unit {0}
AscendByFirst (p ∷ pairs) = ((q : ℕ × ℕ) → In q pairs → p.0 < q.0) × AscendByFirst pairs

-- the lists are joined, and these are the nodes that their exchange moves, each with where it goes
pub record IsWitness (D : Dataset) (c left right : List ℕ) (pairs : List (ℕ × ℕ)) : Type 0 where
  pub joined : IsJoined D c left right
  pub moved : (x y : ℕ) → (In (x, y) pairs ↔ ((exchange left right x ≡ y) × (¬ (x ≡ y))))
  pub ascend : AscendByFirst pairs

-- a witness, or none because the lists are not joined
abbrev pub IsChecked : Dataset → List ℕ → List ℕ → List ℕ → Option Bijection → Type 0
IsChecked D c left right found = MatchOption found (¬ (IsJoined D c left right)) (λ b. IsWitness D c left right b.pairs)

-- ---- where the right list is told by what stands in it behind the nodes passed in

-- the right list
abbrev pub right_of : ℕ → List ℕ → List ℕ → List ℕ
right_of passed left tail = take passed left ++ tail

pub record TailMayBeChecked (D : Dataset) (c : List ℕ) (passed : ℕ) (left tail : List ℕ) : Type 0 where
  pub within : passed ≤ length left
  pub exchanged : MayBeExchanged D c (take passed left) left (right_of passed left tail)
