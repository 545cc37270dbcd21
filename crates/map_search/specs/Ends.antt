-- How a search ends. Maps of first places are met in their order: a map before those that it begins, and of two that
-- differ the one with the lesser image at the first place where they do.
use Rattle.std.specs.Prelude.{◌≡◌, ℕ, ◌<◌, ◌≤◌, Bool, true, false, List, length, All}
use Rattle.rdf_terms.specs.Lists.{AreDistinct, is_before}
use Rattle.map_search.specs.Maps.{IsMap}
use Rattle.map_search.specs.declared.search.Ending.{Ending}
use Rattle.map_search.specs.declared.search.Ending.TheVariants.{Found, Nothing, PastLimit}

-- a map of all places that is sought
pub record IsSought (bound : ℕ) (fits : List ℕ → ℕ → Bool) (places : ℕ) (sought : List ℕ → Bool)
    (images : List ℕ) : Type 0 where
  pub is_map : IsMap bound fits images
  pub whole : length images ≡ places
  pub is_sought : sought images ≡ true

-- a map of first places with no sought one before it
pub record IsMet (bound : ℕ) (fits : List ℕ → ℕ → Bool) (places : ℕ) (sought : List ℕ → Bool)
    (images : List ℕ) : Type 0 where
  pub is_map : IsMap bound fits images
  pub within : length images ≤ places
  pub none_before : (other : List ℕ) → IsSought bound fits places sought other → is_before other images ≡ false

-- more different maps are met than the limit
pub record HasMore (bound : ℕ) (fits : List ℕ → ℕ → Bool) (places : ℕ) (sought : List ℕ → Bool)
    (limit : ℕ) : Type 0 where
  pub maps : List (List ℕ)
  pub distinct : AreDistinct maps
  pub are_met : All (IsMet bound fits places sought) maps
  pub more : limit < length maps

-- the first map that is sought, and no more are met than the limit
pub record IsFound (bound : ℕ) (fits : List ℕ → ℕ → Bool) (places : ℕ) (sought : List ℕ → Bool) (limit : ℕ)
    (images : List ℕ) : Type 0 where
  pub is_sought : IsSought bound fits places sought images
  pub is_met : IsMet bound fits places sought images
  pub few : ¬ (HasMore bound fits places sought limit)

-- no map is sought, and no more are met than the limit
pub record IsNothing (bound : ℕ) (fits : List ℕ → ℕ → Bool) (places : ℕ) (sought : List ℕ → Bool)
    (limit : ℕ) : Type 0 where
  pub none : (images : List ℕ) → ¬ (IsSought bound fits places sought images)
  pub few : ¬ (HasMore bound fits places sought limit)

abbrev pub IsEnding : ℕ → (List ℕ → ℕ → Bool) → ℕ → (List ℕ → Bool) → ℕ → Ending → Type 0
IsEnding bound fits places sought limit (Found images) = IsFound bound fits places sought limit images.items
IsEnding bound fits places sought limit Nothing = IsNothing bound fits places sought limit
IsEnding bound fits places sought limit PastLimit = HasMore bound fits places sought limit
