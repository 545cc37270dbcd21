-- A text that is made part by part.
use Rattle.std.proofs.Common.{◌≡◌, ℕ, ◌+◌, ◌++◌, ap, ◌∙◌, add-one}
use Rattle.std.specs.List.{flat_map}
use Rattle.std.proofs.lemmas.List.{flat_map_more}
use Rattle.rdf_terms.specs.Lists.{Text, numbers_below}

pub more_parts : (f : ℕ → Text) (old out new : Text) (i : ℕ) → out ≡ old ++ flat_map f (numbers_below i) → new ≡ out ++ f i → new ≡ old ++ flat_map f (numbers_below (i + 1))
more_parts f old out new i h k = rw add-one (k ∙ ap (λ t. t ++ f i) h ∙ flat_map_more f old (numbers_below i) i)
