-- The path at hand and the chosen one, if there is one.
use Rattle.std.specs.Prelude.{◌≡◌, Bool, if◌then◌else◌, Option, Some, None}
use Rattle.rdf_terms.specs.Lists.{Text}

-- where nothing is chosen, `chosen` is any text
pub record PathChoice : Type 0 where
  pub path : Text
  pub has_choice : Bool
  pub chosen : Text

abbrev pub chosen_if : Bool → Text → Option Text
chosen_if has_choice chosen = if has_choice then Some chosen else None

-- nothing else was chosen
pub record IsSameChoice (old new : PathChoice) : Type 0 where
  pub has_choice : new.has_choice ≡ old.has_choice
  pub chosen : new.chosen ≡ old.chosen
