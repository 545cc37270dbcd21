-- Decimal numerals without sign or leading zero.
use Rattle.std.specs.Prelude.{ℕ, zero, suc, List, [], ◌∷◌, reverse, ◌==◌, if◌then◌else◌}
use Rattle.rdf_terms.specs.Lists.{Text}

-- the digits of the next number, the last digit first: 48 is '0' and 57 is '9'
abbrev pub next_digits : List ℕ → List ℕ
next_digits [] = 49 ∷ []
next_digits (d ∷ ds) = if d == 57 then 48 ∷ next_digits ds else suc d ∷ ds

-- the digits of a number, the last digit first
unfoldable pub digits_from_last : ℕ → List ℕ
digits_from_last zero = 48 ∷ []
digits_from_last (suc n) = next_digits (digits_from_last n)

-- the numeral of a number
unfoldable pub numeral : ℕ → Text
numeral n = reverse (digits_from_last n)
