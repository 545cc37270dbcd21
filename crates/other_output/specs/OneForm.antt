-- Neither the form along a tie nor whether its run passes a limit depends on which of the numbered datasets is taken.
use Rattle.std.specs.Prelude.{◌≡◌, ℕ}
use Rattle.rdf_terms.specs.Vocabulary.{Text, Dataset, IsValid}
use Rattle.canon_model.specs.Hashing.{Hashing}
use Rattle.canon_model.specs.CountedRun.{Tie}
use Rattle.other_output.specs.Along.{IsFormAlong, IsWithinLimitAlong, PassesLimitAlong}

-- two texts that are its form are equal
abbrev pub OneFormAlong : Type 0
OneFormAlong =
    (ρ : Hashing) (D : Dataset) (t : Tie) → IsValid D
    → (a b : Text) → IsFormAlong ρ D t a → IsFormAlong ρ D t b → a ≡ b

-- no run passes a limit along a tie and does not
abbrev pub OneLimitAlong : Type 0
OneLimitAlong =
    (ρ : Hashing) (D : Dataset) (t : Tie) → IsValid D
    → (limit : ℕ) → PassesLimitAlong ρ D t limit → ¬ (IsWithinLimitAlong ρ D t limit)
