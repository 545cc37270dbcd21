-- What a sink has taken of some bytes that were put.
use Rattle.std.specs.Prelude.{◌≡◌, ℕ, ◌<◌, List, ◌++◌, length, Option, Result, MatchResult}
use Rattle.std.specs.Io.KnownBytes.{Appends}

-- what was taken has grown by a proper prefix of the bytes
pub record IsCutShort (before now : Option (List ℕ)) (bytes : List ℕ) : Type 0 where
  pub front : List ℕ
  pub rest : List ℕ
  pub parts : bytes ≡ front ++ rest
  pub some : 0 < length rest
  pub appends : Appends before now front

-- all the bytes were taken at `Ok`, and a proper prefix of them at `Err`
abbrev pub Puts : {T E : Type 0} → Option (List ℕ) → Option (List ℕ) → Result T E → List ℕ → Type 0
Puts before now result bytes = MatchResult result (λ _. Appends before now bytes) (λ _. IsCutShort before now bytes)
