-- What a call that reads takes of the bytes that are left.
use Rattle.std.specs.Prelude.{◌≡◌, ℕ, ◌<◌, List, length, take, Option, None, Result, MatchResult}
use Rattle.std.specs.Io.KnownBytes.{Consumes, IsAtEnd}

-- At `Ok(n)` the first n bytes of the buffer are the first n bytes of what was left, which has lost them, and no byte
-- came for a buffer with room only at the end. At `Err` what is left is not told.
abbrev pub Takes : {E : Type 0} → Option (List ℕ) → Option (List ℕ) → Result ℕ E → List ℕ → Type 0
Takes before now result buf =
    MatchResult result
    (λ n. Consumes before now (take n buf) × (n ≡ 0 → 0 < length buf → IsAtEnd now))
    (λ _. now ≡ None)
