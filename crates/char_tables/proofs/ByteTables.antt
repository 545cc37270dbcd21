-- A table with a mark for each byte: `|` for those that a class lacks.
use Rattle.std.proofs.Common.{◌≡◌, ℕ, ◌<◌, Bool, false, not, nat_eq, List, map, get_or, length, sym, ap, ◌∙◌, arith}
use Rattle.std.specs.List.{range_with_len}
use Rattle.std.proofs.lemmas.List.{get_or-map}
use Rattle.std.proofs.lemmas.List.FromFn.{get_or-map-range_with_len}

-- the byte's mark is not `|`
abbrev pub is_open : ℕ → Bool
is_open mark = not (nat_eq mark 124)

-- a table that agrees with the class at all bytes, by computing, agrees with it at each
pub is_open-get_or : (class : ℕ → Bool) (table : List ℕ) (byte : ℕ) → byte < 256 → length table ≡ 256 → map is_open table ≡ map class (range_with_len 0 256)
    → is_open (get_or table byte 0) ≡ class byte
is_open-get_or class table byte below len same =
    sym (get_or-map is_open table byte 0 false (omega (arith, len)))
    ∙ ap (λ marks. get_or marks byte false) same
    ∙ get_or-map-range_with_len class 0 256 byte byte false below (omega arith)
