-- What binary search rests on: in a table in order, a row that ends below the code point, or begins above it, speaks for all rows on its side.
use Rattle.std.proofs.Common.{◌≡◌, ℕ, zero, suc, ◌<◌, ◌≤◌, true, false, ◌&&◌, [], ◌∷◌, length, take, drop, get_or, refl, arith, nat_le}
use Rattle.std.proofs.lemmas.Bool.{and_parts, or_left, or_right, or_from, or_parts, leb-true, ltb-true}
use Rattle.std.proofs.lemmas.Bool.Decides.{nat_tests}
use Rattle.char_tables.specs.Rows.{Rows, row_holds, is_in, ends_below, are_in_order}

holds : (row : ℕ × ℕ) (c : ℕ) → row.0 ≤ c → c ≤ row.1 → row_holds row c ≡ true
holds row c l m = grind (arith, nat_tests)

ends_before : (row : ℕ × ℕ) (c : ℕ) → row.1 < c → row_holds row c ≡ false
ends_before row c l = grind (arith, nat_tests)

begins_behind : (row : ℕ × ℕ) (c : ℕ) → c < row.0 → row_holds row c ≡ false
begins_behind row c l = grind (arith, nat_tests)

-- a table in order, by its first row
record Ordered (row : ℕ × ℕ) (rows : Rows) : Type 0 where
  grows : row.0 ≤ row.1
  ends : ends_below row rows ≡ true
  rest : are_in_order rows ≡ true

ordered : (row : ℕ × ℕ) (rows : Rows) → are_in_order (row ∷ rows) ≡ true → Ordered row rows
ordered row rows h =
    let outer = and_parts (nat_le row.0 row.1) (ends_below row rows && are_in_order rows) h in
    let inner = and_parts (ends_below row rows) (are_in_order rows) outer.1 in
    record { grows = leb-true row.0 row.1 outer.0; ends = inner.0; rest = inner.1 }

-- each later row begins above the end of the first
ends_below_later : (row : ℕ × ℕ) (rows : Rows) (k : ℕ) → are_in_order (row ∷ rows) ≡ true → k < length rows → row.1 < (get_or rows k (0, 0)).0
ends_below_later row [] k h l = absurd (omega arith)
ends_below_later row (next ∷ rows) zero h l = ltb-true row.1 next.0 (ordered row (next ∷ rows) h).ends
ends_below_later row (next ∷ rows) (suc k) h l =
    let here = ordered row (next ∷ rows) h in
    let there = ordered next rows here.rest in
    let later = ends_below_later next rows k here.rest (omega arith) in
    let step = ltb-true row.1 next.0 here.ends in
    omega (arith, there.grows)

grows : (rows : Rows) (k : ℕ) → are_in_order rows ≡ true → k < length rows → (get_or rows k (0, 0)).0 ≤ (get_or rows k (0, 0)).1
grows [] k h l = absurd (omega arith)
grows (row ∷ rows) zero h l = (ordered row rows h).grows
grows (row ∷ rows) (suc k) h l = grows rows k (ordered row rows h).rest (omega arith)

pub is_in-held : (rows : Rows) (k c : ℕ) → k < length rows → (get_or rows k (0, 0)).0 ≤ c → c ≤ (get_or rows k (0, 0)).1 → is_in rows c ≡ true
is_in-held [] k c l a b = absurd (omega arith)
is_in-held (row ∷ rows) zero c l a b = or_left (row_holds row c) (is_in rows c) (holds row c a b)
is_in-held (row ∷ rows) (suc k) c l a b = or_right (row_holds row c) (is_in rows c) (is_in-held rows k c (omega arith) a b)

pub is_in-take : (rows : Rows) (k c : ℕ) → are_in_order rows ≡ true → k < length rows → (get_or rows k (0, 0)).1 < c → is_in (take (suc k) rows) c ≡ false
is_in-take [] k c h l b = absurd (omega arith)
is_in-take (row ∷ rows) zero c h l b = or_from (row_holds row c) false (ends_before row c b) refl
is_in-take (row ∷ rows) (suc k) c h l b =
    let rest = (ordered row rows h).rest in
    let later = ends_below_later row rows k h (omega arith) in
    let wide = grows rows k rest (omega arith) in
    or_from (row_holds row c) (is_in (take (suc k) rows) c) (ends_before row c (omega arith)) (is_in-take rows k c rest (omega arith) b)

-- no row holds a code point that all rows begin above
none_behind : (rows : Rows) (c : ℕ) → ((k : ℕ) → k < length rows → c < (get_or rows k (0, 0)).0) → is_in rows c ≡ false
none_behind [] c h = refl
none_behind (row ∷ rows) c h =
    or_from (row_holds row c) (is_in rows c) (begins_behind row c (h 0 (omega arith))) (none_behind rows c (λ k l. h (suc k) (omega arith)))

pub is_in-drop : (rows : Rows) (k c : ℕ) → are_in_order rows ≡ true → k < length rows → c < (get_or rows k (0, 0)).0 → is_in (drop k rows) c ≡ false
is_in-drop [] k c h l b = absurd (omega arith)
is_in-drop (row ∷ rows) zero c h l b = none_behind (row ∷ rows) c above
  where
    above : (j : ℕ) → j < suc (length rows) → c < (get_or (row ∷ rows) j (0, 0)).0
    above zero m = b
    above (suc j) m = let later = ends_below_later row rows j h (omega arith) in omega (arith, (ordered row rows h).grows)
is_in-drop (row ∷ rows) (suc k) c h l b = is_in-drop rows k c (ordered row rows h).rest (omega arith) b

pub is_in-split : (rows : Rows) (k c : ℕ) → is_in (take k rows) c ≡ false → is_in (drop k rows) c ≡ false → is_in rows c ≡ false
is_in-split rows zero c before behind = behind
is_in-split [] (suc k) c before behind = refl
is_in-split (row ∷ rows) (suc k) c before behind =
    let parts = or_parts (row_holds row c) (is_in (take k rows) c) before in
    or_from (row_holds row c) (is_in rows c) parts.0 (is_in-split rows k c parts.1 behind)
