-- Entries in order, some of them marked as there.
use Rattle.std.specs.Prelude.{◌≡◌, ℕ, ◌<◌, ◌≤◌, Bool, true, false, ◌||◌, ◌&&◌, ◌==◌, List, length, slice_index_or}
use Rattle.std.specs.Prelude.{nat_lt}
use Rattle.map_search.specs.Marks.{mark_at}
use Rattle.map_search.specs.declared.table.Entry.{Entry}

abbrev pub no_entry : Entry
no_entry = record { first = 0; second = 0; value = 0; quad = 0 }

abbrev pub entry_at : List Entry → ℕ → Entry
entry_at entries k = slice_index_or entries k no_entry

-- in order of all four numbers
abbrev pub is_before : Entry → Entry → Bool
is_before a b =
    nat_lt a.first b.first
    || ((a.first == b.first)
    && (nat_lt a.second b.second
    || ((a.second == b.second) && (nat_lt a.value b.value || ((a.value == b.value) && nat_lt a.quad b.quad)))))

-- each entry is before those behind it
abbrev pub AreInOrder : List Entry → Type 0
AreInOrder entries = (i j : ℕ) → i < j → j < length entries → is_before (entry_at entries i) (entry_at entries j) ≡ true

pub record TableView : Type 0 where
  pub entries : List Entry
  pub marks : List Bool

pub record IsTable (t : TableView) : Type 0 where
  pub in_order : AreInOrder t.entries
  pub enough : length t.entries ≤ length t.marks

-- the entries before the place are before this one, and the others are not
pub record IsStart (entries : List Entry) (sought : Entry) (place : ℕ) : Type 0 where
  pub within : place ≤ length entries
  pub before : (k : ℕ) → k < place → is_before (entry_at entries k) sought ≡ true
  pub behind : (k : ℕ) → place ≤ k → k < length entries → is_before (entry_at entries k) sought ≡ false

-- an entry that is there has these numbers
pub record HasEntry (t : TableView) (first second value : ℕ) : Type 0 where
  pub place : ℕ
  pub within : place < length t.entries
  pub marked : mark_at t.marks place ≡ true
  pub first_is : (entry_at t.entries place).first ≡ first
  pub second_is : (entry_at t.entries place).second ≡ second
  pub value_is : (entry_at t.entries place).value ≡ value

-- the least number from `from` on that is found under the two others
pub record IsLeastValue (t : TableView) (first second from value : ℕ) : Type 0 where
  pub behind : from ≤ value
  pub there : HasEntry t first second value
  pub least : (v : ℕ) → from ≤ v → v < value → ¬ (HasEntry t first second v)
