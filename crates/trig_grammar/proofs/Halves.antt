-- The table is put together of its two halves.
use Rattle.std.proofs.Common.{◌≡◌, ℕ, List, [], ◌∷◌, Option, refl, ap, ◌∙◌, slice_index_or}
use Rattle.trig_grammar.specs.Table.{the_cells, upper_cells, lower_cells, IsTable, IsUpper, IsLower}

-- the rows of both halves, one after the other
abbrev pub rows : List (List (Option ℕ)) → List (List (Option ℕ)) → List (List (Option ℕ))
rows upper lower =
    slice_index_or upper 0 [] ∷ slice_index_or upper 1 [] ∷ slice_index_or upper 2 [] ∷ slice_index_or upper 3 [] ∷ slice_index_or upper 4 [] ∷ slice_index_or upper 5 [] ∷ slice_index_or upper 6 []
    ∷ slice_index_or upper 7 [] ∷ slice_index_or upper 8 [] ∷ slice_index_or upper 9 [] ∷ slice_index_or upper 10 [] ∷ slice_index_or upper 11 [] ∷ slice_index_or upper 12 [] ∷ slice_index_or upper 13
    [] ∷ slice_index_or upper 14 [] ∷ slice_index_or upper 15 [] ∷ slice_index_or upper 16 [] ∷ slice_index_or lower 0 [] ∷ slice_index_or lower 1 [] ∷ slice_index_or lower 2 []
    ∷ slice_index_or lower 3 [] ∷ slice_index_or lower 4 [] ∷ slice_index_or lower 5 [] ∷ slice_index_or lower 6 [] ∷ slice_index_or lower 7 [] ∷ slice_index_or lower 8 [] ∷ slice_index_or lower 9 []
    ∷ slice_index_or lower 10 [] ∷ slice_index_or lower 11 [] ∷ slice_index_or lower 12 [] ∷ slice_index_or lower 13 [] ∷ slice_index_or lower 14 [] ∷ slice_index_or lower 15 []
    ∷ slice_index_or lower 16 [] ∷ []

all_rows : rows upper_cells lower_cells ≡ the_cells
unfolding the_cells upper_cells lower_cells
all_rows = refl

pub is_table : (upper lower cells : List (List (Option ℕ))) → IsUpper upper → IsLower lower → cells ≡ rows upper lower → IsTable cells
unfolding IsUpper IsLower IsTable
is_table upper lower cells u l e = e ∙ ap (λ x. rows x lower) u ∙ ap (rows upper_cells) l ∙ all_rows
