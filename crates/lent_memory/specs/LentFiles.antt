-- Two files that are lent under fixed names, and what a shelf of them tells and counts.
use Rattle.std.specs.Prelude.{ℕ, Option, Some, None, codes, if◌then◌else◌}
use Rattle.std.specs.Option.{option_map}
use Rattle.std.specs.Str.{bytes_eq}
use Rattle.rdf_terms.specs.Lists.{Text}
use Rattle.lent_memory.specs.declared.shelf.Place.{Place}
use Rattle.lent_memory.specs.declared.shelf.Place.TheVariants.{First, Second}
use Rattle.lent_memory.specs.declared.shelf.LentShelf.{LentShelf}

-- the bytes of the two files
pub record LentFiles : Type 0 where
  pub first : Text
  pub second : Text

-- which file has this name, where one has
abbrev pub lent_name : Text → Option Place
lent_name name =
    if bytes_eq name (codes "first") then Some First
    else (if bytes_eq name (codes "second") then Some Second else None)

abbrev pub bytes_at : LentFiles → Place → Text
bytes_at files First = files.first
bytes_at files Second = files.second

-- the bytes of the file with this name, where one has it
abbrev pub told_of : LentFiles → Text → Option Text
told_of files name = option_map (bytes_at files) (lent_name name)

-- what is counted where no file has the name, and nothing where one has
abbrev pub count_at : ℕ → Option Place → ℕ
count_at count None = count
count_at count (Some place) = 0

-- how many calls with this name have failed, where so many have that name no file
abbrev pub faults_of : ℕ → Text → ℕ
faults_of count name = count_at count (lent_name name)

abbrev pub files_in : LentShelf → LentFiles
files_in shelf = record { first = shelf.first.now; second = shelf.second.now }
