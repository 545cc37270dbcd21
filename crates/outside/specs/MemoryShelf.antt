-- A shelf of files in memory, and what its calls do to it.
use Rattle.std.specs.Prelude.{◌≡◌, ℕ, ◌⊎◌, min, List, length, drop, Option, Some, None, find, ◌<◌, ◌≤◌, map, slice_get, string_bytes, Vec, IfSome}
use Rattle.std.specs.declared.string.String.{String}
use Rattle.std.specs.Option.{option_map}
use Rattle.std.specs.Str.{bytes_eq}
use Rattle.rdf_terms.specs.Lists.{Text}
use Rattle.outside.specs.declared.memory_shelf.Place.{Place}
use Rattle.outside.specs.FaultPlan.{FaultPlan, FailsNext, after_call, after_fault}

-- a file: its name and its bytes
pub record MemoryFile : Type 0 where
  pub name : Text
  pub bytes : List ℕ

-- the file that was started last, and those of its bytes that were not given yet
pub record StartedFile : Type 0 where
  pub name : Text
  pub rest : List ℕ

abbrev pub unread : Text → List ℕ → StartedFile
unread name bytes = record { name = name; rest = bytes }

-- the file where so many more bytes were given
abbrev pub read_on : ℕ → StartedFile → StartedFile
read_on n file = record file { rest = drop n file.rest }

-- the files, the most bytes that one call gives, and the started file, if there is one
pub record MemoryShelf : Type 0 where
  pub files : List MemoryFile
  pub piece : ℕ
  pub plan : FaultPlan
  pub started : Option StartedFile

-- the bytes of the file with this name, where there is one
abbrev pub bytes_of : List MemoryFile → Text → Option (List ℕ)
bytes_of files name = option_map (λ file. file.bytes) (find (λ file. bytes_eq file.name name) files)

abbrev pub started_name : MemoryShelf → Option Text
started_name shelf = option_map (λ file. file.name) shelf.started

abbrev pub started_rest : MemoryShelf → Option (List ℕ)
started_rest shelf = option_map (λ file. file.rest) shelf.started

-- the next call is told to fail, or no file has this name
abbrev pub StartFails : MemoryShelf → Text → Type 0
StartFails shelf name = FailsNext shelf.plan ⊎ (bytes_of shelf.files name ≡ None)

abbrev pub after_start : MemoryShelf → Text → MemoryShelf
after_start shelf name = record shelf {
  plan = after_call shelf.plan;
  started = option_map (unread name) (bytes_of shelf.files name);
}

-- how many bytes a `next` gives that does not fail, for a buffer of so many
abbrev pub amount_given : MemoryShelf → ℕ → Option ℕ
amount_given shelf room = option_map (λ rest. min shelf.piece (min room (length rest))) (started_rest shelf)

abbrev pub after_next : MemoryShelf → ℕ → MemoryShelf
after_next shelf n = record shelf {
  plan = after_call shelf.plan;
  started = option_map (read_on n) shelf.started;
}

abbrev pub after_failure : MemoryShelf → MemoryShelf
after_failure shelf = record shelf { plan = after_fault shelf.plan; started = None }

abbrev pub names_of : List MemoryFile → List Text
names_of files = map (λ file. file.name) files

-- ---- the fields that a shelf in memory has

module _ {A B : Type 0} where
  abbrev pub file_of : String A × Vec ℕ B → MemoryFile
  file_of file = record { name = string_bytes file.0; bytes = file.1.items }

  abbrev pub files_of : List (String A × Vec ℕ B) → List MemoryFile
  files_of files = map file_of files

-- what is started where so many bytes of the file at a place were given
abbrev pub started_at : List MemoryFile → Place → Option StartedFile
started_at files place =
    option_map (λ file. unread file.name (drop place.given file.bytes)) (slice_get files place.file)

-- there is a file at the place, and it has as many bytes
pub record IsPlaceIn (files : List MemoryFile) (place : Place) : Type 0 where
  pub there : place.file < length files
  pub within : IfSome (slice_get files place.file) (λ file. place.given ≤ length file.bytes)

-- the file of this name stands at this place
pub record IsFileAt (files : List MemoryFile) (name : Text) (i : ℕ) : Type 0 where
  pub bytes : List ℕ
  pub at : slice_get files i ≡ Some (record { name = name; bytes = bytes })
  pub told : bytes_of files name ≡ Some bytes
