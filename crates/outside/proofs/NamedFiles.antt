-- Files in a list, found by their names.
use Rattle.std.proofs.Common.{◌≡◌, ℕ, ◌<◌, Bool, true, false, List, [], ◌∷◌, Option, Some, None, MatchOption, length, map, take, drop, min, ◌+◌, slice_get, nat_lt, cond, Vec, string_bytes, refl, sym, ap, ◌∙◌, arith, ltb-false, ◌-◌, IsTrue, ◌⊎◌, Ok, get_or, length-drop, ltb-true, inl, inr, subst}
use Rattle.std.specs.List.{find, position, position_or_len}
use Rattle.std.specs.Option.{option_map}
use Rattle.std.specs.Str.{bytes_eq}
use Rattle.std.specs.declared.string.String.{String}
use Rattle.std.proofs.lemmas.Slice.Eq.{bytes_eq-Decides}
use Rattle.std.proofs.lemmas.List.Folds.{find_at}
use Rattle.std.proofs.lemmas.Option.{slice_get-map}
use Rattle.outside.specs.MemoryShelf.{MemoryFile, bytes_of, file_of, files_of, unread, started_at, IsFileAt, IsPlaceIn}
use Rattle.outside.specs.FaultPlan.{FaultPlan, FailsNext}
use Rattle.outside.specs.Reads.{Takes}
use Rattle.std.specs.Io.KnownBytes.{Consumes, IsAtEnd}
use Rattle.std.proofs.lemmas.List.{take-append-drop, drop-drop, drop_all, take_all, length-map}
use Rattle.std.proofs.lemmas.Option.{slice_get_past, slice_get_cases, slice_get_read}

-- what a search finds passes its test
pub find_passes : {X : Type 0} (p : X → Bool) (xs : List X) (x : X) → find p xs ≡ Some x → p x ≡ true
find_passes p [] x e = cc
find_passes p (y ∷ ys) x e =
    elim (p y) as (λ b. p y ≡ b → cond b (Some y) (find p ys) ≡ Some x → p x ≡ true) [
      | true ↦ λ is here. let same : y ≡ x = cc in sym (ap p same) ∙ is
      | false ↦ λ _ there. find_passes p ys x there
    ] refl e

pub find-map : {X Y : Type 0} (f : X → Y) (p : Y → Bool) (xs : List X) → find p (map f xs) ≡ option_map f (find (λ x. p (f x)) xs)
find-map f p [] = refl
find-map f p (x ∷ xs) = elim (p (f x)) as (λ b. cond b (Some (f x)) (find p (map f xs)) ≡ option_map f (cond b (Some x) (find (λ x. p (f x)) xs))) [ true ↦ refl | false ↦ find-map f p xs ]

-- a search and a position find the same element
pub find-position : {X : Type 0} (p : X → Bool) (xs : List X) → MatchOption (position p xs) (find p xs ≡ None) (λ i. find p xs ≡ slice_get xs i)
find-position p xs =
    elim (nat_lt (position_or_len p xs) (length xs))
    as (λ b. nat_lt (position_or_len p xs) (length xs) ≡ b
    → MatchOption (cond b (Some (position_or_len p xs)) None) (find p xs ≡ None) (λ i. find p xs ≡ slice_get xs i)) [
      | true ↦ λ _. find_at p xs
      | false ↦ λ past. find_at p xs ∙ slice_get_past xs (position_or_len p xs) (ltb-false (position_or_len p xs) (length xs) past)
    ] refl

pub not_found : {X : Type 0} (p : X → Bool) (xs : List X) → None ≡ position p xs → find p xs ≡ None
not_found p xs e = subst (λ o. MatchOption o (find p xs ≡ None) (λ i. find p xs ≡ slice_get xs i)) (sym e) (find-position p xs)

pub found_there : {X : Type 0} (p : X → Bool) (xs : List X) (i : ℕ) → Some i ≡ position p xs → (x : X) × (find p xs ≡ Some x) × (slice_get xs i ≡ Some x)
found_there p xs i e =
    elim (nat_lt (position_or_len p xs) (length xs))
    as (λ b. nat_lt (position_or_len p xs) (length xs) ≡ b
    → Some i ≡ cond b (Some (position_or_len p xs)) None → (x : _) × (find p xs ≡ Some x) × (slice_get xs i ≡ Some x)) [
      | true ↦ λ within here. let same : i ≡ position_or_len p xs = cc in
          elim (slice_get_cases xs (position_or_len p xs)).1 [
            | inl w ↦ (w.0, find_at p xs ∙ w.2, ap (slice_get xs) same ∙ w.2)
            | inr past ↦ absurd (omega (arith, past.0, ltb-true (position_or_len p xs) (length xs) within))
          ]
      | false ↦ λ _ nowhere. cc
    ] refl e

-- a file of this name was found at a place
found_at : {A B : Type 0} (files : List (String A × Vec ℕ B)) (name : List ℕ) (i : ℕ) (file : String A × Vec ℕ B) → find (λ f. bytes_eq (string_bytes f.0) name) files ≡ Some file
    → slice_get files i ≡ Some file
    → IsFileAt (files_of files) name i
found_at files name i file found at =
    let named : string_bytes file.0 ≡ name = (bytes_eq-Decides (string_bytes file.0) name).0 (find_passes (λ f. bytes_eq (string_bytes f.0) name) files file found) in
    record {
      bytes = file.1.items;
      at = slice_get-map file_of files i ∙ ap (option_map file_of) at ∙ (λ k. Some (record { name = named k; bytes = file.1.items }));
      told = ap (option_map (λ f. f.bytes)) (find-map file_of (λ f. bytes_eq f.name name) files ∙ ap (option_map file_of) found);
    }

-- the place that a search by name gave
pub placed : {A B : Type 0} (files read : List (String A × Vec ℕ B)) (name : List ℕ) (place : Option ℕ) → read ≡ files → place ≡ position (λ f. bytes_eq (string_bytes f.0) name) read
    → MatchOption place (bytes_of (files_of files) name ≡ None) (IsFileAt (files_of files) name)
placed files read name None same e' =
    let e = e' ∙ ap (position (λ f. bytes_eq (string_bytes f.0) name)) same in
    ap (option_map (λ f. f.bytes)) (find-map file_of (λ f. bytes_eq f.name name) files ∙ ap (option_map file_of) (not_found (λ f. bytes_eq (string_bytes f.0) name) files e))
placed files read name (Some i) same e' =
    let e = e' ∙ ap (position (λ f. bytes_eq (string_bytes f.0) name)) same in
    let p = found_there (λ f. bytes_eq (string_bytes f.0) name) files i e in
    found_at files name i p.0 p.1 p.2

-- ---- bytes of a file from a place on

abbrev pub rest_from : List MemoryFile → ℕ → ℕ → Option (List ℕ)
rest_from files i given = option_map (λ file. file.rest) (started_at files (record { file = i; given = given }))

pub rest_from-at : (files : List MemoryFile) (i given : ℕ) (file : MemoryFile) → slice_get files i ≡ Some file → rest_from files i given ≡ Some (drop given file.bytes)
rest_from-at files i given file at = ap (λ f. option_map (λ file. file.rest) (option_map (λ file. unread file.name (drop given file.bytes)) f)) at

-- a piece of what is left was given
pub gives : (files : List MemoryFile) (i given n piece : ℕ) (file : MemoryFile) (buf : List ℕ) → slice_get files i ≡ Some file → 0 < piece
    → n ≡ min piece (min (length buf) (length (drop given file.bytes))) → take n buf ≡ take n (drop given file.bytes)
    → Consumes (rest_from files i given) (rest_from files i (given + n)) (take n buf) × (n ≡ 0 → 0 < length buf → IsAtEnd (rest_from files i (given + n)))
gives files i given n piece file buf at some amount copied =
    let left = drop given file.bytes in
    let behind : drop (given + n) file.bytes ≡ drop n left = sym (drop-drop n given file.bytes) in
    rw (rest_from-at files i given file at, rest_from-at files i (given + n) file at, behind, copied) (
      sym (take-append-drop n left),
      λ none room. drop_all n left (omega (arith, none, amount, some, room)),
    )

-- ---- what the calls of a shelf do

-- a call that is not told to fail, with the name of a file that is there
pub starts : (plan : FaultPlan) (files : List MemoryFile) (name : List ℕ) (fails : Bool) (i : ℕ) → (FailsNext plan → IsTrue fails) → fails ≡ false → IsFileAt files name i
    → FailsNext plan ⊎ (bytes_of files name ≡ None) → ⊥
starts plan files name fails i told passes there (inl next) = cc (told next)
starts plan files name fails i told passes there (inr none) = cc (there.told)

pub gives_piece : {A B : Type 0} (files : List (String A × Vec ℕ B)) (file : String A × Vec ℕ B) (bytes : List ℕ) (i given n piece : ℕ) (buf : List ℕ)
    → file ≡ get_or files i file → bytes ≡ file.1.items
    → IsPlaceIn (files_of files) (record { file = i; given = given }) → 0 < piece
    → n ≡ min piece (min (length buf) (length (take (length bytes - given) (drop given bytes)))) → take n buf ≡ take n (take (length bytes - given) (drop given bytes))
    → Takes {E = ℕ} (rest_from (files_of files) i given) (rest_from (files_of files) i (given + n)) (Ok n) buf
gives_piece files file bytes i given n piece buf read is place some amount copied =
    let all : take (length bytes - given) (drop given bytes) ≡ drop given file.1.items =
    take_all (length bytes - given) (drop given bytes) (omega (arith, length-drop given bytes)) ∙ ap (drop given) is in
    let within : i < length files = omega (arith, place.there, length-map files file_of) in
    gives (files_of files) i given n piece (file_of file) buf (slice_get-map file_of files i ∙ ap (option_map file_of) (slice_get_read files (length files) i file refl within read))
    some (amount ∙ ap (λ l. min piece (min (length buf) (length l))) all) (copied ∙ ap (take n) all)
