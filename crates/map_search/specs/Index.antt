-- An index of the triples of a graph, of which some have gone.
use Rattle.std.specs.Prelude.{◌≡◌, ℕ, ◌<◌, ◌≤◌, Bool, ◌&&◌, ◌==◌, if◌then◌else◌, List, [], ◌∷◌, length, slice_index_or, None}
use Rattle.std.specs.List.{list_any}
use Rattle.rdf_terms.specs.Lists.{In}
use Rattle.rdf_terms.specs.declared.term.Quad.{Quad}
use Rattle.map_search.specs.Pattern.{end_at, TellsMeets}
use Rattle.map_search.specs.declared.rows.Condition.{Condition}
use Rattle.map_search.specs.declared.rows.Condition.TheVariants.{Subject, Object, Both, SomeSubject, SomeObject}
use Rattle.map_search.specs.declared.table.Entry.{Entry}
use Rattle.map_search.specs.declared.index.Asked.{Asked}
use Rattle.map_search.specs.declared.index.Asked.TheVariants.{AsSubject, AsObject, AsBoth, AsSomeSubject, AsSomeObject}
use Rattle.map_search.specs.Marks.{mark_at}
use Rattle.rdf_terms.specs.declared.limits.TheConstants.{MOST_QUADS}
use Rattle.map_search.specs.Table.{TableView, entry_at}

abbrev pub no_quad : Quad
no_quad = record { s = 0; p = 0; o = 0; g = None }

abbrev pub quad_at : List Quad → ℕ → Quad
quad_at quads k = slice_index_or quads k no_quad

-- those that are marked
abbrev pub kept : List Quad → List Bool → List Quad
kept [] live = []
kept (q ∷ qs) [] = []
kept (q ∷ qs) (b ∷ bs) = if b then q ∷ kept qs bs else kept qs bs

-- ---- what is found under what

abbrev pub first_of : Asked → Quad → ℕ
first_of AsObject q = q.s
first_of asked q = q.p

abbrev pub second_of : Asked → Quad → ℕ
second_of AsSubject q = q.o
second_of AsObject q = q.p
second_of AsBoth q = if q.s == q.o then 1 else 0
second_of asked q = 0

abbrev pub value_of : Asked → Quad → ℕ
value_of AsObject q = q.o
value_of AsSomeObject q = q.o
value_of asked q = q.s

abbrev pub entry_for : Asked → Quad → ℕ → Entry
entry_for asked q k =
    record { first = first_of asked q; second = second_of asked q; value = value_of asked q; quad = k }

-- the entries are those of the quads, and the marked ones those of the quads that are there
pub record IsTableOf (asked : Asked) (quads : List Quad) (live : List Bool) (t : TableView) : Type 0 where
  pub only : (e : ℕ) → e < length t.entries
      → ((entry_at t.entries e).quad < length quads)
      × (entry_at t.entries e ≡ entry_for asked (quad_at quads (entry_at t.entries e).quad) (entry_at t.entries e).quad)
  pub all : (k : ℕ) → k < length quads → In (entry_for asked (quad_at quads k) k) t.entries
  pub marked : (e : ℕ) → e < length t.entries → mark_at t.marks e ≡ mark_at live (entry_at t.entries e).quad

pub record IndexView : Type 0 where
  pub quads : List Quad
  pub live : List Bool
  pub terms : ℕ

-- the triples that are there
abbrev pub graph_of : IndexView → List Quad
graph_of i = kept i.quads i.live

pub record IsIndex (i : IndexView) (subjects objects both some_subjects some_objects : TableView) : Type 0 where
  pub live_count : length i.live ≡ length i.quads
  pub in_range : (k : ℕ) → k < length i.quads → ((quad_at i.quads k).s < i.terms) × ((quad_at i.quads k).o < i.terms)
  pub bound : length i.quads ≤ MOST_QUADS
  pub subjects_are : IsTableOf AsSubject i.quads i.live subjects
  pub objects_are : IsTableOf AsObject i.quads i.live objects
  pub both_are : IsTableOf AsBoth i.quads i.live both
  pub some_subjects_are : IsTableOf AsSomeSubject i.quads i.live some_subjects
  pub some_objects_are : IsTableOf AsSomeObject i.quads i.live some_objects

-- ---- what a condition asks for

abbrev pub asked_by : Condition → Asked
asked_by (Subject p o) = AsSubject
asked_by (Object s p) = AsObject
asked_by (Both p) = AsBoth
asked_by (SomeSubject p) = AsSomeSubject
asked_by (SomeObject p) = AsSomeObject

abbrev pub first_asked : List ℕ → Condition → ℕ
first_asked images (Subject p o) = p
first_asked images (Object s p) = end_at images s
first_asked images (Both p) = p
first_asked images (SomeSubject p) = p
first_asked images (SomeObject p) = p

abbrev pub second_asked : List ℕ → Condition → ℕ
second_asked images (Subject p o) = end_at images o
second_asked images (Object s p) = p
second_asked images (Both p) = 1
second_asked images (SomeSubject p) = 0
second_asked images (SomeObject p) = 0

abbrev pub gives : Asked → ℕ → ℕ → ℕ → Quad → Bool
gives asked first second t q = (first_of asked q == first) && ((second_of asked q == second) && (value_of asked q == t))

-- some triple gives the number
abbrev pub meets_in : List Quad → List ℕ → Condition → ℕ → Bool
meets_in H images c t = list_any (gives (asked_by c) (first_asked images c) (second_asked images c) t) H

-- the triples that are there tell which numbers meet a condition
abbrev pub IndexTells : Type 0
IndexTells = (H : List Quad) (terms : ℕ) → ((q : Quad) → In q H → (q.s < terms) × (q.o < terms))
    → ((q : Quad) → In q H → q.g ≡ None) → TellsMeets H terms (meets_in H)
