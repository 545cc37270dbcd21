-- What a triple of a term asks of the image of the term, by the places of terms in a list.
use Rattle.std.specs.Prelude.{ℕ, Bool, ◌&&◌, ◌==◌, nat_lt, if◌then◌else◌, List, map, filter, Option, Some, None, slice_index}
use Rattle.rdf_terms.specs.Document.{Document, statements}
use Rattle.rdf_terms.specs.declared.term.Quad.{Quad}
use Rattle.dataset_index.specs.Mentions.{places_of}
use Rattle.map_search.specs.Index.{quad_at}
use Rattle.map_search.specs.Marks.{mark_at}
use Rattle.map_search.specs.declared.rows.End.{End}
use Rattle.map_search.specs.declared.rows.End.TheVariants.{Fixed, Place}
use Rattle.map_search.specs.declared.rows.Condition.{Condition}
use Rattle.map_search.specs.declared.rows.Condition.TheVariants.{Subject, Object, Both, SomeSubject, SomeObject}
use Rattle.lean_search.specs.declared.places.TheConstants.{NONE}

-- the other end: a term without a place, or an earlier place, or none yet
abbrev pub end_for : List ℕ → ℕ → ℕ → Option End
end_for place_of place other =
    if slice_index place_of other == NONE then Some (Fixed other) else
    (if nat_lt (slice_index place_of other) place then Some (Place (slice_index place_of other)) else None)

abbrev pub subject_for : ℕ → Option End → Condition
subject_for p None = SomeSubject p
subject_for p (Some e) = Subject p e

abbrev pub object_for : ℕ → Option End → Condition
object_for p None = SomeObject p
object_for p (Some e) = Object e p

abbrev pub condition_for : List ℕ → ℕ → ℕ → Quad → Condition
condition_for place_of place term q =
    if (q.s == term)
    && (q.o == term) then Both q.p else
    (if q.s == term then subject_for q.p (end_for place_of place q.o) else object_for q.p (end_for place_of place q.s))

-- the conditions of the triples of a node that are left
abbrev pub row_for : Document → List Bool → List ℕ → ℕ → ℕ → ℕ → List Condition
row_for d live place_of place node term =
    map (λ k. condition_for place_of place term (quad_at d.quads k))
    (filter (mark_at live) (places_of (statements d) node))
