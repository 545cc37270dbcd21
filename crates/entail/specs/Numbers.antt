-- Terms of one graph by the numbers of another: a term that the other has by its number there, one that it lacks by the
-- first number that is none of its terms, and a node by a number past that.
use Rattle.std.specs.Prelude.{◌≡◌, ℕ, ◌<◌, ◌+◌, ◌⊎◌, List, length, slice_index}
use Rattle.rdf_terms.specs.Vocabulary.{In, term_at}
use Rattle.rdf_terms.specs.declared.term.Term.{Term}
use Rattle.rdf_terms.specs.declared.term.Term.TheVariants.{Blank}
use Rattle.rdf_terms.specs.declared.term.Quad.{Quad}
use Rattle.map_search.specs.declared.rows.End.{End}
use Rattle.map_search.specs.declared.rows.End.TheVariants.{Fixed, Place}
use Rattle.map_search.specs.declared.rows.Condition.{Condition}
use Rattle.map_search.specs.declared.rows.Condition.TheVariants.{Subject, Object, Both, SomeSubject, SomeObject}

-- the number of the term in the other list
abbrev pub IsNumberIn : List Term → Term → ℕ → Type 0
IsNumberIn others t k = ((k < length others) × (term_at others k ≡ t)) ⊎ ((k ≡ length others) × (¬ (In t others)))

-- for each of the terms its number in the other list
pub record AreNumbersIn (terms others : List Term) (numbers : List ℕ) : Type 0 where
  pub count : length numbers ≡ length terms
  pub each : (k : ℕ) → k < length terms → IsNumberIn others (term_at terms k) (slice_index numbers k)

abbrev pub number_by : ℕ → ℕ → Term → ℕ
number_by count k (Blank n) = count + 1 + n
number_by count k t = k

-- what the list `to` gives for each term that is no node, and for node n the number `count + 1 + n`
abbrev pub renumbered : List Term → List Term → List ℕ → ℕ → ℕ
renumbered terms others to k = number_by (length others) (slice_index to k) (term_at terms k)

-- ---- a quad, an end and a condition by other numbers

abbrev pub quad_by : (ℕ → ℕ) → Quad → Quad
quad_by f q = record { s = f q.s; p = f q.p; o = f q.o; g = q.g }

abbrev pub end_by : (ℕ → ℕ) → End → End
end_by f (Fixed n) = Fixed (f n)
end_by f (Place j) = Place j

abbrev pub condition_by : (ℕ → ℕ) → Condition → Condition
condition_by f (Subject p o) = Subject (f p) (end_by f o)
condition_by f (Object s p) = Object (end_by f s) (f p)
condition_by f (Both p) = Both (f p)
condition_by f (SomeSubject p) = SomeSubject (f p)
condition_by f (SomeObject p) = SomeObject (f p)
