-- What a document holds: its terms by number, its quads by the numbers of their terms, and what it calls its nodes.
use Rattle.std.specs.Prelude.{if◌then◌else◌, ◌≡◌, ℕ, ◌<◌, ◌≤◌, ◌+◌, ◌*◌, ◌⊎◌, Bool, true, false, List, [], ◌∷◌, ◌++◌, map, filter, length, Option, Some, None, IfSome, slice_get, slice_index, slice_index_or, slice_set, All}
use Rattle.std.specs.List.{list_any}
use Rattle.rdf_terms.specs.Lists.{In, AreDistinct, numbers_below}
use Rattle.rdf_terms.specs.Terms.{Statement, IsValidStatement}
use Rattle.rdf_terms.specs.Dataset.{Dataset, IsUsed, mentions}
use Rattle.rdf_terms.specs.Isomorphism.{relabel_statement}
use Rattle.rdf_terms.specs.declared.limits.TheConstants.{MOST_QUADS, MOST_NUMBERS}
use Rattle.rdf_terms.specs.declared.term.Term.{Term}
use Rattle.rdf_terms.specs.declared.term.Term.TheVariants.{Iri, Blank, Literal}
use Rattle.rdf_terms.specs.declared.term.Quad.{Quad}
use Rattle.rdf_terms.specs.declared.term.Label.{Label}
use Rattle.rdf_terms.specs.declared.term.Label.TheVariants.{Anonymous}

-- term k has the number k, and label k is that of node k
pub record Document : Type 0 where
  pub terms : List Term
  pub quads : List Quad
  pub labels : List Label

-- ---- from numbers to what they stand for

-- the term with this number; past the last one it is never asked for
abbrev pub term_at : List Term → ℕ → Term
term_at terms n = slice_index_or terms n (Blank 0)

abbrev pub graph_name_at : List Term → Option ℕ → Option Term
graph_name_at terms None = None
graph_name_at terms (Some n) = Some (term_at terms n)

abbrev pub statement : List Term → Quad → Statement
statement terms q = record {
  subject = term_at terms q.s;
  predicate = term_at terms q.p;
  object = term_at terms q.o;
  graph_name = graph_name_at terms q.g;
}

-- the numbers of the quad are those of terms
pub record IsInRange (terms : List Term) (q : Quad) : Type 0 where
  pub s : q.s < length terms
  pub p : q.p < length terms
  pub o : q.o < length terms
  pub g : IfSome q.g (λ g. g < length terms)

-- the quads by their terms, in order of first addition
abbrev pub statements : Document → List Statement
statements d = map (statement d.terms) d.quads

-- the dataset of the document: its nodes are those with a label
abbrev pub dataset : Document → Dataset
dataset d = record { nodes = length d.labels; statements = statements d }

-- ---- how lists grow

-- the new list is the old one with further elements behind it
abbrev pub Extends : {A : Type 0} → List A → List A → Type 0
Extends {A} old new = (more : List A) × (new ≡ old ++ more)

-- the element is in the new list: it was there, and nothing changes, or it is the last
abbrev pub Adds : {A : Type 0} → List A → A → List A → Type 0
Adds old x new = ((new ≡ old) × In x old) ⊎ ((new ≡ old ++ x ∷ []) × (¬ (In x old)))

-- the elements of xs that old lacks are at the end of new, each once, in order of first appearance
abbrev pub AddsAll : {A : Type 0} → List A → List A → List A → Type 0
AddsAll old [] new = new ≡ old
AddsAll {A} old (x ∷ xs) new = (next : List A) × Adds old x next × AddsAll next xs new

-- the element is added, and n is its number in the new list
pub record Interns {A : Type 0} (old new : List A) (x : A) (n : ℕ) : Type 0 where
  pub at : slice_get new n ≡ Some x
  pub adds : Adds old x new

-- the term is one of the statement
abbrev pub IsTermOf : Term → Statement → Type 0
IsTermOf t st = (t ≡ st.subject) ⊎ ((t ≡ st.predicate) ⊎ ((t ≡ st.object) ⊎ (Some t ≡ st.graph_name)))

-- q is the statement by numbers, and the table has grown by the terms of the statement that were not there
pub record Numbers (old new : List Term) (st : Statement) (q : Quad) : Type 0 where
  pub in_range : IsInRange new q
  pub statement_is : statement new q ≡ st
  pub bound : length new ≤ length old + 4
  pub more : (t : Term) → In t new → In t old ⊎ IsTermOf t st
  pub known : ((t : Term) → IsTermOf t st → In t old) → new ≡ old

-- the statement is numbered, and the table that has grown has each term once
pub record NumbersNext (old : List Term) (st : Statement) (q : Quad) (new : List Term) : Type 0 where
  pub numbers : Numbers old new st q
  pub extends : Extends old new
  pub distinct : AreDistinct new

-- one statement after the other is numbered, by a table that grows from old to new
abbrev pub NumbersAll : List Term → List Statement → List Quad → List Term → Type 0
NumbersAll old [] [] new = new ≡ old
NumbersAll old [] (q ∷ qs) new = ⊥
NumbersAll old (st ∷ sts) [] new = ⊥
NumbersAll old (st ∷ sts) (q ∷ qs) new = (next : List Term) × NumbersNext old st q next × NumbersAll next sts qs new

-- ---- validity

-- a document that is being read, in which a node may still stand in no quad
pub record IsDraft (d : Document) : Type 0 where
  pub in_range : All (IsInRange d.terms) d.quads
  pub valid : All (IsValidStatement (length d.labels)) (statements d)
  pub distinct : AreDistinct (statements d)
  pub distinct_labels : AreDistinct d.labels
  -- each blank node among the terms is mentioned by a quad
  pub term_used : (n : ℕ) → In (Blank n) d.terms → IsUsed (statements d) n
  pub terms_bound : length d.terms ≤ 4 * length d.quads
  pub quads_bound : length d.quads ≤ MOST_QUADS
  pub labels_bound : length d.labels ≤ MOST_NUMBERS

-- a document that was read whole: each node stands in a quad
pub record IsDocument (d : Document) : Type 0 where
  pub draft : IsDraft d
  pub used : (n : ℕ) → n < length d.labels → IsUsed (statements d) n

-- ---- nodes that stand in no quad are left out, and the others are numbered anew in their order

abbrev pub is_mentioned : List Statement → ℕ → Bool
is_mentioned sts n = list_any (mentions n) sts

-- those of the first nodes that some quad mentions
abbrev pub used_below : List Statement → ℕ → List ℕ
used_below sts n = filter (is_mentioned sts) (numbers_below n)

-- a node's new number is the number of used nodes before it
abbrev pub new_number : List Statement → ℕ → ℕ
new_number sts n = length (used_below sts n)

-- whether this place is marked
abbrev pub mark_in : List Bool → ℕ → Bool
mark_in marks n = slice_index_or marks n false

-- the marks with the node's, where the term is a node
abbrev pub with_mark : List Bool → Term → List Bool
with_mark marks (Iri t) = marks
with_mark marks (Blank n) = slice_set marks n true
with_mark marks (Literal l) = marks

-- the labels whose marks are set, in their order
abbrev pub marked_of : List Bool → List Label → List Label
marked_of [] labels = []
marked_of (b ∷ bs) [] = []
marked_of (b ∷ bs) (l ∷ ls) = if b then l ∷ marked_of bs ls else marked_of bs ls

-- the number in this place
abbrev pub number_in : List ℕ → ℕ → ℕ
number_in numbers n = slice_index numbers n

abbrev pub label_at : List Label → ℕ → Label
label_at labels n = slice_index_or labels n (Anonymous 0)

pub record Finishes (d whole : Document) : Type 0 where
  pub statements_are : statements whole ≡ map (relabel_statement (new_number (statements d))) (statements d)
  pub labels_are : whole.labels ≡ map (label_at d.labels) (used_below (statements d) (length d.labels))
