-- Which quads mention a node, by their places in a list of quads.
use Rattle.std.specs.Prelude.{◌≡◌, ℕ, Bool, false, ◌==◌, if◌then◌else◌, Option, Some, None, List, [], ◌∷◌, ◌++◌, map, filter, length, slice_get}
use Rattle.rdf_terms.specs.Vocabulary.{numbers_below, Statement, mentions, term_at}
use Rattle.rdf_terms.specs.declared.term.Term.{Term}
use Rattle.rdf_terms.specs.declared.term.Term.TheVariants.{Iri, Blank, Literal}
use Rattle.dataset_index.specs.declared.mention.Mention.{Mention}

abbrev pub mentioned_by : ℕ → Option Statement → Bool
mentioned_by n None = false
mentioned_by n (Some st) = mentions n st

-- the places of the quads among the first `end` that mention the node, ascending
abbrev pub places_before : List Statement → ℕ → ℕ → List ℕ
places_before sts end n = filter (λ k. mentioned_by n (slice_get sts k)) (numbers_below end)

-- the places of all quads that mention the node, ascending
abbrev pub places_of : List Statement → ℕ → List ℕ
places_of sts n = places_before sts (length sts) n

-- the places that mention a node, in their order
abbrev pub mention_places : List Mention → ℕ → List ℕ
mention_places mentions n = map (λ m. m.place) (filter (λ m. m.node == n) mentions)

-- the node that a term is
abbrev pub node_in : Term → Option ℕ
node_in (Iri t) = None
node_in (Blank n) = Some n
node_in (Literal l) = None

abbrev pub node_of_name : List Term → Option ℕ → Option ℕ
node_of_name terms None = None
node_of_name terms (Some g) = node_in (term_at terms g)

-- whether the node is this one, if there is one
abbrev pub is_node_some : ℕ → Option ℕ → Bool
is_node_some n None = false
is_node_some n (Some m) = m == n

-- the mentions have grown by this place for each node that passes
abbrev pub MentionsMore : List Mention → List Mention → (ℕ → Bool) → ℕ → Type 0
MentionsMore old new test place =
    (n : ℕ) → mention_places new n ≡ mention_places old n ++ (if test n then place ∷ [] else [])

-- the mentions of a node are the places of the first quads that mention it
abbrev pub AreMentions : List Statement → List Mention → ℕ → Type 0
AreMentions sts mentions end = (n : ℕ) → mention_places mentions n ≡ places_before sts end n
