-- The entries of a call, from the terms of each quad in turn.
use Rattle.std.proofs.Common.{Bool, List, None, Option, Some, [], ap, arith, cond, filter, get_or, length, map, refl, slice_get, sym, ℕ, ◌++◌, ◌<◌, ◌∙◌, ◌∷◌, ◌≡◌, append_assoc}
use Rattle.std.specs.List.{flat_map}
use Rattle.std.specs.Option.{option_map}
use Rattle.std.proofs.lemmas.Bool.{ne_eqb}
use Rattle.std.proofs.lemmas.List.{get_or-map, length-map, map-append}
use Rattle.std.proofs.lemmas.Option.{slice_get-get_or, slice_get-map}
use Rattle.rdf_terms.proofs.Common.{Text, numbers_below, mentions, Document, dataset, graph_name_at, statement, statements, term_at, Statement, get_or-numbers_below, length-numbers_below}
use Rattle.rdf_terms.specs.declared.term.Quad.{Quad}
use Rattle.rdf_terms.specs.declared.term.Term.{Term}
use Rattle.rdf_terms.specs.declared.term.Term.TheVariants.{Blank}
use Rattle.dataset_index.specs.Mentions.{places_of}
use Rattle.dataset_index.proofs.QuadPlaces.{map_at_places}
use Rattle.canon_model.specs.declared.position.Position.{Position}
use Rattle.canon_model.specs.declared.position.Position.TheVariants.{Object, Subject}
use Rattle.canon_model.specs.Hashing.{Hashing}
use Rattle.canon_model.specs.FirstDegree.{hash_first_degree_quads}
use Rattle.canon_model.specs.Groups.{RelatedEntry, entries_of_statement, entry_of_graph_name, entry_of_term, iri_text, related_entries}
use Rattle.canon_model.specs.RelatedHash.{hash_related_blank_node, related_input}
use Rattle.related_hash.specs.declared.entry.Entry.{Entry}
use Rattle.related_hash.specs.Entries.{entries_at, entries_of, related_entry}

-- ---- the list of the first-degree hashes

pub first-long : (f : ℕ → Text) (n : ℕ) (first : List Text) → first ≡ map f (numbers_below n) → length first ≡ n
first-long f n first e = ap length e ∙ length-map (numbers_below n) f ∙ length-numbers_below n

pub first-at : (f : ℕ → Text) (n : ℕ) (first : List Text) (k : ℕ) (d : Text) → first ≡ map f (numbers_below n) → k < n → get_or first k d ≡ f k
first-at f n first k d e h =
    let l : k < length (numbers_below n) = let m = length-numbers_below n in omega arith in
    ap (λ xs. get_or xs k d) e ∙ get_or-map f (numbers_below n) k 0 d l ∙ ap f (get_or-numbers_below n k h)

-- ---- one entry

pub entry-added : (ρ : Hashing) (d : Document) (c i : List ℕ) (n : ℕ) (predicate : Text) (position : Position) (term : Term) (m : ℕ) (hash first : Text) (old new : List Entry) → term ≡ Blank m
    → ¬ (m ≡ n)
    → new ≡ old ++ record { hash = hash; node = m } ∷ [] → hash ≡ ρ.hash (related_input first c i m predicate position) → first ≡ hash_first_degree_quads ρ (dataset d) m
    → map related_entry new ≡ map related_entry old ++ entry_of_term ρ (dataset d) c i n predicate position term
unfolding hash_related_blank_node
entry-added ρ d c i n predicate position term m hash first old new is other added hashed same =
    let of : Text → List RelatedEntry = λ h. record { hash = h; node = m } ∷ [] in
    ap (map related_entry) added ∙ map-append related_entry old (record { hash = hash; node = m } ∷ [])
    ∙ ap (λ h. map related_entry old ++ of h) (hashed ∙ ap (λ f. ρ.hash (related_input f c i m predicate position)) same)
    ∙ ap (λ (b : Bool). map related_entry old ++ cond b [] (of (hash_related_blank_node ρ (dataset d) c i m predicate position))) (sym (ne_eqb m n other))
    ∙ ap (λ t. map related_entry old ++ entry_of_term ρ (dataset d) c i n predicate position t) (sym is)

-- ---- the entries of one quad

pub entries-quad : (ρ : Hashing) (d : Document) (c i : List ℕ) (n place : ℕ) (q : Quad) → slice_get d.quads place ≡ Some q
    → entries_at ρ d c i n place ≡ entries_of_statement ρ (dataset d) c i n (statement d.terms q)
entries-quad ρ d c i n place q e = ap (entries_of ρ d c i n) (slice_get-map (statement d.terms) d.quads place ∙ ap (option_map (statement d.terms)) e)

-- ---- the entries of all quads

flat_map-map : {X A : Type 0} (f : X → List A) (xs : List X) → flat_map (λ (l : List A). l) (map f xs) ≡ flat_map f xs
flat_map-map f [] = refl
flat_map-map f (x ∷ xs) = ap (λ l. f x ++ l) (flat_map-map f xs)

pub entries_at_places : (ρ : Hashing) (d : Document) (c i : List ℕ) (n : ℕ) (places : List ℕ) → places ≡ places_of (statements d) n
    → flat_map (entries_at ρ d c i n) places ≡ related_entries ρ (dataset d) c i n
unfolding related_entries
entries_at_places ρ d c i n places e =
    let of : Statement → List RelatedEntry = entries_of_statement ρ (dataset d) c i n in
    ap (flat_map (entries_at ρ d c i n)) e ∙ sym (flat_map-map (entries_at ρ d c i n) (places_of (statements d) n))
    ∙ ap (flat_map (λ (l : List RelatedEntry). l)) (map_at_places (entries_of ρ d c i n) d n) ∙ flat_map-map of (filter (mentions n) (statements d))

-- ---- the terms of a quad, one after the other

pub quad-added : (ρ : Hashing) (d : Document) (c i : List ℕ) (n place : ℕ) (q : Quad) (predicate : Text) (subject object : Term) (graph_name : Option Term) (old first second third : List RelatedEntry)
    → slice_get d.quads place ≡ Some q
    → predicate ≡ iri_text (term_at d.terms q.p) → subject ≡ term_at d.terms q.s → object ≡ term_at d.terms q.o → graph_name ≡ graph_name_at d.terms q.g
    → first ≡ old ++ entry_of_term ρ (dataset d) c i n predicate Subject subject → second ≡ first ++ entry_of_term ρ (dataset d) c i n predicate Object object
    → third ≡ second ++ entry_of_graph_name ρ (dataset d) c i n predicate graph_name → third ≡ old ++ entries_at ρ d c i n place
quad-added ρ d c i n place q predicate subject object graph_name old first second third at p s o g a b e =
    let all : Text → Term → Term → Option Term → List RelatedEntry =
    λ π x y z. entry_of_term ρ (dataset d) c i n π Subject x ++ (entry_of_term ρ (dataset d) c i n π Object y ++ entry_of_graph_name ρ (dataset d) c i n π z) in
    e ∙ ap (λ l. l ++ entry_of_graph_name ρ (dataset d) c i n predicate graph_name) (b ∙ ap (λ l. l ++ entry_of_term ρ (dataset d) c i n predicate Object object) a)
    ∙ append_assoc (old ++ entry_of_term ρ (dataset d) c i n predicate Subject subject) (entry_of_term ρ (dataset d) c i n predicate Object object)
    (entry_of_graph_name ρ (dataset d) c i n predicate graph_name)
    ∙ append_assoc old (entry_of_term ρ (dataset d) c i n predicate Subject subject)
    (entry_of_term ρ (dataset d) c i n predicate Object object ++ entry_of_graph_name ρ (dataset d) c i n predicate graph_name)
    ∙ ap (λ π. old ++ all π subject object graph_name) p ∙ ap (λ x. old ++ all (iri_text (term_at d.terms q.p)) x object graph_name) s
    ∙ ap (λ y. old ++ all (iri_text (term_at d.terms q.p)) (term_at d.terms q.s) y graph_name) o ∙ ap (λ z. old ++ all (iri_text (term_at d.terms q.p)) (term_at d.terms q.s) (term_at d.terms q.o) z) g
    ∙ ap (λ l. old ++ l) (sym (entries-quad ρ d c i n place q at))

abbrev pub no_quad : Quad
no_quad = record { s = 0; p = 0; o = 0; g = None }

pub quad-at : (d : Document) (place : ℕ) (quads : List Quad) → quads ≡ d.quads → place < length d.quads → slice_get d.quads place ≡ Some (get_or quads place no_quad)
quad-at d place quads e h = slice_get-get_or d.quads place no_quad h ∙ ap (λ (qs : List Quad). Some (get_or qs place no_quad)) (sym e)
