-- The lines of quads by the places of these.
use Rattle.std.proofs.Common.{◌≡◌, ℕ, ◌+◌, ◌<◌, List, [], ◌∷◌, ◌++◌, map, length, get_or, None, add-one, sym, ap, ◌∙◌, All}
use Rattle.std.proofs.lemmas.List.{map-append}
use Rattle.std.proofs.lemmas.Option.{slice_get-get_or, slice_get-map}
use Rattle.std.specs.Option.{option_map}
use Rattle.rdf_terms.proofs.Common.{Text, numbers_below, Document, IsInRange, statement, statements, canonical_line}
use Rattle.rdf_terms.specs.declared.term.Term.{Term}
use Rattle.rdf_terms.specs.declared.term.Quad.{Quad}
use Rattle.dataset_index.specs.Mentions.{places_of}
use Rattle.dataset_index.proofs.QuadPlaces.{map_at_places}
use Rattle.canonical_writer.specs.Names.{degree_name, naming_of}
use Rattle.first_degree.specs.FirstHashes.{line_at, line_of, first_degree_lines}

-- the lines at the places of the quads that mention a node are those of these quads
pub lines_at_places : (d : Document) (n : ℕ) → map (line_at d n) (places_of (statements d) n) ≡ first_degree_lines d n
lines_at_places d n = map_at_places (line_of n) d n

-- one more value
pub values_more : (f : ℕ → Text) (n : ℕ) (old new : List Text) (x : Text) → new ≡ old ++ x ∷ [] → old ≡ map f (numbers_below n) → x ≡ f n → new ≡ map f (numbers_below (n + 1))
values_more f n old new x e o v =
    e
    ∙ (ap (λ ys. ys ++ x ∷ []) o
    ∙ (ap (λ y. map f (numbers_below n) ++ y ∷ []) v
    ∙ (sym (map-append f (numbers_below n) (n ∷ [])) ∙ ap (λ k. map f (numbers_below k)) (sym (add-one n)))))

-- ---- the quad in a place, from what a dataset says of its terms and quads

abbrev pub no_quad : Quad
no_quad = record { s = 0; p = 0; o = 0; g = None }

module _ (d : Document) (place : ℕ) (terms : List Term) (quads : List Quad) (same_terms : terms ≡ d.terms) (same_quads : quads ≡ d.quads) (bound : place < length d.quads) where
  pub quad_in_range : All (IsInRange d.terms) d.quads → IsInRange terms (get_or quads place no_quad)
  quad_in_range h = rw (same_terms, same_quads) (h place no_quad bound)

  pub line_of_quad : (n : ℕ) → canonical_line (naming_of (degree_name n)) (statement terms (get_or quads place no_quad)) ≡ line_at d n place
  line_of_quad n =
      rw (same_terms, same_quads) (sym (ap (line_of n) (slice_get-map (statement d.terms) d.quads place ∙ ap (option_map (statement d.terms)) (slice_get-get_or d.quads place no_quad bound))))
