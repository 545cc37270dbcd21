-- What the ending of the search of a walk means.
use Rattle.std.proofs.Common.{◌≡◌, ℕ, ◌+◌, ◌<◌, ◌==◌, Bool, true, false, if◌then◌else◌, List, [], ◌∷◌, length, map, get_or, Result, Ok, Err, IfOk, refl, sym, ap, ◌∙◌, subst, inl, inr, arith, eq-eqb, true≢false}
use Rattle.std.proofs.lemmas.Bool.{eqb-true}
use Rattle.std.proofs.lemmas.List.{length-map}
use Rattle.std.proofs.lemmas.List.Elements.{All-from_get_or}
use Rattle.rdf_terms.proofs.Common.{In, Document, Statement, statements, term_at}
use Rattle.rdf_terms.specs.declared.term.Term.{Term}
use Rattle.rdf_terms.specs.declared.term.Quad.{Quad}
use Rattle.graph_model.specs.Components.{IsClosed}
use Rattle.graph_model.proofs.Maps.{mapped_triple-same}
use Rattle.map_search.specs.Ends.{IsEnding}
use Rattle.map_search.specs.Index.{IndexView, graph_of, meets_in, kept}
use Rattle.map_search.specs.Laws.{IsSearch}
use Rattle.map_search.specs.Pattern.{AreRows, EachIsAsked, fits_rows, map_of}
use Rattle.map_search.specs.declared.rows.Condition.{Condition}
use Rattle.map_search.specs.declared.search.Ending.{Ending}
use Rattle.map_search.specs.declared.search.Ending.TheVariants.{Found, Nothing, PastLimit}
use Rattle.map_search.proofs.Images.{each_from_is_map, map_is_node_map, maps_of_rows, more_node_maps}
use Rattle.map_search.proofs.Indexing.{index_tells}
use Rattle.component_walk.specs.Image.{IsOneGraph, IsIndexOf, AreTermsOf, quads_left}
use Rattle.component_walk.specs.Walk.{IsWalkFrom}
use Rattle.component_walk.proofs.Walks.{walk_closed}
use Rattle.entail.specs.Entailment.{MapsInto}
use Rattle.entail.specs.Numbers.{AreNumbersIn, condition_by, quad_by, renumbered}
use Rattle.entail.specs.Searched.{MeansInto}
use Rattle.entail.proofs.Landing.{found_maps_into}
use Rattle.entail.proofs.Partial.{more_maps}
use Rattle.entail.proofs.Renumbering.{rows_renumbered}
use Rattle.entail.proofs.Returning.{maps_are_found}
use Rattle.entail.proofs.Walked.{are_own_nodes, is_crossing, keeps_apart, numbers_once, own_renumbered, same_rows}

-- the image of a node by its number
map_of-shifted : (d : ℕ) (walk images : List ℕ) (n : ℕ) → length images ≡ length walk → In n walk → map_of (map (λ k. d + k) walk) images (d + n) ≡ map_of walk images n
map_of-shifted d [] images n c i = absurd i
map_of-shifted d (x ∷ xs) [] n c i = absurd (omega arith)
map_of-shifted d (x ∷ xs) (t ∷ ts) n c i = by (map_of-shifted d xs ts n (omega arith)) i (x == n) refl (d + x == d + n) refl
  where
    by : (In n xs → map_of (map (λ k. d + k) xs) ts (d + n) ≡ map_of xs ts n) → In n (x ∷ xs) → (b : Bool) → (x == n) ≡ b → (a : Bool) → (d + x == d + n) ≡ a
        → (if d + x == d + n then t else map_of (map (λ k. d + k) xs) ts (d + n)) ≡ (if x == n then t else map_of xs ts n)
    by ih j true f true g = rw f (rw g refl)
    by ih j false f true g = (let e : d + x ≡ d + n = eqb-true (d + x) (d + n) g in let s : x ≡ n = omega arith in absurd (true≢false (sym (eq-eqb x n s) ∙ f)))
    by ih j true f false g = absurd (true≢false (sym (eq-eqb (d + x) (d + n) (ap (λ k. d + k) (eqb-true x n f))) ∙ g))
    by ih (inl e) false f false g = absurd (true≢false (sym (eq-eqb x n (sym e)) ∙ f))
    by ih (inr k) false f false g = rw f (rw g (ih k))

-- maps that agree on closed nodes carry the same triples
pub maps_same : (E G : List Statement) (walk : List ℕ) (μ ν : ℕ → Term) → IsClosed E walk → ((n : ℕ) → In n walk → μ n ≡ ν n) → MapsInto E G walk μ → MapsInto E G walk ν
maps_same E G walk μ ν closed same maps st t =
    subst (λ x. In x G) (mapped_triple-same μ ν st (λ n e. same n (closed st t.0 t.1.node n t.1.mentioned e t.1.there))) (maps st t)

module _ (e g : Document) (index : IndexView) (to : List ℕ) (one : IsOneGraph e) (other : IsOneGraph g) (is_index : IsIndexOf g index) (all : quads_left g index.live ≡ g.quads)
    (are : AreNumbersIn e.terms g.terms to) (start : ℕ) (walk own : List ℕ) (w : IsWalkFrom (statements e) start walk) (own_are : AreTermsOf e walk own)
    (within : (k : ℕ) → In k own → k < length e.terms) (rows : List (List Condition)) (rows_are : AreRows e.quads own rows) (asked : EachIsAsked rows) (limit : ℕ)
    {A : Type 0} (conditions : A → List Condition) (crossed : List A) (crossed_are : map conditions crossed ≡ map (map (condition_by (λ k. get_or to k 0))) rows) where
  abbrev f : ℕ → ℕ
  f = renumbered e.terms g.terms to

  abbrev nodes : List ℕ
  nodes = map (λ n. length g.terms + 1 + n) walk

  abbrev R : List (List Condition)
  R = map conditions crossed

  abbrev crossed_quads : List Quad
  crossed_quads = map (quad_by f) e.quads

  rows_are_f : R ≡ map (map (condition_by f)) rows
  rows_are_f = crossed_are ∙ same_rows e g to one other are start walk own w own_are within rows rows_are

  search : IsSearch crossed_quads g.quads nodes R (length g.terms) (meets_in g.quads)
  search =
      let r = rows_renumbered f e.quads own rows (keeps_apart e g to one other are start walk own w own_are within) rows_are asked in
      let n = own_renumbered e g to one other are start walk own w own_are within in
      record {
        rows_are = subst (λ x. AreRows crossed_quads nodes x) (sym rows_are_f) (subst (λ l. AreRows crossed_quads l (map (map (condition_by f)) rows)) n r.0);
        asked = subst EachIsAsked (sym rows_are_f) r.1;
        tells = index_tells g.quads (length g.terms) (λ q i. (let v = other.in_range q i in (v.s, v.o))) other.unnamed;
      }

  abbrev Ends : Ending → Type 0
  Ends ending = IsEnding index.terms (fits_rows (meets_in (graph_of index)) R) (length crossed) (λ images. true) limit ending

  ends : (ending : Ending) → Ends ending → IsEnding (length g.terms) (fits_rows (meets_in g.quads) R) (length R) (λ images. true) limit ending
  ends ending h =
      subst (λ n. IsEnding (length g.terms) (fits_rows (meets_in g.quads) R) n (λ images. true) limit ending) (sym (length-map crossed conditions))
      (subst (λ n. IsEnding n (fits_rows (meets_in g.quads) R) (length crossed) (λ images. true) limit ending) is_index.terms_are
      (subst (λ qs. IsEnding index.terms (fits_rows (meets_in qs) R) (length crossed) (λ images. true) limit ending) (ap (λ qs. kept qs index.live) is_index.quads_are ∙ all) h))

  count : length nodes ≡ length walk
  count = length-map walk (λ n. length g.terms + 1 + n)

  means : (ending : Ending) → Ends ending → MeansInto (statements e) (statements g) g.terms walk limit ending
  means (Found xs) h =
      let s = (ends (Found xs) h).is_sought in
      let c : length xs.items ≡ length nodes = s.whole ∙ search.rows_are.count in
      record {
        count = c ∙ count;
        in_range = All-from_get_or (λ t. t < length g.terms) xs.items 0 (λ k l. (each_from_is_map (length g.terms) (fits_rows (meets_in g.quads) R) xs.items s.is_map k l).0);
        maps =
            maps_same (statements e) (statements g) walk (λ n. term_at g.terms (map_of nodes xs.items (length g.terms + 1 + n))) (λ n. term_at g.terms (map_of walk xs.items n))
            (walk_closed (statements e) start walk w) (λ n i. ap (term_at g.terms) (map_of-shifted (length g.terms + 1) walk xs.items n (c ∙ count) i))
            (found_maps_into e.terms g.terms to e.quads g.quads walk (map_of nodes xs.items) (is_crossing e g to one other are)
            (map_is_node_map crossed_quads g.quads nodes R (length g.terms) (meets_in g.quads) search xs.items s.is_map c));
      }
  means Nothing h = λ μ maps.
      let m = maps_are_found e.terms g.terms to e.quads g.quads walk μ (is_crossing e g to one other are) other.terms_once other.unnamed
      (are_own_nodes e g to one other are start walk own w own_are within) maps in
      (ends Nothing h).none (map m.0 nodes) (record {
        is_map = (maps_of_rows crossed_quads g.quads nodes R (length g.terms) (meets_in g.quads) search).0 m.0 m.1;
        whole = length-map nodes m.0 ∙ sym search.rows_are.count;
        is_sought = refl;
      })
  means PastLimit h =
      more_maps e.terms g.terms to e.quads g.quads (is_crossing e g to one other are) other.terms_once walk (numbers_once e g to one other are start walk own w own_are within) limit
      (more_node_maps crossed_quads g.quads nodes R (length g.terms) (meets_in g.quads) search (λ images. true) limit (ends PastLimit h))

  pub found_means : {X : Type 0} (r : Result Ending X) → IfOk r Ends → IfOk r (MeansInto (statements e) (statements g) g.terms walk limit)
  found_means (Ok x) h = means x h
  found_means (Err x) h = tt
