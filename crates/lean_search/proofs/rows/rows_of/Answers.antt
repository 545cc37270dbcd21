use Rattle.std.proofs.Common.{◌≡◌, ◌<◌, length, map, get_or, sym, ap, ◌∙◌, subst, arith, rules}
use Rattle.std.specs.List.{filter, All}
use Rattle.std.proofs.lemmas.List.{length-map}
use Rattle.rdf_terms.proofs.Common.{statements, All-from_each}
use Rattle.dataset_index.specs.Mentions.{places_of}
use Rattle.map_search.specs.Index.{quad_at}
use Rattle.map_search.specs.Marks.{mark_at}
use Rattle.map_search.specs.Pattern.{row_at}
use Rattle.lean_search.specs.Asked.{condition_for, row_for}
use Rattle.lean_search.proofs.Asking.{ends_within, is_search, push_rows}
use Rattle.lean_search.proofs.rows.rows_of.Goals as goal

pub row-requires-clause-s : goal.row-requires-clause-s
row-requires-clause-s c =
    let e : c.as_slice.result.now ≡ filter (mark_at c.args.index.now.live) (places_of (statements c.args.graph.now) (get_or c.args.walk.now c.loop-place.place 0)) = c.as_slice.ensures.value
    ∙ c.in_ok-triples.ensures in
    subst (All (λ k. (quad_at c.args.index.now.quads k).s < length c.args.place_of.now)) (sym e)
    (All-from_each (λ k. (quad_at c.args.index.now.quads k).s < length c.args.place_of.now)
    (filter (mark_at c.args.index.now.live) (places_of (statements c.args.graph.now) (get_or c.args.walk.now c.loop-place.place 0)))
    (λ k i. subst (λ qs. (quad_at qs k).s < length c.args.place_of.now) (sym c.requires.index.quads_are)
    (subst (λ n. (quad_at c.args.graph.now.quads k).s < n) (sym c.requires.places.count)
    (ends_within c.args.graph.now c.args.index.now.live (get_or c.args.walk.now c.loop-place.place 0) c.requires.one k i).0)))

pub row-requires-clause-o : goal.row-requires-clause-o
row-requires-clause-o c =
    let e : c.as_slice.result.now ≡ filter (mark_at c.args.index.now.live) (places_of (statements c.args.graph.now) (get_or c.args.walk.now c.loop-place.place 0)) = c.as_slice.ensures.value
    ∙ c.in_ok-triples.ensures in
    subst (All (λ k. (quad_at c.args.index.now.quads k).o < length c.args.place_of.now)) (sym e)
    (All-from_each (λ k. (quad_at c.args.index.now.quads k).o < length c.args.place_of.now)
    (filter (mark_at c.args.index.now.live) (places_of (statements c.args.graph.now) (get_or c.args.walk.now c.loop-place.place 0)))
    (λ k i. subst (λ qs. (quad_at qs k).o < length c.args.place_of.now) (sym c.requires.index.quads_are)
    (subst (λ n. (quad_at c.args.graph.now.quads k).o < n) (sym c.requires.places.count)
    (ends_within c.args.graph.now c.args.index.now.live (get_or c.args.walk.now c.loop-place.place 0) c.requires.one k i).1)))

pub loop-place-preserved : goal.loop-place-preserved
loop-place-preserved c =
    let e : c.as_slice.result.now ≡ filter (mark_at c.args.index.now.live) (places_of (statements c.args.graph.now) (get_or c.args.walk.now c.loop-place.place 0)) = c.as_slice.ensures.value
    ∙ c.in_ok-triples.ensures in
    let row : c.in_ok-row.field-0.items
    ≡ row_for c.args.graph.now c.args.index.now.live c.args.place_of.now c.loop-place.place (get_or c.args.walk.now c.loop-place.place 0) (get_or c.args.own.now c.loop-place.place 0) =
    c.in_ok-row.ensures
    ∙ (ap (λ qs. map (λ k. condition_for c.args.place_of.now c.loop-place.place (get_or c.args.own.now c.loop-place.place 0) (quad_at qs k)) c.as_slice.result.now) c.requires.index.quads_are
    ∙ ap (map (λ k. condition_for c.args.place_of.now c.loop-place.place (get_or c.args.own.now c.loop-place.place 0) (quad_at c.args.graph.now.quads k))) e) in
    record {
      count = (let a = c.push.ensures.len in let b = c.loop-place.invariant.count in let d = ap length c.in_ok-push.ensures.items in search rules);
      each = λ k l. ap (λ rows. row_at (map (λ row. row.items) rows) k) c.in_ok-push.ensures.items
          ∙ push_rows (λ row. row.items) c.loop-place.rows.items c.in_ok-row.field-0 c.loop-place.place
          (λ k. row_for c.args.graph.now c.args.index.now.live c.args.place_of.now k (get_or c.args.walk.now k 0)
          (get_or c.args.own.now k 0)) c.loop-place.invariant.count c.loop-place.invariant.each row k l;
    }

pub returns : goal.returns
returns c =
    let n : c.loop-place.place ≡ length c.args.walk.now = (let a = c.loop-place-test.false in let b = c.loop-place.auto.place-end in omega arith) in
    is_search c.args.graph.now c.args.index.now.live c.requires.one c.args.place_of.now c.args.walk.now c.args.own.now c.requires.places c.requires.few c.requires.numbers
    (map (λ row. row.items) c.loop-place.rows.items) (length-map c.loop-place.rows.items (λ row. row.items) ∙ (c.loop-place.invariant.count ∙ n))
    (λ k l. c.loop-place.invariant.each k (subst (λ m. k < m) (sym n) l))
