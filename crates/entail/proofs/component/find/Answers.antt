use Rattle.std.proofs.Common.{◌<◌, true, List, length, map, get_or, sym, ap, ◌∙◌, subst, IfOk}
use Rattle.rdf_terms.proofs.MadeLists.{each-from_All}
use Rattle.rdf_terms.specs.Document.{statement}
use Rattle.map_search.specs.Ends.{IsEnding}
use Rattle.map_search.specs.Index.{graph_of, meets_in}
use Rattle.map_search.specs.Pattern.{AreRows, fits_rows}
use Rattle.map_search.specs.declared.rows.Condition.{Condition}
use Rattle.component_walk.specs.Walk.{IsWalk, IsWalkFrom}
use Rattle.component_walk.proofs.Numbering.{numbers_of, walk_within}
use Rattle.entail.specs.Numbers.{condition_by}
use Rattle.entail.proofs.Meaning.{found_means}
use Rattle.entail.proofs.component.find.Goals as goal

pub rows_of-requires-clause-within : goal.rows_of-requires-clause-within
rows_of-requires-clause-within c =
    walk_within c.args.crossing.now.entailed.now c.args.crossing.now.entailed_index.live c.args.walk.now c.requires.crossed.entailed
    (subst (λ G. IsWalk G c.args.walk.now) (sym (ap (map (statement c.args.crossing.now.entailed.now.terms)) c.requires.crossed.entailed_all)) c.requires.walk)

pub rows_of-requires-clause-numbers : goal.rows_of-requires-clause-numbers
rows_of-requires-clause-numbers c =
    numbers_of c.args.crossing.now.entailed.now c.args.crossing.now.entailed_index.live c.requires.walk.0 c.args.walk.now c.args.own.now c.requires.crossed.entailed
    (subst (λ G. IsWalkFrom G c.requires.walk.0 c.args.walk.now) (sym (ap (map (statement c.args.crossing.now.entailed.now.terms)) c.requires.crossed.entailed_all)) c.requires.walk.1)
    c.requires.terms (λ k i. each-from_All (λ t. t < length c.args.crossing.now.entailed.now.terms) c.args.own.now k c.requires.in_range i)

pub returns : goal.returns
returns c =
    let rows : List (List Condition) = map (λ row. row.items) c.in_ok-rows.rows.items in
    let crossed_are = c.in_ok-crossed.ensures
    ∙ (ap (λ xs. map (map (condition_by (λ k. get_or xs k 0))) (map (λ row. row.items) c.as_slice-2.result.now)) c.as_slice.ensures.value
    ∙ ap (λ rs. map (map (condition_by (λ k. get_or c.args.crossing.now.numbers.items k 0))) (map (λ row. row.items) rs)) c.as_slice-2.ensures.value) in
    found_means c.args.crossing.now.entailed.now c.args.crossing.now.graph.now c.args.crossing.now.graph_index c.args.crossing.now.numbers.items c.requires.crossed.entailed c.requires.crossed.graph
    c.requires.crossed.graph_index c.requires.crossed.graph_all c.requires.crossed.numbers c.requires.walk.0 c.args.walk.now c.args.own.now c.requires.walk.1 c.requires.terms
    (λ k i. each-from_All (λ t. t < length c.args.crossing.now.entailed.now.terms) c.args.own.now k c.requires.in_range i)
    rows (subst (λ qs. AreRows qs c.args.own.now rows) c.requires.crossed.entailed_all c.in_ok-rows.ensures.rows_are) c.in_ok-rows.ensures.asked c.args.limit
    (λ row. row.items) c.in_ok-crossed.crossed.items crossed_are c.find_map.result
    (subst (λ rs. IfOk c.find_map.result
    (IsEnding c.args.crossing.now.graph_index.terms (fits_rows (meets_in (graph_of c.args.crossing.now.graph_index)) (map (λ row. row.items) rs)) (length rs)
    (λ images. true) c.args.limit)) c.as_slice-3.ensures.value c.find_map.ensures)
