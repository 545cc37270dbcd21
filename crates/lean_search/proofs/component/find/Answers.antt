use Rattle.std.proofs.Common.{IfOk, length, map, subst}
use Rattle.map_search.specs.Ends.{IsEnding}
use Rattle.map_search.specs.Index.{graph_of, meets_in}
use Rattle.map_search.specs.Pattern.{fits_rows, misses_node}
use Rattle.lean_search.proofs.Finding.{found_images, found_means}
use Rattle.lean_search.proofs.component.find.Goals as goal

pub returns-clause-means : goal.returns-clause-means
returns-clause-means c =
    found_means c.args.graph.now c.args.index.now c.requires.one c.requires.index c.args.own.now c.args.walk.now c.args.limit c.requires.numbers
    (λ row. row.items) c.in_ok-rows.rows.items c.in_ok-rows.ensures c.find_map.result
    (subst (λ rows. IfOk c.find_map.result
    (IsEnding c.args.index.now.terms (fits_rows (meets_in (graph_of c.args.index.now)) (map (λ row. row.items) rows)) (length rows)
    (misses_node c.args.own.now) c.args.limit)) c.as_slice.ensures.value c.find_map.ensures)

pub returns-clause-images : goal.returns-clause-images
returns-clause-images c =
    found_images c.args.graph.now c.args.index.now c.requires.one c.requires.index c.args.own.now c.args.walk.now c.args.limit c.requires.numbers
    (λ row. row.items) c.in_ok-rows.rows.items c.in_ok-rows.ensures c.find_map.result
    (subst (λ rows. IfOk c.find_map.result
    (IsEnding c.args.index.now.terms (fits_rows (meets_in (graph_of c.args.index.now)) (map (λ row. row.items) rows)) (length rows)
    (misses_node c.args.own.now) c.args.limit)) c.as_slice.ensures.value c.find_map.ensures)
