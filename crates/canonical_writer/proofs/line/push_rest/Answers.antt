use Rattle.canonical_writer.proofs.LinePlaces.{rest_by_places}
use Rattle.canonical_writer.proofs.line.push_rest.Goals as goal

pub returns-clause-ok : goal.returns-clause-ok
returns-clause-ok g c = rest_by_places _ _ _ _ _ _ _ c.in_ok-push_place.ensures.ok c.in_ok-push_place-2.ensures.ok c.in_ok-push_graph_name.ensures.ok c.in_ok-extend_from_slice.ensures.items
