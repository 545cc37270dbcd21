use Rattle.std.proofs.Common.{◌<◌, length, sym, subst}
use Rattle.std.specs.List.{All}
use Rattle.rdf_terms.proofs.Common.{AreDistinct}
use Rattle.rdf_terms.proofs.MadeLists.{each-from_All}
use Rattle.rdf_terms.specs.Document.{statements}
use Rattle.component_walk.proofs.Numbering.{own_few}
use Rattle.component_walk.proofs.Walks.{walk_closed, walk_once}
use Rattle.entail.proofs.Leaving.{found_count, walk_searched}
use Rattle.entail.proofs.Walked.{own_once, walk_within}
use Rattle.entail.proofs.component.search_walk.Goals as goal

pub terms_of-requires : goal.terms_of-requires
terms_of-requires c = walk_within c.args.crossing.now.entailed.now c.requires.crossed.entailed c.requires.walk.0 c.args.walk.now c.requires.walk.1

pub set_places-requires-clause-once : goal.set_places-requires-clause-once
set_places-requires-clause-once c = subst AreDistinct (sym c.as_slice.ensures.value)
    (own_once c.args.crossing.now.entailed.now c.requires.crossed.entailed c.requires.walk.0 c.args.walk.now c.requires.walk.1 c.in_ok-own.own.items c.in_ok-own.ensures.terms)

pub set_places-requires-clause-few : goal.set_places-requires-clause-few
set_places-requires-clause-few c = subst (λ xs. length xs < 4294967295) (sym c.as_slice.ensures.value) (own_few c.args.crossing.now.entailed.now c.in_ok-own.own.items c.requires.crossed.entailed
    (own_once c.args.crossing.now.entailed.now c.requires.crossed.entailed c.requires.walk.0 c.args.walk.now c.requires.walk.1 c.in_ok-own.own.items c.in_ok-own.ensures.terms)
    (λ k i. each-from_All (λ t. t < length c.args.crossing.now.entailed.now.terms) c.in_ok-own.own.items k c.in_ok-own.ensures.in_range i))

pub find-requires-clause-few : goal.find-requires-clause-few
find-requires-clause-few c = subst (λ xs. length xs < 4294967295) (sym c.as_slice-3.ensures.value) (own_few c.args.crossing.now.entailed.now c.in_ok-own.own.items c.requires.crossed.entailed
    (own_once c.args.crossing.now.entailed.now c.requires.crossed.entailed c.requires.walk.0 c.args.walk.now c.requires.walk.1 c.in_ok-own.own.items c.in_ok-own.ensures.terms)
    (λ k i. each-from_All (λ t. t < length c.args.crossing.now.entailed.now.terms) c.in_ok-own.own.items k c.in_ok-own.ensures.in_range i))

pub keep-requires-clause-within : goal.keep-requires-clause-within
keep-requires-clause-within c = subst (λ n. All (λ x. x < n) c.args.walk.now) (sym c.requires.workspace.count)
    (walk_within c.args.crossing.now.entailed.now c.requires.crossed.entailed c.requires.walk.0 c.args.walk.now c.requires.walk.1)

pub keep-requires-clause-once : goal.keep-requires-clause-once
keep-requires-clause-once c = walk_once (statements c.args.crossing.now.entailed.now) c.requires.walk.0 c.args.walk.now c.requires.walk.1

pub keep-requires-clause-count : goal.keep-requires-clause-count
keep-requires-clause-count c =
    found_count (statements c.args.crossing.now.entailed.now) (statements c.args.crossing.now.graph.now) c.args.crossing.now.graph.now.terms c.args.walk.now c.args.limit c.in_ok-ending.ending
    c.in_ok-ending.ensures

pub returns-clause-searched : goal.returns-clause-searched
returns-clause-searched c =
    walk_searched (statements c.args.crossing.now.entailed.now) (statements c.args.crossing.now.graph.now) c.args.crossing.now.graph.now.terms c.args.limit c.args.walk.now
    c.args.workspace.now.images.items c.keep.new.images.items (walk_closed (statements c.args.crossing.now.entailed.now) c.requires.walk.0 c.args.walk.now c.requires.walk.1)
    (walk_once (statements c.args.crossing.now.entailed.now) c.requires.walk.0 c.args.walk.now c.requires.walk.1)
    (subst (λ n. All (λ x. x < n) c.args.walk.now) (sym c.requires.workspace.count)
    (walk_within c.args.crossing.now.entailed.now c.requires.crossed.entailed c.requires.walk.0 c.args.walk.now c.requires.walk.1)) c.in_ok-ending.ending c.keep.result c.in_ok-ending.ensures
    c.keep.ensures.kept
