use Rattle.std.proofs.Common.{◌≡◌, ◌<◌, ◌++◌, ◌∷◌, [], true, length, set, sym, ◌∙◌, subst, arith}
use Rattle.std.specs.List.{filter, All}
use Rattle.rdf_terms.proofs.Common.{statements, All-from_each}
use Rattle.dataset_index.specs.Mentions.{places_of}
use Rattle.map_search.specs.Marks.{mark_at}
use Rattle.lean_search.specs.Image.{left}
use Rattle.lean_search.specs.Walk.{IsWalking}
use Rattle.lean_search.proofs.AtNodes.{place_left}
use Rattle.lean_search.proofs.Walking.{goes_on, next_of, ahead_within}
use Rattle.lean_search.proofs.walk.walk_to.Goals as goal

pub mark_ends-requires-clause-within : goal.mark_ends-requires-clause-within
mark_ends-requires-clause-within c =
    let e : c.as_slice.result.now ≡ filter (mark_at c.args.index.now.live) (places_of (statements c.args.graph.now) c.args.node) = c.as_slice.ensures.value ∙ c.in_ok-places.ensures in
    subst (λ ps. All (λ k. k < length c.args.graph.now.quads) ps) (sym e)
    (All-from_each (λ k. k < length c.args.graph.now.quads) (filter (mark_at c.args.index.now.live) (places_of (statements c.args.graph.now) c.args.node))
    (λ k i. (place_left c.args.graph.now c.args.index.now.live c.args.node k i).within))

pub next_ahead-requires : goal.next_ahead-requires
next_ahead-requires c k m =
    let w =
    goes_on c.args.graph.now c.args.index.now.live c.requires.one c.args.walk.now.items c.args.walked.now c.args.ahead.now c.set.new.self c.mark_ends.new.ahead c.args.node c.requires.walking
    (let a = c.requires.within in let b = c.requires.walked in omega arith) c.set.ensures.here c.set.ensures.others c.as_slice.result.now (c.as_slice.ensures.value ∙ c.in_ok-places.ensures)
    c.mark_ends.ensures.marks in
    let l = ahead_within c.args.graph.now c.args.index.now.live (c.args.walk.now.items ++ c.args.node ∷ []) (set c.args.walked.now c.args.node true) c.mark_ends.new.ahead c.requires.one w k m in
    let b = c.requires.one.document.draft.labels_bound in
    omega arith

pub returns-clause-walking : goal.returns-clause-walking
returns-clause-walking c =
    subst (λ ws. IsWalking (left c.args.graph.now c.args.index.now.live) ws (set c.args.walked.now c.args.node true) c.mark_ends.new.ahead) (sym c.in_ok-push.ensures.items)
    (goes_on c.args.graph.now c.args.index.now.live c.requires.one c.args.walk.now.items c.args.walked.now c.args.ahead.now c.set.new.self c.mark_ends.new.ahead c.args.node c.requires.walking
    (let a = c.requires.within in let b = c.requires.walked in omega arith) c.set.ensures.here c.set.ensures.others c.as_slice.result.now (c.as_slice.ensures.value ∙ c.in_ok-places.ensures)
    c.mark_ends.ensures.marks)

pub returns-clause-next : goal.returns-clause-next
returns-clause-next c =
    next_of (left c.args.graph.now c.args.index.now.live) c.push.new.self.items (set c.args.walked.now c.args.node true) c.mark_ends.new.ahead c.next_ahead.result
    (returns-clause-walking c) c.next_ahead.ensures.some c.next_ahead.ensures.none
