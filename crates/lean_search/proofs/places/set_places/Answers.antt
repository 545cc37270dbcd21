use Rattle.std.proofs.Common.{◌≡◌, length, arith}
use Rattle.lean_search.proofs.Placing.{set_next_place, all_places_set}
use Rattle.lean_search.proofs.places.set_places.Goals as goal

pub loop-place-preserved : goal.loop-place-preserved
loop-place-preserved c =
    set_next_place c.args.place_of.now c.loop-place.place_of c.args.terms.now c.loop-place.place c.loop-place-test.true c.requires.once
    (let e : length c.loop-place.place_of
    ≡ length c.args.place_of.now = c.loop-place.auto.place_of in let w = c.requires.within c.loop-place.place 0 c.loop-place-test.true in omega arith) c.loop-place.invariant

pub returns : goal.returns
returns c = all_places_set c.args.place_of.now c.loop-place.place_of c.args.terms.now c.loop-place.place
    (let n = c.loop-place-test.false in omega arith) c.loop-place.auto.place_of c.requires.none c.loop-place.invariant
