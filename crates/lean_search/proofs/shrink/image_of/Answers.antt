use Rattle.std.proofs.Common.{length, arith}
use Rattle.lean_search.proofs.Reaching.{IsPlaced, image_at, image_kept, is_placed}
use Rattle.lean_search.proofs.shrink.image_of.Goals as goal

pub bounds-images-place : goal.bounds-images-place
bounds-images-place c =
    let p : IsPlaced c.args.place_of.now c.args.own.now c.args.term = is_placed (length c.args.place_of.now) c.args.place_of.now c.args.own.now c.requires.places c.args.term c.requires.within
    (λ e. c.if-place.false e) in
    let l = p.within in
    let e = p.is in
    let n = c.requires.count in
    omega arith

pub returns-then-place : goal.returns-then-place
returns-then-place c = image_kept (length c.args.place_of.now) c.args.place_of.now c.args.own.now c.args.images.now c.requires.places c.requires.few c.args.term c.if-place.true

pub returns-else-place : goal.returns-else-place
returns-else-place c =
    image_at c.args.place_of.now c.args.own.now c.args.images.now c.args.term c.requires.once c.requires.count
    (is_placed (length c.args.place_of.now) c.args.place_of.now c.args.own.now c.requires.places c.args.term c.requires.within (λ e. c.if-place.false e))
