use Rattle.std.proofs.Common.{◌≡◌, length, arith}
use Rattle.entail.proofs.Writing.{next_put}
use Rattle.entail.proofs.component.write_images.Goals as goal

pub loop-place-preserved : goal.loop-place-preserved
loop-place-preserved c =
    next_put c.args.images.now c.loop-place.images c.args.walk.now c.args.found.now c.loop-place.place c.loop-place-test.true c.requires.once
    (let e : length c.loop-place.images
    ≡ length c.args.images.now = c.loop-place.auto.images in let w = c.requires.within c.loop-place.place 0 c.loop-place-test.true in omega arith) c.loop-place.invariant
