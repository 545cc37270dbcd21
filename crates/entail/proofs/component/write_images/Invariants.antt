use Rattle.entail.proofs.Writing.{ArePut}
use Rattle.entail.proofs.component.write_images.Given as goal

abbrev pub invariant-loop-place : goal.invariant-loop-place
invariant-loop-place l = ArePut l.initial.images l.images l.walk l.found l.place
