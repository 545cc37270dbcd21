use Rattle.iri_resolve.proofs.Turns.{LeadsTo-start}
use Rattle.iri_resolve.proofs.dots.remove_dot_segments.Goals as goal

pub loop-input-init : goal.loop-input-init
loop-input-init c = (c.utf8.path, rw c.new-output.ensures.bytes (LeadsTo-start c.args.path.now))
