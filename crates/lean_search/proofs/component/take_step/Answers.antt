use Rattle.std.proofs.Common.{refl, subst}
use Rattle.map_search.specs.Pattern.{map_of}
use Rattle.lean_search.specs.Image.{LeavesReached}
use Rattle.lean_search.proofs.component.take_step.Goals as goal

pub returns-clause-step : goal.returns-clause-step
returns-clause-step c = record {
  step = record { terms = c.args.own; images = c.args.images };
  terms_are = refl;
  images_are = refl;
  steps_are = c.in_ok-push.ensures.items;
  reached = subst (λ xs. LeavesReached c.args.graph.now (map_of xs c.args.images.items) c.args.workspace.now.index.live c.shrink.new.index.live) c.as_slice-2.ensures.value
      (subst (λ ys. LeavesReached c.args.graph.now
      (map_of c.as_slice-2.result.now ys) c.args.workspace.now.index.live c.shrink.new.index.live) c.as_slice-3.ensures.value c.in_ok-shrink.ensures.reached);
}
