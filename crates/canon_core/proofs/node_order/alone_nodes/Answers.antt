use Rattle.std.proofs.Common.{drop, slice_range}
use Rattle.canon_core.proofs.AloneSoFar.{alone-next}
use Rattle.canon_core.proofs.ClassSplit.{some_behind}
use Rattle.canon_core.proofs.node_order.alone_nodes.Goals as goal

pub loop-start-preserved : goal.loop-start-preserved
loop-start-preserved c =
    let nodes = c.args.nodes.now in
    let start = c.loop-start.start in
    let end = c.class_end-end in
    record {
      within = end.ensures.within;
      alone = λ hash count r.
          alone-next hash count nodes c.loop-start.alone.items c.push_single.new.alone.items (drop start nodes) (slice_range nodes start end.result) (drop end.result nodes)
          (some_behind nodes start c.loop-start-test.true)
          end.ensures.class end.ensures.behind c.in_ok-push_single.ensures (c.loop-start.invariant.alone hash count r);
    }
