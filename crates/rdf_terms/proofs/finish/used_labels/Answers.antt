use Rattle.std.proofs.Common.{◌<◌, length, sym, ap, ◌∙◌, arith, add-one, length-drop}
use Rattle.rdf_terms.specs.Document.{mark_in}
use Rattle.rdf_terms.proofs.Keeping.{kept_from, Keeps-more}
use Rattle.rdf_terms.proofs.finish.used_labels.Goals as goal

pub keep-requires : goal.keep-requires
keep-requires c =
    λ h. kept_from c.args.labels.keys c.loop-node.node-iterator.count c.in-Some.label c.next.new.self.iter (sym c.in-Some.ensures.steps.0 ∙ c.loop-node.invariant.rest) c.requires.distinct
    (c.loop-node.invariant.known c.in-Some.label h)

pub loop-node-preserved : goal.loop-node-preserved
loop-node-preserved c =
    let split = c.in-Some.ensures.steps.0 in
    let low : c.loop-node.node-iterator.count < length c.args.used.now =
    omega (arith, c.requires.len, ap length (sym split ∙ c.loop-node.invariant.rest), length-drop c.loop-node.node-iterator.count c.args.labels.keys) in
    rw (c.in-Some.ensures.steps.2, add-one)
    (Keeps-more c.args.labels.keys c.loop-node.kept.keys c.loop-node.node-iterator.iter c.args.used.now c.loop-node.node-iterator.count c.in-Some.label c.next.new.self.iter c.keep.new.kept.keys
    (mark_in c.args.used.now c.in-Some.node) split low (ap (mark_in c.args.used.now) c.in-Some.ensures.steps.1) c.in_ok-keep.ensures c.loop-node.invariant)
