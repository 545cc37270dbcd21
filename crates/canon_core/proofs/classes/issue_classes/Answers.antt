use Rattle.std.proofs.Common.{◌+◌, ◌<◌, ◌∙◌, ap, arith, drop, map, refl, rules, slice_range, subst, sym}
use Rattle.rdf_terms.specs.Document.{dataset as dataset_of}
use Rattle.canon_model.specs.Allowed.{nodes_with_hash}
use Rattle.canon_model.specs.FirstDegree.{hash_first_degree_quads}
use Rattle.canon_model.specs.Meaning.{meaning}
use Rattle.canon_core.specs.Classes.{IsCanonicalSoFar, run_from, run_of_class}
use Rattle.canon_core.specs.HashOrder.{IsRanked, class_hash, node_of}
use Rattle.canon_core.proofs.ClassSplit.{class-behind, class-is, class_hash-front, some_behind}
use Rattle.canon_core.proofs.OnTheWay.{IsOnTheWay, run-class, way-begins, way-next, way-over}
use Rattle.canon_core.proofs.OneClass.{class-canonical}
use Rattle.canon_core.proofs.classes.issue_classes.Goals as goal

pub loop-start-init : goal.loop-start-init
loop-start-init c = record {
  within = omega arith;
  ranked = c.requires.nodes;
  issued = c.requires.issued;
  prefix = c.requires.canonical;
  few_ties = c.requires.few_ties;
  limit = refl;
  way = way-begins (dataset_of c.args.dataset.now) (run_from (meaning c.args.profile) (dataset_of c.args.dataset.now) c.args.nodes.now c.args.canon.now.list) c.args.budget.now.spent c.args.ties.now;
}

pub issue_class-requires-clause-class : goal.issue_class-requires-clause-class
issue_class-requires-clause-class c =
    let ρ = meaning c.args.profile in
    let D = dataset_of c.args.dataset.now in
    let rest = drop c.loop-start.start c.args.nodes.now in
    let some = some_behind c.args.nodes.now c.loop-start.start c.loop-start-test.true in
    let class = c.class_end-end.ensures.class in
    ap (map node_of) class ∙ class-is (hash_first_degree_quads ρ D) D.nodes rest some c.loop-start.invariant.ranked ∙ ap (nodes_with_hash ρ D) (sym (ap class_hash class ∙ class_hash-front rest some))

pub returns-in_err-issue_class-clause-over : goal.returns-in_err-issue_class-clause-over
returns-in_err-issue_class-clause-over c = λ e.
    let ρ = meaning c.args.profile in
    let D = dataset_of c.args.dataset.now in
    let rest = drop c.loop-start.start c.args.nodes.now in
    let class = slice_range c.args.nodes.now c.loop-start.start c.class_end-end.result in
    let canon = c.loop-start.canon.list in
    let some = some_behind c.args.nodes.now c.loop-start.start c.loop-start-test.true in
    let over : c.loop-start.budget.limit < c.loop-start.budget.spent + (run_of_class (meaning c.args.profile) (dataset_of c.args.dataset.now)
    (class_hash (slice_range c.args.nodes.now c.loop-start.start c.class_end-end.result)) c.loop-start.canon.list).trace.units = search rules in
    let behind = drop c.class_end-end.result c.args.nodes.now in
    let step = run-class ρ D rest class behind canon some c.class_end-end.ensures.class c.class_end-end.ensures.behind in
    let all = way-over D (run_from ρ D c.args.nodes.now c.args.canon.now.list) (run_from ρ D rest canon) (run_of_class ρ D (class_hash class) canon).trace
    (run_from ρ D behind
    (run_of_class ρ D
    (class_hash class) canon).value) c.args.budget.now.spent c.loop-start.budget.spent c.loop-start.budget.limit c.args.ties.now c.loop-start.ties c.loop-start.invariant.way step over in
    let kept = c.loop-start.invariant.limit in
    omega arith

pub loop-start-preserved : goal.loop-start-preserved
loop-start-preserved c =
    let ρ = meaning c.args.profile in
    let D = dataset_of c.args.dataset.now in
    let rest = drop c.loop-start.start c.args.nodes.now in
    let class = slice_range c.args.nodes.now c.loop-start.start c.class_end-end.result in
    let behind = drop c.class_end-end.result c.args.nodes.now in
    let canon = c.loop-start.canon.list in
    let kept = c.loop-start.invariant in
    let some = some_behind c.args.nodes.now c.loop-start.start c.loop-start-test.true in
    let step = run-class ρ D rest class behind canon some c.class_end-end.ensures.class c.class_end-end.ensures.behind in
    let done = c.in_ok-issue_class.ensures in
    let next = way-next D (run_from ρ D c.args.nodes.now c.args.canon.now.list) (run_from ρ D rest canon) (run_of_class ρ D (class_hash class) canon).trace
    (run_from ρ D behind (run_of_class ρ D
    (class_hash class) canon).value) c.args.budget.now.spent c.loop-start.budget.spent c.issue_class.new.budget.spent c.args.ties.now c.loop-start.ties
    c.issue_class.new.ties kept.way step done.spent done.ties in
    record {
      within = c.class_end-end.ensures.within;
      ranked = subst (IsRanked (hash_first_degree_quads ρ D) D.nodes) (sym c.class_end-end.ensures.behind) (class-behind (hash_first_degree_quads ρ D) D.nodes rest some kept.ranked);
      issued = subst (IsCanonicalSoFar D) (sym done.list) (class-canonical ρ D c.node_count-nodes.ensures.valid canon kept.issued (class_hash class));
      prefix = c.issue_class.ensures.prefix ∙ kept.prefix;
      few_ties = done.few_ties;
      limit = c.issue_class.ensures.limit ∙ kept.limit;
      way = subst (λ list. IsOnTheWay D (run_from ρ D c.args.nodes.now c.args.canon.now.list)
          (run_from ρ D behind list) c.args.budget.now.spent c.issue_class.new.budget.spent c.args.ties.now c.issue_class.new.ties) (sym done.list) next;
    }
