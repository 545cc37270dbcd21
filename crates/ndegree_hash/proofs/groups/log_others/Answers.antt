use Rattle.std.proofs.Common.{List, [], ap, arith, subst, sym, take, ℕ, ◌+◌, ◌++◌, ◌∙◌, ◌∷◌, ◌≡◌}
use Rattle.std.proofs.lemmas.List.{take_more}
use Rattle.rdf_terms.specs.Document.{dataset as dataset_of}
use Rattle.ndegree_hash.specs.Log.{Logs}
use Rattle.tie_witness.specs.Witness.{TailMayBeChecked, right_of}
use Rattle.ndegree_hash.proofs.Closing.{front-of_others, others-next}
use Rattle.ndegree_hash.proofs.Logging.{on_err}
use Rattle.ndegree_hash.proofs.groups.log_others.Goals as goal

pub log_tail-requires-clause-lists : goal.log_tail-requires-clause-lists
log_tail-requires-clause-lists c =
    let at : TailMayBeChecked (dataset_of c.args.dataset.now) c.args.canon.now.list c.args.mark c.args.trail.now.list c.other-item.result =
    subst (TailMayBeChecked (dataset_of c.args.dataset.now) c.args.canon.now.list c.args.mark c.args.trail.now.list) (sym c.other-item.is)
    (c.requires.lists c.loop-other.other-index c.other-item.result c.loop-other-test.true) in
    subst (λ left. TailMayBeChecked (dataset_of c.args.dataset.now) c.args.canon.now.list c.args.mark left c.as_slice.result.now) (sym c.list.ensures.list)
    (subst (TailMayBeChecked (dataset_of c.args.dataset.now) c.args.canon.now.list c.args.mark c.args.trail.now.list) (sym c.as_slice.ensures) at)

pub loop-other-preserved : goal.loop-other-preserved
loop-other-preserved c =
    let tail : List ℕ = c.other-item.result in
    let more : take (c.loop-other.other-index + 1) c.args.others.now ≡ take c.loop-other.other-index c.args.others.now ++ tail ∷ [] =
    take_more c.args.others.now c.loop-other.other-index tail c.loop-other-test.true ∙ ap (λ x. take c.loop-other.other-index c.args.others.now ++ x ∷ []) (sym c.other-item.is) in
    let l : Logs (dataset_of c.args.dataset.now)
    (record { canon = c.args.canon.now.list; passed = c.args.mark; left = c.args.trail.now.list; right = right_of c.args.mark c.args.trail.now.list tail }) c.loop-other.ties c.log_tail.new.self =
    subst (λ left. Logs (dataset_of c.args.dataset.now)
    (record { canon = c.args.canon.now.list; passed = c.args.mark; left = left; right = right_of c.args.mark left tail }) c.loop-other.ties c.log_tail.new.self) c.list.ensures.list
    (subst (λ x. Logs (dataset_of c.args.dataset.now) (record {
      canon = c.args.canon.now.list;
      passed = c.args.mark;
      left = c.list.result.now;
      right = right_of c.args.mark c.list.result.now x;
    }) c.loop-other.ties c.log_tail.new.self) c.as_slice.ensures c.in_ok-log_tail.ensures.logged) in
    record {
      logs = others-next (dataset_of c.args.dataset.now) c.args.canon.now.list c.args.mark c.args.trail.now.list (take c.loop-other.other-index c.args.others.now) tail
          (take (c.loop-other.other-index + 1) c.args.others.now) c.args.ties.now c.loop-other.ties c.log_tail.new.self more c.loop-other.invariant.logs l;
      total = let e = c.loop-other.invariant.total in let n = l.total in omega arith;
    }

pub returns-in_err-log_tail-clause-front : goal.returns-in_err-log_tail-clause-front
returns-in_err-log_tail-clause-front c =
    on_err _ _ (front-of_others
    (dataset_of c.args.dataset.now) c.args.canon.now.list c.args.mark c.args.trail.now.list c.loop-other.other-index c.args.others.now c.args.ties.now c.loop-other.ties c.log_tail.new.self
    c.in_err-log_tail.ensures.err c.loop-other.invariant.logs)
