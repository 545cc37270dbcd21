use Rattle.std.proofs.Common.{List, ap, length, ◌+◌, ◌<◌, ◌≤◌, arith, refl, subst, suc, sym, ℕ, ◌∙◌, ◌≡◌}
use Rattle.rdf_terms.proofs.Common.{In, Dataset, IsValid, Text, dataset as dataset_of, In-get_or}
use Rattle.canon_model.specs.CountedRun.{CountedCall, counted_call, logged, one_unit}
use Rattle.canon_model.specs.Issuer.{IsValidCall}
use Rattle.canon_model.specs.Hashing.{Hashing}
use Rattle.canon_model.specs.Meaning.{meaning}
use Rattle.canon_model.specs.Recursion.{counted_step}
use Rattle.canon_model.proofs.FewerTies.{fewer_ties_than_units}
use Rattle.canon_model.proofs.Recursion.{counted_call_of_calls}
use Rattle.canon_model.proofs.CallTies.{ties_of_call_are_tied}
use Rattle.ndegree_hash.specs.declared.at.At.TheVariants.{Begin, Call, Group, Return}
use Rattle.ndegree_hash.specs.declared.frame.Frame.{Frame}
use Rattle.ndegree_hash.specs.OpenCalls.{Account, IsLeft, IsResumed}
use Rattle.ndegree_hash.specs.KnownNodes.{IsTrail}
use Rattle.ndegree_hash.specs.FrameSteps.{Leads}
use Rattle.ndegree_hash.specs.OwedTies.{owed, ties_at}
use Rattle.ndegree_hash.proofs.KnownFrames.{AllKnown-kept, AllKnown-pop, AllKnown-push, IsTrail-valid, owed_below-append}
use Rattle.ndegree_hash.proofs.Running.{IsRunning-calls, begin-keeps, call-keeps, over-begin, over-call, return-ends, return-keeps, return-stacked, running-begins, step-front, step-keeps, step-may_log}
use Rattle.ndegree_hash.proofs.Logging.{on_err}
use Rattle.ndegree_hash.proofs.MachineState.{AllKnown, IsRunning, owed_below}
use Rattle.ndegree_hash.proofs.machine.run.Goals as goal

-- the counted run of a call that the running frame makes, told over the calls that it makes
call-steps : (ρ : Hashing) (D : Dataset) (c : List ℕ) (m : ℕ) (i : List ℕ) (n : ℕ) (t : List ℕ) → IsValid D → IsValidCall D c m i → IsTrail D c t → In n t
    → counted_call ρ D c n t ≡ counted_step (counted_call ρ D c) ρ D c n t
call-steps ρ D c m i n t valid v r h = counted_call_of_calls ρ D c n t valid (IsTrail-valid D c t n m i v r h)

pub returns-then-not-spend-clause-over : goal.returns-then-not-spend-clause-over
returns-then-not-spend-clause-over c =
    let few = fewer_ties_than_units (meaning c.args.profile) (dataset_of c.args.dataset.now) c.args.canon.now.list c.args.node c.args.trail.now.list in
    let e = c.spend.ensures.none_left.0 c.if-not-spend.true in
    λ _. omega arith

pub open_call-requires-clause-node : goal.open_call-requires-clause-node
open_call-requires-clause-node c = c.requires.call.temporary_nodes c.args.node c.requires.call.listed

pub loop-at-init : goal.loop-at-init
loop-at-init c =
    let d = c.args.dataset.now in
    let n = c.args.node in
    let t = c.args.trail.now.list in
    let ρ : Hashing = meaning c.args.profile in
    let call : CountedCall = counted_call ρ (dataset_of d) c.args.canon.now.list in
    let before : Account = record { spent = c.args.budget.now.spent; log = c.args.ties.now } in
    let at : List Frame → ℕ → Type 0 = λ fs k. IsRunning ρ (dataset_of d) call c.args.canon.now.list (call n t) before t fs c.in_ok-frame.frame Group (record { spent = k; log = c.args.ties.now }) in
    record {
      running = subst (λ k. at c.new-below.result.items k) (sym (c.if-not-spend.ensures.spent refl))
          (subst (λ fs. at fs (suc c.args.budget.now.spent)) (sym c.new-below.ensures.items)
          (running-begins ρ call (dataset_of d) c.args.canon.now.list n before t c.in_ok-frame.frame c.in_ok-frame.ensures
          (counted_call_of_calls ρ (dataset_of d) c.args.canon.now.list n t c.requires.valid c.requires.call)));
      known = c.in_ok-frame.ensures.known;
      below = subst (AllKnown (dataset_of d) c.args.canon.now.list t) (sym c.new-below.ensures.items) (record { known = λ f h. absurd h });
      trail = record { nodes = c.requires.call.temporary_nodes; once = c.requires.call.temporary_once; apart = c.requires.call.apart };
      owes =
          let none : owed_below c.new-below.result.items ≡ 0 = ap owed_below c.new-below.ensures.items in
          let others : length c.in_ok-frame.frame.others.items ≡ 0 = ap length c.in_ok-frame.ensures.others in
          let e = c.if-not-spend.ensures.spent refl in
          omega arith;
      within = let e = c.if-not-spend.ensures.spent refl in let h = c.if-not-spend.ensures.one_left refl in let l = c.spend.ensures.limit in omega arith;
      limit = c.spend.ensures.limit;
      grown = let e = c.if-not-spend.ensures.spent refl in omega arith;
      prefix = refl;
    }

pub returns-then-not-spend-2-clause-over : goal.returns-then-not-spend-2-clause-over
returns-then-not-spend-2-clause-over c =
    let more = over-begin _ _ _ _ _ _ _ _ _ _ _ c.loop-at.invariant.running c.in-Begin.is in
    let e = c.spend-in-Begin.ensures.none_left.0 c.if-not-spend-2.true in
    let l = c.loop-at.invariant.limit in
    λ _. omega arith

pub begin-requires-clause-nodes : goal.begin-requires-clause-nodes
begin-requires-clause-nodes c =
    let fits = c.requires.fits in
    λ k d h. let low = c.loop-at.invariant.known.arrangement _ (In-get_or c.loop-at.frame.arrangement k d h) in omega arith

pub loop-at-preserved-in-Begin : goal.loop-at-preserved-in-Begin
loop-at-preserved-in-Begin c =
    let D : Dataset = dataset_of c.args.dataset.now in
    let i = c.loop-at.invariant in
    let leads : Leads c.args.canon.now.list c.loop-at.trail.list c.loop-at.frame Begin one_unit c.begin.new.trail.list c.begin.new.frame c.in_ok-at-in-Begin.at = c.in_ok-at-in-Begin.ensures.leads in
    record {
      running = begin-keeps _ _ _ _ _ _ _ _ _ _ _ i.running _ _ _ _ c.in-Begin.is leads (c.if-not-spend-2.ensures.spent refl);
      known = c.in_ok-at-in-Begin.ensures.keeps.known D i.known i.trail;
      below = AllKnown-kept D c.args.canon.now.list c.loop-at.trail.list c.begin.new.trail.list c.loop-at.below.items c.loop-at.frame.mark
          i.running.stacked leads.below i.below;
      trail = c.in_ok-at-in-Begin.ensures.keeps.trail D i.known i.trail;
      owes = let a = i.owes in let b = c.in_ok-at-in-Begin.ensures.owes in let e = c.if-not-spend-2.ensures.spent refl in omega arith;
      within = let e = c.if-not-spend-2.ensures.spent refl in let h = c.if-not-spend-2.ensures.one_left refl in let l = c.spend-in-Begin.ensures.limit in omega arith;
      limit = c.spend-in-Begin.ensures.limit ∙ i.limit;
      grown = let e = c.if-not-spend-2.ensures.spent refl in let g = i.grown in omega arith;
      prefix = c.begin.ensures.prefix ∙ i.prefix;
    }

pub returns-then-not-spend-3-clause-over : goal.returns-then-not-spend-3-clause-over
returns-then-not-spend-3-clause-over c =
    let more = over-call _ _ _ _ _ _ _ _ _ _ _ c.loop-at.invariant.running _ c.in-Call.is
    (call-steps (meaning c.args.profile) (dataset_of c.args.dataset.now) c.args.canon.now.list c.args.node c.args.trail.now.list c.in-Call.called c.loop-at.trail.list c.requires.valid c.requires.call
    c.loop-at.invariant.trail (IsRunning-calls _ _ _ _ _ _ _ _ _ _ _ c.in-Call.called c.loop-at.invariant.running c.in-Call.is)) in
    let e = c.spend-in-Call.ensures.none_left.0 c.if-not-spend-3.true in
    let l = c.loop-at.invariant.limit in
    λ _. omega arith

pub enter-requires-clause-node : goal.enter-requires-clause-node
enter-requires-clause-node c =
    c.loop-at.invariant.trail.nodes c.in-Call.called (IsRunning-calls _ _ _ _ _ _ _ _ _ _ _ c.in-Call.called c.loop-at.invariant.running c.in-Call.is)

pub loop-at-preserved-in-Call : goal.loop-at-preserved-in-Call
loop-at-preserved-in-Call c = record {
  running = call-keeps _ _ _ _ _ _ _ _ _ _ _ c.loop-at.invariant.running _ _ _ _ c.in-Call.is
      (call-steps (meaning c.args.profile) (dataset_of c.args.dataset.now) c.args.canon.now.list c.args.node c.args.trail.now.list c.in-Call.called c.loop-at.trail.list
      c.requires.valid c.requires.call c.loop-at.invariant.trail (IsRunning-calls _ _ _ _ _ _ _ _ _ _ _ c.in-Call.called c.loop-at.invariant.running c.in-Call.is))
      c.in_ok-enter-in-Call.ensures.below c.in_ok-enter-in-Call.ensures.frame
      (c.if-not-spend-3.ensures.spent refl);
  known = c.in_ok-enter-in-Call.ensures.frame.known;
  below = subst (AllKnown (dataset_of c.args.dataset.now) c.args.canon.now.list c.loop-at.trail.list) (sym c.in_ok-enter-in-Call.ensures.below)
      (AllKnown-push (dataset_of c.args.dataset.now) c.args.canon.now.list c.loop-at.trail.list c.loop-at.below.items c.loop-at.frame c.loop-at.invariant.below c.loop-at.invariant.known);
  trail = c.loop-at.invariant.trail;
  owes =
      let a : c.loop-at.ties.total + owed_below c.loop-at.below.items + owed c.loop-at.frame (Call c.in-Call.called) + c.args.budget.now.spent < c.loop-at.budget.spent + c.args.ties.now.total =
      subst (λ at. c.loop-at.ties.total + owed_below c.loop-at.below.items + owed c.loop-at.frame at + c.args.budget.now.spent < c.loop-at.budget.spent
      + c.args.ties.now.total) c.in-Call.is c.loop-at.invariant.owes in
      let b : owed_below c.enter.new.below.items ≡ owed_below c.loop-at.below.items + suc (length c.loop-at.frame.others.items) = ap owed_below c.in_ok-enter-in-Call.ensures.below
      ∙ owed_below-append c.loop-at.below.items c.loop-at.frame in
      let others : length c.enter.new.frame.others.items ≡ 0 = ap length c.in_ok-enter-in-Call.ensures.frame.others in
      let e = c.if-not-spend-3.ensures.spent refl in
      omega arith;
  within = let e = c.if-not-spend-3.ensures.spent refl in let h = c.if-not-spend-3.ensures.one_left refl in let l = c.spend-in-Call.ensures.limit in omega arith;
  limit = c.spend-in-Call.ensures.limit ∙ c.loop-at.invariant.limit;
  grown = let e = c.if-not-spend-3.ensures.spent refl in let g = c.loop-at.invariant.grown in omega arith;
  prefix = c.loop-at.invariant.prefix;
}

pub leave-requires : goal.leave-requires
leave-requires c = record { stacked = return-stacked _ _ _ _ _ _ _ _ _ _ _ c.loop-at.invariant.running c.in-Return.is }

pub returns-in-None-clause-finished : goal.returns-in-None-clause-finished
returns-in-None-clause-finished c =
    return-ends _ _ _ _ _ _ _ _ _ _ _ c.loop-at.invariant.running _ c.in-Return.is (c.hash_of_text-hash.ensures ∙ ap (λ (text : Text). (meaning c.args.profile).hash text) c.as_slice.ensures.value)
    (subst (λ o. IsLeft c.args.canon.now.list c.loop-at.trail.list c.loop-at.below.items c.hash_of_text-hash.result c.leave.new.below.items c.leave.new.frame o)
    c.in-None.is c.in_ok-left-in-Return.ensures)

pub loop-at-preserved-in-Some : goal.loop-at-preserved-in-Some
loop-at-preserved-in-Some c =
    let left : IsResumed c.args.canon.now.list c.loop-at.trail.list c.loop-at.below.items c.hash_of_text-hash.result c.leave.new.below.items c.leave.new.frame c.in-Some.to =
    subst (λ o. IsLeft c.args.canon.now.list c.loop-at.trail.list c.loop-at.below.items c.hash_of_text-hash.result c.leave.new.below.items c.leave.new.frame o) c.in-Some.is
    c.in_ok-left-in-Return.ensures in
    let popped = AllKnown-pop (dataset_of c.args.dataset.now) c.args.canon.now.list c.loop-at.trail.list c.leave.new.below.items left.caller
    (subst (AllKnown (dataset_of c.args.dataset.now) c.args.canon.now.list c.loop-at.trail.list) left.below_is c.loop-at.invariant.below) in
    record {
      running = return-keeps _ _ _ _ _ _ _ _ _ _ _ c.loop-at.invariant.running _ _ _ _ c.in-Return.is
          (c.hash_of_text-hash.ensures ∙ ap (λ (text : Text). (meaning c.args.profile).hash text) c.as_slice.ensures.value) left;
      known = left.known (dataset_of c.args.dataset.now) popped.1;
      below = popped.0;
      trail = c.loop-at.invariant.trail;
      owes =
          let a : c.loop-at.ties.total + owed_below c.loop-at.below.items + owed c.loop-at.frame Return + c.args.budget.now.spent < c.loop-at.budget.spent + c.args.ties.now.total =
          subst (λ at. c.loop-at.ties.total + owed_below c.loop-at.below.items + owed c.loop-at.frame at + c.args.budget.now.spent < c.loop-at.budget.spent
          + c.args.ties.now.total) c.in-Return.is c.loop-at.invariant.owes in
          let b : owed_below c.loop-at.below.items ≡ owed_below c.leave.new.below.items + suc (length left.caller.others.items) = ap owed_below left.below_is
          ∙ owed_below-append c.leave.new.below.items left.caller in
          let r : owed c.leave.new.frame c.in-Some.to ≤ suc (length left.caller.others.items) = left.owes in
          omega arith;
      within = c.loop-at.invariant.within;
      limit = c.loop-at.invariant.limit;
      grown = c.loop-at.invariant.grown;
      prefix = c.loop-at.invariant.prefix;
    }

pub step-requires-clause-room : goal.step-requires-clause-room
step-requires-clause-room c =
    let a = c.loop-at.invariant.owes in
    let w = c.loop-at.invariant.within in
    let l = c.loop-at.invariant.limit in
    let fits = c.if-not-spend.ensures.fits in
    let r = c.requires.few_ties in
    omega arith

pub step-requires-clause-ties : goal.step-requires-clause-ties
step-requires-clause-ties c =
    step-may_log _ _ _ _ _ _ _ _ _ _ _ c.loop-at.invariant.running
    (λ tie h. ties_of_call_are_tied (meaning c.args.profile) (dataset_of c.args.dataset.now) c.args.canon.now.list c.args.node c.args.trail.now.list c.requires.valid c.requires.call tie h)

pub loop-at-preserved : goal.loop-at-preserved
loop-at-preserved c =
    let D : Dataset = dataset_of c.args.dataset.now in
    let i = c.loop-at.invariant in
    let leads : Leads c.args.canon.now.list c.loop-at.trail.list c.loop-at.frame c.loop-at.at
    (logged (ties_at c.args.canon.now.list c.loop-at.trail.list c.loop-at.frame c.loop-at.at)) c.step.new.trail.list c.step.new.frame c.in_ok-next-in-Group.next =
    c.in_ok-next-in-Group.ensures.leads in
    record {
      running = step-keeps _ _ _ _ _ _ _ _ _ _ _ i.running _ _ _ _ leads c.in_ok-next-in-Group.ensures.logs;
      known = c.in_ok-next-in-Group.ensures.keeps.known D i.known i.trail;
      below = AllKnown-kept D c.args.canon.now.list c.loop-at.trail.list c.step.new.trail.list c.loop-at.below.items c.loop-at.frame.mark
          i.running.stacked leads.below i.below;
      trail = c.in_ok-next-in-Group.ensures.keeps.trail D i.known i.trail;
      owes = let a = i.owes in let b = c.in_ok-next-in-Group.ensures.owes in omega arith;
      within = i.within;
      limit = i.limit;
      grown = i.grown;
      prefix = c.step.ensures.prefix ∙ i.prefix;
    }

pub returns-in_err-next-in-Group-clause-front : goal.returns-in_err-next-in-Group-clause-front
returns-in_err-next-in-Group-clause-front c = on_err _ _ (step-front _ _ _ _ _ _ _ _ _ _ _ c.loop-at.invariant.running _ c.in_err-next-in-Group.ensures.front)
