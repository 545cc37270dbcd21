-- The machine keeps its state.
use Rattle.std.proofs.Common.{List, [], ap, arith, length, map, refl, subst, suc, sym, take, ℕ, ◌+◌, ◌++◌, ◌<◌, ◌∙◌, ◌∷◌, ◌≡◌, ◌≤◌, append-nil}
use Rattle.std.proofs.lemmas.List.{map-append}
use Rattle.rdf_terms.proofs.Common.{Dataset, In, Text, In-append_left, In-append_right}
use Rattle.canon_model.specs.CountedRun.{Counted, CountedCall, Outcome, Tie, Trace, after, counted_groups, is_skipped, issuer_or, logged, followed_by, nothing, one_unit, path_or_none}
use Rattle.canon_model.specs.Ties.{IsTie}
use Rattle.canon_model.specs.Groups.{groups}
use Rattle.ndegree_hash.specs.PathChoice.{chosen_if}
use Rattle.canon_model.specs.Hashing.{Hashing}
use Rattle.canon_model.specs.Recursion.{counted_step}
use Rattle.ndegree_hash.specs.declared.frame.Frame.{Frame}
use Rattle.ndegree_hash.specs.declared.at.At.{At}
use Rattle.ndegree_hash.specs.declared.at.At.TheVariants.{Begin, Between, Call, Close, Ended, Group, Recursion, Return}
use Rattle.ndegree_hash.specs.OpenCalls.{Account, AreStacked, IsFinished, IsOpened, IsResumed}
use Rattle.ndegree_hash.specs.FrameSteps.{Leads}
use Rattle.ndegree_hash.specs.OwedTies.{MayBeLogged, ties_at}
use Rattle.ndegree_hash.specs.Frames.{choice_of, rest_of, waiting_of}
use Rattle.ndegree_hash.specs.Log.{LoggedTies, LogsFront, LogsInTurn}
use Rattle.ndegree_hash.specs.Resume.{after_choice, after_groups, resume, resumed}
use Rattle.ndegree_hash.proofs.BegunPermutations.{begin-unfolds, begun}
use Rattle.ndegree_hash.proofs.Logging.{front-append, logs-all, logs-append}
use Rattle.ndegree_hash.proofs.Opening.{counted_step-opens}
use Rattle.ndegree_hash.proofs.Traces.{after-after, after-nothing}
use Rattle.ndegree_hash.proofs.Unfolding.{resume_all-after, resume_all-append}
use Rattle.ndegree_hash.proofs.MachineState.{IsRunning, resume_all, whole_of}
use Rattle.ndegree_hash.proofs.StackedFrames.{all_waiting-kept, stacked-more, stacked-pop, stacked-push}

module _ (ρ : Hashing) (D : Dataset) (call : CountedCall) (c : List ℕ) (whole : Counted Outcome) (before : Account) where
  -- a step of the running frame
  pub running-leads : (t u : List ℕ) (below : List Frame) (f g : Frame) (at to : At) (now : Account) (trace : Trace) (log : LoggedTies) → IsRunning ρ D call c whole before t below f at now
      → Leads c t f at trace u g to
      → LogsInTurn D trace.ties now.log log → IsRunning ρ D call c whole before u below g to (record { spent = now.spent + trace.units; log = log })
  running-leads t u below f g at to now trace log r l logs = record {
    trace = followed_by r.trace trace;
    units = let e = r.units in omega arith;
    logs = logs-append D r.trace.ties trace.ties before.log now.log log r.logs logs;
    same =
        sym (after-after r.trace trace (whole_of ρ call c u below g to))
        ∙ ap (λ o. after r.trace o) (sym (resume_all-after ρ call c (map (waiting_of u) below) trace (rest_of ρ call c u g to)))
        ∙ ap (λ ws. after r.trace (resume_all ρ call c ws (after trace (rest_of ρ call c u g to)))) (all_waiting-kept t u below f.mark r.stacked l.below)
        ∙ ap (λ o. after r.trace (resume_all ρ call c (map (waiting_of t) below) o)) (sym (l.same ρ call))
        ∙ r.same;
    stands = l.stands;
    stacked = stacked-more below f.mark g.mark l.mark r.stacked;
  }

  -- a call is opened, at the cost of one unit; it is a valid one, so that its counted run is a step over those of its calls
  pub running-enters : (t : List ℕ) (below : List Frame) (f g : Frame) (n : ℕ) (now : Account) → IsRunning ρ D call c whole before t below f (Call n) now → IsOpened ρ D c n t g
      → call n t ≡ counted_step call ρ D c n t → IsRunning ρ D call c whole before t (below ++ f ∷ []) g Group (record { spent = suc now.spent; log = now.log })
  running-enters t below f g n now r o step =
      let opens : call n t ≡ after one_unit (rest_of ρ call c t g Group) =
      step ∙ counted_step-opens ρ call D c n t g.groups o.bags ∙ ap (λ text. after one_unit (after_groups ρ call c text g.groups t)) (sym o.text) in
      let s = r.stands.0 in
      let m = o.mark in
      let last : f.last ≤ g.mark = let w = s.within in omega arith in
      let rest : Counted Outcome = rest_of ρ call c t g Group in
      record {
        trace = followed_by r.trace one_unit;
        units = let e = r.units in omega arith;
        logs = subst (λ ties. LogsInTurn D ties before.log now.log) (sym (append-nil r.trace.ties)) r.logs;
        same =
            sym (after-after r.trace one_unit (whole_of ρ call c t (below ++ f ∷ []) g Group))
            ∙ ap (λ v. after r.trace v) (sym (resume_all-after ρ call c (map (waiting_of t) (below ++ f ∷ [])) one_unit rest))
            ∙ ap (λ ws. after r.trace (resume_all ρ call c ws (after one_unit rest))) (map-append (waiting_of t) below (f ∷ []))
            ∙ ap (λ v. after r.trace v) (resume_all-append ρ call c (map (waiting_of t) below) (waiting_of t f) (after one_unit rest))
            ∙ ap (λ v. after r.trace (resume_all ρ call c (map (waiting_of t) below) (resumed ρ call c (waiting_of t f) v))) (sym opens)
            ∙ r.same;
        stands = omega arith;
        stacked = stacked-push below f g.mark r.stacked s.next s.last last s.aside;
      }

  -- the running call gives its hash, and the one around it goes on
  pub running-leaves : (t : List ℕ) (below rest : List Frame) (f g : Frame) (hash : Text) (to : At) (now : Account) → hash ≡ ρ.hash f.text.items
      → IsRunning ρ D call c whole before t below f Return now → IsResumed c t below hash rest g to
      → IsRunning ρ D call c whole before t rest g to now
  running-leaves t below rest f g hash to now is r l =
      let popped = stacked-pop rest l.caller f.mark (subst (λ fs. AreStacked fs f.mark) l.below_is r.stacked) in
      record {
        trace = r.trace;
        units = r.units;
        logs = r.logs;
        same =
            ap (λ o. after r.trace (resume_all ρ call c (map (waiting_of t) rest) o))
            (sym (l.resumes.same ρ call) ∙ ap (λ (h : Text). resume ρ call c (waiting_of t l.caller) (record { text = h; issuer = t })) is
            ∙ sym (after-nothing (resume ρ call c (waiting_of t l.caller) (record { text = ρ.hash f.text.items; issuer = t }))))
            ∙ ap (λ o. after r.trace o) (sym (resume_all-append ρ call c (map (waiting_of t) rest) (waiting_of t l.caller) (rest_of ρ call c t f Return)))
            ∙ ap (λ ws. after r.trace (resume_all ρ call c ws (rest_of ρ call c t f Return))) (sym (map-append (waiting_of t) rest (l.caller ∷ [])) ∙ ap (map (waiting_of t)) (sym l.below_is))
            ∙ r.same;
        stands = l.resumes.stands;
        stacked = subst (AreStacked rest) (sym l.resumes.mark) popped.0;
      }

  -- no call is around the running one, so what it gives is the whole
  pub running-ends : (t : List ℕ) (f : Frame) (now : Account) → (r : IsRunning ρ D call c whole before t [] f Return now)
      → after r.trace (record { trace = nothing; value = record { text = ρ.hash f.text.items; issuer = t } }) ≡ whole
  unfolding resume_all
  running-ends t f now r = r.same

-- the call is begun, at the cost of its unit
pub running-begins : (ρ : Hashing) (call : CountedCall) (D : Dataset) (c : List ℕ) (n : ℕ) (before : Account) (t : List ℕ) (f : Frame) → IsOpened ρ D c n t f → call n t ≡ counted_step call ρ D c n t
    → IsRunning ρ D call c (call n t) before t [] f Group (record { spent = suc before.spent; log = before.log })
unfolding resume_all
running-begins ρ call D c n before t f o step = record {
  trace = one_unit;
  units = omega arith;
  logs = refl;
  same = sym (step ∙ counted_step-opens ρ call D c n t f.groups o.bags ∙ ap (λ text. after one_unit (after_groups ρ call c text f.groups t)) (sym o.text));
  stands = let m = o.mark in omega arith;
  stacked = tt;
}

-- what is left is no part of what was counted, so a unit that is still to be spent is one more
pub running-has_more : (ρ : Hashing) (D : Dataset) (call : CountedCall) (c : List ℕ) (whole : Counted Outcome) (before : Account) (t : List ℕ) (below : List Frame) (f : Frame) (at : At)
    (now : Account) (rest : Counted Outcome)
    → IsRunning ρ D call c whole before t below f at now → rest_of ρ call c t f at ≡ after one_unit rest → now.spent < before.spent + whole.trace.units
running-has_more ρ D call c whole before t below f at now rest r e =
    let total = ap (λ (o : Counted Outcome). o.trace.units) r.same in
    let inner = ap (λ (o : Counted Outcome). o.trace.units) (ap (λ o. resume_all ρ call c (map (waiting_of t) below) o) e ∙ resume_all-after ρ call c (map (waiting_of t) below) one_unit rest) in
    let u = r.units in
    omega arith

-- the ties that were logged, those that the running frame logs next, and the rest
running-ties : (ρ : Hashing) (D : Dataset) (call : CountedCall) (c : List ℕ) (whole : Counted Outcome) (before : Account) (t : List ℕ) (below : List Frame) (f : Frame) (now : Account)
    → (r : IsRunning ρ D call c whole before t below f Close now) → (rest : List Tie) × (r.trace.ties ++ (ties_at c t f Close ++ rest) ≡ whole.trace.ties)
unfolding after_choice
running-ties ρ D call c whole before t below f now r =
    let ties : List Tie = ties_at c t f Close in
    let rest : Counted Outcome = after_groups ρ call c (f.text.items ++ path_or_none (choice_of t f)) f.groups (issuer_or (choice_of t f) (take f.mark t)) in (
      (resume_all ρ call c (map (waiting_of t) below) rest).trace.ties,
      ap (λ (o : Counted Outcome). r.trace.ties ++ o.trace.ties) (sym (resume_all-after ρ call c (map (waiting_of t) below) (logged ties) rest))
          ∙ ap (λ (o : Counted Outcome). o.trace.ties) r.same,
    )

-- the ties that the running frame logs next are ties of the whole
pub running-logs : (ρ : Hashing) (D : Dataset) (call : CountedCall) (c : List ℕ) (whole : Counted Outcome) (before : Account) (t : List ℕ) (below : List Frame) (f : Frame) (now : Account)
    → IsRunning ρ D call c whole before t below f Close now → (tie : Tie) → In tie (ties_at c t f Close) → In tie whole.trace.ties
running-logs ρ D call c whole before t below f now r tie h =
    let all = running-ties ρ D call c whole before t below f now r in
    subst (λ l. In tie l) all.1 (In-append_right r.trace.ties (ties_at c t f Close ++ all.0) tie (In-append_left (ties_at c t f Close) all.0 tie h))

module _ (ρ : Hashing) (D : Dataset) (call : CountedCall) (c : List ℕ) (whole : Counted Outcome) (before : Account) (t : List ℕ) (below : List Frame) (f : Frame) (at : At) (now : Account)
    (r : IsRunning ρ D call c whole before t below f at now) where
  pub running-at : (to : At) → at ≡ to → IsRunning ρ D call c whole before t below f to now
  running-at to e = subst (λ a. IsRunning ρ D call c whole before t below f a now) e r

  pub over-begin : at ≡ Begin → now.spent < before.spent + whole.trace.units
  over-begin e =
      let s = running-at Begin e in
      running-has_more ρ D call c whole before t below f Begin now (begun ρ call c t f (is_skipped (chosen_if f.paths.has_choice f.paths.chosen) c t [] f.arrangement) t) s
      (begin-unfolds ρ call c t f s.stands)

  pub over-call : (n : ℕ) → at ≡ Call n → call n t ≡ counted_step call ρ D c n t → now.spent < before.spent + whole.trace.units
  over-call n e step =
      let s = running-at (Call n) e in
      let run : Counted Outcome = counted_groups call c (groups ρ D c t n).nodes (groups ρ D c t n).hashes t in
      let o : Counted Outcome = record { trace = run.trace; value = record { text = ρ.hash run.value.text; issuer = run.value.issuer } } in
      running-has_more ρ D call c whole before t below f (Call n) now (resumed ρ call c (waiting_of t f) o) s
      (ap (λ v. resumed ρ call c (waiting_of t f) v) step ∙ sym (after-after one_unit o.trace (resume ρ call c (waiting_of t f) o.value)))

  pub begin-keeps : (u : List ℕ) (g : Frame) (to : At) (spent : ℕ) → at ≡ Begin → Leads c t f Begin one_unit u g to → spent ≡ suc now.spent
      → IsRunning ρ D call c whole before u below g to (record { spent = spent; log = now.log })
  begin-keeps u g to spent e l n =
      subst (λ k. IsRunning ρ D call c whole before u below g to (record { spent = k; log = now.log })) (let z : now.spent + 1 ≡ spent = omega arith in z)
      (running-leads ρ D call c whole before t u below f g Begin to now one_unit now.log (running-at Begin e) l refl)

  pub step-keeps : (u : List ℕ) (g : Frame) (to : At) (log : LoggedTies) → Leads c t f at (logged (ties_at c t f at)) u g to → LogsInTurn D (ties_at c t f at) now.log log
      → IsRunning ρ D call c whole before u below g to (record { spent = now.spent; log = log })
  step-keeps u g to log l logs =
      subst (λ k. IsRunning ρ D call c whole before u below g to (record { spent = k; log = log })) (let z : now.spent + 0 ≡ now.spent = omega arith in z)
      (running-leads ρ D call c whole before t u below f g at to now (logged (ties_at c t f at)) log r l logs)

  pub call-keeps : (n : ℕ) (above : List Frame) (g : Frame) (spent : ℕ) → at ≡ Call n → call n t ≡ counted_step call ρ D c n t → above ≡ below ++ f ∷ [] → IsOpened ρ D c n t g → spent ≡ suc now.spent
      → IsRunning ρ D call c whole before t above g Group (record { spent = spent; log = now.log })
  call-keeps n above g spent e step a o m =
      subst (λ k. IsRunning ρ D call c whole before t above g Group (record { spent = k; log = now.log })) (sym m)
      (subst (λ fs. IsRunning ρ D call c whole before t fs g Group (record { spent = suc now.spent; log = now.log })) (sym a)
      (running-enters ρ D call c whole before t below f g n now (running-at (Call n) e) o step))

  pub return-stacked : at ≡ Return → AreStacked below (length t)
  return-stacked e = let s = running-at Return e in stacked-more below f.mark (length t) s.stands s.stacked

  pub return-keeps : (hash : Text) (rest : List Frame) (g : Frame) (to : At) → at ≡ Return → hash ≡ ρ.hash f.text.items → IsResumed c t below hash rest g to
      → IsRunning ρ D call c whole before t rest g to now
  return-keeps hash rest g to e is l = running-leaves ρ D call c whole before t below rest f g hash to now is (running-at Return e) l

  pub return-ends : (hash : Text) → at ≡ Return → hash ≡ ρ.hash f.text.items → below ≡ [] → IsFinished D whole before hash t now
  return-ends hash e is none =
      let s = running-at Return e in
      let s' = subst (λ fs. IsRunning ρ D call c whole before t fs f Return now) none s in
      let w = running-ends ρ D call c whole before t f now s' in
      let u = s'.units in
      let k = ap (λ (o : Counted Outcome). o.trace.units) w in
      let ties : s'.trace.ties ≡ whole.trace.ties = sym (append-nil s'.trace.ties) ∙ ap (λ (o : Counted Outcome). o.trace.ties) w in
      record {
        hash_is = is ∙ ap (λ (o : Counted Outcome). o.value.text) w;
        list_is = ap (λ (o : Counted Outcome). o.value.issuer) w;
        units = omega arith;
        ties = logs-all D whole.trace.ties before.log now.log (subst (λ ts. LogsInTurn D ts before.log now.log) ties s'.logs);
      }

  -- a step has logged the first of the ties that it logs
  pub step-front : (log : LoggedTies) → LogsFront (LogsInTurn D) (ties_at c t f at) now.log log → LogsFront (LogsInTurn D) whole.trace.ties before.log log
  step-front log = by at r
    where
      none : (a : At) → IsRunning ρ D call c whole before t below f a now → LogsFront (LogsInTurn D) [] now.log log → LogsFront (LogsInTurn D) whole.trace.ties before.log log
      none a s h = front-append D s.trace.ties [] (whole_of ρ call c t below f a).trace.ties whole.trace.ties before.log now.log log (ap (λ (o : Counted Outcome). o.trace.ties) s.same) s.logs h

      by : (a : At) → IsRunning ρ D call c whole before t below f a now → LogsFront (LogsInTurn D) (ties_at c t f a) now.log log → LogsFront (LogsInTurn D) whole.trace.ties before.log log
      by Group s h = none Group s h
      by Begin s h = none Begin s h
      by Recursion s h = none Recursion s h
      by Ended s h = none Ended s h
      by Between s h = none Between s h
      by Close s h = let all = running-ties ρ D call c whole before t below f now s in front-append D s.trace.ties (ties_at c t f Close) all.0 whole.trace.ties before.log now.log log all.1 s.logs h
      by (Call n) s h = none (Call n) s h
      by Return s h = none Return s h

  -- so each tie that is logged next may be checked
  pub step-may_log : ((tie : Tie) → In tie whole.trace.ties → IsTie ρ D tie) → MayBeLogged D (ties_at c t f at)
  step-may_log tied = by at r
    where
      by : (a : At) → IsRunning ρ D call c whole before t below f a now → MayBeLogged D (ties_at c t f a)
      by Group s = λ tie h. absurd h
      by Begin s = λ tie h. absurd h
      by Recursion s = λ tie h. absurd h
      by Ended s = λ tie h. absurd h
      by Between s = λ tie h. absurd h
      by Close s = λ tie h. (tied tie (running-logs ρ D call c whole before t below f now s tie h)).may_be_exchanged
      by (Call n) s = λ tie h. absurd h
      by Return s = λ tie h. absurd h

pub IsRunning-calls : (ρ : Hashing) (D : Dataset) (call : CountedCall) (c : List ℕ) (whole : Counted Outcome) (before : Account) (t : List ℕ) (below : List Frame) (f : Frame) (at : At) (now : Account)
    (n : ℕ) → IsRunning ρ D call c whole before t below f at now → at ≡ Call n → In n t
IsRunning-calls ρ D call c whole before t below f at now n r e = (running-at ρ D call c whole before t below f at now r (Call n) e).stands.1
