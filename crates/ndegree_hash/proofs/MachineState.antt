-- What the machine keeps from step to step: what is left to do, what was counted and logged, and what is still owed.
use Rattle.std.proofs.Common.{List, None, length, map, suc, ℕ, ◌*◌, ◌+◌, ◌-◌, ◌∷◌, ◌≡◌, [], if◌then◌else◌}
use Rattle.rdf_terms.proofs.Common.{Dataset, In}
use Rattle.canon_model.specs.CountedRun.{Counted, CountedCall, Outcome, Trace, after, chosen_text, is_skipped}
use Rattle.canon_model.specs.Hashing.{Hashing}
use Rattle.canon_model.specs.Walk.{issuer_copy_after, path_of_identifiers, recursion_list}
use Rattle.ndegree_hash.specs.declared.at.At.{At}
use Rattle.ndegree_hash.specs.declared.frame.Frame.{Frame}
use Rattle.ndegree_hash.specs.FramePlaces.{IsAt, rank}
use Rattle.ndegree_hash.specs.Frames.{rest_of, waiting_of}
use Rattle.ndegree_hash.specs.KnownNodes.{IsKnown}
use Rattle.ndegree_hash.specs.Log.{LogsInTurn}
use Rattle.ndegree_hash.specs.OpenCalls.{Account, AreStacked}
use Rattle.ndegree_hash.specs.Resume.{OpenGroup, Waiting, after_permutation, in_recursion, resumed}

-- the permutation p is begun, and those behind it are left
unfoldable pub begin_permutation : Hashing → CountedCall → List ℕ → OpenGroup → List ℕ → List (List ℕ) → Counted Outcome
begin_permutation ρ call c g p left =
    let h : OpenGroup = record { text = g.text; bags = g.bags; begun = g.begun; chosen = g.chosen; left = left } in
    if is_skipped (chosen_text g.chosen) c g.begun [] p then after_permutation ρ call c h None
    else in_recursion ρ call c h (path_of_identifiers c g.begun p) (issuer_copy_after c g.begun p)
    (recursion_list c g.begun p)

-- ---- all open calls, the outermost first: what the innermost one still gives, and what all around it do with that
unfoldable pub resume_all : Hashing → CountedCall → List ℕ → List Waiting → Counted Outcome → Counted Outcome
resume_all ρ call c [] o = o
resume_all ρ call c (w ∷ waiting) o = resumed ρ call c w (resume_all ρ call c waiting o)

-- the whole machine: what all open calls give in the end
abbrev pub whole_of : Hashing → CountedCall → List ℕ → List ℕ → List Frame → Frame → At → Counted Outcome
whole_of ρ call c t below f at = resume_all ρ call c (map (waiting_of t) below) (rest_of ρ call c t f at)

-- The state of the machine in a run of the call that gives `whole`, begun at the account `before`: what was counted and
-- logged so far, and what is left, are the whole.
pub record IsRunning (ρ : Hashing) (D : Dataset) (call : CountedCall) (c : List ℕ) (whole : Counted Outcome)
    (before : Account) (t : List ℕ) (below : List Frame) (f : Frame) (at : At) (now : Account) : Type 0 where
  pub trace : Trace
  pub units : now.spent ≡ before.spent + trace.units
  pub logs : LogsInTurn D trace.ties before.log now.log
  pub same : after trace (whole_of ρ call c t below f at) ≡ whole
  pub stands : IsAt t f at
  pub stacked : AreStacked below f.mark

pub record AllKnown (D : Dataset) (c t : List ℕ) (frames : List Frame) : Type 0 where
  pub known : (f : Frame) → In f frames → IsKnown D c t f

abbrev pub owed_below : List Frame → ℕ
owed_below [] = 0
owed_below (f ∷ frames) = suc (length f.others.items) + owed_below frames

-- falls with each step, as a unit is worth more than a frame, and a frame more than any rank
abbrev pub work_left : ℕ → ℕ → List Frame → At → ℕ
work_left limit spent below at = 8 * (limit - spent) + 6 * length below + rank at
