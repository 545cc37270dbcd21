-- A step of the running frame.
use Rattle.std.specs.Prelude.{◌≡◌, ℕ, ◌+◌, ◌*◌, ◌<◌, ◌≤◌, false, List, take}
use Rattle.rdf_terms.specs.Lists.{Text}
use Rattle.canon_model.specs.Hashing.{Hashing}
use Rattle.canon_model.specs.CountedRun.{CountedCall, Trace, after}
use Rattle.ndegree_hash.specs.declared.frame.Frame.{Frame}
use Rattle.ndegree_hash.specs.declared.at.At.{At}
use Rattle.ndegree_hash.specs.PathChoice.{IsSameChoice}
use Rattle.ndegree_hash.specs.Resume.{resume}
use Rattle.ndegree_hash.specs.Frames.{group_of, rest_of, waiting_of}
use Rattle.ndegree_hash.specs.FramePlaces.{IsAt, rank}

-- A step from one place to another: what is left then, behind what was counted and logged, is what was left before.
-- Below the mark the trail stays.
pub record Leads (c : List ℕ) (t : List ℕ) (f : Frame) (at : At) (spent : Trace) (u : List ℕ) (g : Frame)
    (to : At) : Type 0 where
  pub same : (ρ : Hashing) (call : CountedCall) → rest_of ρ call c t f at ≡ after spent (rest_of ρ call c u g to)
  pub stands : IsAt u g to
  pub mark : f.mark ≤ g.mark
  pub below : take f.mark u ≡ take f.mark t
  pub falls : rank to < rank at + 8 * spent.units

-- the frame g is f with the chosen issuer kept aside
pub record IsAside (t : List ℕ) (f g : Frame) : Type 0 where
  pub group : (left : List (List ℕ)) → group_of t g left ≡ group_of t f left
  pub arrangement : g.arrangement ≡ f.arrangement
  pub mark : g.mark ≡ f.mark
  pub aside : g.on_trail ≡ false
  pub others : g.others.items ≡ f.others.items

-- the frame g is f but for its path and what is left of its recursion list
pub record GoesOn (f g : Frame) : Type 0 where
  pub choice : IsSameChoice f.paths g.paths
  pub text : g.text.items ≡ f.text.items
  pub groups : g.groups ≡ f.groups
  pub mark : g.mark ≡ f.mark
  pub arrangement : g.arrangement ≡ f.arrangement
  pub aside : g.on_trail ≡ f.on_trail
  pub tail : g.tail.items ≡ f.tail.items
  pub others : g.others.items ≡ f.others.items

-- The call that the frame f waits for gave this hash, and the trail is t.
pub record Resumes (c : List ℕ) (t : List ℕ) (f : Frame) (hash : Text) (g : Frame) (to : At) : Type 0 where
  pub same : (ρ : Hashing) (call : CountedCall)
      → resume ρ call c (waiting_of t f) (record { text = hash; issuer = t }) ≡ rest_of ρ call c t g to
  pub stands : IsAt t g to
  pub mark : g.mark ≡ f.mark
