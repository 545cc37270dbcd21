-- The step that begins a permutation leads on.
use Rattle.std.proofs.Common.{Bool, List, None, Option, [], ap, cond, false, length, refl, subst, sym, take, true, ℕ, ◌∙◌, ◌∷◌, ◌≡◌, ◌≤◌, arith}
use Rattle.rdf_terms.specs.Lists.{Text}
use Rattle.canon_model.specs.CountedRun.{Counted, CountedCall, Outcome, after, chosen_text, is_skipped, one_unit}
use Rattle.canon_model.specs.Hashing.{Hashing}
use Rattle.canon_model.specs.Walk.{issuer_copy_after, path_of_identifiers, recursion_list}
use Rattle.ndegree_hash.specs.declared.frame.Frame.{Frame}
use Rattle.ndegree_hash.specs.declared.at.At.TheVariants.{Begin, Between, Recursion}
use Rattle.ndegree_hash.specs.Behind.{behind}
use Rattle.ndegree_hash.specs.FrameSteps.{GoesOn, Leads}
use Rattle.ndegree_hash.specs.FramePlaces.{IsAt}
use Rattle.ndegree_hash.specs.Frames.{choice_of, group_of, part, rest_of}
use Rattle.ndegree_hash.specs.Resume.{OpenGroup, after_permutation, between_permutations, in_recursion}
use Rattle.ndegree_hash.specs.PathChoice.{IsSameChoice, PathChoice, chosen_if}
use Rattle.ndegree_hash.specs.Walks.{Walks}
use Rattle.ndegree_hash.proofs.Unfolding.{between_permutations-begin}
use Rattle.ndegree_hash.proofs.Walking.{recursion_list-part}
use Rattle.ndegree_hash.proofs.MachineState.{begin_permutation}
use Rattle.ndegree_hash.proofs.TrailParts.{length-from_take, below-mark, choice-kept, choice-text, group-goes_on, take_mark}

-- the group of the frame when the permutation was written
pub walked-group : (t u : List ℕ) (f : Frame) (left : List (List ℕ)) → IsAt t f Begin → take (length t) u ≡ t → group_of u f left ≡ group_of t f left
walked-group t u f left at begins =
    let e = below-mark t u f.mark at.0 begins in
    λ i. record { text = f.text.items; bags = f.groups; begun = e i; chosen = choice-kept t u f at.1 e i; left = left }

-- the counted run of what follows a permutation that was begun at t
abbrev pub begun : Hashing → CountedCall → List ℕ → List ℕ → Frame → Bool → List ℕ → Counted Outcome
begun ρ call c t f skipped b =
    cond skipped (after_permutation ρ call c (group_of t f (behind f.arrangement)) None)
    (in_recursion ρ call c (group_of t f (behind f.arrangement)) (path_of_identifiers c b f.arrangement) (issuer_copy_after c b f.arrangement) (recursion_list c b f.arrangement))

pub begin-unfolds : (ρ : Hashing) (call : CountedCall) (c t : List ℕ) (f : Frame) → IsAt t f Begin
    → rest_of ρ call c t f Begin ≡ after one_unit (begun ρ call c t f (is_skipped (chosen_if f.paths.has_choice f.paths.chosen) c t [] f.arrangement) t)
unfolding begin_permutation
begin-unfolds ρ call c t f at =
    between_permutations-begin ρ call c (group_of t f (f.arrangement ∷ behind f.arrangement)) f.arrangement (behind f.arrangement) refl
    ∙ ap (λ b. after one_unit (begun ρ call c t f (is_skipped (chosen_text (choice_of t f)) c b [] f.arrangement) b)) (take_mark t f.mark at.0)
    ∙ ap (λ chosen. after one_unit (begun ρ call c t f (is_skipped chosen c t [] f.arrangement) t)) (choice-text t f)

pub begin-skipped : (ρ : Hashing) (call : CountedCall) (c t u : List ℕ) (f : Frame) (path : Text) → IsAt t f Begin → Walks c t f.arrangement (chosen_if f.paths.has_choice f.paths.chosen) true u path
    → rest_of ρ call c t f Begin ≡ after one_unit (between_permutations ρ call c (group_of u f (behind f.arrangement)))
begin-skipped ρ call c t u f path at w =
    begin-unfolds ρ call c t f at
    ∙ ap (λ b. after one_unit (begun ρ call c t f b t)) (sym w.skipped_is)
    ∙ ap (λ (g : OpenGroup). after one_unit (between_permutations ρ call c g)) (sym (walked-group t u f (behind f.arrangement) at w.begins))

pub begin-written : (ρ : Hashing) (call : CountedCall) (c t u : List ℕ) (f : Frame) (path : Text) → IsAt t f Begin → Walks c t f.arrangement (chosen_if f.paths.has_choice f.paths.chosen) false u path
    → rest_of ρ call c t f Begin ≡ after one_unit (in_recursion ρ call c (group_of u f (behind f.arrangement)) path u (part u f.mark (length u)))
begin-written ρ call c t u f path at w =
    let ps : List (List ℕ) = behind f.arrangement in
    begin-unfolds ρ call c t f at
    ∙ ap (λ b. after one_unit (begun ρ call c t f b t)) (sym w.skipped_is)
    ∙ ap (λ nodes. after one_unit (in_recursion ρ call c (group_of t f ps) (path_of_identifiers c t f.arrangement) (issuer_copy_after c t f.arrangement) nodes)) (recursion_list-part c t f.arrangement)
    ∙ ap (λ v. after one_unit (in_recursion ρ call c (group_of t f ps) (path_of_identifiers c t f.arrangement) v (part v (length t) (length v)))) (sym (w.trail_is refl))
    ∙ ap (λ π. after one_unit (in_recursion ρ call c (group_of t f ps) π u (part u (length t) (length u)))) (sym (w.path_is refl))
    ∙ ap (λ n. after one_unit (in_recursion ρ call c (group_of t f ps) path u (part u n (length u)))) (sym at.0)
    ∙ ap (λ (g : OpenGroup). after one_unit (in_recursion ρ call c g path u (part u f.mark (length u)))) (sym (walked-group t u f ps at w.begins))

walks-at : (c t : List ℕ) (nodes nodes' : List ℕ) (chosen : Option Text) (s s' : Bool) (u : List ℕ) (path : Text) → Walks c t nodes chosen s u path → nodes ≡ nodes' → s ≡ s'
    → Walks c t nodes' chosen s' u path
walks-at c t nodes nodes' chosen s s' u path w a e = subst (λ v. Walks c t nodes' chosen v u path) e (subst (λ p. Walks c t p chosen s u path) a w)

-- the walk was begun with no path, and what was chosen before
pub walks-begun : (c t nodes : List ℕ) (start old : PathChoice) (s : Bool) (u : List ℕ) (path : Text) → start ≡ record { path = []; has_choice = old.has_choice; chosen = old.chosen }
    → Walks c t nodes (chosen_if start.has_choice start.chosen) s u path → Walks c t nodes (chosen_if old.has_choice old.chosen) s u path
walks-begun c t nodes start old s u path e w = subst (λ (p : PathChoice). Walks c t nodes (chosen_if p.has_choice p.chosen) s u path) e w

pub same_choice-begun : (old start now : PathChoice) → start ≡ record { path = []; has_choice = old.has_choice; chosen = old.chosen } → IsSameChoice start now → IsSameChoice old now
same_choice-begun old start now e same = record { has_choice = same.has_choice ∙ ap (λ (p : PathChoice). p.has_choice) e; chosen = same.chosen ∙ ap (λ (p : PathChoice). p.chosen) e }

pub begin-leads-skipped : (c t u : List ℕ) (f g : Frame) (nodes : List ℕ) (s : Bool) (path : Text) → IsAt t f Begin → Walks c t nodes (chosen_if f.paths.has_choice f.paths.chosen) s u path
    → nodes ≡ f.arrangement → s ≡ true
    → GoesOn f g → Leads c t f Begin one_unit u g Between
begin-leads-skipped c t u f g nodes s path at walks a e goes_on =
    let w = walks-at c t nodes f.arrangement (chosen_if f.paths.has_choice f.paths.chosen) s true u path walks a e in
    let long : length t ≤ length u = length-from_take t u w.begins in
    let m = at.0 in
    let mark = goes_on.mark in
    record {
      same = λ ρ call. begin-skipped ρ call c t u f path at w ∙ ap (λ (h : OpenGroup). after one_unit (between_permutations ρ call c h)) (sym (group-goes_on u f g goes_on));
      stands = omega arith;
      mark = omega arith;
      below = below-mark t u f.mark at.0 w.begins;
      falls = omega arith;
    }

pub begin-leads-written : (c t u : List ℕ) (f g : Frame) (nodes : List ℕ) (s : Bool) → IsAt t f Begin → Walks c t nodes (chosen_if f.paths.has_choice f.paths.chosen) s u g.paths.path
    → nodes ≡ f.arrangement → s ≡ false
    → GoesOn f g → g.next ≡ f.mark → g.last ≡ length u → Leads c t f Begin one_unit u g Recursion
begin-leads-written c t u f g nodes s at walks a e goes_on next last =
    let w = walks-at c t nodes f.arrangement (chosen_if f.paths.has_choice f.paths.chosen) s false u g.paths.path walks a e in
    let long : length t ≤ length u = length-from_take t u w.begins in
    let m = at.0 in
    let mark = goes_on.mark in
    record {
      same = λ ρ call. begin-written ρ call c t u f g.paths.path at w
          ∙ (λ i. after one_unit (in_recursion ρ call c (sym (group-goes_on u f g goes_on) i) g.paths.path u (part u (sym next i) (sym last i))));
      stands = record { next = omega arith; last = omega arith; within = omega arith; aside = goes_on.aside ∙ at.1 };
      mark = omega arith;
      below = below-mark t u f.mark at.0 w.begins;
      falls = omega arith;
    }
