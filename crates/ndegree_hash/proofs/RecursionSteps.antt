-- The steps of a recursion list lead on.
use Rattle.std.proofs.Common.{Bool, List, None, ap, codes, cond, false, get_or, refl, subst, sym, true, ℕ, ◌+◌, ◌++◌, ◌<◌, ◌∙◌, ◌∷◌, ◌≡◌, arith}
use Rattle.rdf_terms.proofs.Common.{In, Text, In-get_or}
use Rattle.canon_model.specs.CountedRun.{Counted, CountedCall, Outcome, chosen_text, nothing, skips}
use Rattle.canon_model.specs.Issuer.{label}
use Rattle.canon_model.specs.Hashing.{Hashing}
use Rattle.ndegree_hash.specs.declared.frame.Frame.{Frame}
use Rattle.ndegree_hash.specs.declared.at.At.TheVariants.{Between, Call, Ended, Recursion}
use Rattle.ndegree_hash.specs.Behind.{behind}
use Rattle.ndegree_hash.specs.FrameSteps.{GoesOn, Leads, Resumes}
use Rattle.ndegree_hash.specs.FramePlaces.{IsInRecursion}
use Rattle.ndegree_hash.specs.Frames.{choice_of, group_of, part, rest_of, waiting_of}
use Rattle.ndegree_hash.specs.Resume.{OpenGroup, after_permutation, between_permutations, in_recursion, resume, resumed}
use Rattle.ndegree_hash.specs.PathChoice.{chosen_if}
use Rattle.ndegree_hash.proofs.Traces.{after-nothing}
use Rattle.ndegree_hash.proofs.Unfolding.{in_recursion-end, in_recursion-next}
use Rattle.ndegree_hash.proofs.TrailParts.{choice-text, group-goes_on, part-next, part-nothing}

pub recursion-ends : (c t : List ℕ) (f : Frame) → IsInRecursion t f → f.next ≡ f.last → Leads c t f Recursion nothing t f Ended
recursion-ends c t f r e = record {
  same = λ ρ call.
      ap (λ nodes. in_recursion ρ call c (group_of t f (behind f.arrangement)) f.paths.path t nodes) (part-nothing t f.next f.last e)
      ∙ in_recursion-end ρ call c (group_of t f (behind f.arrangement)) f.paths.path t
      ∙ sym (after-nothing (rest_of ρ call c t f Ended));
  stands = record { mark = let a = r.next in let b = r.last in let d = r.within in omega arith; aside = r.aside };
  mark = omega arith;
  below = refl;
  falls = omega arith;
}

-- the frame g waits for the call of n
pub recursion-calls : (c t : List ℕ) (f g : Frame) (n : ℕ) → IsInRecursion t f → ¬ (f.next ≡ f.last) → n ≡ get_or t f.next 0
    → GoesOn f g → g.paths.path ≡ (f.paths.path ++ label c t n) ++ codes "<" → g.next ≡ f.next + 1 → g.last ≡ f.last
    → Leads c t f Recursion nothing t g (Call n)
recursion-calls c t f g n r ne e goes_on path next last =
    let low : f.next < f.last = (let a = r.last in omega arith) in
    let within = r.within in
    let behind_mark = r.next in
    let mark = goes_on.mark in
    record {
      same = λ ρ call.
          ap (λ nodes. in_recursion ρ call c (group_of t f (behind f.arrangement)) f.paths.path t nodes)
          (part-next t f.next f.last low within ∙ ap (λ m. m ∷ part t (f.next + 1) f.last) (sym e))
          ∙ in_recursion-next ρ call c (group_of t f (behind f.arrangement)) f.paths.path t n (part t (f.next + 1) f.last)
          ∙ (λ i. resumed ρ call c (record { group = sym (group-goes_on t f g goes_on) i; path = sym path i; nodes = part t (sym next i) (sym last i) }) (call n t))
          ∙ sym (after-nothing (rest_of ρ call c t g (Call n)));
      stands = (record { next = omega arith; last = omega arith; within = omega arith; aside = goes_on.aside ∙ r.aside }, subst (λ m. In m t) (sym e) (In-get_or t f.next 0 (omega arith)));
      mark = omega arith;
      below = refl;
      falls = omega arith;
    }

-- the call that the frame waits for gave this hash, and the path goes on with it
module _ (c t : List ℕ) (f g : Frame) (hash : Text) (r : IsInRecursion t f) (on : GoesOn f g) (path : Text) (e : path ≡ f.paths.path ++ (hash ++ codes ">")) where
  resumed-as : (past : Bool) → skips (chosen_if f.paths.has_choice f.paths.chosen) path ≡ past → (ρ : Hashing) (call : CountedCall)
      → resume ρ call c (waiting_of t f) (record { text = hash; issuer = t })
      ≡ cond past (after_permutation ρ call c (group_of t f (behind f.arrangement)) None) (in_recursion ρ call c (group_of t f (behind f.arrangement)) path t (part t f.next f.last))
  unfolding resume
  resumed-as past h ρ call =
      let group = group_of t f (behind f.arrangement) in
      ap (λ π. cond (skips (chosen_text (choice_of t f)) π) (after_permutation ρ call c group None) (in_recursion ρ call c group π t (part t f.next f.last))) (sym e)
      ∙ ap (λ v. cond v (after_permutation ρ call c group None) (in_recursion ρ call c group path t (part t f.next f.last))) (ap (λ chosen. skips chosen path) (choice-text t f) ∙ h)

  pub resume-skips : skips (chosen_if f.paths.has_choice f.paths.chosen) path ≡ true → Resumes c t f hash g Between
  resume-skips h = record {
    same = λ ρ call. resumed-as true h ρ call ∙ ap (λ (k : OpenGroup). between_permutations ρ call c k) (sym (group-goes_on t f g on));
    stands = let mark = on.mark in let a = r.next in let b = r.last in let d = r.within in omega arith;
    mark = on.mark;
  }

  pub resume-goes_on : g.next ≡ f.next → g.last ≡ f.last → path ≡ g.paths.path → skips (chosen_if f.paths.has_choice f.paths.chosen) path ≡ false → Resumes c t f hash g Recursion
  resume-goes_on next last here h = record {
    same = λ ρ call.
        resumed-as false h ρ call ∙ (λ i. in_recursion ρ call c (sym (group-goes_on t f g on) i) (here i) t (part t (sym next i) (sym last i)));
    stands = let mark = on.mark in let a = r.next in let b = r.last in let d = r.within in record { next = omega arith; last = omega arith; within = omega arith; aside = on.aside ∙ r.aside };
    mark = on.mark;
  }
