-- The steps behind a permutation lead on.
use Rattle.std.proofs.Common.{List, [], ap, false, length, refl, subst, sym, take, ℕ, ◌∙◌, ◌∷◌, ◌≡◌, ◌≤◌, arith}
use Rattle.std.proofs.lemmas.List.{length-take-le, take-take}
use Rattle.canon_model.specs.CountedRun.{nothing}
use Rattle.ndegree_hash.specs.declared.frame.Frame.{Frame}
use Rattle.ndegree_hash.specs.declared.at.At.TheVariants.{Begin, Between, Close}
use Rattle.ndegree_hash.specs.Behind.{behind}
use Rattle.ndegree_hash.specs.FrameSteps.{Leads}
use Rattle.ndegree_hash.specs.Frames.{group_of, rest_of}
use Rattle.ndegree_hash.specs.Resume.{OpenGroup, after_choice, between_permutations}
use Rattle.ndegree_hash.proofs.Traces.{after-nothing}
use Rattle.ndegree_hash.proofs.Unfolding.{between_permutations-end}
use Rattle.ndegree_hash.proofs.TrailParts.{choice-kept}

pub between-closes : (c t : List ℕ) (f g : Frame) → f.mark ≤ length t → behind f.arrangement ≡ [] → group_of t g [] ≡ group_of t f [] → g.mark ≡ f.mark → Leads c t f Between nothing t g Close
between-closes c t f g m none same_group mark = record {
  same = λ ρ call.
      ap (λ left. between_permutations ρ call c (group_of t f left)) none
      ∙ between_permutations-end ρ call c (group_of t f []) refl
      ∙ ap (λ (h : OpenGroup). after_choice ρ call c h h.chosen) (sym same_group)
      ∙ sym (after-nothing (rest_of ρ call c t g Close));
  stands = omega arith;
  mark = omega arith;
  below = refl;
  falls = omega arith;
}

-- the trail is cut back to the mark, and the arrangement has moved on
pub between-begins : (c t : List ℕ) (f g : Frame) → f.mark ≤ length t → behind f.arrangement ≡ g.arrangement ∷ behind g.arrangement
    → ((left : List (List ℕ)) → group_of t g left ≡ group_of t f left) → g.mark ≡ f.mark → g.on_trail ≡ false
    → Leads c t f Between nothing (take g.mark t) g Begin
between-begins c t f g m next same_group mark aside =
    let e : take g.mark (take g.mark t) ≡ take g.mark t = take-take g.mark g.mark t (omega arith) in
    let l : length (take g.mark t) ≡ g.mark = length-take-le g.mark t (omega arith) in
    record {
      same = λ ρ call.
          ap (λ left. between_permutations ρ call c (group_of t f left)) next
          ∙ ap (λ (h : OpenGroup). between_permutations ρ call c h) (sym (same_group (g.arrangement ∷ behind g.arrangement)))
          ∙ (λ i. between_permutations ρ call c (record {
            text = g.text.items;
            bags = g.groups;
            begun = sym e i;
            chosen = sym (choice-kept t (take g.mark t) g aside e) i;
            left = g.arrangement ∷ behind g.arrangement;
          }))
          ∙ sym (after-nothing (rest_of ρ call c (take g.mark t) g Begin));
      stands = (sym l, aside);
      mark = omega arith;
      below = subst (λ k. take k (take g.mark t) ≡ take k t) mark e;
      falls = omega arith;
    }
