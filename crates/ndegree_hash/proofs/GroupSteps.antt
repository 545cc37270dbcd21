-- The steps between groups lead on.
use Rattle.std.proofs.Common.{List, [], ap, false, length, refl, sym, take, ℕ, ◌++◌, ◌∙◌, ◌∷◌, ◌≡◌, ◌≤◌, arith}
use Rattle.std.proofs.lemmas.List.{length-take, length-take-le}
use Rattle.rdf_terms.specs.Lists.{Text}
use Rattle.canon_model.specs.CountedRun.{Trace, after, nothing, issuer_or, logged, path_or_none, ties_of_chosen}
use Rattle.arrangements.specs.Arrangements.{IsFirst}
use Rattle.ndegree_hash.specs.declared.frame.Frame.{Frame}
use Rattle.ndegree_hash.specs.declared.at.At.TheVariants.{Begin, Close, Group, Return}
use Rattle.related_hash.specs.declared.group.Group.{Group as Bag}
use Rattle.ndegree_hash.specs.FrameSteps.{Leads}
use Rattle.ndegree_hash.specs.Frames.{choice_of, rest_of}
use Rattle.ndegree_hash.specs.Resume.{after_choice, after_groups, between_permutations}
use Rattle.ndegree_hash.proofs.Behind.{arrangements-first}
use Rattle.ndegree_hash.proofs.Traces.{after-nothing}
use Rattle.ndegree_hash.proofs.Unfolding.{after_groups-end, after_groups-next}
use Rattle.ndegree_hash.proofs.TrailParts.{choice-none, take_mark}

pub group-ends : (c t : List ℕ) (f g : Frame) → f.mark ≤ length t → f.groups ≡ [] → g.text.items ≡ f.text.items → g.mark ≡ f.mark
    → Leads c t f Group nothing t g Return
group-ends c t f g m none e mark = record {
  same = λ ρ call.
      ap (λ bags. after_groups ρ call c f.text.items bags t) none
      ∙ after_groups-end ρ call c f.text.items t
      ∙ ap (λ (text : Text). record { trace = nothing; value = record { text = ρ.hash text; issuer = t } }) (sym e)
      ∙ sym (after-nothing (rest_of ρ call c t g Return));
  stands = omega arith;
  mark = omega arith;
  below = refl;
  falls = omega arith;
}

pub group-begins : (c t : List ℕ) (f g : Frame) (bag : Bag) → f.mark ≤ length t → f.groups ≡ bag ∷ g.groups → g.text.items ≡ f.text.items ++ bag.hash → IsFirst bag.nodes g.arrangement
    → g.mark ≡ length t → g.paths.has_choice ≡ false → g.on_trail ≡ false → Leads c t f Group nothing t g Begin
group-begins c t f g bag m bags text first mark none aside = record {
  same = λ ρ call.
      ap (λ bs. after_groups ρ call c f.text.items bs t) bags
      ∙ after_groups-next ρ call c f.text.items bag g.groups t
      ∙ (λ i. between_permutations ρ call c (record {
        text = sym text i;
        bags = g.groups;
        begun = sym (take_mark t g.mark mark) i;
        chosen = sym (choice-none t g none) i;
        left = arrangements-first bag.nodes g.arrangement first i;
      }))
      ∙ sym (after-nothing (rest_of ρ call c t g Begin));
  stands = (mark, aside);
  mark = omega arith;
  below = refl;
  falls = omega arith;
}

pub close-leads : (c t u : List ℕ) (f g : Frame) → f.mark ≤ length t → u ≡ issuer_or (choice_of t f) (take f.mark t) → take f.mark u ≡ take f.mark t
    → g.text.items ≡ f.text.items ++ path_or_none (choice_of t f) → g.groups ≡ f.groups → g.mark ≡ f.mark
    → Leads c t f Close (logged (ties_of_chosen (choice_of t f) c (take f.mark t))) u g Group
unfolding after_choice
close-leads c t u f g m trail below text groups mark =
    let ties : Trace = logged (ties_of_chosen (choice_of t f) c (take f.mark t)) in
    let long : f.mark ≤ length u = let e = ap length below in let a = length-take f.mark u in let b = length-take-le f.mark t m in omega arith in
    record {
      same = λ ρ call i. after ties (after_groups ρ call c (sym text i) (sym groups i) (sym trail i));
      stands = omega arith;
      mark = omega arith;
      below = below;
      falls = omega arith;
    }
