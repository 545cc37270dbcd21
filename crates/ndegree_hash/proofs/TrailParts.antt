-- Parts of the trail, and what a frame makes of it.
use Rattle.std.proofs.Common.{Bool, List, None, Some, [], ap, cond, drop, false, get_or, inl, inr, length, map, refl, suc, sym, take, true, zero, ℕ, ◌+◌, ◌++◌, ◌-◌, ◌<◌, ◌∙◌, ◌∷◌, ◌≡◌, ◌≤◌, arith, drop-cons}
use Rattle.std.proofs.lemmas.List.{length-take, take_all}
use Rattle.rdf_terms.specs.Lists.{In}
use Rattle.canon_model.specs.CountedRun.{Chosen, chosen_text}
use Rattle.ndegree_hash.specs.declared.frame.Frame.{Frame}
use Rattle.ndegree_hash.specs.Behind.{behind}
use Rattle.ndegree_hash.specs.FrameSteps.{GoesOn}
use Rattle.ndegree_hash.specs.Frames.{choice_of, chosen_issuer, group_of, other_issuers, part}
use Rattle.ndegree_hash.specs.PathChoice.{IsSameChoice, PathChoice as Paths, chosen_if}

pub part-nothing : (t : List ℕ) (from to : ℕ) → from ≡ to → part t from to ≡ []
unfolding part
part-nothing t from to e = ap (λ n. take n (drop from t)) (let z : to - from ≡ 0 = omega arith in z)

pub part-next : (t : List ℕ) (from to : ℕ) → from < to → to ≤ length t → part t from to ≡ get_or t from 0 ∷ part t (from + 1) to
unfolding part
part-next t from to h within =
    let l : from < length t = omega arith in
    ap (λ n. take n (drop from t)) (let z : to - from ≡ suc (to - (from + 1)) = omega arith in z)
    ∙ ap (λ xs. take (suc (to - (from + 1))) xs) (drop-cons t from 0 l)
    ∙ ap (λ n. get_or t from 0 ∷ take (to - (from + 1)) (drop n t)) (let z : suc from ≡ from + 1 = omega arith in z)

-- ---- what is chosen

pub choice-some : (t : List ℕ) (f : Frame) → f.paths.has_choice ≡ true → choice_of t f ≡ Some (record { path = f.paths.chosen; issuer = chosen_issuer t f; others = other_issuers t f })
choice-some t f e = ap (λ (b : Bool). cond b (Some (record { path = f.paths.chosen; issuer = chosen_issuer t f; others = other_issuers t f })) None) e

pub choice-none : (t : List ℕ) (f : Frame) → f.paths.has_choice ≡ false → choice_of t f ≡ None
choice-none t f e = ap (λ (b : Bool). cond b (Some (record { path = f.paths.chosen; issuer = chosen_issuer t f; others = other_issuers t f })) None) e

-- what is chosen doesn't depend on the trail behind the mark, once it is kept aside
pub choice-kept : (t u : List ℕ) (f : Frame) → f.on_trail ≡ false → take f.mark u ≡ take f.mark t → choice_of u f ≡ choice_of t f
choice-kept t u f aside e =
    ap (λ (v : Bool). cond f.paths.has_choice
    (Some (record { path = f.paths.chosen; issuer = cond v u (take f.mark u ++ f.tail.items); others = map (λ tail. take f.mark u ++ tail) f.others.items })) None) aside
    ∙ ap (λ (b : List ℕ). cond f.paths.has_choice (Some (record { path = f.paths.chosen; issuer = b ++ f.tail.items; others = map (λ tail. b ++ tail) f.others.items })) None) e
    ∙ ap (λ (v : Bool). cond f.paths.has_choice
    (Some (record { path = f.paths.chosen; issuer = cond v t (take f.mark t ++ f.tail.items); others = map (λ tail. take f.mark t ++ tail) f.others.items })) None) (sym aside)

-- a frame goes on where nothing but its path, and what is left of its recursion list, is another
pub goes_on : (f : Frame) (paths : Paths) (next last : ℕ) → IsSameChoice f.paths paths → GoesOn f (record f { paths = paths; next = next; last = last })
goes_on f paths next last same = record { choice = same; text = refl; groups = refl; mark = refl; arrangement = refl; aside = refl; tail = refl; others = refl }

-- a frame that goes on has the same group
pub group-same : (t : List ℕ) (f g : Frame) (left : List (List ℕ)) → GoesOn f g → group_of t g left ≡ group_of t f left
group-same t f g left s = λ i. record {
  text = s.text i;
  bags = s.groups i;
  begun = take (s.mark i) t;
  chosen = cond (s.choice.has_choice i)
      (Some (record {
        path = s.choice.chosen i;
        issuer = cond (s.aside i) t (take (s.mark i) t ++ s.tail i);
        others = map (λ tail. take (s.mark i) t ++ tail) (s.others i);
      })) None;
  left = left;
}

pub group-goes_on : (t : List ℕ) (f g : Frame) → GoesOn f g → group_of t g (behind g.arrangement) ≡ group_of t f (behind f.arrangement)
group-goes_on t f g s = group-same t f g (behind g.arrangement) s ∙ ap (λ p. group_of t f (behind p)) s.arrangement

pub choice-text : (t : List ℕ) (f : Frame) → chosen_text (choice_of t f) ≡ chosen_if f.paths.has_choice f.paths.chosen
choice-text t f = by f.paths.has_choice
  where
    chosen : Chosen
    chosen = record { path = f.paths.chosen; issuer = cond f.on_trail t (take f.mark t ++ f.tail.items); others = map (λ tail. take f.mark t ++ tail) f.others.items }

    by : (b : Bool) → chosen_text (cond b (Some chosen) None) ≡ cond b (Some f.paths.chosen) None
    by true = refl
    by false = refl

pub take_mark : (t : List ℕ) (m : ℕ) → m ≡ length t → take m t ≡ t
take_mark t m e = take_all m t (omega arith)

pub length-from_take : (t u : List ℕ) → take (length t) u ≡ t → length t ≤ length u
length-from_take t u e = let a : length (take (length t) u) ≡ length t = ap length e in let b = length-take (length t) u in omega arith

pub below-mark : (t u : List ℕ) (m : ℕ) → m ≡ length t → take (length t) u ≡ t → take m u ≡ take m t
below-mark t u m e begins = ap (λ n. take n u) e ∙ begins ∙ sym (take_mark t m e)
