-- The frames that wait: they don't see the trail behind the marks, and one is put on top or taken off.
use Rattle.std.proofs.Common.{List, [], ap, arith, drop, false, map, refl, sym, take, ℕ, ◌+◌, ◌++◌, ◌∙◌, ◌∷◌, ◌≡◌, ◌≤◌, ◌-◌}
use Rattle.std.proofs.lemmas.List.{drop-take, take-take}
use Rattle.ndegree_hash.specs.declared.frame.Frame.{Frame}
use Rattle.ndegree_hash.specs.Behind.{behind}
use Rattle.ndegree_hash.specs.OpenCalls.{AreStacked, first_mark}
use Rattle.ndegree_hash.specs.Frames.{part, waiting_of}
use Rattle.ndegree_hash.proofs.TrailParts.{choice-kept}

pub take_less : (t u : List ℕ) (k m : ℕ) → k ≤ m → take m t ≡ take m u → take k t ≡ take k u
take_less t u k m h e = sym (take-take k m t h) ∙ ap (λ xs. take k xs) e ∙ take-take k m u h

part-take : (t : List ℕ) (from to : ℕ) → from ≤ to → part t from to ≡ drop from (take to t)
unfolding part
part-take t from to h = sym (drop-take from (to - from) t) ∙ ap (λ n. drop from (take n t)) (let e : from + (to - from) ≡ to = omega arith in e)

part_less : (t u : List ℕ) (from to m : ℕ) → from ≤ to → to ≤ m → take m t ≡ take m u → part t from to ≡ part u from to
part_less t u from to m g h e = part-take t from to g ∙ ap (λ xs. drop from xs) (take_less t u to m h e) ∙ sym (part-take u from to g)

pub waiting-kept : (t u : List ℕ) (f : Frame) (m : ℕ) → f.mark ≤ f.next → f.next ≤ f.last → f.last ≤ m → f.on_trail ≡ false → take m u ≡ take m t → waiting_of u f ≡ waiting_of t f
waiting-kept t u f m a b d aside e =
    let low : take f.mark u ≡ take f.mark t = take_less u t f.mark m (omega arith) e in
    λ i. record {
      group = record { text = f.text.items; bags = f.groups; begun = low i; chosen = choice-kept t u f aside low i; left = behind f.arrangement };
      path = f.paths.path;
      nodes = part_less u t f.next f.last m b d e i;
    }

pub first_mark-most : (below : List Frame) (m : ℕ) → AreStacked below m → first_mark below m ≤ m
first_mark-most [] m s = omega arith
first_mark-most (f ∷ below) m s = let r = first_mark-most below m s.4 in let a = s.0 in let b = s.1 in let d = s.2 in omega arith

pub all_waiting-kept : (t u : List ℕ) (below : List Frame) (m : ℕ) → AreStacked below m → take m u ≡ take m t → map (waiting_of u) below ≡ map (waiting_of t) below
all_waiting-kept t u [] m s e = refl
all_waiting-kept t u (f ∷ below) m s e =
    let l : f.last ≤ m = let h = first_mark-most below m s.4 in let d = s.2 in omega arith in
    ap (λ w. w ∷ map (waiting_of u) below) (waiting-kept t u f m s.0 s.1 l s.3 e)
    ∙ ap (λ ws. waiting_of t f ∷ ws) (all_waiting-kept t u below m s.4 e)

pub stacked-more : (below : List Frame) (m k : ℕ) → m ≤ k → AreStacked below m → AreStacked below k
stacked-more [] m k h s = tt
stacked-more (f ∷ []) m k h s = let d = s.2 in (s.0, s.1, omega arith, s.3, tt)
stacked-more (f ∷ g ∷ below) m k h s = (s.0, s.1, s.2, s.3, stacked-more (g ∷ below) m k h s.4)

pub stacked-push : (below : List Frame) (f : Frame) (m : ℕ) → AreStacked below f.mark → f.mark ≤ f.next → f.next ≤ f.last → f.last ≤ m → f.on_trail ≡ false → AreStacked (below ++ f ∷ []) m
stacked-push [] f m s a b d aside = (a, b, d, aside, tt)
stacked-push (g ∷ []) f m s a b d aside = (s.0, s.1, s.2, s.3, (a, b, d, aside, tt))
stacked-push (g ∷ h ∷ below) f m s a b d aside = (s.0, s.1, s.2, s.3, stacked-push (h ∷ below) f m s.4 a b d aside)

pub stacked-pop : (below : List Frame) (f : Frame) (m : ℕ) → AreStacked (below ++ f ∷ []) m → AreStacked below f.mark × ((f.mark ≤ f.next) × (f.next ≤ f.last) × (f.last ≤ m) × (f.on_trail ≡ false))
stacked-pop [] f m s = (tt, (s.0, s.1, s.2, s.3))
stacked-pop (g ∷ []) f m s = let r = stacked-pop [] f m s.4 in ((s.0, s.1, s.2, s.3, tt), r.1)
stacked-pop (g ∷ h ∷ below) f m s = let r = stacked-pop (h ∷ below) f m s.4 in ((s.0, s.1, s.2, s.3, r.0), r.1)
