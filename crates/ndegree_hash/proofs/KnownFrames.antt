-- The frames that wait hold nodes of the dataset.
use Rattle.std.proofs.Common.{List, [], arith, inl, inr, length, refl, subst, suc, sym, take, ℕ, ◌+◌, ◌++◌, ◌∷◌, ◌≡◌, ◌≤◌, ◌⊎◌}
use Rattle.rdf_terms.proofs.Common.{Dataset, In}
use Rattle.canon_model.specs.Issuer.{IsValidCall}
use Rattle.ndegree_hash.specs.declared.frame.Frame.{Frame}
use Rattle.ndegree_hash.specs.OpenCalls.{AreStacked}
use Rattle.ndegree_hash.specs.KnownNodes.{IsKnown, IsSound, IsTrail}
use Rattle.ndegree_hash.proofs.TrailParts.{choice-kept}
use Rattle.ndegree_hash.proofs.MachineState.{AllKnown, owed_below}
use Rattle.ndegree_hash.proofs.StackedFrames.{first_mark-most, take_less}

module _ (D : Dataset) (c : List ℕ) where
  pub AllKnown-push : (t : List ℕ) (frames : List Frame) (f : Frame) → AllKnown D c t frames → IsKnown D c t f → AllKnown D c t (frames ++ f ∷ [])
  AllKnown-push t [] f a k = record { known = λ g h. by g h }
    where
      by : (g : Frame) → (g ≡ f) ⊎ ⊥ → IsKnown D c t g
      by g (inl e) = subst (IsKnown D c t) (sym e) k
      by g (inr m) = absurd m
  AllKnown-push t (h ∷ frames) f a k = record { known = by (AllKnown-push t frames f (record { known = λ x y. a.known x (inr y) }) k) }
    where
      by : AllKnown D c t (frames ++ f ∷ []) → (g : Frame) → In g (h ∷ (frames ++ f ∷ [])) → IsKnown D c t g
      by r g (inl e) = a.known g (inl e)
      by r g (inr m) = r.known g m

  pub AllKnown-pop : (t : List ℕ) (frames : List Frame) (f : Frame) → AllKnown D c t (frames ++ f ∷ []) → AllKnown D c t frames × IsKnown D c t f
  AllKnown-pop t [] f a = (record { known = λ g h. absurd h }, a.known f (inl refl))
  AllKnown-pop t (h ∷ frames) f a =
      let r = AllKnown-pop t frames f (record { known = λ x y. a.known x (inr y) }) in
      (record { known = by r.0 }, r.1)
    where
      by : AllKnown D c t frames → (g : Frame) → In g (h ∷ frames) → IsKnown D c t g
      by r g (inl e) = a.known g (inl e)
      by r g (inr m) = r.known g m

  -- the frames below don't see that the trail has changed behind the marks
  pub AllKnown-kept : (t u : List ℕ) (below : List Frame) (m : ℕ) → AreStacked below m → take m u ≡ take m t → AllKnown D c t below → AllKnown D c u below
  AllKnown-kept t u [] m s e a = record { known = λ g h. absurd h }
  AllKnown-kept t u (f ∷ below) m s e a =
      record { known = by (AllKnown-kept t u below m s.4 e (record { known = λ x y. a.known x (inr y) })) }
    where
      head : IsKnown D c u f
      head =
          let k = a.known f (inl refl) in
          let low : f.mark ≤ m = let h = first_mark-most below m s.4 in let p = s.0 in let q = s.1 in let d = s.2 in omega arith in
          record {
            arrangement = k.arrangement;
            bags = k.bags;
            chosen = subst (IsSound D c) (sym (choice-kept t u f s.3 (take_less u t f.mark m low e))) k.chosen;
          }

      by : AllKnown D c u below → (g : Frame) → In g (f ∷ below) → IsKnown D c u g
      by r g (inl q) = subst (IsKnown D c u) (sym q) head
      by r g (inr q) = r.known g q

pub owed_below-append : (frames : List Frame) (f : Frame) → owed_below (frames ++ f ∷ []) ≡ owed_below frames + suc (length f.others.items)
owed_below-append [] f = omega arith
owed_below-append (g ∷ frames) f = let e = owed_below-append frames f in omega arith

pub IsTrail-valid : (D : Dataset) (c t : List ℕ) (n m : ℕ) (i : List ℕ) → IsValidCall D c m i → IsTrail D c t → In n t → IsValidCall D c n t
IsTrail-valid D c t n m i v r h = record {
  canonical_nodes = v.canonical_nodes;
  temporary_nodes = r.nodes;
  canonical_once = v.canonical_once;
  temporary_once = r.once;
  apart = r.apart;
  listed = h;
}
