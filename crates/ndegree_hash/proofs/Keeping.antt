-- The frames and the trail hold nodes of the dataset.
use Rattle.std.proofs.Common.{Bool, List, [], ap, cond, false, inl, inr, length, refl, subst, suc, sym, take, true, zero, ℕ, ◌++◌, ◌||◌, ◌<◌, ◌∙◌, ◌∷◌, ◌≡◌}
use Rattle.rdf_terms.proofs.Common.{Dataset, AreDistinct, In, Permutes, In-Permutes, Permutes-from_equal, Permutes-sym, In-append, In-take, AreDistinct-take}
use Rattle.arrangements.specs.Arrangements.{IsFirst}
use Rattle.canon_model.specs.Issuer.{is_issued}
use Rattle.canon_model.specs.Walk.{issuer_copy_after_node}
use Rattle.canon_model.proofs.Issuers.{are_distinct_from_once, are_once-push, are_once_from_distinct, not_In-from_is_issued}
use Rattle.ndegree_hash.specs.Walks.{KeepsTrail}
use Rattle.ndegree_hash.specs.declared.frame.Frame.{Frame}
use Rattle.related_hash.specs.declared.group.Group.{Group as Bag}
use Rattle.ndegree_hash.specs.FrameSteps.{GoesOn}
use Rattle.ndegree_hash.specs.FramePlaces.{IsAt}
use Rattle.ndegree_hash.specs.KnownNodes.{IsKnown, IsSound, IsTrail}
use Rattle.ndegree_hash.specs.Frames.{choice_of}
use Rattle.ndegree_hash.specs.Resume.{OpenGroup}
use Rattle.ndegree_hash.proofs.TrailParts.{choice-none, group-same}
use Rattle.ndegree_hash.proofs.BegunPermutations.{walked-group}
use Rattle.ndegree_hash.specs.declared.at.At.TheVariants.{Begin}

pub IsTrail-take : (D : Dataset) (c : List ℕ) (k : ℕ) (t : List ℕ) → IsTrail D c t → IsTrail D c (take k t)
IsTrail-take D c k t r = record {
  nodes = λ x h. r.nodes x (In-take k t x h);
  once = AreDistinct-take k t r.once;
  apart = λ x h g. r.apart x h (In-take k t x g);
}

-- the frame has the same groups, and an arrangement of the same nodes
known-from : (D : Dataset) (c t u : List ℕ) (f g : Frame) → Permutes f.arrangement g.arrangement → g.groups ≡ f.groups → IsSound D c (choice_of u g) → IsKnown D c t f → IsKnown D c u g
known-from D c t u f g p e sound k =
    record { arrangement = λ x h. k.arrangement x (In-Permutes x (Permutes-sym p) h); bags = λ bag h. k.bags bag (subst (λ bags. In bag bags) e h); chosen = sound }

-- and the same choice
pub known-permuted : (D : Dataset) (c t u : List ℕ) (f g : Frame) → Permutes f.arrangement g.arrangement → g.groups ≡ f.groups → choice_of u g ≡ choice_of t f → IsKnown D c t f → IsKnown D c u g
known-permuted D c t u f g p e ch k = known-from D c t u f g p e (subst (IsSound D c) (sym ch) k.chosen) k

pub known-same : (D : Dataset) (c t u : List ℕ) (f g : Frame) → g.arrangement ≡ f.arrangement → g.groups ≡ f.groups → choice_of u g ≡ choice_of t f → IsKnown D c t f → IsKnown D c u g
known-same D c t u f g a = known-permuted D c t u f g (Permutes-from_equal (sym a))

-- nothing is chosen in a group that was begun just now, or is closed
sound-nothing : (D : Dataset) (c t : List ℕ) (g : Frame) → g.paths.has_choice ≡ false → IsSound D c (choice_of t g)
sound-nothing D c t g none = subst (IsSound D c) (sym (choice-none t g none)) tt

-- the next group is taken out
pub known-group : (D : Dataset) (c t : List ℕ) (f g : Frame) (bag : Bag) → f.groups ≡ bag ∷ g.groups → IsFirst bag.nodes g.arrangement → g.paths.has_choice ≡ false → IsKnown D c t f → IsKnown D c t g
known-group D c t f g bag e first none k =
    let all = λ (b : Bag) (h : In b (bag ∷ g.groups)). k.bags b (subst (λ bags. In b bags) (sym e) h) in
    record {
      arrangement = λ x h. all bag (inl refl) x (In-Permutes x (Permutes-sym first.permutes) h);
      bags = λ b h. all b (inr h);
      chosen = sound-nothing D c t g none;
    }

-- the group is closed
pub known-closed : (D : Dataset) (c t u : List ℕ) (f g : Frame) → g.arrangement ≡ f.arrangement → g.groups ≡ f.groups → g.paths.has_choice ≡ false → IsKnown D c t f → IsKnown D c u g
known-closed D c t u f g a e none = known-from D c t u f g (Permutes-from_equal (sym a)) e (sound-nothing D c u g none)

-- ---- the trail issues for a node

IsTrail-push : (D : Dataset) (c t : List ℕ) (n : ℕ) → n < D.nodes → is_issued n c ≡ false → is_issued n t ≡ false → IsTrail D c t → IsTrail D c (t ++ n ∷ [])
IsTrail-push D c t n low canonical new r = record {
  nodes = λ x h. elim (In-append t (n ∷ []) x h) [ inl m ↦ r.nodes x m | inr m ↦ elim m [ inl e ↦ subst (λ y. y < D.nodes) (sym e) low | inr z ↦ absurd z ] ];
  once = are_distinct_from_once (t ++ n ∷ []) (are_once-push t n (are_once_from_distinct t r.once) new);
  apart = λ x h g. elim (In-append t (n ∷ []) x g) [ inl m ↦ r.apart x h m | inr m ↦ elim m [ inl e ↦ not_In-from_is_issued n c canonical (subst (λ y. In y c) e h) | inr z ↦ absurd z ] ];
}

pub IsTrail-node : (D : Dataset) (c t : List ℕ) (n : ℕ) → n < D.nodes → IsTrail D c t → IsTrail D c (issuer_copy_after_node c t n)
IsTrail-node D c t n low r = by (is_issued n c) (is_issued n t) refl refl
  where
    by : (a b : Bool) → is_issued n c ≡ a → is_issued n t ≡ b → IsTrail D c (cond (a || b) t (t ++ n ∷ []))
    by true b e d = r
    by false true e d = r
    by false false e d = IsTrail-push D c t n low e d r

pub keeps_trail-node : (c p i t u : List ℕ) (n : ℕ) → In n p → u ≡ issuer_copy_after_node c t n → KeepsTrail c p i t → KeepsTrail c p i u
keeps_trail-node c p i t u n h e k = record { keeps = λ D low r. subst (IsTrail D c) (sym e) (IsTrail-node D c t n (low n h) (k.keeps D low r)) }

-- the path goes on
pub known-goes_on : (D : Dataset) (c t : List ℕ) (f g : Frame) → GoesOn f g → IsKnown D c t f → IsKnown D c t g
known-goes_on D c t f g s k = known-same D c t t f g s.arrangement s.groups (ap (λ (o : OpenGroup). o.chosen) (group-same t f g [] s)) k

-- a permutation was begun: the trail is u then
pub known-begun : (D : Dataset) (c t u : List ℕ) (f g : Frame) → IsAt t f Begin → take (length t) u ≡ t → GoesOn f g → IsKnown D c t f → IsKnown D c u g
known-begun D c t u f g at begins s k = known-same D c t u f g s.arrangement s.groups (ap (λ (o : OpenGroup). o.chosen) (group-same u f g [] s ∙ walked-group t u f [] at begins)) k

-- a call was opened
pub known-opened : (D : Dataset) (c t : List ℕ) (g : Frame) → ((x : ℕ) → In x g.arrangement → x < D.nodes) → ((bag : Bag) → In bag g.groups → (x : ℕ) → In x bag.nodes → x < D.nodes)
    → g.paths.has_choice ≡ false → IsKnown D c t g
known-opened D c t g arrangement bags none = record { arrangement = arrangement; bags = bags; chosen = sound-nothing D c t g none }
