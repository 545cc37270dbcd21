-- A tie is joined exactly where some symmetry carries its left list to its right one.
use Rattle.std.proofs.Common.{Bool, List, Some, [], ap, cond, eqb, eqb-true, false, inl, inr, length, map, refl, subst, sym, true, true≢false, ℕ, ◌++◌, ◌||◌, ◌∙◌, ◌∷◌, ◌≡◌, ◌⊎◌}
use Rattle.rdf_terms.proofs.Common.{In-append, In-append_left, In-append_right, after_first, place_of, Dataset, IsValid, Symmetry, AreDistinct, In, map-map}
use Rattle.canon_model.specs.Coverage.{Reached, ShareQuad, onward}
use Rattle.canon_model.specs.Issuer.{is_issued}
use Rattle.canon_model.specs.Laws.{IsGlued, IsPart}
use Rattle.canon_model.specs.Hashing.{Hashing}
use Rattle.canon_model.specs.Ties.{AreTied, IsJoined, MayBeExchanged, exchange, node_at}
use Rattle.canon_model.specs.TieSymmetry.{IsCarried, JoinedWhereSymmetric}
use Rattle.canon_model.proofs.Coverage.{Reaches, walk-reaches}
use Rattle.canon_model.proofs.Exchange.{node_at-next}
use Rattle.canon_model.proofs.ExchangeSymmetry.{append_split, exchange-behind, exchange-outside}
use Rattle.canon_model.proofs.Gluing.{gluing}
use Rattle.canon_model.proofs.Issuers.{In-from_is_issued, are_once-apart, are_once_from_distinct, is_issued-from_In, is_issued-from_not_In, map_fixed, not_In-from_is_issued}
use Rattle.canon_model.proofs.LocalSymmetry.{are_quads}
use Rattle.canon_model.proofs.Maps.{map_identity}
use Rattle.canon_model.proofs.OutcomeComponents.{component_of_outcome}
use Rattle.canon_model.proofs.Symmetries.{Linked, joined-linked}
use Rattle.canon_model.proofs.TiedLists.{tied_may_be_exchanged}
use Rattle.canon_model.proofs.Totality.{mentions_nodes}
use Rattle.std.proofs.lemmas.List.{length-map, map-append}

-- ---- the exchange of a list for its image

place-map : (f : ℕ → ℕ) (l : List ℕ) (x d : ℕ) → is_issued x l ≡ true → node_at (place_of l x) (map f l) d ≡ f x
place-map f [] x d h = absurd (true≢false (sym h))
place-map f (y ∷ l) x d h = by (eqb y x) refl h (place-map f l x d)
  where
    by : (t : Bool) → eqb y x ≡ t → (t || is_issued x l) ≡ true → (is_issued x l ≡ true → node_at (place_of l x) (map f l) d ≡ f x)
        → node_at (cond t (Some 0) (after_first (place_of l x))) (f y ∷ map f l) d ≡ f x
    by true q r ih = ap f (eqb-true y x q)
    by false q r ih = node_at-next (place_of l x) (f y) (map f l) d ∙ ih r

place-back : (f g : ℕ → ℕ) → ((x : ℕ) → g (f x) ≡ x) → (l : List ℕ) (x d : ℕ) → is_issued x (map f l) ≡ true → node_at (place_of (map f l) x) l d ≡ g x
place-back f g e l x d h = subst (λ w. node_at (place_of (map f l) x) w d ≡ g x) (map-map g f l ∙ map_identity (λ y. g (f y)) e l) (place-map g (map f l) x d h)

exchange-left : (f : ℕ → ℕ) (l : List ℕ) (x : ℕ) → is_issued x l ≡ true → exchange l (map f l) x ≡ f x
exchange-left f l x h = place-map f l x (node_at (place_of (map f l) x) l x) h

exchange-right : (f g : ℕ → ℕ) → ((x : ℕ) → g (f x) ≡ x) → (l : List ℕ) (x : ℕ) → is_issued x l ≡ false → is_issued x (map f l) ≡ true → exchange l (map f l) x ≡ g x
exchange-right f g e l x h k = exchange-behind l (map f l) x h ∙ place-back f g e l x x k

-- ---- the symmetry is cut down to the left tail, and glued

-- quads lead from the nodes behind the list passed in only to the list and to nodes with a canonical identifier
abbrev pub IsClosedBehind : Dataset → List ℕ → List ℕ → List ℕ → Type 0
IsClosedBehind D c i l = (x y : ℕ) → In x l → ¬ (In x i) → ShareQuad D x y → is_issued y c ≡ false → In y l

module _ (D : Dataset) (valid : IsValid D) (c i l m : List ℕ) (e : MayBeExchanged D c i l m) (closed : IsClosedBehind D c i l) (s : IsCarried D c i l m) where
  abbrev to : ℕ → ℕ
  to = s.symmetry.relabelling.to

  abbrev from : ℕ → ℕ
  from = s.symmetry.relabelling.from

  tail_is : e.right_tail ≡ map s.symmetry.relabelling.to e.left_tail
  tail_is =
      (append_split i e.right_tail i (map to e.left_tail) refl (sym e.right_is ∙ s.right_is ∙ ap (map to) e.left_is ∙ map-append to i e.left_tail
      ∙ ap (λ w. w ++ map to e.left_tail) (map_fixed to i (λ x h. s.fixes_passed x (In-from_is_issued x i h))))).1

  apart_left : (x : ℕ) → In x i → ¬ (In x e.left_tail)
  apart_left = are_once-apart i e.left_tail (are_once_from_distinct (i ++ e.left_tail) (subst AreDistinct e.left_is e.left_once))

  apart_right : (x : ℕ) → In x i → ¬ (In x (map s.symmetry.relabelling.to e.left_tail))
  apart_right x h g = are_once-apart i e.right_tail (are_once_from_distinct (i ++ e.right_tail) (subst AreDistinct e.right_is e.right_once)) x h (subst (In x) (sym tail_is) g)

  in_left : (x : ℕ) → In x e.left_tail → In x l
  in_left x h = subst (In x) (sym e.left_is) (In-append_right i e.left_tail x h)

  -- what was passed in counts as canonical here, so that it does not matter whether anything was
  part : IsPart D s.symmetry (c ++ i) [] e.left_tail
  part = record {
    fixes_canonical = λ x h. elim (In-append c i x h) [ inl a ↦ s.fixes_canonical x a | inr a ↦ s.fixes_passed x a ];
    fixes_passed = λ x h. absurd h;
    outside_canonical = λ x h g. elim (In-append c i x g) [ inl a ↦ e.left_apart x (in_left x h) a | inr a ↦ apart_left x a h ];
    outside_passed = λ x h g. g;
    closed = λ x y h q. by x y h q (is_issued y c) refl;
    carried = elim e.tails [
      | inl a ↦ inl (λ x. (λ h. (a x).1 (subst (In x) (sym tail_is) h), λ h. subst (In x) tail_is ((a x).0 h)))
      | inr a ↦ inr (refl, λ x h g. a x h (subst (In x) (sym tail_is) g))
    ];
  }
    where
      split : (y : ℕ) → In y i ⊎ In y e.left_tail → In y e.left_tail ⊎ (In y (c ++ i) ⊎ In y [])
      split y (inl a) = inr (inl (In-append_right c i y a))
      split y (inr a) = inl a

      by : (x y : ℕ) → In x e.left_tail → ShareQuad D x y → (t : Bool) → is_issued y c ≡ t → In y e.left_tail ⊎ (In y (c ++ i) ⊎ In y [])
      by x y h q true k = inr (inl (In-append_left c i y (In-from_is_issued y c k)))
      by x y h q false k = split y (In-append i e.left_tail y (subst (In y) e.left_is (closed x y (in_left x h) (λ a. apart_left x a h) q k)))

  glued : (σ : Symmetry D) × IsGlued D s.symmetry e.left_tail σ.relabelling.to
  glued = gluing D valid s.symmetry (c ++ i) [] e.left_tail part

  is_exchange : (x : ℕ) → glued.0.relabelling.to x ≡ exchange l m x
  is_exchange x = by (is_issued x l) refl (is_issued x (map to l)) refl ∙ ap (λ w. exchange l w x) (sym s.right_is)
    where
      on_left : is_issued x l ≡ true → In x i ⊎ In x e.left_tail → glued.0.relabelling.to x ≡ exchange l (map to l) x
      on_left h (inl a) = glued.1.elsewhere x (apart_left x a) (apart_right x a) ∙ sym (s.fixes_passed x a) ∙ sym (exchange-left to l x h)
      on_left h (inr a) = glued.1.on_part x a ∙ sym (exchange-left to l x h)

      outside : is_issued x l ≡ false → ¬ (In x e.left_tail)
      outside h a = not_In-from_is_issued x l h (in_left x a)

      on_right : is_issued x l ≡ false → is_issued x (map to l) ≡ true → In x i ⊎ In x e.right_tail → glued.0.relabelling.to x ≡ exchange l (map to l) x
      on_right h k (inl a) = absurd (not_In-from_is_issued x l h (subst (In x) (sym e.left_is) (In-append_left i e.left_tail x a)))
      on_right h k (inr a) = glued.1.on_image x (outside h) (subst (In x) tail_is a) ∙ sym (exchange-right to from s.symmetry.relabelling.from-to l x h k)

      by : (a : Bool) → is_issued x l ≡ a → (b : Bool) → is_issued x (map to l) ≡ b → glued.0.relabelling.to x ≡ exchange l (map to l) x
      by true h b k = on_left h (In-append i e.left_tail x (subst (In x) e.left_is (In-from_is_issued x l h)))
      by false h true k = on_right h k (In-append i e.right_tail x (subst (In x) (sym s.right_is ∙ e.right_is) (In-from_is_issued x (map to l) k)))
      by false h false k =
          glued.1.elsewhere x (outside h) (λ a. not_In-from_is_issued x (map to l) k (subst (In x) (sym e.right_is ∙ s.right_is) (In-append_right i e.right_tail x (subst (In x) (sym tail_is) a))))
          ∙ sym (exchange-outside l (map to l) x h k)

  pub carried-joined : IsJoined D c l m
  carried-joined = record {
    as_long = sym (length-map l to) ∙ ap length (sym s.right_is);
    symmetry = glued.0;
    is_exchange = is_exchange;
    fixes_canonical = λ x h. exchange-outside l m x (is_issued-from_not_In x l (λ a. e.left_apart x a h)) (is_issued-from_not_In x m (λ a. e.right_apart x a h));
  }

-- ---- tied outcomes are closed

reaches-closed : (D : Dataset) (c i : List ℕ) (S : ℕ → Type 0) (j : List ℕ) → Reaches D c i S j → IsClosedBehind D c i j
reaches-closed D c i S j v x y h n q f = from ((v.nodes x).0 h) (is_issued y i) refl
  where
    from : In x i ⊎ Reached D c i S x → (t : Bool) → is_issued y i ≡ t → In y j
    from (inl a) t k = absurd (n a)
    from (inr a) true k = (v.nodes y).1 (inl (In-from_is_issued y i k))
    from (inr a) false k = (v.nodes y).1 (inr (onward a q f k))

pub tied-closed : (ρ : Hashing) (D : Dataset) → IsValid D → (c i l m : List ℕ) → AreTied ρ D c i l m → IsClosedBehind D c i l
tied-closed ρ D valid c i l m (inl t) x y h n q f =
    let k = component_of_outcome ρ D (mentions_nodes D valid) (are_quads D valid) c t.left_start t.hash l t.left_outcome in
    In-from_is_issued y l (k.closed x (is_issued-from_In x l h) (k.free x (is_issued-from_In x l h)) y q f)
tied-closed ρ D valid c i l m (inr t) x y h n q f =
    let w : IsClosedBehind D c i (t.paths.issuer t.first) = reaches-closed D c i (λ z. In z t.first) (t.paths.issuer t.first)
    (walk-reaches ρ D c i t.first (t.paths.path t.first) (t.paths.issuer t.first) (t.paths.walks t.first t.first_is_least.permutes)) in
    subst (In y) (sym t.left_is) (w x y (subst (In x) t.left_is h) n q f)

-- ---- the law

joined-carried : (D : Dataset) (c i l m : List ℕ) → MayBeExchanged D c i l m → IsJoined D c l m → IsCarried D c i l m
joined-carried D c i l m e j = record {
  symmetry = r.s;
  fixes_canonical = λ x h. r.canon x (is_issued-from_In x c h);
  fixes_passed = λ x h. r.begun x (is_issued-from_In x i h);
  right_is = r.is;
}
  where
    r : Linked D c i l m
    r =
        joined-linked D c i l m (record { tail = e.left_tail; is = e.left_is }, are_once_from_distinct l e.left_once)
        (record { tail = e.right_tail; is = e.right_is }, are_once_from_distinct m e.right_once) j

pub joined_where_symmetric : JoinedWhereSymmetric
joined_where_symmetric ρ D valid c i l m t =
    let e = tied_may_be_exchanged ρ D valid c i l m t in
    (joined-carried D c i l m e, carried-joined D valid c i l m e (tied-closed ρ D valid c i l m t))
