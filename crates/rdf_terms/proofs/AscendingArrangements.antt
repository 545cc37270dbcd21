-- The enumeration of arrangements is strictly ascending, so each stands once, and it is the only such list.
use Rattle.std.proofs.Common.{Bool, Equal, Greater, Less, List, [], ap, arith, cond, eqb, false, flat_map, inl, inr, is_lt, leb, leb-false, leb-true, length, lt-ltb, map, nat_cmp, refl, subst, suc, sym, true, true≢false, zero, ℕ, ◌++◌, ◌<◌, ◌∙◌, ◌∷◌, ◌≡◌, ◌≤◌, ◌⊎◌}
use Rattle.std.proofs.lemmas.Bool.{eqb-false}
use Rattle.std.specs.Cmp.Lexicographic.{slice_cmp}
use Rattle.std.specs.Ordering.{ordering_then}
use Rattle.rdf_terms.proofs.Membership.{In-append, from_In-map}
use Rattle.rdf_terms.proofs.TextOrder.{is_before-asym, is_before-front, is_before-irrefl}
use Rattle.rdf_terms.specs.Lists.{AreDistinct, In, is_before}
use Rattle.rdf_terms.specs.Arrangements.{AreStrictlyAscending, arrangements, arrangements_of_length, ascending_once, insert_once, without}
use Rattle.rdf_terms.proofs.Arrangements.{from_In-insert_once}
use Rattle.rdf_terms.proofs.MadeLists.{from_In-flat_map}

abbrev AreAscendingNodes : List ℕ → Type 0
AreAscendingNodes [] = Unit {0}
AreAscendingNodes (x ∷ xs) = ((y : ℕ) → In y xs → x < y) × AreAscendingNodes xs

insert_once-ascending : (x : ℕ) (xs : List ℕ) → AreAscendingNodes xs → AreAscendingNodes (insert_once x xs)
insert_once-ascending x [] c = ((λ y h. absurd h), tt)
insert_once-ascending x (z ∷ xs) c = by (eqb x z) refl (leb x z) refl (insert_once-ascending x xs c.1)
  where
    by : (s : Bool) → eqb x z ≡ s → (t : Bool) → leb x z ≡ t → AreAscendingNodes (insert_once x xs) → AreAscendingNodes (cond s (z ∷ xs) (cond t (x ∷ z ∷ xs) (z ∷ insert_once x xs)))
    by true e t f ih = c
    by false e true f ih =
        let l : x ≤ z = leb-true x z f in
        let n : x ≡ z → ⊥ = eqb-false x z e in
        let m : x < z = omega arith in
        ((λ y. elim [ inl q ↦ subst (λ w. x < w) (sym q) m | inr q ↦ (let k = c.0 y q in omega arith) ]), c)
    by false e false f ih =
        let l : z < x = leb-false x z f in
        ((λ y h. elim (from_In-insert_once x y xs h) [ inl q ↦ subst (λ w. z < w) (sym q) l | inr q ↦ c.0 y q ]), ih)

ascending_once-ascending : (xs : List ℕ) → AreAscendingNodes (ascending_once xs)
ascending_once-ascending [] = tt
ascending_once-ascending (x ∷ xs) = insert_once-ascending x (ascending_once xs) (ascending_once-ascending xs)

cmp_less : (x y : ℕ) → x < y → nat_cmp x y ≡ Less
cmp_less x y h = ap (λ t. cond t Less (cond (eqb x y) Equal Greater)) (lt-ltb x y h)

lt_first : (x y : ℕ) (p q : List ℕ) → x < y → is_before (x ∷ p) (y ∷ q) ≡ true
lt_first x y p q h = ap (λ o. is_lt (ordering_then o (slice_cmp nat_cmp p q))) (cmp_less x y h)

lt_rest : (x : ℕ) (p q : List ℕ) → is_before p q ≡ true → is_before (x ∷ p) (x ∷ q) ≡ true
lt_rest x p q h = is_before-front (x ∷ []) p q ∙ h

ascending_map : (x : ℕ) (ps : List (List ℕ)) → AreStrictlyAscending ps → AreStrictlyAscending (map (λ p. x ∷ p) ps)
ascending_map x [] r = tt
ascending_map x (p ∷ ps) r = ((λ q h. let g = from_In-map (λ p. x ∷ p) ps q h in subst (λ w. is_before (x ∷ p) w ≡ true) (sym g.2) (lt_rest x p g.0 (r.0 g.0 g.1))), ascending_map x ps r.1)

ascending_append : (ps qs : List (List ℕ)) → AreStrictlyAscending ps → AreStrictlyAscending qs → ((p q : List ℕ) → In p ps → In q qs → is_before p q ≡ true) → AreStrictlyAscending (ps ++ qs)
ascending_append [] qs a b f = b
ascending_append (p ∷ ps) qs a b f = ((λ q h. elim (In-append ps qs q h) [ inl g ↦ a.0 q g | inr g ↦ f p q (inl refl) g ]), ascending_append ps qs a.1 b (λ r q g k. f r q (inr g) k))

ascending_blocks : (F : ℕ → List (List ℕ)) → ((x : ℕ) → AreStrictlyAscending (F x)) → (xs : List ℕ) → AreAscendingNodes xs → AreStrictlyAscending (flat_map (λ x. map (λ p. x ∷ p) (F x)) xs)
ascending_blocks F f [] c = tt
ascending_blocks F f (x ∷ xs) c = ascending_append _ _ (ascending_map x (F x) (f x)) (ascending_blocks F f xs c.1) (λ p q g h.
    let a = from_In-map (λ p. x ∷ p) (F x) p g in
    let b = from_In-flat_map (λ y. map (λ p. y ∷ p) (F y)) q xs h in
    let d = from_In-map (λ p. b.0 ∷ p) (F b.0) q b.2 in
    subst (λ w. is_before w q ≡ true) (sym a.2) (subst (λ w. is_before (x ∷ a.0) w ≡ true) (sym d.2) (lt_first x b.0 a.0 d.0 (c.0 b.0 b.1))))

arrangements_of_length-ascending : (k : ℕ) (b : List ℕ) → AreStrictlyAscending (arrangements_of_length k b)
arrangements_of_length-ascending zero b = ((λ q h. absurd h), tt)
arrangements_of_length-ascending (suc k) b =
    ascending_blocks (λ x. arrangements_of_length k (without x b)) (λ x. arrangements_of_length-ascending k (without x b)) (ascending_once b) (ascending_once-ascending b)

pub arrangements-ascending : (b : List ℕ) → AreStrictlyAscending (arrangements b)
arrangements-ascending b = arrangements_of_length-ascending (length b) b

-- two strictly ascending lists of the same are one
pub ascending_unique : (ps qs : List (List ℕ)) → AreStrictlyAscending ps → AreStrictlyAscending qs → ((p : List ℕ) → In p ps → In p qs) → ((p : List ℕ) → In p qs → In p ps) → ps ≡ qs
ascending_unique [] [] a b f g = refl
ascending_unique [] (q ∷ qs) a b f g = absurd (g q (inl refl))
ascending_unique (p ∷ ps) [] a b f g = absurd (f p (inl refl))
ascending_unique (p ∷ ps) (q ∷ qs) a b f g = λ i. same i ∷ ascending_unique ps qs a.1 b.1 (λ r h. drop r (a.0 r h) (f r (inr h))) (λ r h. drop' r (b.0 r h) (g r (inr h))) i
  where
    not_twice : (r s : List ℕ) → is_before r s ≡ true → is_before s r ≡ true → ⊥
    not_twice r s h k = true≢false (sym k ∙ is_before-asym r s h)

    same : p ≡ q
    same = elim (f p (inl refl)) [ inl e ↦ e | inr h ↦ elim (g q (inl refl)) [ inl e ↦ sym e | inr k ↦ absurd (not_twice q p (b.0 p h) (a.0 q k)) ] ]

    drop : (r : List ℕ) → is_before p r ≡ true → (r ≡ q) ⊎ In r qs → In r qs
    drop r l (inl e) = absurd (true≢false (sym l ∙ ap (λ w. is_before p w) (e ∙ sym same) ∙ is_before-irrefl p))
    drop r l (inr h) = h

    drop' : (r : List ℕ) → is_before q r ≡ true → (r ≡ p) ⊎ In r ps → In r ps
    drop' r l (inl e) = absurd (true≢false (sym l ∙ ap (λ w. is_before q w) (e ∙ same) ∙ is_before-irrefl q))
    drop' r l (inr h) = h

pub ascending_distinct : (ps : List (List ℕ)) → AreStrictlyAscending ps → AreDistinct ps
ascending_distinct [] a = tt
ascending_distinct (p ∷ ps) a = ((λ h. true≢false (sym (a.0 p h) ∙ is_before-irrefl p)), ascending_distinct ps a.1)
