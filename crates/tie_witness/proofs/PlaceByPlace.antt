-- The pairs at one place of two lists are those of the nodes that the exchange of the lists moves.
use Rattle.std.proofs.Common.{min, ◌≡◌, ◌⊎◌, ◌↔◌, ◌||◌, ℕ, suc, ◌+◌, ◌<◌, ◌≤◌, Bool, true, false, not, cond, eqb, eqb-true, eq-eqb, ne_eqb, List, [], ◌∷◌, ◌++◌, append-nil, append_assoc, map, take, length, get_or, Some, inl, inr, refl, sym, ap, ◌∙◌, subst, true≢false, arith}
use Rattle.std.specs.List.{list_any}
use Rattle.std.specs.List.Sorted.{IsPermutation, IsSortedByKey}
use Rattle.std.specs.Ordering.{nat_cmp, is_lt}
use Rattle.std.proofs.lemmas.Bool.Decides.{nat_tests}
use Rattle.std.proofs.lemmas.List.{length-take, map-append, take_more}
use Rattle.rdf_terms.proofs.Common.{In-append, In-append_left, In-append_right, from_In-map, AreDistinct-Permutes, In-Permutes, Permutes-from_IsPermutation, Permutes-map, Permutes-sym, after_first, place_of, AreDistinct, In, Permutes, AreDistinct-append}
use Rattle.canon_model.specs.Issuer.{is_issued}
use Rattle.canon_model.specs.Ties.{exchange, node_at}
use Rattle.canon_model.proofs.Exchange.{node_at-next}
use Rattle.canon_model.proofs.ExchangeSymmetry.{by_places, exchange-behind, exchange-outside}
use Rattle.canon_model.proofs.Issuers.{AreOnce, In-from_is_issued, are_once_from_distinct, is_issued-from_not_In, not_In-from_is_issued}
use Rattle.tie_witness.specs.Moving.{AreMovedBy, moved_at, moved_by_place}
use Rattle.tie_witness.specs.Tails.{AreTails, IsSameUnless, TellsExchange}
use Rattle.tie_witness.specs.Witness.{AscendByFirst}
use Rattle.tie_witness.proofs.Exchanging.{exchange-inside}

abbrev pub firsts : List (ℕ × ℕ) → List ℕ
firsts pairs = map (λ (p : ℕ × ℕ). p.0) pairs

-- ---- pairs are added place by place

moved_by_place-append : (l m k n : List ℕ) → length l ≡ length m → moved_by_place (l ++ k) (m ++ n) ≡ moved_by_place l m ++ moved_by_place k n
moved_by_place-append [] [] k n e = refl
moved_by_place-append [] (y ∷ m) k n e = cc
moved_by_place-append (x ∷ l) [] k n e = cc
moved_by_place-append (x ∷ l) (y ∷ m) k n e = ap (λ r. moved_at x y ++ r) (moved_by_place-append l m k n (cc)) ∙ sym (append_assoc (moved_at x y) (moved_by_place l m) (moved_by_place k n))

moved-more : (l m : List ℕ) (k : ℕ) → k < length l → length l ≡ length m
    → moved_by_place (take (k + 1) l) (take (k + 1) m) ≡ moved_by_place (take k l) (take k m) ++ moved_at (get_or l k 0) (get_or m k 0)
moved-more l m k h e =
    let g : k < length m = omega arith in
    ap (λ w. moved_by_place w (take (k + 1) m)) (take_more l k 0 h) ∙ ap (λ w. moved_by_place (take k l ++ get_or l k 0 ∷ []) w) (take_more m k 0 g)
    ∙ moved_by_place-append (take k l) (take k m) (get_or l k 0 ∷ []) (get_or m k 0 ∷ []) (length-take k l ∙ ap (min k) e ∙ sym (length-take k m))
    ∙ ap (λ w. moved_by_place (take k l) (take k m) ++ w) (append-nil (moved_at (get_or l k 0) (get_or m k 0)))

pub pushed : (l m : List ℕ) (k : ℕ) (first old new : List (ℕ × ℕ)) → k < length l → length l ≡ length m → old ≡ first ++ moved_by_place (take k l) (take k m)
    → new ≡ old ++ (get_or l k 0, get_or m k 0) ∷ [] → ¬ (get_or l k 0 ≡ get_or m k 0)
    → new ≡ first ++ moved_by_place (take (k + 1) l) (take (k + 1) m)
pushed l m k first old new h e was is other =
    is ∙ ap (λ w. w ++ (get_or l k 0, get_or m k 0) ∷ []) was ∙ append_assoc first (moved_by_place (take k l) (take k m)) ((get_or l k 0, get_or m k 0) ∷ [])
    ∙ ap (λ (t : Bool). first ++ (moved_by_place (take k l) (take k m) ++ cond t [] ((get_or l k 0, get_or m k 0) ∷ []))) (sym (ne_eqb (get_or l k 0) (get_or m k 0) other))
    ∙ ap (λ w. first ++ w) (sym (moved-more l m k h e))

pub kept : (l m : List ℕ) (k : ℕ) (first old new : List (ℕ × ℕ)) → k < length l → length l ≡ length m → old ≡ first ++ moved_by_place (take k l) (take k m) → new ≡ old → get_or l k 0 ≡ get_or m k 0
    → new ≡ first ++ moved_by_place (take (k + 1) l) (take (k + 1) m)
kept l m k first old new h e was is same =
    is ∙ was ∙ ap (λ w. first ++ w) (sym (append-nil (moved_by_place (take k l) (take k m))))
    ∙ ap (λ (t : Bool). first ++ (moved_by_place (take k l) (take k m) ++ cond t [] ((get_or l k 0, get_or m k 0) ∷ []))) (sym (eq-eqb (get_or l k 0) (get_or m k 0) same))
    ∙ ap (λ w. first ++ w) (sym (moved-more l m k h e))

-- ---- which pairs these are

record IsMovedPair (l m : List ℕ) (x y : ℕ) : Type 0 where
  pub inside : is_issued x l ≡ true
  pub leads : by_places l m x ≡ y
  pub moves : ¬ (x ≡ y)

from_moved_at : (z w x y : ℕ) → In (x, y) (moved_at z w) → (x ≡ z) × (y ≡ w) × (¬ (z ≡ w))
from_moved_at z w x y h = by (eqb z w) refl h
  where
    by : (t : Bool) → eqb z w ≡ t → In {A = ℕ × ℕ} (x, y) (cond t [] ((z, w) ∷ [])) → (x ≡ z) × (y ≡ w) × (¬ (z ≡ w))
    by true e h = absurd h
    by false e (inl q) = (ap (λ (p : ℕ × ℕ). p.0) q, ap (λ (p : ℕ × ℕ). p.1) q, λ s. true≢false (sym (eq-eqb z w s) ∙ e))
    by false e (inr q) = absurd q

in_moved_at : (z w : ℕ) → ¬ (z ≡ w) → In (z, w) (moved_at z w)
in_moved_at z w n = subst (λ (t : Bool). In {A = ℕ × ℕ} (z, w) (cond t [] ((z, w) ∷ []))) (sym (ne_eqb z w n)) (inl refl)

places-first : (z w x : ℕ) (l m : List ℕ) → eqb z x ≡ true → by_places (z ∷ l) (w ∷ m) x ≡ w
places-first z w x l m e = ap (λ t. node_at (cond t (Some 0) (after_first (place_of l x))) (w ∷ m) x) e

places-later : (z w x : ℕ) (l m : List ℕ) → eqb z x ≡ false → by_places (z ∷ l) (w ∷ m) x ≡ by_places l m x
places-later z w x l m e = ap (λ t. node_at (cond t (Some 0) (after_first (place_of l x))) (w ∷ m) x) e ∙ node_at-next (place_of l x) w m x

from_In-moved : (l m : List ℕ) → AreOnce l → length l ≡ length m → (x y : ℕ) → In (x, y) (moved_by_place l m) → IsMovedPair l m x y
from_In-moved [] m d e x y h = absurd h
from_In-moved (z ∷ l) [] d e x y h = cc
from_In-moved (z ∷ l) (w ∷ m) d e x y h = by (In-append (moved_at z w) (moved_by_place l m) (x, y) h) (from_In-moved l m d.1 (cc) x y)
  where
    by : In (x, y) (moved_at z w) ⊎ In (x, y) (moved_by_place l m) → (In (x, y) (moved_by_place l m) → IsMovedPair l m x y) → IsMovedPair (z ∷ l) (w ∷ m) x y
    by (inl q) ih =
        let p = from_moved_at z w x y q in
        let same : eqb z x ≡ true = eq-eqb z x (sym p.0) in
        record {
          inside = ap (λ t. t || is_issued x l) same;
          leads = places-first z w x l m same ∙ sym p.1;
          moves = λ s. p.2 (sym p.0 ∙ s ∙ p.1);
        }
    by (inr q) ih =
        let r = ih q in
        let other : eqb z x ≡ false = ne_eqb z x (λ s. true≢false (sym r.inside ∙ ap (λ n. is_issued n l) (sym s) ∙ d.0)) in
        record {
          inside = ap (λ t. t || is_issued x l) other ∙ r.inside;
          leads = places-later z w x l m other ∙ r.leads;
          moves = r.moves;
        }

In-moved : (l m : List ℕ) → length l ≡ length m → (x y : ℕ) → is_issued x l ≡ true → by_places l m x ≡ y → ¬ (x ≡ y) → In (x, y) (moved_by_place l m)
In-moved [] m e x y h p n = absurd (true≢false (sym h))
In-moved (z ∷ l) [] e x y h p n = cc
In-moved (z ∷ l) (w ∷ m) e x y h p n = by (eqb z x) refl h (In-moved l m (cc) x y)
  where
    by : (t : Bool) → eqb z x ≡ t → (t || is_issued x l) ≡ true → (is_issued x l ≡ true → by_places l m x ≡ y → ¬ (x ≡ y) → In (x, y) (moved_by_place l m))
        → In (x, y) (moved_at z w ++ moved_by_place l m)
    by true q r ih =
        let zx : z ≡ x = eqb-true z x q in
        let wy : w ≡ y = sym (places-first z w x l m q) ∙ p in
        In-append_left (moved_at z w) (moved_by_place l m) (x, y) (subst (λ (p : ℕ × ℕ). In p (moved_at z w)) (λ k. (zx k, wy k)) (in_moved_at z w (λ s. n (sym zx ∙ s ∙ wy))))
    by false q r ih = In-append_right (moved_at z w) (moved_by_place l m) (x, y) (ih r (sym (places-later z w x l m q) ∙ p) n)

-- ---- no node begins two pairs

firsts-inside : (l m : List ℕ) → AreOnce l → length l ≡ length m → (x : ℕ) → In x (firsts (moved_by_place l m)) → is_issued x l ≡ true
firsts-inside l m d e x h =
    let r = from_In-map (λ (p : ℕ × ℕ). p.0) (moved_by_place l m) x h in (from_In-moved l m d e x r.0.1 (subst (λ (z : ℕ). In (z, r.0.1) (moved_by_place l m)) (sym r.2) r.1)).inside

firsts-once : (l m : List ℕ) → AreOnce l → length l ≡ length m → AreDistinct (firsts (moved_by_place l m))
firsts-once [] m d e = tt
firsts-once (z ∷ l) [] d e = cc
firsts-once (z ∷ l) (w ∷ m) d e =
    subst AreDistinct (sym (map-append (λ (p : ℕ × ℕ). p.0) (moved_at z w) (moved_by_place l m)))
    (AreDistinct-append (firsts (moved_at z w)) (firsts (moved_by_place l m)) (one (eqb z w)) (firsts-once l m d.1 (cc))
    (λ x h g. true≢false (sym (firsts-inside l m d.1 (cc) x g) ∙ ap (λ n. is_issued n l) (at (eqb z w) x h) ∙ d.0)))
  where
    one : (t : Bool) → AreDistinct (firsts (cond t [] ((z, w) ∷ [])))
    one true = tt
    one false = (λ h. h, tt)

    at : (t : Bool) (x : ℕ) → In x (firsts (cond t [] ((z, w) ∷ []))) → x ≡ z
    at true x h = absurd h
    at false x (inl q) = q
    at false x (inr q) = absurd q

-- ---- lists with the same nodes, and lists with none in common

module _ (a b : List ℕ) (tails : AreTails a b) where
  left_once : AreOnce a
  left_once = are_once_from_distinct a tails.left_once

  right_once : AreOnce b
  right_once = are_once_from_distinct b tails.right_once

  on_left : (x y : ℕ) → In (x, y) (moved_by_place a b) → (exchange a b x ≡ y) × (¬ (x ≡ y))
  on_left x y h = let r = from_In-moved a b left_once tails.as_long x y h in (exchange-inside a b left_once tails.as_long x r.inside ∙ r.leads, r.moves)

  left_moved : (x y : ℕ) → is_issued x a ≡ true → exchange a b x ≡ y → ¬ (x ≡ y) → In (x, y) (moved_by_place a b)
  left_moved x y h e n = In-moved a b tails.as_long x y h (sym (exchange-inside a b left_once tails.as_long x h) ∙ e) n

  pub told-same : IsSameUnless false a b → (pairs : List (ℕ × ℕ)) → pairs ≡ moved_by_place a b → TellsExchange a b pairs
  told-same same pairs e = subst (TellsExchange a b) (sym e) (record { moved = λ x y. (on_left x y, λ p. by x y (is_issued x a) refl p.0 p.1); once = firsts-once a b left_once tails.as_long })
    where
      by : (x y : ℕ) (t : Bool) → is_issued x a ≡ t → exchange a b x ≡ y → ¬ (x ≡ y) → In (x, y) (moved_by_place a b)
      by x y true h p n = left_moved x y h p n
      by x y false h p n = absurd (n (sym (exchange-outside a b x h (is_issued-from_not_In x b (λ g. not_In-from_is_issued x a h ((same x).1 g)))) ∙ p))

  pub told-apart : IsSameUnless true a b → (pairs : List (ℕ × ℕ)) → pairs ≡ moved_by_place a b ++ moved_by_place b a → TellsExchange a b pairs
  told-apart apart pairs e = subst (TellsExchange a b) (sym e) (record {
    moved = λ x y. (
      λ h. elim (In-append (moved_by_place a b) (moved_by_place b a) (x, y) h) [ inl q ↦ on_left x y q | inr q ↦ on_right x y q ],
      λ p. by x y (is_issued x a) refl
          (is_issued x b) refl p.0 p.1,
    );
    once = subst AreDistinct (sym (map-append (λ (p : ℕ × ℕ). p.0) (moved_by_place a b) (moved_by_place b a)))
        (AreDistinct-append (firsts (moved_by_place a b)) (firsts (moved_by_place b a)) (firsts-once a b left_once tails.as_long) (firsts-once b a right_once (sym tails.as_long))
        (λ x h g. apart x (In-from_is_issued x a (firsts-inside a b left_once tails.as_long x h)) (In-from_is_issued x b (firsts-inside b a right_once (sym tails.as_long) x g))));
  })
    where
      on_right : (x y : ℕ) → In (x, y) (moved_by_place b a) → (exchange a b x ≡ y) × (¬ (x ≡ y))
      on_right x y h =
          let r = from_In-moved b a right_once (sym tails.as_long) x y h in
          (exchange-behind a b x (is_issued-from_not_In x a (λ g. apart x g (In-from_is_issued x b r.inside))) ∙ r.leads, r.moves)

      by : (x y : ℕ) (t : Bool) → is_issued x a ≡ t → (s : Bool) → is_issued x b ≡ s → exchange a b x ≡ y → ¬ (x ≡ y) → In (x, y) (moved_by_place a b ++ moved_by_place b a)
      by x y true h s g p n = In-append_left (moved_by_place a b) (moved_by_place b a) (x, y) (left_moved x y h p n)
      by x y false h true g p n = In-append_right (moved_by_place a b) (moved_by_place b a) (x, y) (In-moved b a (sym tails.as_long) x y g (sym (exchange-behind a b x h) ∙ p) n)
      by x y false h false g p n = absurd (n (sym (exchange-outside a b x h g) ∙ p))

  -- one node of the right list tells which it is
  pub apart-judged : (x : ℕ) → In x b → (t : Bool) → t ≡ is_issued x a → IsSameUnless (not t) a b
  apart-judged x h t e = by t e tails.tails
    where
      by : (t : Bool) → t ≡ is_issued x a → ((y : ℕ) → (In y a ↔ In y b)) ⊎ ((y : ℕ) → In y a → ¬ (In y b)) → IsSameUnless (not t) a b
      by true e (inl f) = f
      by true e (inr f) = absurd (f x (In-from_is_issued x a (sym e)) h)
      by false e (inl f) = absurd (not_In-from_is_issued x a (sym e) ((f x).1 h))
      by false e (inr f) = f

pub is_issued-any : (x : ℕ) (l : List ℕ) → list_any (λ y. eqb y x) l ≡ is_issued x l
is_issued-any x [] = refl
is_issued-any x (y ∷ l) = ap (λ t. eqb y x || t) (is_issued-any x l)

-- ---- the pairs are sorted

at_most : (m n : ℕ) → is_lt (nat_cmp m n) ≡ false → n ≤ m
at_most m n h = grind (arith, nat_tests)

sorted_behind : (p : ℕ × ℕ) (pairs : List (ℕ × ℕ)) → IsSortedByKey (λ (p : ℕ × ℕ). p.0) nat_cmp (p ∷ pairs) → IsSortedByKey (λ (p : ℕ × ℕ). p.0) nat_cmp pairs
sorted_behind p pairs s k e lo hi =
    let on : suc k + 1 ≡ suc (k + 1) = omega arith in
    subst (λ (n : ℕ). is_lt (nat_cmp (get_or {A = ℕ × ℕ} (p ∷ pairs) n e).0 (get_or {A = ℕ × ℕ} pairs k e).0) ≡ false) on (s (suc k) e (omega arith) (omega arith))

ascending : (pairs : List (ℕ × ℕ)) → AreDistinct (firsts pairs) → IsSortedByKey (λ (p : ℕ × ℕ). p.0) nat_cmp pairs → AscendByFirst pairs
ascending [] d s = tt
ascending (p ∷ []) d s = (λ q h. absurd h, tt)
ascending (p ∷ r ∷ pairs) d s =
    let rest : AscendByFirst (r ∷ pairs) = ascending (r ∷ pairs) d.1 (sorted_behind p (r ∷ pairs) s) in
    let other : ¬ (p.0 ≡ r.0) = λ e. d.0 (inl e) in
    let most : p.0 ≤ r.0 = at_most r.0 p.0 (s 0 p (omega arith) (omega arith)) in
    let next : p.0 < r.0 = omega (arith, most, other) in
    (below p r pairs next rest, rest)
  where
    below : (p r : ℕ × ℕ) (pairs : List (ℕ × ℕ)) → p.0 < r.0 → AscendByFirst (r ∷ pairs) → (q : ℕ × ℕ) → In q (r ∷ pairs) → p.0 < q.0
    below p r pairs next rest q (inl e) = subst (λ (w : ℕ × ℕ). p.0 < w.0) (sym e) next
    below p r pairs next rest q (inr h) = let a : r.0 < q.0 = rest.0 q h in omega (arith, next, a)

pub sorted-moved : (f : ℕ → ℕ) (old new : List (ℕ × ℕ)) → IsPermutation old new → AreMovedBy f old → AreMovedBy f new
sorted-moved f old new p moved =
    let q : Permutes old new = Permutes-from_IsPermutation old new p in
    λ x y. (λ h. (moved x y).0 (In-Permutes (x, y) (Permutes-sym q) h), λ h. In-Permutes (x, y) q ((moved x y).1 h))

pub sorted-ascends : (old new : List (ℕ × ℕ)) → IsPermutation old new → AreDistinct (firsts old) → IsSortedByKey (λ (p : ℕ × ℕ). p.0) nat_cmp new → AscendByFirst new
sorted-ascends old new p d s = ascending new (AreDistinct-Permutes (Permutes-map (λ (p : ℕ × ℕ). p.0) (Permutes-from_IsPermutation old new p)) d) s
