-- The place of a node, by the searches of a set of numbers.
use Rattle.std.proofs.Common.{◌≡◌, ℕ, suc, ◌+◌, ◌<◌, All, Bool, true, false, cond, not, eqb, ltb, ◌||◌, List, [], ◌∷◌, ◌++◌, length, Option, Some, None, is_some, if◌then◌else◌, position, refl, sym, ap, ◌∙◌, subst, arith, eq-eqb, true≢false}
use Rattle.std.specs.List.{list_any, position_or_len}
use Rattle.std.proofs.lemmas.Bool.Decides.{nat_tests}
use Rattle.rdf_terms.specs.CanonicalForm.{place_of, after_first}
use Rattle.std.proofs.lemmas.List.Elements.{All-append, All-cons, All-nil}
use Rattle.indexmap.specs.IndexSet.{insert_key}
use Rattle.id_issuer.specs.IssuedList.{list_with}

eqb-flip : (m n : ℕ) → eqb m n ≡ eqb n m
eqb-flip m n = grind (arith, nat_tests)

pub list_any-place_of : (ks : List ℕ) (n : ℕ) → list_any (eqb n) ks ≡ is_some (place_of ks n)
list_any-place_of [] n = refl
list_any-place_of (x ∷ xs) n = ap (λ b. b || list_any (eqb n) xs) (eqb-flip n x) ∙ step (eqb x n) _ (place_of xs n) (list_any-place_of xs n)
  where
    step : (b a : Bool) (r : Option ℕ) → a ≡ is_some r → (b || a) ≡ is_some (cond b (Some 0) (after_first r))
    step true a r e = refl
    step false a None e = e
    step false a (Some k) e = e

pub place_of-position : (ks : List ℕ) (n : ℕ) → place_of ks n ≡ position (eqb n) ks
place_of-position [] n = refl
place_of-position (x ∷ xs) n =
    subst (λ b. cond b (Some 0) (after_first (place_of xs n)) ≡ position (eqb n) (x ∷ xs)) (eqb-flip n x)
    (step (eqb n x) (position_or_len (eqb n) xs) (length xs) (place_of xs n) (place_of-position xs n))
  where
    later : (k l : ℕ) (t : Bool) → ltb k l ≡ t → after_first (cond t (Some k) None) ≡ cond (ltb (1 + k) (suc l)) (Some (1 + k)) None
    later k l true e = let f : ltb (1 + k) (suc l) ≡ true = grind (arith, nat_tests) in let g : suc k ≡ 1 + k = omega arith in rw f (ap Some g)
    later k l false e = let f : ltb (1 + k) (suc l) ≡ false = grind (arith, nat_tests) in rw f refl

    step : (b : Bool) (k l : ℕ) (r : Option ℕ) → r ≡ cond (ltb k l) (Some k) None → cond b (Some 0) (after_first r) ≡ cond (ltb (cond (not b) (1 + k) 0) (suc l)) (Some (cond (not b) (1 + k) 0)) None
    step true k l r e = let f : ltb 0 (suc l) ≡ true = grind (arith, nat_tests) in rw f refl
    step false k l r e = ap after_first e ∙ later k l (ltb k l) refl

-- a node that goes last is found at its first place
place_of-push : (ks : List ℕ) (n : ℕ) → place_of (ks ++ n ∷ []) n ≡ Some (position_or_len (eqb n) ks)
place_of-push [] n = ap (λ b. cond b (Some 0) None) (eq-eqb n n refl)
place_of-push (x ∷ xs) n =
    subst (λ b. cond b (Some 0) (after_first (place_of (xs ++ n ∷ []) n)) ≡ Some (position_or_len (eqb n) (x ∷ xs))) (eqb-flip n x) (step (eqb n x) (position_or_len (eqb n) xs) _ (place_of-push xs n))
  where
    step : (b : Bool) (k : ℕ) (r : Option ℕ) → r ≡ Some k → cond b (Some 0) (after_first r) ≡ Some (cond (not b) (1 + k) 0)
    step true k r e = refl
    step false k r e = let g : suc k ≡ 1 + k = omega arith in ap after_first e ∙ ap Some g

place_of-there : (ks : List ℕ) (n : ℕ) → list_any (eqb n) ks ≡ true → place_of ks n ≡ Some (position_or_len (eqb n) ks)
place_of-there [] n h = absurd (true≢false (sym h))
place_of-there (x ∷ xs) n h =
    subst (λ b. cond b (Some 0) (after_first (place_of xs n)) ≡ Some (position_or_len (eqb n) (x ∷ xs))) (eqb-flip n x)
    (step (eqb n x) (list_any (eqb n) xs) h (position_or_len (eqb n) xs) _ (place_of-there xs n))
  where
    step : (b a : Bool) → (b || a) ≡ true → (k : ℕ) (r : Option ℕ) → (a ≡ true → r ≡ Some k) → cond b (Some 0) (after_first r) ≡ Some (cond (not b) (1 + k) 0)
    step true a h k r e = refl
    step false a h k r e = let g : suc k ≡ 1 + k = omega arith in ap after_first (e h) ∙ ap Some g

-- after an insertion, the node is at the index of the insertion
pub place_of-insert_key : (ks : List ℕ) (n : ℕ) → place_of (insert_key eqb ks n) n ≡ Some (position_or_len (eqb n) ks)
place_of-insert_key ks n = by (list_any (eqb n) ks) refl
  where
    by : (b : Bool) → list_any (eqb n) ks ≡ b → place_of (if b then ks else ks ++ n ∷ []) n ≡ Some (position_or_len (eqb n) ks)
    by true e = place_of-there ks n e
    by false e = place_of-push ks n

pub insert_key-list_with : (ks : List ℕ) (n : ℕ) → insert_key eqb ks n ≡ list_with ks n
insert_key-list_with ks n = ap (λ b. if b then ks else ks ++ n ∷ []) (list_any-place_of ks n)

pub All-insert_key : (N : ℕ) (ks : List ℕ) (n : ℕ) → n < N → All (λ k. k < N) ks → All (λ k. k < N) (insert_key eqb ks n)
All-insert_key N ks n lt below = by (list_any (eqb n) ks)
  where
    one : All (λ k. k < N) (n ∷ [])
    one = All-cons (λ k. k < N) n [] lt (All-nil (λ k. k < N))

    by : (b : Bool) → All (λ k. k < N) (if b then ks else ks ++ n ∷ [])
    by true = below
    by false = All-append (λ k. k < N) ks (n ∷ []) below one
