-- Nodes that ascend, and the same each once.
use Rattle.std.proofs.Common.{Bool, List, [], ap, arith, cond, eqb, false, get_or, inl, inr, length, refl, subst, suc, sym, true, ℕ, ◌<◌, ◌≤◌, ◌∙◌, ◌∷◌, ◌≡◌, ◌⊎◌, ◌||◌}
use Rattle.std.specs.List.{dedup, dedup_from}
use Rattle.std.specs.List.Sorted.{IsNonDecreasing}
use Rattle.std.proofs.lemmas.Bool.{cases_Bool, eqb-false, eqb-true}
use Rattle.rdf_terms.specs.Lists.{In, Permutes}
use Rattle.canon_model.specs.Hashing.{Hashing}
use Rattle.canon_model.specs.Issuer.{is_issued}
use Rattle.canon_model.specs.Groups.{as_read, each_node_once}
use Rattle.canon_model.proofs.RelabelGroups.{each_once-perm}
use Rattle.related_hash.specs.Grouping.{Ascends}
use Rattle.canon_model.proofs.Neighbours.{from_In-each_node_once}

-- ---- sorted nodes ascend

least : (x y : ℕ) (xs : List ℕ) → ((j d : ℕ) → j < length xs → x ≤ get_or xs j d) → In y xs → x ≤ y
least x y [] h m = absurd m
least x y (z ∷ xs) h (inl e) = subst (λ w. x ≤ w) (sym e) (h 0 0 (omega arith))
least x y (z ∷ xs) h (inr m) = least x y xs (λ j d l. h (suc j) d (omega arith)) m

pub Ascends-from_IsNonDecreasing : (xs : List ℕ) → IsNonDecreasing xs → Ascends xs
Ascends-from_IsNonDecreasing [] h = tt
Ascends-from_IsNonDecreasing (x ∷ xs) h = (
  λ y. least x y xs (λ j d l. h 0 (suc j) d (omega arith) (omega arith)),
  Ascends-from_IsNonDecreasing xs (λ i j d le lt. h (suc i) (suc j) d (omega arith) (omega arith)),
)

-- ---- what each node once leaves

Ascends-each_node_once : (xs : List ℕ) → Ascends xs → Ascends (each_node_once xs)
Ascends-each_node_once [] a = tt
Ascends-each_node_once (x ∷ xs) a = by (is_issued x xs) (Ascends-each_node_once xs a.1)
  where
    by : (b : Bool) → Ascends (each_node_once xs) → Ascends (cond b (each_node_once xs) (x ∷ each_node_once xs))
    by true r = r
    by false r = (λ y m. a.0 y (from_In-each_node_once y xs m), r)

pub Ascends-as_read : (ρ : Hashing) (xs : List ℕ) → Ascends xs → Ascends (as_read ρ xs)
Ascends-as_read ρ xs a = by ρ.once
  where
    by : (b : Bool) → Ascends (cond b (each_node_once xs) xs)
    by true = Ascends-each_node_once xs a
    by false = a

-- ---- neighbours that are equal are left out

not_equal : (x z : ℕ) → x < z → eqb z x ≡ false
not_equal x z l = grind arith

not_issued : (x : ℕ) (xs : List ℕ) → ((z : ℕ) → In z xs → x < z) → is_issued x xs ≡ false
not_issued x [] h = refl
not_issued x (z ∷ xs) h = ap (λ (b : Bool). b || is_issued x xs) (not_equal x z (h z (inl refl))) ∙ not_issued x xs (λ w m. h w (inr m))

first_less : (x y z : ℕ) → x ≤ y → ¬ (y ≡ x) → y ≤ z → x < z
first_less x y z l n k = grind arith

-- where the nodes ascend, each is left once
dedup_from-once : (x : ℕ) (xs : List ℕ) → Ascends (x ∷ xs) → dedup_from eqb x xs ≡ each_node_once (x ∷ xs)
dedup_from-once x [] a = refl
dedup_from-once x (y ∷ xs) a = by (cases_Bool (eqb y x)) (dedup_from-once x xs (λ z m. a.0 z (inr m), a.1.1)) (dedup_from-once y xs a.1)
  where
    by : (eqb y x ≡ true) ⊎ (eqb y x ≡ false) → dedup_from eqb x xs ≡ each_node_once (x ∷ xs) → dedup_from eqb y xs ≡ each_node_once (y ∷ xs) → dedup_from eqb x (y ∷ xs) ≡ each_node_once (x ∷ y ∷ xs)
    by (inl t) same other =
        ap (λ (b : Bool). cond b (dedup_from eqb x xs) (x ∷ dedup_from eqb y xs)) t ∙ same ∙ ap (λ w. each_node_once (w ∷ xs)) (sym (eqb-true y x t))
        ∙ ap (λ (b : Bool). cond (b || is_issued x xs) (each_node_once (y ∷ xs)) (x ∷ each_node_once (y ∷ xs))) (sym t)
    by (inr f) same other =
        let above : (z : ℕ) → In z xs → x < z = λ z m. let l = a.0 y (inl refl) in let k = a.1.0 z m in let n = eqb-false y x f in first_less x y z l n k in
        ap (λ (b : Bool). cond b (dedup_from eqb x xs) (x ∷ dedup_from eqb y xs)) f ∙ ap (λ l. x ∷ l) other
        ∙ ap (λ (b : Bool). cond b (each_node_once (y ∷ xs)) (x ∷ each_node_once (y ∷ xs))) (sym (not_issued x xs above))
        ∙ ap (λ (b : Bool). cond (b || is_issued x xs) (each_node_once (y ∷ xs)) (x ∷ each_node_once (y ∷ xs))) (sym f)

pub dedup-once : (xs : List ℕ) → Ascends xs → dedup eqb xs ≡ each_node_once xs
dedup-once [] a = refl
dedup-once (x ∷ xs) a = dedup_from-once x xs a
