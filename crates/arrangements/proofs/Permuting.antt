-- Laws of lists that have the same elements: a list turned round, a number traded for another, and one left out on both sides.
use Rattle.std.proofs.Common.{ℕ, zero, suc, ◌<◌, List, [], ◌∷◌, length, reverse, get_or, set, sym, subst, arith}
use mathlib.Core.List.{reverse-cons}
use Rattle.rdf_terms.proofs.Common.{Permutes, permutes_nil, permutes_cons, permutes_swap, permutes_trans, Permutes-append_comm, without, without-first, Permutes-without}

pub Permutes-reverse : {A : Type 0} (xs : List A) → Permutes xs (reverse xs)
Permutes-reverse [] = permutes_nil
Permutes-reverse (x ∷ xs) =
    permutes_trans (permutes_cons (Permutes-reverse xs)) (subst (Permutes (x ∷ reverse xs)) (sym (reverse-cons x xs)) (Permutes-append_comm (x ∷ []) (reverse xs)))

-- x goes into the place j of xs, and what stood there comes to the front
pub traded : {A : Type 0} (d x : A) (xs : List A) (j : ℕ) → j < length xs → Permutes (x ∷ xs) (get_or xs j d ∷ set xs j x)
traded d x [] j h = absurd (omega arith)
traded d x (y ∷ xs) zero h = permutes_swap
traded d x (y ∷ xs) (suc j) h =
    permutes_trans permutes_swap (permutes_trans (permutes_cons (traded d x xs j (omega arith))) permutes_swap)

pub Permutes-rest : (x : ℕ) {xs ys : List ℕ} → Permutes (x ∷ xs) (x ∷ ys) → Permutes xs ys
Permutes-rest x {xs = xs} {ys = ys} p = subst (λ w. Permutes w ys) (without-first x xs) (subst (Permutes (without x (x ∷ xs))) (without-first x ys) (Permutes-without x p))
