-- The labels whose marks are set, found one by one.
use Rattle.std.proofs.Common.{◌≡◌, ℕ, zero, suc, ◌<◌, ◌⊎◌, Bool, true, false, List, [], ◌∷◌, ◌++◌, length, map, drop, take, filter, inl, inr, refl, sym, ap, subst, ◌∙◌, arith, append_assoc, append-nil, if◌then◌else◌, add-one}
use Rattle.std.proofs.lemmas.List.{map-append, drop_more}
use Rattle.rdf_terms.specs.Lists.{In, AreDistinct, numbers_below}
use Rattle.rdf_terms.specs.Document.{mark_in, marked_of, label_at}
use Rattle.rdf_terms.specs.declared.term.Label.{Label}

-- what is kept so far, and what is kept of the rest
pub record Keeps (all kept left : List Label) (marks : List Bool) (k : ℕ) : Type 0 where
  pub made : kept ++ marked_of (drop k marks) left ≡ marked_of marks all
  pub rest : left ≡ drop k all
  pub known : (l : Label) → In l kept → In l (take k all)

pub kept_from : (all : List Label) (k : ℕ) (l : Label) (rest : List Label) → l ∷ rest ≡ drop k all → AreDistinct all → ¬ (In l (take k all))
kept_from [] zero l rest e d h = h
kept_from [] (suc k) l rest e d h = h
kept_from (x ∷ xs) zero l rest e d h = h
kept_from (x ∷ xs) (suc k) l rest e d (inl same) = d.0 (subst (λ y. In y xs) same (dropped xs k l rest e))
  where
    dropped : (xs : List Label) (k : ℕ) (l : Label) (rest : List Label) → l ∷ rest ≡ drop k xs → In l xs
    dropped [] zero l rest e = cc
    dropped [] (suc k) l rest e = cc
    dropped (x ∷ xs) zero l rest e = let s : l ≡ x = cc in inl s
    dropped (x ∷ xs) (suc k) l rest e = inr (dropped xs k l rest e)
kept_from (x ∷ xs) (suc k) l rest e d (inr h) = kept_from xs k l rest e d.1 h

pub still_known : (all : List Label) (k : ℕ) (x : Label) → In x (take k all) → In x (take (suc k) all)
still_known [] zero x h = h
still_known [] (suc k) x h = h
still_known (y ∷ ys) zero x h = absurd h
still_known (y ∷ ys) (suc k) x (inl e) = inl e
still_known (y ∷ ys) (suc k) x (inr h) = inr (still_known ys k x h)

pub now_known : (all : List Label) (k : ℕ) (l : Label) (rest : List Label) → l ∷ rest ≡ drop k all → In l (take (suc k) all)
now_known [] zero l rest e = cc
now_known [] (suc k) l rest e = cc
now_known (x ∷ xs) zero l rest e = let s : l ≡ x = cc in inl s
now_known (x ∷ xs) (suc k) l rest e = inr (now_known xs k l rest e)

pub next_rest : (all : List Label) (k : ℕ) (l : Label) (rest : List Label) → l ∷ rest ≡ drop k all → rest ≡ drop (suc k) all
next_rest [] zero l rest e = cc
next_rest [] (suc k) l rest e = cc
next_rest (x ∷ xs) zero l rest e = cc
next_rest (x ∷ xs) (suc k) l rest e = next_rest xs k l rest e

append_if : (b : Bool) (xs : List Label) (x : Label) (ys : List Label) → xs ++ (if b then x ∷ ys else ys) ≡ (xs ++ (if b then x ∷ [] else [])) ++ ys
append_if true xs x ys = sym (append_assoc xs (x ∷ []) ys)
append_if false xs x ys = ap (λ l. l ++ ys) (sym (append-nil xs))

In-append_if : (b : Bool) (xs : List Label) (x l : Label) → In l (xs ++ (if b then x ∷ [] else [])) → In l xs ⊎ (l ≡ x)
In-append_if b [] x l h = by b h
  where
    by : (b : Bool) → In l (if b then x ∷ [] else []) → ⊥ ⊎ (l ≡ x)
    by true (inl e) = inr e
    by true (inr z) = absurd z
    by false h = absurd h
In-append_if b (y ∷ ys) x l (inl e) = inl (inl e)
In-append_if b (y ∷ ys) x l (inr h) = elim (In-append_if b ys x l h) [ inl i ↦ inl (inr i) | inr e ↦ inr e ]

pub Keeps-more : (all kept left : List Label) (marks : List Bool) (k : ℕ) (l : Label) (rest new : List Label) (b : Bool) → left ≡ l ∷ rest → k < length marks → b ≡ mark_in marks k
    → new ≡ kept ++ (if b then l ∷ [] else []) → Keeps all kept left marks k → Keeps all new rest marks (suc k)
Keeps-more all kept left marks k l rest new b split low is grown h = record {
  made = ap (λ w. w ++ marked_of (drop (suc k) marks) rest) grown ∙ sym (append_if b kept l (marked_of (drop (suc k) marks) rest)) ∙ ap (λ w. kept ++ w) (sym step) ∙ h.made;
  rest = next_rest all k l rest (sym split ∙ h.rest);
  known = λ x i. by x (In-append_if b kept l x (subst (In x) grown i));
}
  where
    by : (x : Label) → In x kept ⊎ (x ≡ l) → In x (take (suc k) all)
    by x (inl i) = still_known all k x (h.known x i)
    by x (inr e) = subst (λ y. In y (take (suc k) all)) (sym e) (now_known all k l rest (sym split ∙ h.rest))

    step : marked_of (drop k marks) left ≡ (if b then l ∷ marked_of (drop (suc k) marks) rest else marked_of (drop (suc k) marks) rest)
    step =
        (λ i. marked_of (drop_more marks k false low i) (split i))
        ∙ ap (λ m. marked_of (mark_in marks k ∷ drop m marks) (l ∷ rest)) (add-one k)
        ∙ ap (λ c. if c then l ∷ marked_of (drop (suc k) marks) rest else marked_of (drop (suc k) marks) rest) (sym is)

-- ---- the labels that are kept are those of the marked nodes

shifted : (b : Bool) (bs : List Bool) (x : Label) (xs : List Label) (n : ℕ)
    → map (label_at (x ∷ xs)) (filter (mark_in (b ∷ bs)) (numbers_below (suc n)))
    ≡ (if b then x ∷ map (label_at xs) (filter (mark_in bs) (numbers_below n)) else map (label_at xs) (filter (mark_in bs) (numbers_below n)))
shifted true bs x xs zero = refl
shifted false bs x xs zero = refl
shifted b bs x xs (suc n) =
    let here = shifted b bs x xs n in
    split_last (mark_in (b ∷ bs)) (label_at (x ∷ xs)) (suc n)
    ∙ ap (λ w. w ++ map (label_at (x ∷ xs)) (if mark_in bs n then suc n ∷ [] else [])) here
    ∙ front b (mark_in bs n) (map (label_at xs) (filter (mark_in bs) (numbers_below n))) n
    ∙ ap (λ w. if b then x ∷ w else w) (sym (split_last (mark_in bs) (label_at xs) n))
  where
    filter_push : (p : ℕ → Bool) (ns : List ℕ) (n : ℕ) → filter p (ns ++ n ∷ []) ≡ filter p ns ++ (if p n then n ∷ [] else [])
    filter_push p [] n = refl
    filter_push p (m ∷ ns) n = by (p m) (filter_push p ns n)
      where
        by : (c : Bool) → filter p (ns ++ n ∷ []) ≡ filter p ns ++ (if p n then n ∷ [] else [])
            → (if c then m ∷ filter p (ns ++ n ∷ []) else filter p (ns ++ n ∷ [])) ≡ (if c then m ∷ filter p ns else filter p ns) ++ (if p n then n ∷ [] else [])
        by true e = ap (λ w. m ∷ w) e
        by false e = e

    split_last : {A : Type 0} (p : ℕ → Bool) (f : ℕ → A) (n : ℕ) → map f (filter p (numbers_below (suc n))) ≡ map f (filter p (numbers_below n)) ++ map f (if p n then n ∷ [] else [])
    split_last p f n = ap (map f) (filter_push p (numbers_below n) n) ∙ map-append f (filter p (numbers_below n)) (if p n then n ∷ [] else [])

    front : (b c : Bool) (ls : List Label) (n : ℕ)
        → (if b then x ∷ ls else ls) ++ map (label_at (x ∷ xs)) (if c then suc n ∷ [] else [])
        ≡ (if b then x ∷ (ls ++ map (label_at xs) (if c then n ∷ [] else [])) else (ls ++ map (label_at xs) (if c then n ∷ [] else [])))
    front true true ls n = refl
    front true false ls n = refl
    front false true ls n = refl
    front false false ls n = refl

pub marked_of-numbers : (marks : List Bool) (labels : List Label) → length marks ≡ length labels
    → marked_of marks labels ≡ map (label_at labels) (filter (mark_in marks) (numbers_below (length marks)))
marked_of-numbers [] labels e = refl
marked_of-numbers (b ∷ bs) [] e = absurd (omega arith)
marked_of-numbers (b ∷ bs) (l ∷ ls) e = ap (λ w. if b then l ∷ w else w) (marked_of-numbers bs ls (omega arith)) ∙ sym (shifted b bs l ls (length bs))
