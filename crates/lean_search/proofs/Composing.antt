-- Steps one after the other, by numbers and by terms.
use Rattle.std.proofs.Common.{◌≡◌, ℕ, zero, suc, ◌-◌, ◌<◌, ◌≤◌, ◌==◌, Bool, true, false, if◌then◌else◌, List, [], ◌∷◌, ◌++◌, length, map, get_or, set, drop, refl, sym, ap, ◌∙◌, subst, inl, inr, arith, eq-eqb}
use Rattle.std.specs.List.{All}
use Rattle.std.proofs.lemmas.Bool.{eqb-true}
use Rattle.std.proofs.lemmas.List.{length-set, get_or-set_same, get_or-set_other}
use Rattle.rdf_terms.proofs.Common.{In, AreDistinct, term_at}
use Rattle.rdf_terms.specs.declared.term.Term.{Term}
use Rattle.rdf_terms.specs.declared.term.Term.TheVariants.{Iri, Blank, Literal}
use Rattle.graph_model.specs.Graphs.{mapped, composed}
use Rattle.map_search.specs.Numbers.{Agrees}
use Rattle.map_search.specs.Pattern.{map_of}
use Rattle.lean_search.specs.Steps.{map_by_steps, put_all}
use Rattle.lean_search.specs.declared.steps.Step.{Step}

-- the last step is the last
pub map_by_steps-push : (steps : List Step) (s : Step) (n : ℕ) → map_by_steps (steps ++ s ∷ []) n ≡ map_of s.terms.items s.images.items (map_by_steps steps n)
map_by_steps-push [] s n = refl
map_by_steps-push (x ∷ steps) s n = map_by_steps-push steps s (map_of x.terms.items x.images.items n)

mapped-composed : (μ ν : ℕ → Term) (t : Term) → mapped ν (mapped μ t) ≡ mapped (composed μ ν) t
mapped-composed μ ν (Iri t) = refl
mapped-composed μ ν (Blank n) = refl
mapped-composed μ ν (Literal l) = refl

pub agrees_composed : (terms : List Term) (μ ν : ℕ → Term) (steps : List Step) (s : Step) → Agrees terms μ (map_by_steps steps) → Agrees terms ν (map_of s.terms.items s.images.items)
    → Agrees terms (composed μ ν) (map_by_steps (steps ++ s ∷ []))
agrees_composed terms μ ν steps s a b = record {
  within = λ k l. subst (λ n. n < length terms) (sym (map_by_steps-push steps s k)) (b.within (map_by_steps steps k) (a.within k l));
  same = λ k l. ap (term_at terms) (map_by_steps-push steps s k) ∙ (b.same (map_by_steps steps k) (a.within k l) ∙ (ap (mapped ν) (a.same k l) ∙ mapped-composed μ ν (term_at terms k)));
}

-- ---- a step that is written into a list

pub length-put_all : (to terms values : List ℕ) → length (put_all to terms values) ≡ length to
length-put_all to [] values = refl
length-put_all to (t ∷ ts) [] = refl
length-put_all to (t ∷ ts) (v ∷ vs) = length-put_all (set to t v) ts vs ∙ length-set to t v

put_all-kept : (to terms values : List ℕ) (n : ℕ) → (¬ (In n terms)) → get_or (put_all to terms values) n 0 ≡ get_or to n 0
put_all-kept to [] values n out = refl
put_all-kept to (t ∷ ts) [] n out = refl
put_all-kept to (t ∷ ts) (v ∷ vs) n out = put_all-kept (set to t v) ts vs n (λ i. out (inr i)) ∙ get_or-set_other to t n v 0 (λ e. out (inl e))

-- the list says where each term is taken to after the step
pub put_all-map_of : (to old terms images : List ℕ) → AreDistinct terms → length images ≡ length terms → All (λ t. t < length to) terms → (n : ℕ) → ((¬ (In n terms)) → get_or to n 0 ≡ get_or old n 0)
    → get_or (put_all to terms (map (λ x. get_or old x 0) images)) n 0 ≡ get_or old (map_of terms images n) 0
put_all-map_of to old [] images d c w n k = k (λ h. h)
put_all-map_of to old (t ∷ ts) [] d c w n k = absurd (omega arith)
put_all-map_of to old (t ∷ ts) (v ∷ vs) d c w n k = by (t == n) refl (put_all-map_of (set to t (get_or old v 0)) old ts vs d.1 (omega arith) rest n)
  where
    within : t < length to
    within = w 0 0 (omega arith)

    rest : All (λ x. x < length (set to t (get_or old v 0))) ts
    rest = λ k e l. subst (λ m. get_or ts k e < m) (sym (length-set to t (get_or old v 0))) (w (suc k) e (omega arith))

    by : (b : Bool) → (t == n) ≡ b
        → (((¬ (In n ts)) → get_or (set to t (get_or old v 0)) n 0 ≡ get_or old n 0)
        → get_or (put_all (set to t (get_or old v 0)) ts (map (λ x. get_or old x 0) vs)) n 0 ≡ get_or old (map_of ts vs n) 0)
        → get_or (put_all (set to t (get_or old v 0)) ts (map (λ x. get_or old x 0) vs)) n 0 ≡ get_or old (if b then v else map_of ts vs n) 0
    by true e ih =
        let f : t ≡ n = eqb-true t n e in
        put_all-kept (set to t (get_or old v 0)) ts (map (λ x. get_or old x 0) vs) n (subst (λ x. ¬ (In x ts)) f d.0)
        ∙ subst (λ x. get_or (set to t (get_or old v 0)) x 0 ≡ get_or old v 0) f (get_or-set_same to t (get_or old v 0) 0 within)
    by false e ih = ih (λ out. get_or-set_other to t n (get_or old v 0) 0 other ∙ k (λ i. elim i [ inl f ↦ other f | inr j ↦ out j ]))
      where
        different : true ≡ false → ⊥
        different h = cc

        other : n ≡ t → ⊥
        other f = different (sym (eq-eqb t n (sym f)) ∙ e)

-- ---- the steps from the last back

map_of-within : (terms images : List ℕ) (bound n : ℕ) → n < bound → All (λ t. t < bound) images → map_of terms images n < bound
map_of-within [] images bound n l h = l
map_of-within (x ∷ xs) [] bound n l h = l
map_of-within (x ∷ xs) (t ∷ ts) bound n l h = by (x == n) (h 0 0 (omega arith)) (map_of-within xs ts bound n l (λ k e m. h (suc k) e (omega arith)))
  where
    by : (b : Bool) → t < bound → map_of xs ts n < bound → (if b then t else map_of xs ts n) < bound
    by true a r = a
    by false a r = r

drop-next : (steps : List Step) (k : ℕ) (d : Step) → k < length steps → drop k steps ≡ get_or steps k d ∷ drop (suc k) steps
drop-next [] k d l = absurd (omega arith)
drop-next (s ∷ ss) zero d l = refl
drop-next (s ∷ ss) (suc k) d l = drop-next ss k d (omega arith)

pub one_before : (steps : List Step) (at : ℕ) (s : Step) (before after : List ℕ) (terms : ℕ) → 0 < at → at ≤ length steps → s ≡ get_or steps (at - 1) s → All (λ t. t < terms) s.images.items
    → ((k : ℕ) → k < terms → get_or before k 0 ≡ map_by_steps (drop at steps) k) → ((k : ℕ) → k < terms → get_or after k 0 ≡ get_or before (map_of s.terms.items s.images.items k) 0) → (k : ℕ)
    → k < terms → get_or after k 0 ≡ map_by_steps (drop (at - 1) steps) k
one_before steps at s before after terms some l e range h g k m =
    let w : map_of s.terms.items s.images.items k < terms = map_of-within s.terms.items s.images.items terms k m range in
    let f : drop (at - 1) steps ≡ get_or steps (at - 1) s ∷ drop (suc (at - 1)) steps = drop-next steps (at - 1) s (omega arith) in
    let n : suc (at - 1) ≡ at = omega arith in
    let r : drop (at - 1) steps ≡ s ∷ drop at steps = f ∙ (ap (λ x. x ∷ drop (suc (at - 1)) steps) (sym e) ∙ ap (λ j. s ∷ drop j steps) n) in
    g k m ∙ (h (map_of s.terms.items s.images.items k) w ∙ ap (λ xs. map_by_steps xs k) (sym r))
