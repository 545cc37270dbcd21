-- The next mark, by the marks of each two places.
use Rattle.std.proofs.Common.{◌≡◌, ℕ, zero, suc, ◌+◌, ◌-◌, ◌*◌, ◌/◌, ◌%◌, ◌^◌, ◌<◌, ◌≤◌, ◌⊎◌, Bool, true, false, ◌||◌, List, length, refl, sym, ap, ◌∙◌, inl, inr, arith, true≢false}
use Rattle.map_search.specs.Marks.{mark_at, AreAbove, IsNextMark, NoMark}

two_cases : (at k : ℕ) → at ≤ k → k < 2 * (at / 2 + 1) → (k ≡ at) ⊎ ((k ≡ at + 1) × (at % 2 ≡ 0))
two_cases at k l m = grind arith

pub below_up : (marks : List Bool) (at : ℕ) → mark_at marks at ≡ false → (at % 2 ≡ 0 → mark_at marks (at + 1) ≡ false) → (k : ℕ) → at ≤ k → k < 2 * (at / 2 + 1) → mark_at marks k ≡ false
below_up marks at h n k l m = elim (two_cases at k l m) [ inl e ↦ ap (mark_at marks) e ∙ h | inr p ↦ ap (mark_at marks) p.0 ∙ n p.1 ]

pub even_end : (end height : ℕ) → end ≡ 2 ^ height → 1 < end → (end ≡ 2 * (end / 2)) × (end / 2 ≡ 2 ^ (height - 1)) × (0 < height)
even_end end zero e l = absurd (omega arith)
even_end end (suc h) e l =
    let p : end ≡ 2 * 2 ^ h = grind arith in
    let q : h ≡ suc h - 1 = omega arith in
    let r : end / 2 ≡ 2 ^ h = omega arith in
    (omega arith, r ∙ ap (λ w. 2 ^ w) q, omega arith)

halves : (k : ℕ) → (k ≡ 2 * (k / 2)) ⊎ (k ≡ 2 * (k / 2) + 1)
halves k = grind arith

none_of : (a b : Bool) → (a || b) ≡ false → (a ≡ false) × (b ≡ false)
none_of true b e = absurd (true≢false e)
none_of false b e = (refl, e)

some_of : (a b : Bool) → (a || b) ≡ true → a ≡ false → b ≡ true
some_of true b e f = absurd (true≢false f)
some_of false b e f = e

-- no mark above, none below
pub none_below : (marks : List Bool) (from end : ℕ) → AreAbove marks → end ≡ 2 * (end / 2) → end ≤ length marks → 0 < from → NoMark marks from (end / 2) → (k : ℕ) → 2 * from ≤ k → k < end
    → mark_at marks k ≡ false
none_below marks from end above even within some none k l m =
    let up : mark_at marks (k / 2) ≡ false = none (k / 2) (omega arith) (omega arith) in
    let two = none_of (mark_at marks (2 * (k / 2))) (mark_at marks (2 * (k / 2) + 1)) (sym (above (k / 2) (omega arith) (omega arith)) ∙ up) in
    elim (halves k) [ inl e ↦ ap (mark_at marks) e ∙ two.0 | inr e ↦ ap (mark_at marks) e ∙ two.1 ]

order : (a b : ℕ) → (a < b) ⊎ (b ≤ a)
order a b = grind arith

module _ (marks : List Bool) (at end height : ℕ) (above : AreAbove marks) (end_is : end ≡ 2 ^ height) (within : end ≤ length marks) (some : 0 < at) (before : at + 1 < end)
    (here : mark_at marks at ≡ false) (beside : at % 2 ≡ 0 → mark_at marks (at + 1) ≡ false) where
  abbrev up : ℕ
  up = at / 2 + 1

  even : (end ≡ 2 * (end / 2)) × (end / 2 ≡ 2 ^ (height - 1)) × (0 < height)
  even = even_end end height end_is (omega arith)

  pub no_next : NoMark marks up (end / 2) → NoMark marks at end
  no_next none k l m = elim (order k (2 * up)) [ inl b ↦ below_up marks at here beside k l b | inr b ↦ none_below marks up end above even.0 within (omega arith) none k b m ]

  module _ (r : ℕ) (next : IsNextMark marks up (end / 2) r) where
    both : (mark_at marks (2 * r) || mark_at marks (2 * r + 1)) ≡ true
    both = (let a = next.behind in let b = next.before in let e = even.0 in sym (above r (omega arith) (omega arith)) ∙ next.marked)

    first : (k : ℕ) → at ≤ k → k < 2 * r → mark_at marks k ≡ false
    first k l m = elim (order k (2 * up)) [ inl b ↦ below_up marks at here beside k l b | inr b ↦ later b ]
      where
        later : 2 * up ≤ k → mark_at marks k ≡ false
        later b =
            let a = next.before in
            let e = even.0 in
            let u : mark_at marks (k / 2) ≡ false = next.first (k / 2) (omega arith) (omega arith) in
            let two = none_of (mark_at marks (2 * (k / 2))) (mark_at marks (2 * (k / 2) + 1)) (sym (above (k / 2) (omega arith) (omega arith)) ∙ u) in
            elim (halves k) [ inl f ↦ ap (mark_at marks) f ∙ two.0 | inr f ↦ ap (mark_at marks) f ∙ two.1 ]

    pub next_left : mark_at marks (2 * r) ≡ true → IsNextMark marks at end (2 * r)
    next_left h = (let a = next.behind in let b = next.before in let e = even.0 in record { behind = omega arith; before = omega arith; marked = h; first = first })

    pub next_right : mark_at marks (2 * r) ≡ false → IsNextMark marks at end (2 * r + 1)
    next_right h =
        (let a = next.behind in let b = next.before in let e = even.0 in record {
          behind = omega arith;
          before = omega arith;
          marked = some_of (mark_at marks (2 * r))
              (mark_at marks (2 * r + 1)) both h;
          first = λ k l m. elim (order k (2 * r)) [ inl c ↦ first k l c | inr c ↦ (let s : k ≡ 2 * r = omega arith in ap (mark_at marks) s ∙ h) ];
        })
