-- The least number that is found under two others.
use Rattle.std.proofs.Common.{◌≡◌, ℕ, ◌<◌, ◌≤◌, true, false, length, refl, sym, ap, ◌∙◌, subst, inl, inr, arith, true≢false}
use Rattle.std.proofs.lemmas.Bool.{cases_lt, cases_order, ltb-true}
use Rattle.map_search.specs.declared.table.Entry.{Entry}
use Rattle.map_search.specs.Marks.{IsNextMark, NoMark}
use Rattle.map_search.specs.Table.{TableView, is_before, entry_at, AreInOrder, IsStart, HasEntry, IsLeastValue}
use Rattle.map_search.proofs.Ordering.{step_of, of_step}

-- what an entry under the two numbers is to another
module _ (a b : Entry) (f : a.first ≡ b.first) (s : a.second ≡ b.second) where
  pub by_value : is_before a b ≡ true → a.value ≤ b.value
  by_value h = elim (step_of a.first b.first _ h) [
    | inl l ↦ absurd
        (omega arith)
    | inr p ↦ elim (step_of a.second b.second _ p.1) [
      | inl l ↦ absurd
          (omega arith)
      | inr q ↦ elim (step_of a.value b.value _ q.1) [ inl l ↦ omega arith | inr r ↦ (let e = r.0 in omega arith) ]
    ]
  ]

  pub from_value : a.value < b.value → is_before a b ≡ true
  from_value l = of_step a.first b.first _ (inr (f, of_step a.second b.second _ (inr (s, of_step a.value b.value _ (inl l)))))

  pub not_tied : is_before a b ≡ true → b.quad ≡ 0 → a.value < b.value
  not_tied h z =
      elim (step_of a.first b.first _ h) [
        | inl l ↦ absurd
            (omega arith)
        | inr p ↦ elim (step_of a.second b.second _ p.1) [
          | inl l ↦ absurd
              (omega arith)
          | inr q ↦ elim (step_of a.value b.value _ q.1) [ inl l ↦ l | inr r ↦ absurd (let e = ltb-true a.quad b.quad r.1 in omega arith) ]
        ]
      ]

-- an entry between two that stand under the same numbers stands under them
pub between : (a b c : Entry) → is_before a b ≡ true → is_before a c ≡ false → b.first ≡ c.first → b.second ≡ c.second → (a.first ≡ c.first) × (a.second ≡ c.second)
between a b c h n f s =
    elim (step_of a.first b.first _ h) [
      | inl l ↦ absurd
          (true≢false (sym (of_step a.first c.first _ (inl (subst (λ w. a.first < w) f l))) ∙ n))
      | inr p ↦ elim (step_of a.second b.second _ p.1) [
        | inl l ↦ absurd
            (true≢false (sym (of_step a.first c.first _ (inr (p.0 ∙ f, of_step a.second c.second _ (inl (subst (λ w. a.second < w) s l))))) ∙ n))
        | inr q ↦ (p.0 ∙ f, q.0 ∙ s)
      ]
    ]

module _ (t : TableView) (order : AreInOrder t.entries) (first second from start : ℕ) (begins : IsStart t.entries (record { first = first; second = second; value = from; quad = 0 }) start) where
  abbrev sought : Entry
  sought = record { first = first; second = second; value = from; quad = 0 }

  has_behind : (v : ℕ) → from ≤ v → (h : HasEntry t first second v) → start ≤ h.place
  has_behind v l h =
      elim (cases_lt h.place start) [
        | inl b ↦ absurd
            (let n = not_tied (entry_at t.entries h.place) sought h.first_is h.second_is
            (begins.before h.place b) refl in let e = h.value_is in omega arith)
        | inr r ↦ r
      ]

  pub found : (at : ℕ) → IsNextMark t.marks start (length t.marks) at → at < length t.entries → (entry_at t.entries at).first ≡ first → (entry_at t.entries at).second ≡ second
      → IsLeastValue t first second from (entry_at t.entries at).value
  found at next l f s = record { behind = behind; there = record { place = at; within = l; marked = next.marked; first_is = f; second_is = s; value_is = refl }; least = least }
    where
      behind : from ≤ (entry_at t.entries at).value
      behind = elim (cases_lt (entry_at t.entries at).value from) [
        | inl b ↦ absurd
            (true≢false (sym (from_value (entry_at t.entries at) sought f s b) ∙ begins.behind at next.behind l))
        | inr r ↦ r
      ]

      least : (v : ℕ) → from ≤ v → v < (entry_at t.entries at).value → ¬ (HasEntry t first second v)
      least v b m h =
          elim (cases_order h.place at) [
            | inl e ↦ (let w : (entry_at t.entries at).value ≡ v = sym (ap (λ k. (entry_at t.entries k).value) e)
                ∙ h.value_is in omega arith)
            | inr r ↦ elim r [
              | inl c ↦ true≢false
                  (sym h.marked
                  ∙ next.first h.place
                  (has_behind v b h) c)
              | inr g ↦ (let w =
                  by_value (entry_at t.entries at) (entry_at t.entries h.place) (f ∙ sym h.first_is) (s ∙ sym h.second_is) (order at h.place g h.within) in let e = h.value_is in omega arith)
            ]
          ]

  pub none_marked : NoMark t.marks start (length t.marks) → length t.entries ≤ length t.marks → (v : ℕ) → from ≤ v → ¬ (HasEntry t first second v)
  none_marked none enough v b h = true≢false (sym h.marked ∙ none h.place (has_behind v b h) (let w = h.within in omega arith))

  pub none_at : (at : ℕ) → IsNextMark t.marks start (length t.marks) at → (at < length t.entries → (entry_at t.entries at).first ≡ first → (entry_at t.entries at).second ≡ second → ⊥) → (v : ℕ)
      → from ≤ v → ¬ (HasEntry t first second v)
  none_at at next other v b h =
      elim (cases_order h.place at) [
        | inl e ↦ other (subst (λ k. k < length t.entries) e h.within) (sym (ap (λ k. (entry_at t.entries k).first) e) ∙ h.first_is)
            (sym (ap (λ k. (entry_at t.entries k).second) e) ∙ h.second_is)
        | inr r ↦ elim r [
          | inl c ↦ true≢false
              (sym h.marked
              ∙ next.first h.place (has_behind v b h) c)
          | inr g ↦ after g
        ]
      ]
    where
      after : at < h.place → ⊥
      after g =
          let l : at < length t.entries = (let w = h.within in omega arith) in
          let p = between (entry_at t.entries at) (entry_at t.entries h.place) sought (order at h.place g h.within) (begins.behind at next.behind l) h.first_is h.second_is in
          other l p.0 p.1
