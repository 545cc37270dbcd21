-- A walk under way, by the marks of the nodes that were walked to and of those ahead.
use Rattle.std.proofs.Common.{◌≡◌, ℕ, zero, suc, ◌+◌, ◌<◌, ◌≤◌, ◌⊎◌, ◌↔◌, Bool, true, false, List, [], ◌∷◌, ◌++◌, length, take, get_or, set, Option, Some, None, IfSome, refl, sym, ap, ◌∙◌, subst, inl, inr, arith, true≢false}
use Rattle.std.specs.List.{filter}
use Rattle.std.proofs.lemmas.Bool.{cases_eq, false_from_ne_true}
use Rattle.std.specs.Option.{IfNone}
use Rattle.std.proofs.lemmas.List.{take_all, get_or-set_same, get_or-set_other}
use Rattle.rdf_terms.proofs.Common.{In, Statement, IsUsed, Document, statements, term_at, decide_in, In-append, In-append_left, In-append_right}
use Rattle.dataset_index.specs.Mentions.{node_in, places_of}
use Rattle.graph_model.specs.Components.{ShareTriple, MayFollow, Follows}
use Rattle.map_search.specs.Index.{quad_at}
use Rattle.map_search.specs.Marks.{mark_at, IsNextMark, NoMark}
use Rattle.lean_search.specs.Image.{IsOneGraph, left}
use Rattle.lean_search.specs.Walk.{IsNear, IsWalking, IsNextOf, IsWalkFrom, IsEmpty}
use Rattle.lean_search.proofs.AtNodes.{near_shares, shares_near, used_within}
use Rattle.lean_search.proofs.Setting.{In-take-less, In-take-last, In-take-split}
use Rattle.lean_search.proofs.Walks.{HasWalked, WalksTo-push, WalksTo-end}

-- ---- marks

pub mark_within : (marks : List Bool) (k : ℕ) → mark_at marks k ≡ true → k < length marks
mark_within [] k e = absurd (true≢false (sym e))
mark_within (b ∷ bs) zero e = omega arith
mark_within (b ∷ bs) (suc k) e = (let l = mark_within bs k e in omega arith)

-- ---- one step

module _ (d : Document) (live : List Bool) (one : IsOneGraph d) (walk : List ℕ) (walked ahead before after : List Bool) (node : ℕ)
    (walking : IsWalking (left d live) walk walked ahead)
    (within : node < length walked)
    (here : mark_at before node ≡ false)
    (others : (k : ℕ) → (k ≡ node → ⊥) → mark_at before k ≡ mark_at ahead k)
    (places : List ℕ) (places_are : places ≡ filter (mark_at live) (places_of (statements d) node))
    (marked : (k : ℕ) → (mark_at after k ≡ true) ↔ ((mark_at before k ≡ true) ⊎ (IsNear d places k × (mark_at (set walked node true) k ≡ false)))) where
  abbrev G : List Statement
  G = left d live

  abbrev longer : List ℕ
  longer = walk ++ node ∷ []

  in_longer : (n : ℕ) → In n longer → In n walk ⊎ (n ≡ node)
  in_longer n i = elim (In-append walk (node ∷ []) n i) [ inl a ↦ inl a | inr b ↦ elim b [ inl e ↦ inr e | inr z ↦ absurd z ] ]

  walked_now : (n : ℕ) → (mark_at (set walked node true) n ≡ true) ↔ In n longer
  walked_now n = by (cases_eq n node)
    where
      by : (n ≡ node) ⊎ (¬ (n ≡ node)) → (mark_at (set walked node true) n ≡ true) ↔ In n longer
      by (inl e) = (λ _. In-append_right walk (node ∷ []) n (inl e), λ _. ap (mark_at (set walked node true)) e ∙ get_or-set_same walked node true false within)
      by (inr o) =
          let same : mark_at (set walked node true) n ≡ mark_at walked n = get_or-set_other walked node n true false o in
          (λ m. In-append_left walk (node ∷ []) n ((walking.walked_are n).0 (sym same ∙ m)), λ i. same ∙ elim (in_longer n i) [ inl a ↦ (walking.walked_are n).1 a | inr e ↦ absurd (o e) ])

  fresh_now : (n : ℕ) → mark_at (set walked node true) n ≡ false → ¬ (In n longer)
  fresh_now n f i = true≢false (sym ((walked_now n).1 i) ∙ f)

  to_follow : (n : ℕ) → mark_at after n ≡ true → MayFollow G longer n
  to_follow n m =
      elim ((marked n).0 m) [
        | inl b ↦ earlier b
            (cases_eq n node)
        | inr p ↦ record {
          other = node;
          is_taken = In-append_right walk (node ∷ []) node (inl refl);
          share = near_shares d live node n (subst (λ ps. IsNear d ps n) places_are p.0);
          fresh = fresh_now n p.1;
        }
      ]
    where
      earlier : mark_at before n ≡ true → (n ≡ node) ⊎ (¬ (n ≡ node)) → MayFollow G longer n
      earlier b (inl e) = absurd (true≢false (sym b ∙ (ap (mark_at before) e ∙ here)))
      earlier b (inr o) =
          let f : MayFollow G walk n = (walking.ahead_are n).0 (sym (others n o) ∙ b) in
          record { other = f.other; is_taken = In-append_left walk (node ∷ []) f.other f.is_taken; share = f.share; fresh = λ i. elim (in_longer n i) [ inl a ↦ f.fresh a | inr e ↦ o e ] }

  follows_marked : (n : ℕ) → MayFollow G longer n → mark_at after n ≡ true
  follows_marked n f = by (in_longer f.other f.is_taken)
    where
      other : ¬ (n ≡ node)
      other e = f.fresh (In-append_right walk (node ∷ []) n (inl e))

      by : In f.other walk ⊎ (f.other ≡ node) → mark_at after n ≡ true
      by (inl i) = (marked n).1 (inl (others n other ∙ (walking.ahead_are n).1 (record { other = f.other; is_taken = i; share = f.share; fresh = λ a. f.fresh (In-append_left walk (node ∷ []) n a) })))
      by (inr e) =
          (marked n).1 (inr (
            subst (λ ps. IsNear d ps n) (sym places_are) (shares_near d live one node n (subst (λ x. ShareTriple G x n) e f.share)),
            false_from_ne_true (mark_at (set walked node true) n) (λ m. f.fresh ((walked_now n).0 m)),
          ))

  pub goes_on : IsWalking G longer (set walked node true) after
  goes_on = record { walked_are = walked_now; ahead_are = λ n. (to_follow n, follows_marked n) }

-- ---- the next node

pub next_some : (G : List Statement) (walk : List ℕ) (walked ahead : List Bool) (y : ℕ) → IsWalking G walk walked ahead → IsNextMark ahead 0 (length ahead) y → Follows G walk y
next_some G walk walked ahead y w n = record { may = (w.ahead_are y).0 n.marked; least = λ z m. least z m (order y z) }
  where
    order : (a b : ℕ) → (a ≤ b) ⊎ (b < a)
    order a b = grind arith

    least : (z : ℕ) → MayFollow G walk z → (y ≤ z) ⊎ (z < y) → y ≤ z
    least z m (inl l) = l
    least z m (inr l) = absurd (true≢false (sym ((w.ahead_are z).1 m) ∙ n.first z (omega arith) l))

pub next_none : (G : List Statement) (walk : List ℕ) (walked ahead : List Bool) → IsWalking G walk walked ahead → NoMark ahead 0 (length ahead) → (y : ℕ) → ¬ (MayFollow G walk y)
next_none G walk walked ahead w none y m =
    let e : mark_at ahead y ≡ true = (w.ahead_are y).1 m in
    true≢false (sym e ∙ none y (omega arith) (mark_within ahead y e))

-- ---- the walk

pub walk_on : (G : List Statement) (start : ℕ) (walk : List ℕ) (node : ℕ) (next : Option ℕ) → HasWalked G start walk (Some node) → IsNextOf G (walk ++ node ∷ []) next
    → HasWalked G start (walk ++ node ∷ []) next
walk_on G start [] node next w n = (let e : node ≡ start = same w in (e, tt, n))
  where
    same : Some node ≡ Some start → node ≡ start
    same f = cc
walk_on G start (x ∷ rest) node next w n = (w.0, WalksTo-push G (start ∷ []) rest node w.1 (subst (λ y. Follows G (y ∷ rest) node) w.0 w.2), n)

pub walk_whole : (G : List Statement) (start : ℕ) (walk : List ℕ) → IsUsed G start → HasWalked G start walk None → IsWalkFrom G start walk
walk_whole G start [] u w = cc
walk_whole G start (x ∷ rest) u w =
    record { used = u; rest = rest; walk_is = ap (λ y. y ∷ rest) w.0; goes_on = WalksTo-end G (start ∷ []) rest w.1 (λ y. subst (λ z. ¬ (MayFollow G (z ∷ rest) y)) w.0 (w.2 y)) }

-- the next node was not walked to, and is a node
pub next_fresh : (G : List Statement) (start : ℕ) (walk : List ℕ) (node : ℕ) → HasWalked G start walk (Some node) → ¬ (In node walk)
next_fresh G start [] node w = λ h. h
next_fresh G start (x ∷ rest) node w = w.2.may.fresh

pub next_used : (G : List Statement) (start : ℕ) (walk : List ℕ) (node : ℕ) → IsUsed G start → HasWalked G start walk (Some node) → IsUsed G node
next_used G start [] node u w = subst (IsUsed G) (sym (same w)) u
  where
    same : Some node ≡ Some start → node ≡ start
    same f = cc
next_used G start (x ∷ rest) node u w = (let s = w.2.may.share in record { statement = s.triple; there = s.there; mentioned = s.mentions_second })

-- ---- the measure: how many nodes were not walked to

abbrev pub count_unmarked : List Bool → ℕ
count_unmarked [] = 0
count_unmarked (true ∷ marks) = count_unmarked marks
count_unmarked (false ∷ marks) = 1 + count_unmarked marks

pub fewer : (walked : List Bool) (node : ℕ) → node < length walked → mark_at walked node ≡ false → count_unmarked (set walked node true) < count_unmarked walked
fewer [] node l e = absurd (omega arith)
fewer (true ∷ bs) zero l e = absurd (true≢false e)
fewer (false ∷ bs) zero l e = omega arith
fewer (true ∷ bs) (suc k) l e = fewer bs k (omega arith) e
fewer (false ∷ bs) (suc k) l e = (let h = fewer bs k (omega arith) e in omega arith)

-- ---- at the end no mark is left

pub unmarked : (G : List Statement) (walk : List ℕ) (walked ahead after : List Bool) → IsWalking G walk walked ahead → ((k : ℕ) → In k walk → k < length walked → mark_at after k ≡ false)
    → ((k : ℕ) → (¬ (In k walk)) → mark_at after k ≡ mark_at walked k) → IsEmpty after
unmarked G walk walked ahead after w here others k = elim (decide_in k walk) [
  | inl i ↦ here k i (mark_within walked k ((w.walked_are k).1 i))
  | inr o ↦ others k o ∙ false_from_ne_true (mark_at walked k) (λ e. o ((w.walked_are k).0 e))
]

pub none_ahead : (G : List Statement) (start : ℕ) (walk : List ℕ) (walked ahead : List Bool) → IsWalking G walk walked ahead → HasWalked G start walk None → IsEmpty ahead
none_ahead G start [] walked ahead w h k = cc
none_ahead G start (x ∷ rest) walked ahead w h k = false_from_ne_true (mark_at ahead k) (λ e. h.2 k ((w.ahead_are k).0 e))

-- ---- at the beginning

pub begins : (G : List Statement) (walked ahead : List Bool) → IsEmpty walked → IsEmpty ahead → IsWalking G [] walked ahead
begins G walked ahead w a = record { walked_are = λ n. (λ e. true≢false (sym e ∙ w n), λ i. absurd i); ahead_are = λ n. (λ e. absurd (true≢false (sym e ∙ a n)), λ m. absurd m.is_taken) }

-- ---- the ends that are marked as ahead, place by place

module _ (d : Document) (places : List ℕ) (n : ℕ) (l : n < length places) (first at_subject at_object last walked : List Bool) (s o : Option ℕ)
    (s_is : s ≡ node_in (term_at d.terms (quad_at d.quads (get_or places n 0)).s))
    (o_is : o ≡ node_in (term_at d.terms (quad_at d.quads (get_or places n 0)).o)) where
  pub marked_ends : (k : ℕ) → ((mark_at at_subject k ≡ true) ↔ ((mark_at first k ≡ true) ⊎ (IsNear d (take n places) k × (mark_at walked k ≡ false))))
      → ((mark_at at_object k ≡ true) ↔ ((mark_at at_subject k ≡ true) ⊎ ((s ≡ Some k) × (mark_at walked k ≡ false))))
      → ((mark_at last k ≡ true) ↔ ((mark_at at_object k ≡ true) ⊎ ((o ≡ Some k) × (mark_at walked k ≡ false))))
      → (mark_at last k ≡ true) ↔ ((mark_at first k ≡ true) ⊎ (IsNear d (take (n + 1) places) k × (mark_at walked k ≡ false)))
  marked_ends k a b c = (to, from)
    where
      before : (mark_at at_subject k ≡ true) → (mark_at first k ≡ true) ⊎ (IsNear d (take (n + 1) places) k × (mark_at walked k ≡ false))
      before m = elim (a.0 m) [ inl f ↦ inl f | inr p ↦ inr (record { place = p.0.place; there = In-take-less places n p.0.place p.0.there; end = p.0.end }, p.1) ]

      to : mark_at last k ≡ true → (mark_at first k ≡ true) ⊎ (IsNear d (take (n + 1) places) k × (mark_at walked k ≡ false))
      to m = elim (c.0 m) [
        | inl f ↦ elim (b.0 f) [
          | inl g ↦ before g
          | inr p ↦ inr
              (record { place = get_or places n 0; there = In-take-last places n l; end = inl (sym s_is ∙ p.0) }, p.1)
        ]
        | inr p ↦ inr
            (record { place = get_or places n 0; there = In-take-last places n l; end = inr (sym o_is ∙ p.0) }, p.1)
      ]

      here : (p : ℕ) → p ≡ get_or places n 0 → (node_in (term_at d.terms (quad_at d.quads p).s) ≡ Some k) ⊎ (node_in (term_at d.terms (quad_at d.quads p).o) ≡ Some k) → mark_at walked k ≡ false
          → mark_at last k ≡ true
      here p e (inl f) w = c.1 (inl (b.1 (inr (s_is ∙ (ap (λ x. node_in (term_at d.terms (quad_at d.quads x).s)) (sym e) ∙ f), w))))
      here p e (inr f) w = c.1 (inr (o_is ∙ (ap (λ x. node_in (term_at d.terms (quad_at d.quads x).o)) (sym e) ∙ f), w))

      from : (mark_at first k ≡ true) ⊎ (IsNear d (take (n + 1) places) k × (mark_at walked k ≡ false)) → mark_at last k ≡ true
      from (inl f) = c.1 (inl (b.1 (inl (a.1 (inl f)))))
      from (inr p) =
          elim (In-take-split places n p.0.place p.0.there) [
            | inl i ↦ c.1
                (inl (b.1 (inl (a.1 (inr (record { place = p.0.place; there = i; end = p.0.end }, p.1))))))
            | inr e ↦ here p.0.place e p.0.end p.1
          ]

-- before the first place nothing is near
pub near_none : (d : Document) (places : List ℕ) (first walked : List Bool) (k : ℕ) → (mark_at first k ≡ true) ↔ ((mark_at first k ≡ true) ⊎ (IsNear d (take 0 places) k × (mark_at walked k ≡ false)))
near_none d places first walked k = (λ m. inl m, λ h. elim h [ inl m ↦ m | inr p ↦ absurd p.0.there ])

pub near_whole : (d : Document) (places : List ℕ) (n : ℕ) (first last walked : List Bool) (k : ℕ) → length places ≤ n
    → (mark_at last k ≡ true) ↔ ((mark_at first k ≡ true) ⊎ (IsNear d (take n places) k × (mark_at walked k ≡ false)))
    → (mark_at last k ≡ true) ↔ ((mark_at first k ≡ true) ⊎ (IsNear d places k × (mark_at walked k ≡ false)))
near_whole d places n first last walked k l h = subst (λ ps. (mark_at last k ≡ true) ↔ ((mark_at first k ≡ true) ⊎ (IsNear d ps k × (mark_at walked k ≡ false)))) (take_all n places l) h

-- ---- the next node, as the marks tell it

pub next_of : (G : List Statement) (walk : List ℕ) (walked ahead : List Bool) (r : Option ℕ) → IsWalking G walk walked ahead → IfSome r (IsNextMark ahead 0 (length ahead))
    → IfNone r (NoMark ahead 0 (length ahead)) → IsNextOf G walk r
next_of G walk walked ahead None w some none = next_none G walk walked ahead w none
next_of G walk walked ahead (Some y) w some none = next_some G walk walked ahead y w some

pub ahead_within : (d : Document) (live : List Bool) (walk : List ℕ) (walked ahead : List Bool) → IsOneGraph d → IsWalking (left d live) walk walked ahead → (k : ℕ) → mark_at ahead k ≡ true
    → k < length d.labels
ahead_within d live walk walked ahead one w k e = (let s = ((w.ahead_are k).0 e).share in used_within d live one k (record { statement = s.triple; there = s.there; mentioned = s.mentions_second }))
