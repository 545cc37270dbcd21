-- What a walk from a node holds: each node of its component, once.
use Rattle.std.proofs.Common.{◌≡◌, ℕ, ◌⊎◌, ◌↔◌, List, [], ◌∷◌, ◌++◌, refl, sym, subst, inl, inr, append_assoc, Option, Some}
use Rattle.rdf_terms.proofs.Common.{In, AreDistinct, Statement, IsUsed, AreDistinct-push, In-append, decide_in}
use Rattle.rdf_terms.specs.declared.term.Term.{Term}
use Rattle.graph_model.specs.Components.{Follows, MayFollow, WalksOn, IsClosed, IsMapOf, IsTight}
use Rattle.graph_model.proofs.Closed.{ended}
use Rattle.std.proofs.lemmas.List.{append-nil}
use Rattle.lean_search.specs.Walk.{IsWalkFrom, IsNextOf}

-- each node behind the first is the least that may follow those before it
abbrev pub WalksTo : List Statement → List ℕ → List ℕ → Type 0
WalksTo G taken [] = Unit {0}
WalksTo G taken (y ∷ rest) = Follows G taken y × WalksTo G (taken ++ y ∷ []) rest

-- the walk has begun at the node, or is to begin there
abbrev pub HasWalked : List Statement → ℕ → List ℕ → Option ℕ → Type 0
HasWalked G start [] next = next ≡ Some start
HasWalked G start (x ∷ rest) next = (x ≡ start) × WalksTo G (start ∷ []) rest × IsNextOf G (x ∷ rest) next

module _ (G : List Statement) where
  -- ---- from a walk under way to a whole one

  pub WalksTo-push : (taken rest : List ℕ) (y : ℕ) → WalksTo G taken rest → Follows G (taken ++ rest) y → WalksTo G taken (rest ++ y ∷ [])
  WalksTo-push taken [] y w f = (subst (λ l. Follows G l y) (append-nil taken) f, tt)
  WalksTo-push taken (x ∷ rest) y w f = (w.0, WalksTo-push (taken ++ x ∷ []) rest y w.1 (subst (λ l. Follows G l y) (sym (append_assoc taken (x ∷ []) rest)) f))

  pub WalksTo-end : (taken rest : List ℕ) → WalksTo G taken rest → ((y : ℕ) → ¬ (MayFollow G (taken ++ rest) y)) → WalksOn G taken rest
  WalksTo-end taken [] w none = λ y. subst (λ l. ¬ (MayFollow G l y)) (append-nil taken) (none y)
  WalksTo-end taken (x ∷ rest) w none = (w.0, WalksTo-end (taken ++ x ∷ []) rest w.1 (λ y. subst (λ l. ¬ (MayFollow G l y)) (sym (append_assoc taken (x ∷ []) rest)) (none y)))

  -- ---- the nodes of a walk

  once : (taken rest : List ℕ) → WalksOn G taken rest → AreDistinct taken → AreDistinct (taken ++ rest)
  once taken [] w d = subst AreDistinct (sym (append-nil taken)) d
  once taken (y ∷ rest) w d = subst AreDistinct (append_assoc taken (y ∷ []) rest) (once (taken ++ y ∷ []) rest w.1 (AreDistinct-push taken y d w.0.may.fresh))

  used : (taken rest : List ℕ) → WalksOn G taken rest → (n : ℕ) → In n rest → IsUsed G n
  used taken [] w n i = absurd i
  used taken (y ∷ rest) w n (inl e) = (let s = w.0.may.share in subst (IsUsed G) (sym e) (record { statement = s.triple; there = s.there; mentioned = s.mentions_second }))
  used taken (y ∷ rest) w n (inr i) = used (taken ++ y ∷ []) rest w.1 n i

  module _ (nodes : List ℕ) (closed : IsClosed G nodes) where
    -- a walk that begins among closed nodes stays there
    stays : (taken rest : List ℕ) → WalksOn G taken rest → ((n : ℕ) → In n taken → In n nodes) → (n : ℕ) → In n rest → In n nodes
    stays taken [] w all n i = absurd i
    stays taken (y ∷ rest) w all n i = by i (stays (taken ++ y ∷ []) rest w.1)
      where
        here : In y nodes
        here = (let m = w.0.may in closed m.share.triple m.share.there m.other y m.share.mentions_first m.share.mentions_second (all m.other m.is_taken))

        pushed : (k : ℕ) → In k (taken ++ y ∷ []) → In k nodes
        pushed k j = elim (In-append taken (y ∷ []) k j) [ inl t ↦ all k t | inr r ↦ elim r [ inl e ↦ subst (λ x. In x nodes) (sym e) here | inr z ↦ absurd z ] ]

        by : In n (y ∷ rest) → (((k : ℕ) → In k (taken ++ y ∷ []) → In k nodes) → (k : ℕ) → In k rest → In k nodes) → In n nodes
        by (inl e) ih = subst (λ x. In x nodes) (sym e) here
        by (inr j) ih = ih pushed n j

    -- one that comes to closed nodes began among them
    began : (taken rest : List ℕ) → WalksOn G taken rest → (n : ℕ) → In n rest → In n nodes → (m : ℕ) × In m taken × In m nodes
    began taken [] w n i j = absurd i
    began taken (y ∷ rest) w n i j = by i (began (taken ++ y ∷ []) rest w.1 n)
      where
        before : In y nodes → (m : ℕ) × In m taken × In m nodes
        before h = (let m = w.0.may in (m.other, m.is_taken, closed m.share.triple m.share.there y m.other m.share.mentions_second m.share.mentions_first h))

        back : (m : ℕ) × In m (taken ++ y ∷ []) × In m nodes → (m : ℕ) × In m taken × In m nodes
        back r = elim (In-append taken (y ∷ []) r.0 r.1) [ inl t ↦ (r.0, t, r.2) | inr s ↦ elim s [ inl e ↦ before (subst (λ x. In x nodes) e r.2) | inr z ↦ absurd z ] ]

        by : In n (y ∷ rest) → (In n rest → In n nodes → (m : ℕ) × In m (taken ++ y ∷ []) × In m nodes) → (m : ℕ) × In m taken × In m nodes
        by (inl e) ih = before (subst (λ x. In x nodes) e j)
        by (inr k) ih = back (ih k j)

  pub walk_once : (start : ℕ) (walk : List ℕ) → IsWalkFrom G start walk → AreDistinct walk
  walk_once start walk w = subst AreDistinct (sym w.walk_is) (once (start ∷ []) w.rest w.goes_on (λ h. h, tt))

  pub walk_used : (start : ℕ) (walk : List ℕ) → IsWalkFrom G start walk → (n : ℕ) → In n walk → IsUsed G n
  walk_used start walk w n i = by (subst (λ l. In n l) w.walk_is i)
    where
      by : In n (start ∷ w.rest) → IsUsed G n
      by (inl e) = subst (IsUsed G) (sym e) w.used
      by (inr j) = used (start ∷ []) w.rest w.goes_on n j

  pub walk_start : (start : ℕ) (walk : List ℕ) → IsWalkFrom G start walk → In start walk
  walk_start start walk w = subst (λ l. In start l) (sym w.walk_is) (inl refl)

  pub walk_closed : (start : ℕ) (walk : List ℕ) → IsWalkFrom G start walk → IsClosed G walk
  walk_closed start walk w st there x y a b i = by (decide_in y walk)
    where
      by : In y walk ⊎ (¬ (In y walk)) → In y walk
      by (inl h) = h
      by (inr n) =
          let e : walk ≡ start ∷ w.rest = w.walk_is in
          let m : MayFollow G walk y = record { other = x; is_taken = i; share = record { triple = st; there = there; mentions_first = a; mentions_second = b }; fresh = n } in
          absurd (ended G (start ∷ []) w.rest w.goes_on y (subst (λ l. MayFollow G l y) e m))

  -- a walk that comes to closed nodes began among them
  pub walk_began : (start : ℕ) (walk nodes : List ℕ) → IsWalkFrom G start walk → IsClosed G nodes → (n : ℕ) → In n walk → In n nodes → In start nodes
  walk_began start walk nodes w closed n i j = by (subst (λ l. In n l) w.walk_is i)
    where
      first : (m : ℕ) × In m (start ∷ []) × In m nodes → In start nodes
      first r = elim r.1 [ inl e ↦ subst (λ x. In x nodes) e r.2 | inr z ↦ absurd z ]

      by : In n (start ∷ w.rest) → In start nodes
      by (inl e) = subst (λ x. In x nodes) e j
      by (inr k) = first (began nodes closed (start ∷ []) w.rest w.goes_on n k j)

  -- one that begins among closed nodes stays there
  pub walk_stays : (start : ℕ) (walk nodes : List ℕ) → IsWalkFrom G start walk → IsClosed G nodes → In start nodes → (n : ℕ) → In n walk → In n nodes
  walk_stays start walk nodes w closed s n i = by (subst (λ l. In n l) w.walk_is i)
    where
      first : (m : ℕ) → In m (start ∷ []) → In m nodes
      first m (inl e) = subst (λ x. In x nodes) (sym e) s
      first m (inr z) = absurd z

      by : In n (start ∷ w.rest) → In n nodes
      by (inl e) = subst (λ x. In x nodes) (sym e) s
      by (inr k) = stays nodes closed (start ∷ []) w.rest w.goes_on first n k

  -- two walks through a component have the same nodes
  pub same_nodes : (s t : ℕ) (xs ys : List ℕ) → IsWalkFrom G s xs → IsWalkFrom G t ys → In t xs → (n : ℕ) → In n xs ↔ In n ys
  same_nodes s t xs ys v w i n = (walk_stays s xs ys v (walk_closed t ys w) (walk_began s xs ys v (walk_closed t ys w) t i (walk_start t ys w)) n, walk_stays t ys xs w (walk_closed s xs v) i n)

  -- ---- what is said of nodes is said of them in any order

  pub IsMapOf-same : (xs ys : List ℕ) (μ : ℕ → Term) → ((n : ℕ) → In n xs ↔ In n ys) → IsMapOf G xs μ → IsMapOf G ys μ
  IsMapOf-same xs ys μ same m = record { endomorphism = m.endomorphism; kept = λ n out. m.kept n (λ i. out ((same n).0 i)) }

  pub IsTight-same : (xs ys : List ℕ) → ((n : ℕ) → In n xs ↔ In n ys) → IsTight G xs → IsTight G ys
  IsTight-same xs ys same tight μ m st t =
      tight μ (IsMapOf-same ys xs μ (λ n. ((same n).1, (same n).0)) m) st (t.0, record { node = t.1.node; there = (same t.1.node).1 t.1.there; mentioned = t.1.mentioned })
