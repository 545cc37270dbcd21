-- What the log knows when ties were logged one after the other.
use Rattle.rdf_terms.proofs.Common.{In-append, Dataset}
use Rattle.std.proofs.Common.{length-append, ◌+◌, List, MatchOption, None, Option, Some, [], ap, arith, inl, inr, length, refl, subst, suc, sym, zero, ℕ, ◌++◌, ◌∙◌, ◌∷◌, ◌≡◌, ◌≤◌, ◌⊎◌, append-nil, append_assoc}
use Rattle.std.specs.Prelude.{Err, Ok, OnErr, Result}
use Rattle.canon_model.specs.CountedRun.{Tie}
use Rattle.canon_model.specs.Ties.{AreJoined}
use Rattle.ndegree_hash.specs.declared.tie.Tie.{Tie as CarriedTie}
use Rattle.canon_model.specs.JoinedTies.{IsFirstUnjoined, IsJoinedTie, JoinedCount}
use Rattle.ndegree_hash.specs.Log.{IsFirstOf, LoggedTies, LogsAll, LogsFront, LogsInTurn, LogsJoined, LogsTie, LogsUnjoined, first_of, tie_of}

module _ (D : Dataset) where
  pub logs-append : (a b : List Tie) (old mid new : LoggedTies) → LogsInTurn D a old mid → LogsInTurn D b mid new → LogsInTurn D (a ++ b) old new
  logs-append [] b old mid new e h = subst (λ o. LogsInTurn D b o new) e h
  logs-append (t ∷ a) b old mid new p h = (p.0, p.1, logs-append a b p.0 mid new p.2 h)

  pub logs-last : (a : List Tie) (t : Tie) (old mid new : LoggedTies) → LogsInTurn D a old mid → LogsTie D t mid new → LogsInTurn D (a ++ t ∷ []) old new
  logs-last a t old mid new p h = logs-append a (t ∷ []) old mid new p (new, h, refl)

  -- ---- how many are joined

  pub count-most : (ties : List Tie) (k : ℕ) → JoinedCount D ties k → k ≤ length ties
  count-most [] k e = omega arith
  count-most (t ∷ ties) zero h = omega arith
  count-most (t ∷ ties) (suc k) (inl h) = let m = count-most ties k h.1 in omega arith
  count-most (t ∷ ties) (suc k) (inr h) = let m = count-most ties (suc k) h.1 in omega arith

  are_joined-next : (t : Tie) (ties : List Tie) → IsJoinedTie D t → AreJoined D ties → AreJoined D (t ∷ ties)
  are_joined-next t ties j a x (inl e) = subst (IsJoinedTie D) (sym e) j
  are_joined-next t ties j a x (inr h) = a x h

  -- where the count is that of all ties, all are joined
  pub joined-all : (ties : List Tie) → JoinedCount D ties (length ties) → AreJoined D ties
  joined-all [] c = λ x h. absurd h
  joined-all (t ∷ ties) (inl h) = are_joined-next t ties h.0 (joined-all ties h.1)
  joined-all (t ∷ ties) (inr h) = let m = count-most ties (suc (length ties)) h.1 in absurd (let z : ⊥ = omega arith in z)

  -- ---- one tie

  kept-joined : (t : Tie) (old new : Option CarriedTie) → IsJoinedTie D t → new ≡ old → MatchOption old (IsFirstOf D (t ∷ []) new) (λ f. new ≡ Some f)
  kept-joined t None new j e = subst (λ o. IsFirstOf D (t ∷ []) o) (sym e) (are_joined-next t [] j (λ x h. absurd h))
  kept-joined t (Some f) new j e = e

  kept-unjoined : (carried : CarriedTie) (old new : Option CarriedTie) → ¬ (IsJoinedTie D (tie_of carried)) → new ≡ first_of old carried
      → MatchOption old (IsFirstOf D (tie_of carried ∷ []) new) (λ f. new ≡ Some f)
  kept-unjoined carried None new n e =
      let first : IsFirstUnjoined D (tie_of carried ∷ []) (tie_of carried) = record { before = []; behind = []; ties_are = refl; joined_before = λ x h. absurd h; not_joined = n } in
      subst (λ o. IsFirstOf D (tie_of carried ∷ []) o) (sym e) first
  kept-unjoined carried (Some f) new n e = e

  logs-one : (carried : CarriedTie) (old new : LoggedTies) → new.total ≡ suc old.total → LogsJoined D carried old new ⊎ LogsUnjoined D carried old new → LogsAll D (tie_of carried ∷ []) old new
  logs-one carried old new total (inl j) = record {
    total = omega arith;
    joined = 1;
    count = inl (j.is, refl);
    joined_is = let d = j.joined in omega arith;
    unsettled = kept-joined (tie_of carried) old.unsettled new.unsettled j.is j.unsettled;
  }
  logs-one carried old new total (inr j) = record {
    total = omega arith;
    joined = 0;
    count = (j.is, refl);
    joined_is = let d = j.joined in omega arith;
    unsettled = kept-unjoined carried old.unsettled new.unsettled j.is j.unsettled;
  }

  -- ---- two stretches, one behind the other

  count-append : (a b : List Tie) (j k : ℕ) → JoinedCount D a j → JoinedCount D b k → JoinedCount D (a ++ b) (j + k)
  count-append [] b j k e h = subst (JoinedCount D b) (let z : j ≡ 0 = e in let s : k ≡ j + k = omega arith in s) h
  count-append (t ∷ a) b zero k (n, g) h = none (zero + k) n (count-append a b zero k g h)
    where
      none : (m : ℕ) → ¬ (IsJoinedTie D t) → JoinedCount D (a ++ b) m → JoinedCount D (t ∷ (a ++ b)) m
      none zero n g = (n, g)
      none (suc m) n g = inr (n, g)
  count-append (t ∷ a) b (suc j) k (inl g) h =
      let more : JoinedCount D (a ++ b) (j + k) = count-append a b j k g.1 h in
      let s : suc (j + k) ≡ suc j + k = omega arith in
      let one : JoinedCount D (t ∷ (a ++ b)) (suc (j + k)) = inl (g.0, more) in
      subst (JoinedCount D (t ∷ (a ++ b))) s one
  count-append (t ∷ a) b (suc j) k (inr g) h =
      let s : suc (j + k) ≡ suc j + k = omega arith in
      let more : JoinedCount D (a ++ b) (suc (j + k)) = subst (JoinedCount D (a ++ b)) (sym s) (count-append a b (suc j) k g.1 h) in
      let one : JoinedCount D (t ∷ (a ++ b)) (suc (j + k)) = inr (g.0, more) in
      subst (JoinedCount D (t ∷ (a ++ b))) s one

  joined-append : (a b : List Tie) → AreJoined D a → AreJoined D b → AreJoined D (a ++ b)
  joined-append a b f g t h = elim (In-append a b t h) [ inl i ↦ f t i | inr j ↦ g t j ]

  first-behind : (a b : List Tie) (t : Tie) → AreJoined D a → IsFirstUnjoined D b t → IsFirstUnjoined D (a ++ b) t
  first-behind a b t f r = record {
    before = a ++ r.before;
    behind = r.behind;
    ties_are = ap (λ w. a ++ w) r.ties_are ∙ sym (append_assoc a r.before (t ∷ r.behind));
    joined_before = joined-append a r.before f r.joined_before;
    not_joined = r.not_joined;
  }

  first-before : (a b : List Tie) (t : Tie) → IsFirstUnjoined D a t → IsFirstUnjoined D (a ++ b) t
  first-before a b t r = record {
    before = r.before;
    behind = r.behind ++ b;
    ties_are = ap (λ w. w ++ b) r.ties_are ∙ append_assoc r.before (t ∷ r.behind) b;
    joined_before = r.joined_before;
    not_joined = r.not_joined;
  }

  -- the first that is not joined stands in the first stretch, or in the second where all of the first are joined
  first-append : (a b : List Tie) (m n : Option CarriedTie) → IsFirstOf D a m → MatchOption m (IsFirstOf D b n) (λ t. n ≡ Some t) → IsFirstOf D (a ++ b) n
  first-append a b None None f g = joined-append a b f g
  first-append a b None (Some t) f g = first-behind a b (tie_of t) f g
  first-append a b (Some t) n f e = subst (IsFirstOf D (a ++ b)) (sym e) (first-before a b (tie_of t) f)

  kept-append : (a b : List Tie) (o m n : Option CarriedTie) → MatchOption o (IsFirstOf D a m) (λ t. m ≡ Some t) → MatchOption m (IsFirstOf D b n) (λ t. n ≡ Some t)
      → MatchOption o (IsFirstOf D (a ++ b) n) (λ t. n ≡ Some t)
  kept-append a b None m n f g = first-append a b m n f g
  kept-append a b (Some t) m n e g = subst (λ v. MatchOption v (IsFirstOf D b n) (λ s. n ≡ Some s)) e g

  pub logs_all-append : (a b : List Tie) (old mid new : LoggedTies) → LogsAll D a old mid → LogsAll D b mid new → LogsAll D (a ++ b) old new
  logs_all-append a b old mid new f g = record {
    total = let e = f.total in let h = g.total in let l = length-append a b in omega arith;
    joined = f.joined + g.joined;
    count = count-append a b f.joined g.joined f.count g.count;
    joined_is = let e = f.joined_is in let h = g.joined_is in omega arith;
    unsettled = kept-append a b old.unsettled mid.unsettled new.unsettled f.unsettled g.unsettled;
  }

  -- ---- all of them

  pub logs-none : (log : LoggedTies) → LogsAll D [] log log
  logs-none log = record { total = omega arith; joined = 0; count = refl; joined_is = omega arith; unsettled = none log.unsettled }
    where
      none : (o : Option CarriedTie) → MatchOption o (IsFirstOf D [] o) (λ f. o ≡ Some f)
      none None = λ x h. absurd h
      none (Some f) = refl

  pub logs-all : (ties : List Tie) (old new : LoggedTies) → LogsInTurn D ties old new → LogsAll D ties old new
  logs-all [] old new e = subst (λ log. LogsAll D [] old log) (sym e) (logs-none old)
  logs-all (t ∷ ties) old new p =
      subst (λ x. LogsAll D (x ∷ ties) old new) p.1.is
      (logs_all-append (tie_of p.1.carried ∷ []) ties old p.0 new (logs-one p.1.carried old p.0 p.1.logs.total p.1.logs.judged) (logs-all ties p.0 new p.2))

  -- ---- where a call stops before its end

  pub front-whole : (ties : List Tie) (old new : LoggedTies) → LogsInTurn D ties old new → LogsFront (LogsInTurn D) ties old new
  front-whole ties old new l = record { front = ties; others = []; ties_are = sym (append-nil ties); logs = l }

  -- some ties, and the first of some more
  pub front-append : (a b rest whole : List Tie) (old mid new : LoggedTies) → a ++ (b ++ rest) ≡ whole → LogsInTurn D a old mid → LogsFront (LogsInTurn D) b mid new
      → LogsFront (LogsInTurn D) whole old new
  front-append a b rest whole old mid new e l f = record {
    front = a ++ f.front;
    others = f.others ++ rest;
    ties_are =
        sym e ∙ ap (λ ts. a ++ (ts ++ rest)) f.ties_are ∙ ap (λ ts. a ++ ts) (append_assoc f.front f.others rest)
        ∙ sym (append_assoc a f.front (f.others ++ rest));
    logs = logs-append a f.front old mid new l f.logs;
  }

  pub front-all : (ties : List Tie) (old new : LoggedTies) → LogsFront (LogsInTurn D) ties old new → LogsFront (LogsAll D) ties old new
  front-all ties old new f = record { front = f.front; others = f.others; ties_are = f.ties_are; logs = logs-all f.front old new f.logs }

-- a fact that holds whatever the answer is
pub on_err : {T E : Type 0} (r : Result T E) (P : Type 0) → P → OnErr r P
on_err (Ok v) P p = tt
on_err (Err e) P p = p
