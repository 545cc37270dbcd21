use Rattle.std.proofs.Common.{◌≡◌, ◌<◌, ◌≤◌, ℕ, refl, Option, Some, None, false, length, sym, subst, arith}
use Rattle.std.specs.List.{All}
use Rattle.rdf_terms.proofs.Common.{In, All-from_each}
use Rattle.map_search.specs.Marks.{mark_at}
use Rattle.lean_search.specs.Image.{left}
use Rattle.lean_search.specs.Walk.{IsNextOf}
use Rattle.lean_search.proofs.Walks.{HasWalked}
use Rattle.std.proofs.lemmas.Bool.{false_from_ne_true}
use Rattle.lean_search.proofs.AtNodes.{used_within}
use Rattle.lean_search.proofs.Walking.{count_unmarked, fewer, mark_within, next_fresh, next_used, none_ahead, unmarked, walk_on, walk_whole}
use Rattle.lean_search.proofs.walk.walk_from.Goals as goal

pub walk_to-requires-clause-within : goal.walk_to-requires-clause-within
walk_to-requires-clause-within c =
    let h : HasWalked (left c.args.graph.now c.args.index.now.live) c.args.start c.loop-next.walk.items (Some c.in-Some.node) = subst
    (HasWalked (left c.args.graph.now c.args.index.now.live) c.args.start c.loop-next.walk.items) c.in-Some.is c.loop-next.invariant.walks in
    used_within c.args.graph.now c.args.index.now.live c.requires.one c.in-Some.node
    (next_used (left c.args.graph.now c.args.index.now.live) c.args.start c.loop-next.walk.items c.in-Some.node c.requires.used h)

pub loop-next-smaller : goal.loop-next-smaller
loop-next-smaller c =
    let h : HasWalked (left c.args.graph.now c.args.index.now.live) c.args.start c.loop-next.walk.items (Some c.in-Some.node) = subst
    (HasWalked (left c.args.graph.now c.args.index.now.live) c.args.start c.loop-next.walk.items) c.in-Some.is c.loop-next.invariant.walks in
    let n = used_within c.args.graph.now c.args.index.now.live c.requires.one c.in-Some.node
    (next_used (left c.args.graph.now c.args.index.now.live) c.args.start c.loop-next.walk.items c.in-Some.node c.requires.used h) in
    let e : length c.loop-next.walked ≡ length c.args.walked.now = c.loop-next.auto.walked in
    let fresh : mark_at c.loop-next.walked c.in-Some.node
    ≡ false =
    false_from_ne_true (mark_at c.loop-next.walked c.in-Some.node)
    (λ m. next_fresh (left c.args.graph.now c.args.index.now.live) c.args.start c.loop-next.walk.items c.in-Some.node h ((c.loop-next.invariant.walking.walked_are c.in-Some.node).0 m)) in
    subst (λ ws. count_unmarked ws < count_unmarked c.loop-next.walked) (sym c.in_ok-next.ensures.walked)
    (fewer c.loop-next.walked c.in-Some.node (let r = c.requires.walked.enough in omega arith) fresh)

pub loop-next-preserved : goal.loop-next-preserved
loop-next-preserved c =
    let h : HasWalked (left c.args.graph.now c.args.index.now.live) c.args.start c.loop-next.walk.items (Some c.in-Some.node) = subst
    (HasWalked (left c.args.graph.now c.args.index.now.live) c.args.start c.loop-next.walk.items) c.in-Some.is c.loop-next.invariant.walks in
    record {
      within = subst (λ n. length c.args.graph.now.labels ≤ n) (sym c.walk_to.ensures.length) c.loop-next.invariant.within;
      walking = c.in_ok-next.ensures.walking;
      walks = subst (λ ws. HasWalked (left c.args.graph.now c.args.index.now.live) c.args.start ws c.in_ok-next.next) (sym c.in_ok-next.ensures.walk)
          (walk_on (left c.args.graph.now c.args.index.now.live) c.args.start c.loop-next.walk.items c.in-Some.node c.in_ok-next.next h
          (subst (λ ws. IsNextOf (left c.args.graph.now c.args.index.now.live) ws c.in_ok-next.next) c.in_ok-next.ensures.walk c.in_ok-next.ensures.next));
    }

pub mark_all-requires : goal.mark_all-requires
mark_all-requires c =
    subst (λ ws. All (λ n. n < length c.loop-next.walked) ws) (sym c.as_slice.ensures.value)
    (All-from_each (λ n. n < length c.loop-next.walked) c.loop-next.walk.items (λ n i. mark_within c.loop-next.walked n ((c.loop-next.invariant.walking.walked_are n).1 i)))

nothing : (r : Option ℕ) → ((n : ℕ) → r ≡ Some n → ⊥) → r ≡ None
nothing None h = refl
nothing (Some n) h = absurd (h n refl)

pub returns-clause-walk : goal.returns-clause-walk
returns-clause-walk c =
    let h : HasWalked (left c.args.graph.now c.args.index.now.live) c.args.start c.loop-next.walk.items None = subst
    (HasWalked (left c.args.graph.now c.args.index.now.live) c.args.start c.loop-next.walk.items) (nothing c.loop-next.next c.in_default.not-Some) c.loop-next.invariant.walks in
    walk_whole (left c.args.graph.now c.args.index.now.live) c.args.start c.loop-next.walk.items c.requires.used h

pub returns-clause-walked : goal.returns-clause-walked
returns-clause-walked c = record {
  enough = (let e : length c.loop-next.walked ≡ length c.args.walked.now = c.loop-next.auto.walked in let f : length c.mark_all.new.marks
      ≡ length c.loop-next.walked = c.mark_all.auto.marks in let r = c.requires.walked.enough in omega arith);
  empty = unmarked (left c.args.graph.now c.args.index.now.live) c.loop-next.walk.items c.loop-next.walked c.loop-next.ahead c.mark_all.new.marks c.loop-next.invariant.walking
      (λ k i. c.mark_all.ensures.here k (subst (In k) (sym c.as_slice.ensures.value) i)) (λ k o. c.mark_all.ensures.others k (subst (λ ws. ¬ (In k ws)) (sym c.as_slice.ensures.value) o));
}

pub returns-clause-ahead : goal.returns-clause-ahead
returns-clause-ahead c =
    let h : HasWalked (left c.args.graph.now c.args.index.now.live) c.args.start c.loop-next.walk.items None = subst
    (HasWalked (left c.args.graph.now c.args.index.now.live) c.args.start c.loop-next.walk.items) (nothing c.loop-next.next c.in_default.not-Some) c.loop-next.invariant.walks in
    record {
      enough = c.loop-next.invariant.within;
      empty = none_ahead
          (left c.args.graph.now c.args.index.now.live) c.args.start c.loop-next.walk.items c.loop-next.walked c.loop-next.ahead c.loop-next.invariant.walking h;
    }
