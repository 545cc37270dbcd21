use Rattle.std.proofs.Common.{◌≡◌, ℕ, List, suc, ◌+◌, ◌-◌, ◌*◌, ◌<◌, ◌≤◌, ◌∷◌, [], length, reverse, refl, sym, ap, ◌∙◌, subst, arith, length-append}
use Rattle.map_search.specs.Ends.{IsFound}
use Rattle.map_search.proofs.Underway.{Underway}
use Rattle.map_search.proofs.Steps.{total, at_start, past_none, more, go_deeper, pass, past_limit, found, go_back, nothing_left}
use Rattle.map_search.proofs.search.find_map.Goals as goal

pub returns-then-limit-eq0 : goal.returns-then-limit-eq0
returns-then-limit-eq0 g c =
    past_none (g.P.Problem.bound c.args.problem.now) (g.P.Problem.fits c.args.problem.now) (g.P.Problem.places c.args.problem.now)
    (g.P.Problem.sought c.args.problem.now) c.args.limit c.if-limit-eq0.true

pub maps-init : goal.maps-init
maps-init g c =
    let e : c.places-places.result ≡ g.P.Problem.places c.args.problem.now = c.places-places.ensures.places in
    let some : 0 < c.places-places.result = omega arith in
    let l : length c.new-images.result.items ≡ 0 = ap length c.new-images.ensures.items in
    record {
      limit = omega arith;
      short = omega arith;
      underway = at_start (g.P.Problem.bound c.args.problem.now) (g.P.Problem.fits c.args.problem.now) c.places-places.result
          (g.P.Problem.sought c.args.problem.now) c.new-images.result.items c.new-images.ensures.items some;
    }

nil : (xs : List ℕ) → length xs ≡ 0 → xs ≡ []
nil [] e = refl
nil (x ∷ xs) e = absurd (omega arith)

pub returns-in-None-pop : goal.returns-in-None-pop
returns-in-None-pop g c =
    let n = rw c.as_slice.ensures.value at c.in-None.ensures.none in
    let e : c.maps.images.items ≡ [] = nil c.maps.images.items (sym (ap length c.as_slice.ensures.value) ∙ c.as_slice.ensures.len ∙ c.in-None-pop.ensures.cases.0) in
    let u = subst (λ k. Underway (g.P.Problem.bound c.args.problem.now) (g.P.Problem.fits c.args.problem.now) k (g.P.Problem.sought c.args.problem.now)
    (reverse c.maps.images.items) c.maps.from c.maps.tried) c.places-places.ensures.places c.maps.invariant.underway in
    nothing_left (g.P.Problem.bound c.args.problem.now) (g.P.Problem.fits c.args.problem.now) (g.P.Problem.places c.args.problem.now)
    (g.P.Problem.sought c.args.problem.now) c.maps.images.items c.maps.from c.maps.tried c.args.limit u e n c.maps.invariant.limit

pub maps-preserved-in-Some-pop : goal.maps-preserved-in-Some-pop
maps-preserved-in-Some-pop g c =
    let n = rw c.as_slice.ensures.value at c.in-None.ensures.none in
    let items = c.in-Some-pop.ensures.items in
    let l : length c.maps.images.items ≡ length c.pop.new.self.items + 1 = ap length items ∙ length-append c.pop.new.self.items (c.in-Some-pop.last ∷ []) in
    record {
      limit = c.maps.invariant.limit;
      short = (let r = c.maps.invariant.short in omega arith);
      underway = go_back (g.P.Problem.bound c.args.problem.now) (g.P.Problem.fits c.args.problem.now) c.places-places.result
          (g.P.Problem.sought c.args.problem.now) c.maps.images.items c.pop.new.self.items c.in-Some-pop.last c.maps.from c.maps.tried c.maps.invariant.underway items n;
    }

pub returns-then-tried-limit : goal.returns-then-tried-limit
returns-then-tried-limit g c =
    let n = rw c.as_slice.ensures.value at c.in-Some.ensures.some in
    let u = subst
    (λ k. Underway (g.P.Problem.bound c.args.problem.now) (g.P.Problem.fits c.args.problem.now) k (g.P.Problem.sought c.args.problem.now)
    (reverse c.maps.images.items) c.maps.from c.maps.tried) c.places-places.ensures.places c.maps.invariant.underway in
    past_limit (g.P.Problem.bound c.args.problem.now) (g.P.Problem.fits c.args.problem.now) (g.P.Problem.places c.args.problem.now)
    (g.P.Problem.sought c.args.problem.now) c.maps.images.items c.maps.from c.maps.tried u c.in-Some.image c.args.limit n c.if-tried-limit.true

pub returns-then-is_sought : goal.returns-then-is_sought
returns-then-is_sought g c =
    let n = rw c.as_slice.ensures.value at c.in-Some.ensures.some in
    let items = c.in_ok-push-in-Some.ensures.items in
    let l : length c.push.new.self.items ≡ length c.maps.images.items + 1 = ap length items ∙ length-append c.maps.images.items (c.in-Some.image ∷ []) in
    let u = subst (λ k. Underway (g.P.Problem.bound c.args.problem.now) (g.P.Problem.fits c.args.problem.now) k (g.P.Problem.sought c.args.problem.now)
    (reverse c.maps.images.items) c.maps.from c.maps.tried) c.places-places.ensures.places c.maps.invariant.underway in
    let few : c.maps.tried < c.args.limit = (let a = c.maps.invariant.limit in let b = c.if-tried-limit.false in omega arith) in
    let whole : suc (length c.maps.images.items) ≡ g.P.Problem.places c.args.problem.now =
    (let r = c.maps.invariant.short in let f = c.if-len-places.false in let p = c.places-places.ensures.places in omega arith) in
    subst (IsFound (g.P.Problem.bound c.args.problem.now) (g.P.Problem.fits c.args.problem.now) (g.P.Problem.places c.args.problem.now) (g.P.Problem.sought c.args.problem.now) c.args.limit)
    (sym items)
    (found (g.P.Problem.bound c.args.problem.now) (g.P.Problem.fits c.args.problem.now) (g.P.Problem.places c.args.problem.now)
    (g.P.Problem.sought c.args.problem.now) c.maps.images.items c.maps.from c.maps.tried u c.in-Some.image c.args.limit n few whole
    (sym (ap (g.P.Problem.sought c.args.problem.now) (c.as_slice-else-len-places.ensures.value ∙ items)) ∙ sym c.in_ok-is_sought-in-Some.ensures ∙ c.if-is_sought.true))

-- one map more is tried, and the images are at most one more
falls : (total tried before after : ℕ) → tried < total → after ≤ before + 1 → 2 * (total - (tried + 1)) + after < 2 * (total - tried) + before
falls total tried before after l m = omega arith

pub maps-smaller-then-len-places : goal.maps-smaller-then-len-places
maps-smaller-then-len-places g c =
    let n = rw c.as_slice.ensures.value at c.in-Some.ensures.some in
    let l : length c.push.new.self.items ≡ length c.maps.images.items + 1 = ap length c.in_ok-push-in-Some.ensures.items ∙ length-append c.maps.images.items (c.in-Some.image ∷ []) in
    falls (total (g.P.Problem.bound c.args.problem.now) (g.P.Problem.fits c.args.problem.now) c.places-places.result (g.P.Problem.sought c.args.problem.now)) c.maps.tried (length c.maps.images.items)
    (length c.push.new.self.items)
    (more (g.P.Problem.bound c.args.problem.now) (g.P.Problem.fits c.args.problem.now) c.places-places.result
    (g.P.Problem.sought c.args.problem.now) c.maps.images.items c.maps.from c.maps.tried c.maps.invariant.underway c.in-Some.image n) (omega arith)

pub maps-preserved-then-len-places : goal.maps-preserved-then-len-places
maps-preserved-then-len-places g c =
    let n = rw c.as_slice.ensures.value at c.in-Some.ensures.some in
    let items = c.in_ok-push-in-Some.ensures.items in
    let l : length c.push.new.self.items ≡ length c.maps.images.items + 1 = ap length items ∙ length-append c.maps.images.items (c.in-Some.image ∷ []) in
    let t = c.if-len-places.true in
    record {
      limit = omega arith;
      short = omega arith;
      underway = subst
          (λ w. Underway (g.P.Problem.bound c.args.problem.now) (g.P.Problem.fits c.args.problem.now) c.places-places.result (g.P.Problem.sought c.args.problem.now) (reverse w) 0 (c.maps.tried + 1))
          (sym items)
          (go_deeper (g.P.Problem.bound c.args.problem.now) (g.P.Problem.fits c.args.problem.now) c.places-places.result
          (g.P.Problem.sought c.args.problem.now) c.maps.images.items c.maps.from c.maps.tried c.maps.invariant.underway c.in-Some.image n (omega arith));
    }

pub maps-smaller : goal.maps-smaller
maps-smaller g c =
    let n = rw c.as_slice.ensures.value at c.in-Some.ensures.some in
    let same : c.drop_last.new.images.items ≡ c.maps.images.items = c.drop_last.ensures c.maps.images.items c.in-Some.image c.in_ok-push-in-Some.ensures.items in
    let l : length c.drop_last.new.images.items ≡ length c.maps.images.items = ap length same in
    falls (total (g.P.Problem.bound c.args.problem.now) (g.P.Problem.fits c.args.problem.now) c.places-places.result (g.P.Problem.sought c.args.problem.now)) c.maps.tried (length c.maps.images.items)
    (length c.drop_last.new.images.items)
    (more (g.P.Problem.bound c.args.problem.now) (g.P.Problem.fits c.args.problem.now) c.places-places.result
    (g.P.Problem.sought c.args.problem.now) c.maps.images.items c.maps.from c.maps.tried c.maps.invariant.underway c.in-Some.image n) (omega arith)

pub maps-preserved : goal.maps-preserved
maps-preserved g c =
    let n = rw c.as_slice.ensures.value at c.in-Some.ensures.some in
    let items = c.in_ok-push-in-Some.ensures.items in
    let l : length c.push.new.self.items ≡ length c.maps.images.items + 1 = ap length items ∙ length-append c.maps.images.items (c.in-Some.image ∷ []) in
    let same : c.drop_last.new.images.items ≡ c.maps.images.items = c.drop_last.ensures c.maps.images.items c.in-Some.image items in
    let k : length c.drop_last.new.images.items ≡ length c.maps.images.items = ap length same in
    let f = c.if-len-places.false in
    let r = c.maps.invariant.short in
    record {
      limit = omega arith;
      short = omega arith;
      underway = subst
          (λ w. Underway (g.P.Problem.bound c.args.problem.now) (g.P.Problem.fits c.args.problem.now) c.places-places.result (g.P.Problem.sought c.args.problem.now) (reverse w) (c.in-Some.image + 1)
          (c.maps.tried + 1)) (sym same)
          (pass (g.P.Problem.bound c.args.problem.now) (g.P.Problem.fits c.args.problem.now) c.places-places.result
          (g.P.Problem.sought c.args.problem.now) c.maps.images.items c.maps.from c.maps.tried c.maps.invariant.underway c.in-Some.image n (omega arith)
          (sym (ap (g.P.Problem.sought c.args.problem.now) (c.as_slice-else-len-places.ensures.value ∙ items)) ∙ sym c.in_ok-is_sought-in-Some.ensures ∙ c.if-is_sought.false));
    }
