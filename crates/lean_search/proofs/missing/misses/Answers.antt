use Rattle.std.proofs.Common.{rules, ◌≡◌, get_or, sym, ◌∙◌, subst, below_more, arith, true≢false}
use Rattle.rdf_terms.proofs.Common.{In, Permutes, Permutes-from_IsPermutation, Permutes-sym, In-Permutes, In-get_or}
use Rattle.lean_search.proofs.Hitting.{missing_one, missing_none, by_places}
use Rattle.lean_search.proofs.missing.misses.Goals as goal

pub returns-then-not-is_in : goal.returns-then-not-is_in
returns-then-not-is_in c =
    let items : c.in_ok-sorted.sorted.items ≡ c.args.images.now = search rules in
    let p : Permutes c.args.images.now c.sort_unstable.new.self.items = subst (λ xs. Permutes xs c.sort_unstable.new.self.items) items
    (Permutes-from_IsPermutation c.in_ok-sorted.sorted.items c.sort_unstable.new.self.items c.sort_unstable.ensures.permutation) in
    missing_one c.args.terms.now c.args.images.now (get_or c.args.terms.now c.loop-term.term-index 0) (In-get_or c.args.terms.now c.loop-term.term-index 0 c.loop-term-test.true)
    (λ i. true≢false
    (sym (c.is_in.ensures.1
    (subst (λ xs. In (get_or c.args.terms.now c.loop-term.term-index 0) xs) (sym c.as_slice.ensures.value) (In-Permutes (get_or c.args.terms.now c.loop-term.term-index 0) p i)))
    ∙ c.if-not-is_in.true))

pub loop-term-preserved : goal.loop-term-preserved
loop-term-preserved c =
    let items : c.in_ok-sorted.sorted.items ≡ c.args.images.now = search rules in
    let p : Permutes c.args.images.now c.sort_unstable.new.self.items = subst (λ xs. Permutes xs c.sort_unstable.new.self.items) items
    (Permutes-from_IsPermutation c.in_ok-sorted.sorted.items c.sort_unstable.new.self.items c.sort_unstable.ensures.permutation) in
    below_more (λ k. In (get_or c.args.terms.now k 0) c.args.images.now) c.loop-term.term-index c.loop-term.invariant
    (In-Permutes (get_or c.args.terms.now c.loop-term.term-index 0) (Permutes-sym p)
    (subst (λ xs. In (get_or c.args.terms.now c.loop-term.term-index 0) xs) c.as_slice.ensures.value (c.is_in.ensures.0 c.if-not-is_in.false)))

pub returns : goal.returns
returns c = missing_none c.args.terms.now c.args.images.now (by_places c.args.terms.now c.args.images.now (λ k l. c.loop-term.invariant k (let n = c.loop-term-test.false in omega arith)))
