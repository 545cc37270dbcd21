use Rattle.std.proofs.Common.{◌≡◌, ℕ, ◌+◌, Bool, true, false, List, [], ◌∷◌, ◌++◌, map, length, sym, ap, ◌∙◌, arith, add-one, refl}
use Rattle.std.proofs.lemmas.List.{map-append}
use Rattle.rdf_terms.specs.Lists.{numbers_below}
use Rattle.rdf_terms.specs.Document.{mark_in}
use Rattle.rdf_terms.proofs.Ranks.{rank, rank-suc_true, rank-suc_false, rank-bound}
use Rattle.rdf_terms.proofs.finish.new_numbers.Goals as goal
use Rattle.rdf_terms.proofs.finish.new_numbers.Goals.{then-is_used, else-is_used}

one_more : (f : ℕ → ℕ) (n : ℕ) (old new : List ℕ) (count : ℕ) → old ≡ map f (numbers_below n) → count ≡ f n → new ≡ old ++ count ∷ [] → new ≡ map f (numbers_below (n + 1))
one_more f n old new count e c g = rw add-one (g ∙ (λ i. e i ++ c i ∷ []) ∙ sym (map-append f (numbers_below n) (n ∷ [])))

counted_true : (p : ℕ → Bool) (n count : ℕ) → count ≡ rank p n → p n ≡ true → count + 1 ≡ rank p (n + 1)
counted_true p n count e t = ap (λ c. c + 1) e ∙ sym (rank-suc_true p n t) ∙ ap (rank p) (sym (add-one n))

counted_false : (p : ℕ → Bool) (n count : ℕ) → count ≡ rank p n → p n ≡ false → count ≡ rank p (n + 1)
counted_false p n count e t = e ∙ sym (rank-suc_false p n t) ∙ ap (rank p) (sym (add-one n))

pub loop-is_used-init : goal.loop-is_used-init
loop-is_used-init c = record { numbers = c.in_ok-numbers.ensures.items; count = refl }

pub overflow_add-count : goal.overflow_add-count
overflow_add-count c = omega (arith, c.loop-is_used.invariant.count, rank-bound (mark_in c.args.used.now) c.loop-is_used.is_used-index, c.loop-is_used-test.true, c.requires)

pub loop-is_used-preserved : goal.loop-is_used-preserved
loop-is_used-preserved c = record {
  numbers = one_more (rank (mark_in c.args.used.now)) c.loop-is_used.is_used-index _ _ _ c.loop-is_used.invariant.numbers c.loop-is_used.invariant.count c.in_ok-push.ensures.items;
  count = elim c.if-is_used.branch [
    | then-is_used w ↦ w.count-is ∙ counted_true (mark_in c.args.used.now) c.loop-is_used.is_used-index _ c.loop-is_used.invariant.count w.if-is_used.true
    | else-is_used w ↦ w.count-is ∙ counted_false (mark_in c.args.used.now) c.loop-is_used.is_used-index _ c.loop-is_used.invariant.count w.if-is_used.false
  ];
}

pub returns : goal.returns
returns c =
    let same : c.loop-is_used.is_used-index ≡ length c.args.used.now = omega (arith, c.loop-is_used-test.false, c.loop-is_used.auto.is_used-index-end) in
    c.loop-is_used.invariant.numbers ∙ ap (λ n. map (rank (mark_in c.args.used.now)) (numbers_below n)) same
