use Rattle.std.proofs.Common.{◌≡◌, ℕ, Option, Some, None, is_some, false, take, refl, sym, ◌∙◌, arith}
use Rattle.std.proofs.lemmas.List.{take_all}
use Rattle.std.proofs.lemmas.List.Elements.{All-more, All-same}
use Rattle.lean_search.proofs.search.first_named.Goals as goal

none : (o : Option ℕ) → is_some o ≡ false → o ≡ None
none None e = refl
none (Some n) e = cc

pub loop-quad-preserved : goal.loop-quad-preserved
loop-quad-preserved c = All-more (λ q. q.g ≡ None) c.args.quads.now c.loop-quad.quad-index _ c.loop-quad-test.true c.loop-quad.invariant (none _ (sym c.is_some.ensures ∙ c.if-is_some.false))

pub returns-clause-none : goal.returns-clause-none
returns-clause-none c =
    All-same (λ q. q.g ≡ None) c.args.quads.now (take c.loop-quad.quad-index c.args.quads.now)
    (sym (take_all c.loop-quad.quad-index c.args.quads.now (let n = c.loop-quad-test.false in omega arith))) c.loop-quad.invariant
