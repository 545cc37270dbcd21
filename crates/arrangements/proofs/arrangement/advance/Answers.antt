use Rattle.std.proofs.Common.{sym, subst, refl, true≢false}
use Rattle.arrangements.specs.Arrangements.{IsNext}
use Rattle.arrangements.proofs.Stepping.{falls_is_last, rise_next, next_is_not_last}
use Rattle.arrangements.proofs.arrangement.advance.Goals as goal

pub returns-in_default-clause-last : goal.returns-in_default-clause-last
returns-in_default-clause-last c = (λ _. falls_is_last c.args.nodes.now c.in_default.ensures, λ _. refl)

pub returns-clause-moves : goal.returns-clause-moves
returns-clause-moves c = subst (IsNext c.args.nodes.now) (sym c.exchange.ensures) (rise_next c.args.nodes.now c.in-Some.at c.last_above-other.result c.in-Some.ensures c.last_above-other.ensures)

pub returns-clause-last : goal.returns-clause-last
returns-clause-last c =
    let next = rise_next c.args.nodes.now c.in-Some.at c.last_above-other.result c.in-Some.ensures c.last_above-other.ensures in
    (λ e. absurd (true≢false e), λ last. absurd (next_is_not_last c.args.nodes.now _ next last))
