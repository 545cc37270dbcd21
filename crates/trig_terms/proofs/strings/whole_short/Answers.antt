use Rattle.std.proofs.Common.{length, ap, eq-eqb, eqb-true, sym, ◌∙◌, true≢false}
use Rattle.terminals.proofs.Outcomes.{IfNone_since}
use Rattle.std.proofs.lemmas.List.{nil_from_length}
use Rattle.trig_terms.proofs.Whole.{short_whole, no_short, short_before_rest}
use Rattle.trig_terms.proofs.strings.whole_short.Goals as goal

pub returns-in_err-spelling-clause-none : goal.returns-in_err-spelling-clause-none
returns-in_err-spelling-clause-none c = IfNone_since _ _ (no_short c.args.quote c.args.text.now c.in_err-spelling.ensures.none)

pub returns-then-is_empty-clause-found : goal.returns-then-is_empty-clause-found
returns-then-is_empty-clause-found c =
    short_whole c.args.quote c.args.text.now _ _ c.in_ok-spelling.ensures.found (nil_from_length _ (eqb-true _ 0 (sym c.is_empty.ensures ∙ c.if-is_empty.true)))

pub returns-else-is_empty-clause-none : goal.returns-else-is_empty-clause-none
returns-else-is_empty-clause-none c =
    short_before_rest c.args.quote c.args.text.now _ _ c.in_ok-spelling.ensures.found.begins
    (λ e. true≢false (sym (eq-eqb _ _ (ap length e)) ∙ sym c.is_empty.ensures ∙ c.if-is_empty.false))
