use Rattle.std.proofs.Common.{sym, ◌∙◌}
use Rattle.terminals.proofs.Outcomes.{IfNone_since}
use Rattle.terminals.proofs.LabelFound.{label_none_empty, label_none_first, cut_behind_label, label_found}
use Rattle.terminals.proofs.labels.blank_node_label.Goals as goal

pub returns-in_err-first-clause-none : goal.returns-in_err-first-clause-none
returns-in_err-first-clause-none c =
    IfNone_since _ _ (label_none_empty c.args.grammar c.args.text.now _ _ c.in_ok-after.ensures.found c.in_ok-label.ensures.found c.in_err-first.ensures.none)

pub returns-then-not-begins_label-clause-none : goal.returns-then-not-begins_label-clause-none
returns-then-not-begins_label-clause-none c =
    label_none_first c.args.grammar c.args.text.now _ _ c.in_ok-after.ensures.found c.in_ok-label.ensures.found _ _ c.in_ok-first.ensures.found
    (sym c.begins_label.ensures ∙ c.if-not-begins_label.true)

pub range-requires-clause-end_boundary : goal.range-requires-clause-end_boundary
range-requires-clause-end_boundary c =
    cut_behind_label c.args.grammar c.args.text.now _ _ c.in_ok-after.ensures.found c.in_ok-label.ensures.found _ _ _ c.in_ok-first.ensures.found c.after_label-rest.ensures c.after_label-rest.utf8

pub returns-clause-found : goal.returns-clause-found
returns-clause-found c =
    label_found c.args.grammar c.args.text.now _ _ c.in_ok-after.ensures.found c.in_ok-label.ensures.found _ _ _ c.in_ok-first.ensures.found c.after_label-rest.ensures _ c.range.ensures.value
    (sym c.begins_label.ensures ∙ c.if-not-begins_label.false)
