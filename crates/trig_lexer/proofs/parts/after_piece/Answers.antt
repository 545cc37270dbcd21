use Rattle.std.proofs.Common.{sym, ◌∙◌}
use Rattle.terminals.proofs.Outcomes.{IfNone_since, IfNone_then}
use Rattle.std.proofs.lemmas.Option.{IfSome_then}
use Rattle.trig_lexer.proofs.Plx.{piece_none_end, piece_found, piece_none, piece_from_escape}
use Rattle.trig_lexer.proofs.parts.after_piece.Goals as goal

pub returns-in_err-c-clause-none : goal.returns-in_err-c-clause-none
returns-in_err-c-clause-none c = IfNone_since _ _ (piece_none_end c.args.part c.args.place c.args.text.now c.in_err-c.ensures.none)

pub returns-then-takes-clause-found : goal.returns-then-takes-clause-found
returns-then-takes-clause-found c =
    piece_found c.args.part c.args.place c.args.text.now _ _ c.in_ok-c.ensures.found c.utf8.text (sym c.takes.ensures ∙ c.if-takes.true)

pub returns-clause-found : goal.returns-clause-found
returns-clause-found c =
    IfSome_then c.after_escape.result c.after_escape.ensures.found
    (λ rest x. piece_from_escape c.args.part c.args.place c.args.text.now rest.now x)

pub returns-clause-none : goal.returns-clause-none
returns-clause-none c =
    IfNone_then c.after_escape.result _ _
    (λ none. piece_none c.args.part c.args.place c.args.text.now _ _ c.in_ok-c.ensures.found (sym c.takes.ensures ∙ c.if-takes.false) none) c.after_escape.ensures.none
