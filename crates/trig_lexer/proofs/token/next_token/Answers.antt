use Rattle.terminals.proofs.Outcomes.{IfNone_since}
use Rattle.trig_lexer.proofs.Places.{behind_within, behind_boundary, no_token_at, rest_of_token_within, end_boundary, token_at}
use Rattle.trig_lexer.proofs.Spelled.{ends_behind}
use Rattle.trig_lexer.proofs.token.next_token.Goals as goal

pub returns-in_err-found-clause-none : goal.returns-in_err-found-clause-none
returns-in_err-found-clause-none c =
    IfNone_since _ _
    (no_token_at c.args.after_string c.args.text.now _ _ c.args.at c.requires.0 c.range_from.ensures.value c.after_gaps-behind.ensures
    c.in_err-found.ensures.goes_on c.in_err-found.ensures.none)

pub overflow_sub-result : goal.overflow_sub-result
overflow_sub-result c =
    behind_within c.args.after_string c.args.text.now _ _ c.args.at c.requires.0 c.range_from.ensures.value c.after_gaps-behind.ensures

pub overflow_sub-result-2 : goal.overflow_sub-result-2
overflow_sub-result-2 c =
    rest_of_token_within c.args.after_string c.args.text.now _ _ c.args.at c.requires.0 c.range_from.ensures.value c.after_gaps-behind.ensures
    _ _ c.in_ok-found.ensures.found

pub returns-clause-found : goal.returns-clause-found
returns-clause-found c =
    token_at c.args.after_string c.args.text.now _ _ c.args.at c.requires.0 c.range_from.ensures.value c.after_gaps-behind.ensures
    _ _ c.in_ok-found.ensures.found

pub returns-clause-starts : goal.returns-clause-starts
returns-clause-starts c =
    behind_boundary c.args.after_string c.args.text.now _ _ c.args.at c.requires.0 c.range_from.ensures.value c.after_gaps-behind.ensures
    c.after_gaps-behind.utf8

pub returns-clause-ends : goal.returns-clause-ends
returns-clause-ends c =
    end_boundary c.args.after_string c.args.text.now _ _ c.args.at c.requires.0 c.range_from.ensures.value c.after_gaps-behind.ensures
    _ _ c.in_ok-found.ensures.found c.after_gaps-behind.utf8

pub returns-clause-goes_on : goal.returns-clause-goes_on
returns-clause-goes_on c =
    ends_behind c.args.after_string c.args.text.now c.args.at _
    (token_at c.args.after_string c.args.text.now _ _ c.args.at c.requires.0 c.range_from.ensures.value c.after_gaps-behind.ensures
    _ _ c.in_ok-found.ensures.found)
