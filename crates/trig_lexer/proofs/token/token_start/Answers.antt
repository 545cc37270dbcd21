use Rattle.std.proofs.Common.{false}
use Rattle.trig_lexer.proofs.Places.{behind_within, behind_boundary, starts_at}
use Rattle.trig_lexer.proofs.token.token_start.Goals as goal

pub overflow_sub-result : goal.overflow_sub-result
overflow_sub-result c =
    behind_within false c.args.text.now _ _ c.args.at c.requires.0 c.range_from.ensures.value c.after_gaps.ensures

pub returns-clause-starts : goal.returns-clause-starts
returns-clause-starts c =
    starts_at false c.args.text.now _ _ c.args.at c.requires.0 c.range_from.ensures.value c.after_gaps.ensures

pub returns-clause-boundary : goal.returns-clause-boundary
returns-clause-boundary c =
    behind_boundary false c.args.text.now _ _ c.args.at c.requires.0 c.range_from.ensures.value c.after_gaps.ensures c.after_gaps.utf8
