use Rattle.std.proofs.Common.{true≢false, sym}
use Rattle.nquads_reader.proofs.LineTerms.{states_nothing, states_no_end}
use Rattle.nquads_reader.proofs.line.stated.Goals as goal

pub returns-in_default-clause-err : goal.returns-in_default-clause-err
returns-in_default-clause-err c = (
  c.utf8.line,
  states_nothing c.args.line.now c.after_white-text.result.now c.after_white-text.ensures (λ comment. true≢false (sym (c.if-is_optional_comment.ensures.1 comment)))
      (rw c.in_default.is at c.in_ok-quad.ensures),
)

pub returns-clause-err : goal.returns-clause-err
returns-clause-err c = (
  c.utf8.line,
  states_no_end c.args.line.now c.after_white-text.result.now c.in-Some.quad c.in-Some.rest.now c.after_white-text.ensures (λ comment. true≢false (sym (c.if-is_optional_comment.ensures.1 comment)))
      (rw c.in-Some.is at c.in_ok-quad.ensures) (λ ends. true≢false (sym (c.if-ends_statement.ensures.1 ends))),
)
