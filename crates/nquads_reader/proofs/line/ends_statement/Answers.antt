use Rattle.nquads_reader.proofs.LineTerms.{ends_statement}
use Rattle.nquads_reader.proofs.line.ends_statement.Goals as goal

pub returns-in-Some : goal.returns-in-Some
returns-in-Some c =
    let ends = ends_statement c.args.text.now c.in-Some.rest.now c.after_white.result.now c.in-Some.ensures.found c.after_white.ensures in
    (λ is. ends.0 (c.is_optional_comment.ensures.0 is), λ there. c.is_optional_comment.ensures.1 (ends.1 there))
