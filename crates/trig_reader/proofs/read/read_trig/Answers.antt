use Rattle.std.proofs.Common.{subst, sym, arith}
use Rattle.std.specs.Option.{option_copied}
use Rattle.std.specs.Prelude.{IsUtf8}
use Rattle.rdf_terms.proofs.Common.{Text, statements}
use Rattle.trig_reader.specs.Document.{IsTriG, IsTooMany}
use Rattle.trig_reader.proofs.Drafted.{too_many, whole_read}
use Rattle.trig_reader.proofs.read.read_trig.Goals as goal

pub returns-then-quad_count-gt-MAX_QUADS-clause-err : goal.returns-then-quad_count-gt-MAX_QUADS-clause-err
returns-then-quad_count-gt-MAX_QUADS-clause-err c =
    let same = c.in-Ok.ensures.cases.0 in
    subst (λ (t : Text). IsTooMany t (option_copied c.args.base)) same
    (too_many c.in-Ok.text.now (option_copied c.args.base) c.in_ok-draft.draft (subst IsUtf8 (sym same) c.in-Ok.ensures.cases.1) c.in_ok-draft.ensures.ok
    (omega (arith, c.if-quad_count-gt-MAX_QUADS.true, c.quad_count.ensures.statements)))

pub returns-clause-ok : goal.returns-clause-ok
returns-clause-ok c =
    let same = c.in-Ok.ensures.cases.0 in
    subst (λ (t : Text). IsTriG t (option_copied c.args.base) c.in_ok-finish.field-0.labels (statements c.in_ok-finish.field-0)) same
    (whole_read c.in-Ok.text.now (option_copied c.args.base) c.in_ok-draft.draft c.in_ok-finish.field-0 (subst IsUtf8 (sym same) c.in-Ok.ensures.cases.1) c.in_ok-draft.ensures.ok
    (omega (arith, c.if-quad_count-gt-MAX_QUADS.false, c.quad_count.ensures.statements)) c.in_ok-finish.ensures.finishes)
