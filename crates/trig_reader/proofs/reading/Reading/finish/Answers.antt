use Rattle.std.proofs.Common.{ap, sym, subst, ◌∙◌}
use Rattle.rdf_terms.specs.Lists.{Text}
use Rattle.trig_reader.specs.Lines.{line_at}
use Rattle.trig_reader.specs.Document.{IsCauseOf}
use Rattle.trig_reader.proofs.Taking.{missing_cause, whole_draft}
use Rattle.trig_reader.proofs.reading.Reading.finish.Goals as goal

pub returns-in-Some-clause-err : goal.returns-in-Some-clause-err
returns-in-Some-clause-err c first base all begins =
    subst (IsCauseOf c.args.text.now base) (sym c.undefined.ensures)
    (missing_cause c.args.text.now first base c.args.self c.in-Some.missing c.line_at.result c.utf8.text all begins c.in-Some.ensures
    (c.line_at.ensures ∙ ap (λ (t : Text). line_at t c.args.self.last_told) c.as_bytes.ensures.value))

pub returns-clause-ok : goal.returns-clause-ok
returns-clause-ok c first base all begins = whole_draft c.args.text.now first base c.args.self c.into_draft.result all begins c.in-None.ensures c.into_draft.ensures
