use Rattle.std.proofs.Common.{Err, ap, subst}
use Rattle.rdf_terms.specs.Document.{dataset}
use Rattle.canon_model.specs.Meaning.{meaning}
use Rattle.other_output.specs.Openness.{IsOpenness}
use Rattle.rdfc_cli.proofs.OtherOutputs.{no_other, past_end}
use Rattle.rdfc_cli.proofs.other_text.other_output.Goals as goal

pub returns-in-Ok-Settled-clause-stops : goal.returns-in-Ok-Settled-clause-stops
returns-in-Ok-Settled-clause-stops c =
    let canon = c.in_ok-canon.canon in
    no_other c.args.settings (dataset c.args.dataset.now) canon c.in_ok-canon.ensures.run c.in_ok-canon.ensures.profile
    (subst (IsOpenness (meaning canon.profile) (dataset c.args.dataset.now) canon) c.in-Ok-Settled.field-0-is c.in-Ok-Settled.ensures.openness)

pub returns-in-Err-clause-stops : goal.returns-in-Err-clause-stops
returns-in-Err-clause-stops c =
    past_end c.args.settings c.args.dataset.now c.in_ok-canon.canon c.in_ok-canon.ensures.run c.in_ok-canon.ensures.profile c.in-Err.stop c.status_of_run.result
    (λ e. c.in-Err.ensures.over (ap Err e)) c.status_of_run.ensures
