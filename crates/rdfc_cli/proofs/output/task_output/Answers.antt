use Rattle.rdf_terms.specs.Document.{dataset}
use Rattle.rdfc_cli.specs.Reports.{IsTextOf}
use Rattle.rdfc_cli.proofs.ReportTexts.{run_text-of_run}
use Rattle.rdfc_cli.proofs.output.task_output.Goals as goal

pub returns-clause-output : goal.returns-clause-output
returns-clause-output c =
    run_text-of_run c.args.settings c.args.dataset.now (λ ρ. IsTextOf c.args.task ρ (dataset c.args.dataset.now) c.args.dataset.now.labels)
    c.in_ok-canon.canon c.in_ok-text_of.field-0 c.in_ok-canon.ensures.run c.in_ok-canon.ensures.profile c.in_ok-text_of.ensures.text c.in_ok-text_of.ensures.unsettled
