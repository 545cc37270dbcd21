use Rattle.rdf_terms.specs.Document.{dataset}
use Rattle.rdfc_cli.specs.Reports.{IsSummary}
use Rattle.rdfc_cli.proofs.ReportTexts.{run_text-of_run}
use Rattle.rdfc_cli.proofs.made.summary_output.Goals as goal

pub returns-clause-output : goal.returns-clause-output
returns-clause-output c =
    run_text-of_run c.args.settings c.args.dataset.now (λ ρ. IsSummary ρ (dataset c.args.dataset.now))
    c.in_ok-canon.canon c.in_ok-output_of_run.field-0 c.in_ok-canon.ensures.run c.in_ok-canon.ensures.profile c.in_ok-output_of_run.ensures.text c.in_ok-output_of_run.ensures.unsettled
