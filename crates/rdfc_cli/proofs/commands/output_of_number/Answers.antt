use Rattle.rdfc_cli.proofs.Answering.{if_ok, if_err, written-made, stops-made}
use Rattle.rdfc_cli.proofs.commands.output_of_number.Goals as goal

pub returns-clause-output : goal.returns-clause-output
returns-clause-output c = λ file.
    if_ok c.summary_output.result (λ output o. written-made file c.args.number c.args.settings c.in_ok-dataset.dataset c.in_ok-dataset.ensures output o) c.summary_output.ensures.output

pub returns-clause-stops : goal.returns-clause-stops
returns-clause-stops c = λ file.
    if_err c.summary_output.result (λ status s. stops-made file c.args.number c.args.settings c.in_ok-dataset.dataset c.in_ok-dataset.ensures status s) c.summary_output.ensures.stops
