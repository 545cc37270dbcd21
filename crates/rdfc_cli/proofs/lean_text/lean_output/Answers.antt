use Rattle.rdfc_cli.proofs.Leaning.{lean_end}
use Rattle.rdfc_cli.proofs.lean_text.lean_output.Goals as goal

pub returns-in-Err-clause-stops : goal.returns-in-Err-clause-stops
returns-in-Err-clause-stops c = lean_end c.args.settings c.args.graph.now c.in-Err.stop c.status_of_lean.result c.in-Err.ensures.stop c.status_of_lean.ensures
