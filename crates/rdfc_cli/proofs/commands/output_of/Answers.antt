use Rattle.rdfc_cli.specs.Answers.{seen}
use Rattle.rdfc_cli.specs.Requests.{syntax_of}
use Rattle.rdfc_cli.proofs.commands.output_of.Goals as goal

pub returns-in-Load-clause-output : goal.returns-in-Load-clause-output
returns-in-Load-clause-output g c = rw c.in-Load.is (c.output_of_number.ensures.output (seen (syntax_of c.args.request.syntax) g.S.Shelf.told g.S.Shelf.faults c.args.shelf.now c.args.shelf.now))

pub returns-in-Load-clause-stops : goal.returns-in-Load-clause-stops
returns-in-Load-clause-stops g c = rw c.in-Load.is (c.output_of_number.ensures.stops (seen (syntax_of c.args.request.syntax) g.S.Shelf.told g.S.Shelf.faults c.args.shelf.now c.args.shelf.now))
