use Rattle.rdfc_cli.specs.Answers.{seen}
use Rattle.rdfc_cli.specs.Requests.{command_of, syntax_of}
use Rattle.rdfc_cli.proofs.Answering.{answers-delivered}
use Rattle.rdfc_cli.proofs.commands.execute.Goals as goal

pub returns-in-Ok : goal.returns-in-Ok
returns-in-Ok g c =
    answers-delivered g.K.Sink.taken g.K.Sink.faults (seen (syntax_of c.args.request.syntax) g.S.Shelf.told g.S.Shelf.faults _ _)
    (command_of c.args.request.command) c.args.request.settings _ _ c.in-Ok.output c.deliver.result c.deliver.ensures.delivers c.deliver.ensures.cause c.in-Ok.ensures.output
