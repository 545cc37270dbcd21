use Rattle.rdfc_cli.specs.Words.{file_word}
use Rattle.rdfc_cli.specs.Requests.{command_of}
use Rattle.rdfc_cli.proofs.Noting.{noted}
use Rattle.rdfc_cli.proofs.Putting.{puts_line}
use Rattle.rdfc_cli.proofs.notes.put_note.Goals as goal

pub returns-in_default : goal.returns-in_default
returns-in_default g c =
    noted g.N.Sink.taken g.N.Sink.faults _ _ (file_word (command_of c.args.command.now)) c.args.status.now c.in_default.not-Done
    (puts_line _ _ _ _ c.put_gathered.result _ c.put_gathered.ensures.bytes c.put_gathered.ensures.cause)
