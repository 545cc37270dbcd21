use Rattle.rdfc_cli.specs.Answers.{seen, Answers}
use Rattle.rdfc_cli.specs.Notes.{IsNoted}
use Rattle.rdfc_cli.specs.Words.{file_word}
use Rattle.rdfc_cli.proofs.CommandWords.{of_request, good_base_of_request}
use Rattle.rdfc_cli.proofs.commands.run.Goals as goal

pub returns-in-Some-clause-answer : goal.returns-in-Some-clause-answer
returns-in-Some-clause-answer g c =
    of_request _ c.in-Some.request (λ command settings syntax. Answers g.K.Sink.taken g.K.Sink.faults
    (seen syntax g.S.Shelf.told g.S.Shelf.faults c.args.shelf.now c.execute-status.new.shelf) command settings c.args.out.now c.execute-status.new.out
    c.execute-status.result) c.in-Some.ensures.some c.execute-status.ensures

pub returns-in-Some-clause-note : goal.returns-in-Some-clause-note
returns-in-Some-clause-note g c =
    of_request _ c.in-Some.request (λ command settings syntax. IsNoted g.N.Sink.taken g.N.Sink.faults c.args.notes.now c.put_note.new.notes
    (file_word command) c.execute-status.result) c.in-Some.ensures.some c.put_note.ensures

pub execute-status-requires-clause-base : goal.execute-status-requires-clause-base
execute-status-requires-clause-base g c = good_base_of_request _ c.in-Some.request c.in-Some.ensures.some
