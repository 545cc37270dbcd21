use Rattle.rdfc_cli.specs.Answers.{seen}
use Rattle.rdfc_cli.specs.Requests.{syntax_of}
use Rattle.rdfc_cli.proofs.Answering.{if_ok, if_err, written-work, stops-work, stops-file_fault}
use Rattle.rdfc_cli.proofs.commands.output_of_file.Goals as goal

pub returns-in-Ok-clause-output : goal.returns-in-Ok-clause-output
returns-in-Ok-clause-output g c =
    if_ok c.output_of_dataset.result
    (λ output o. written-work (seen (syntax_of c.args.syntax) g.S.Shelf.told g.S.Shelf.faults c.args.shelf.now c.read_dataset.new.shelf)
    c.args.file.now c.args.settings c.in-Ok.dataset c.in-Ok.ensures.accepted c.args.work output o)
    c.output_of_dataset.ensures.output

pub returns-in-Ok-clause-stops : goal.returns-in-Ok-clause-stops
returns-in-Ok-clause-stops g c =
    if_err c.output_of_dataset.result
    (λ status s. stops-work (seen (syntax_of c.args.syntax) g.S.Shelf.told g.S.Shelf.faults c.args.shelf.now c.read_dataset.new.shelf)
    c.args.file.now c.args.settings c.in-Ok.dataset c.in-Ok.ensures.accepted c.args.work status s)
    c.output_of_dataset.ensures.stops

pub returns-in-Err-clause-stops : goal.returns-in-Err-clause-stops
returns-in-Err-clause-stops g c =
    stops-file_fault (seen (syntax_of c.args.syntax) g.S.Shelf.told g.S.Shelf.faults c.args.shelf.now c.read_dataset.new.shelf)
    c.args.file.now c.args.settings c.args.work c.in-Err.fault c.status.result c.in-Err.ensures.fault c.status.ensures
