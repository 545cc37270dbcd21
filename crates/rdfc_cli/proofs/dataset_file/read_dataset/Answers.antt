use Rattle.rdfc_cli.specs.Requests.{syntax_of}
use Rattle.rdfc_cli.proofs.Reading.{accepted_as_told}
use Rattle.rdfc_cli.proofs.dataset_file.read_dataset.Goals as goal

pub returns-clause-accepted : goal.returns-clause-accepted
returns-clause-accepted g c =
    accepted_as_told _ _ c.in_ok-parsed.parsed c.dataset_of_document.result c.in_ok-parsed.ensures.stated (c.dataset_of_document.ensures.accepted (syntax_of c.args.syntax))
