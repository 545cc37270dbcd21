use Rattle.std.specs.Option.{option_copied}
use Rattle.rdfc_cli.proofs.dataset_file.document_of_trig.Goals as goal

pub returns-in-Ok-clause-stated : goal.returns-in-Ok-clause-stated
returns-in-Ok-clause-stated c within = record {
  within = within;
  reads = c.in-Ok.ensures.ok;
  few = c.in-Ok.ensures.within;
}

pub returns-in-Err-clause-fault : goal.returns-in-Err-clause-fault
returns-in-Err-clause-fault c within = c.refused_by_trig.ensures c.args.bytes.now (option_copied c.args.base) within c.in-Err.ensures.err
