use Rattle.rdfc_cli.proofs.dataset_file.document_of_lines.Goals as goal

pub returns-in-Ok-clause-stated : goal.returns-in-Ok-clause-stated
returns-in-Ok-clause-stated c bytes within stands = record {
  within = within;
  reads = c.in-Ok.ensures.ok bytes stands;
  few = c.in-Ok.ensures.within;
}

pub returns-in-Err-clause-fault : goal.returns-in-Err-clause-fault
returns-in-Err-clause-fault c bytes within stands = c.refused_by_lines.ensures bytes within (c.in-Err.ensures.err bytes stands)
