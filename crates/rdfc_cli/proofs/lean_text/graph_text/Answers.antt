use Rattle.rdfc_cli.proofs.Leaning.{may_be_written}
use Rattle.rdfc_cli.proofs.lean_text.graph_text.Goals as goal

pub write_sorted-requires-clause-in_range : goal.write_sorted-requires-clause-in_range
write_sorted-requires-clause-in_range c = may_be_written c.args.graph.now c.requires.0 c.args.form.now c.requires.1 _ _ c.quads-quads.ensures.in_range c.terms.ensures.terms c.as_slice.ensures
