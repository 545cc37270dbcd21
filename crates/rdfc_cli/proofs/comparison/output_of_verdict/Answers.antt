use Rattle.std.proofs.Common.{length, subst}
use Rattle.rdf_terms.specs.Lists.{In}
use Rattle.rdfc_cli.specs.Forms.{HasNodesBelow}
use Rattle.rdfc_cli.proofs.comparison.output_of_verdict.Goals as goal

pub text_of_pairs-requires : goal.text_of_pairs-requires
text_of_pairs-requires c = λ p i. subst (HasNodesBelow (length c.args.labels.now) (length c.args.others.now)) c.in-Same.is c.requires p (subst (In p) c.as_slice.ensures i)
