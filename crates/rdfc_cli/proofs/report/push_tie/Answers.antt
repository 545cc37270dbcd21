use Rattle.std.proofs.Common.{subst}
use Rattle.rdf_terms.specs.Lists.{In}
use Rattle.rdfc_cli.proofs.report.push_tie.Goals as goal

pub push_list-requires : goal.push_list-requires
push_list-requires c = λ n i. c.requires.canon n (subst (λ l. In n l) c.as_slice.ensures i)

pub push_list-requires-2 : goal.push_list-requires-2
push_list-requires-2 c = λ n i. c.requires.left n (subst (λ l. In n l) c.as_slice-2.ensures i)

pub push_list-requires-3 : goal.push_list-requires-3
push_list-requires-3 c = λ n i. c.requires.right n (subst (λ l. In n l) c.as_slice-3.ensures i)
