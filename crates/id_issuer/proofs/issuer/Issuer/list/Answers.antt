use Rattle.std.proofs.Common.{ap, subst}
use Rattle.rdf_terms.proofs.Common.{AreDistinct, AreDistinct-from_IsDistinct}
use Rattle.id_issuer.proofs.issuer.Issuer.list.Goals as goal

pub returns-clause-distinct : goal.returns-clause-distinct
returns-clause-distinct c = subst AreDistinct (ap (λ v. v.list) c.self.view_is) (AreDistinct-from_IsDistinct c.self.inside.nodes.keys c.as_slice.ensures.unique)
