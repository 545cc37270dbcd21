use Rattle.std.proofs.Common.{subst}
use Rattle.rdf_terms.proofs.Common.{AreDistinct, statement}
use Rattle.dataset_index.proofs.Building.{AreDistinct-from_map}
use Rattle.dataset_index.proofs.dataset.Dataset.quads.Goals as goal

pub returns-clause-distinct : goal.returns-clause-distinct
returns-clause-distinct c =
    subst (λ d. AreDistinct d.quads) c.self.view_is (AreDistinct-from_map (statement c.self.inside.lexicon.terms) c.self.inside.quads.items c.self.invariant.document.draft.distinct)
