use Rattle.std.proofs.Common.{◌↔◌, IsTrue, sym, subst}
use Rattle.rdf_terms.proofs.Common.{In, AreDistinct, IsDocument}
use Rattle.dataset_index.specs.QuadOrder.{Ascend}
use Rattle.dataset_index.proofs.Searching.{found}
use Rattle.dataset_index.proofs.Building.{has_statement}
use Rattle.dataset_index.proofs.dataset.Dataset.has.Goals as goal

pub returns-clause-quad : goal.returns-clause-quad
returns-clause-quad c =
    subst (λ d. IsTrue c.is_ok.result ↔ In c.args.quad d.quads) c.self.view_is
    (subst (λ qs. IsTrue c.is_ok.result ↔ In c.args.quad qs) c.as_slice.ensures.value
    (found c.as_slice.result.now c.args.quad c.binary_search.result
    (subst Ascend (sym c.as_slice.ensures.value) c.self.invariant.ascend) c.binary_search.ensures.bound c.binary_search.ensures.position c.is_ok.result c.is_ok.ensures.value))

pub returns-clause-statement : goal.returns-clause-statement
returns-clause-statement c =
    has_statement c.args.self.now c.args.quad c.is_ok.result (subst (λ d. AreDistinct d.terms) c.self.view_is c.self.invariant.distinct_terms)
    (subst IsDocument c.self.view_is c.self.invariant.document) (returns-clause-quad c)
