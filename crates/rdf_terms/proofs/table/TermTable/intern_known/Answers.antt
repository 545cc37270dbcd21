use Rattle.std.proofs.Common.{refl, inl}
use Rattle.rdf_terms.proofs.Membership.{In-at}
use Rattle.rdf_terms.proofs.table.TermTable.intern_known.Goals as goal

pub returns-in-Some-clause-ok : goal.returns-in-Some-clause-ok
returns-in-Some-clause-ok c =
    let at = rw c.in-Some.is at c.requires.known in
    record { at = at; adds = inl (refl, In-at _ c.in-Some.number _ at) }
