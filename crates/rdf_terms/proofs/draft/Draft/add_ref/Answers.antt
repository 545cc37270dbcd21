use Rattle.std.proofs.Common.{ap}
use Rattle.rdf_terms.specs.declared.ends.KnownEnds.{KnownEnds}
use Rattle.rdf_terms.specs.contracts.term.QuadPartialEq.TheImpl.{eq-value}
use Rattle.rdf_terms.proofs.Membership.{inserted, present, absent}
use Rattle.rdf_terms.proofs.SameTerm.{quads_tell}
use Rattle.rdf_terms.proofs.Adding.{Added-adds, told_new}
use Rattle.rdf_terms.proofs.KnownEnds.{known_now}
use Rattle.rdf_terms.proofs.draft.Draft.add_ref.Goals as goal

pub number_terms-requires-clause-subject : goal.number_terms-requires-clause-subject
number_terms-requires-clause-subject c = known_now _ _ _ (ap (λ (k : KnownEnds). k.subject) c.known_ends_of-known.ensures)

pub number_terms-requires-clause-object : goal.number_terms-requires-clause-object
number_terms-requires-clause-object c = known_now _ _ _ (ap (λ (k : KnownEnds). k.object) c.known_ends_of-known.ensures)

pub invariant_of-self-in-Ok-insert : goal.invariant_of-self-in-Ok-insert
invariant_of-self-in-Ok-insert c =
    (Added-adds _ _ _ _ _ _ _ c.self.invariant c.number_terms.ensures.extends c.in-Ok.ensures.distinct c.in-Ok.ensures.numbers (rw (← c.self.view_is) at c.requires.valid)
    (rw (← c.self.view_is) at c.requires.room)
    (inserted eq-value.it quads_tell _ _ c.in-Ok.quad c.in-Ok-insert.ensures.keys)).draft

pub returns-clause-adds : goal.returns-clause-adds
returns-clause-adds c =
    rw (← c.self.view_is)
    (Added-adds _ _ _ _ _ _ _ c.self.invariant c.number_terms.ensures.extends c.in-Ok.ensures.distinct c.in-Ok.ensures.numbers (rw (← c.self.view_is) at c.requires.valid)
    (rw (← c.self.view_is) at c.requires.room)
    (inserted eq-value.it quads_tell _ _ c.in-Ok.quad c.in-Ok-insert.ensures.keys)).adds

pub returns-clause-new : goal.returns-clause-new
returns-clause-new c =
    rw (← c.self.view_is) (told_new _ _ _ _ _ _ _
    (Added-adds _ _ _ _ _ _ _ c.self.invariant c.number_terms.ensures.extends c.in-Ok.ensures.distinct c.in-Ok.ensures.numbers (rw (← c.self.view_is) at c.requires.valid)
    (rw (← c.self.view_is) at c.requires.room)
    (inserted eq-value.it quads_tell _ _ c.in-Ok.quad c.in-Ok-insert.ensures.keys))
    _ _ c.in-Ok-insert.ensures.added (present eq-value.it quads_tell c.in-Ok.quad c.self.inside.quads.keys) (absent eq-value.it quads_tell c.in-Ok.quad c.self.inside.quads.keys))
