use Rattle.std.proofs.Common.{map}
use Rattle.rdf_terms.specs.References.{statement_of}
use Rattle.rdf_terms.proofs.AddingAll.{added_all, all_valid, same_room}
use Rattle.rdf_terms.proofs.draft.Draft.add_all.Goals as goal

pub invariant_of-self-in-Ok-insert_all : goal.invariant_of-self-in-Ok-insert_all
invariant_of-self-in-Ok-insert_all c =
    (added_all c.self.inside.labels.keys _ _ _ _ (map statement_of c.args.quads.now) c.in-Ok.numbered.items c.self.invariant c.in-Ok.ensures.numbers
    (rw c.deref.ensures.value at c.in-Ok-insert_all.ensures.adds)
    (all_valid c.self.inside.labels.keys c.args.quads.now (rw (← c.self.view_is) at c.requires.valid))
    (same_room c.self.inside.quads.keys c.args.quads.now (rw (← c.self.view_is) at c.requires.room))).draft

pub returns-clause-adds : goal.returns-clause-adds
returns-clause-adds c =
    rw (← c.self.view_is)
    (added_all c.self.inside.labels.keys _ _ _ _ (map statement_of c.args.quads.now) c.in-Ok.numbered.items c.self.invariant c.in-Ok.ensures.numbers
    (rw c.deref.ensures.value at c.in-Ok-insert_all.ensures.adds)
    (all_valid c.self.inside.labels.keys c.args.quads.now (rw (← c.self.view_is) at c.requires.valid))
    (same_room c.self.inside.quads.keys c.args.quads.now (rw (← c.self.view_is) at c.requires.room))).adds
