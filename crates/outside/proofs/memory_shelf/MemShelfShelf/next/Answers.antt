use Rattle.outside.proofs.NamedFiles.{gives_piece}
use Rattle.outside.proofs.memory_shelf.MemShelfShelf.next.Goals as goal

pub returns-clause-bytes : goal.returns-clause-bytes
returns-clause-bytes c =
    rw (← c.self.view_is, c.in-Some.is) (gives_piece c.self.inside.files.items c.index-file.result.now c.deref.result.now c.in-Some.place.file c.in-Some.place.given _ c.self.inside.piece _
    c.index-file.ensures c.deref.ensures.value (c.self.invariant.1 c.in-Some.place c.in-Some.is) c.self.invariant.0 c.copy_front-amount.ensures.amount c.copy_front-amount.ensures.copied)
