use Rattle.std.proofs.Common.{Some, None, refl, ◌∙◌, sym, inl, inr}
use Rattle.outside.proofs.NamedFiles.{placed, starts}
use Rattle.outside.proofs.memory_shelf.MemShelfShelf.start.Goals as goal
use Rattle.outside.proofs.memory_shelf.MemShelfShelf.start.Goals.{in_default-via-in-Some+else-not-fails, in_default-via-in_default}

pub returns-in-Some-clause-fails : goal.returns-in-Some-clause-fails
returns-in-Some-clause-fails c =
    let there = placed c.self.inside.files.items c.deref.result.now c.args.name.now (Some c.in-Some.file) c.deref.ensures.value c.in-Some.ensures in
    rw (← c.self.view_is)
    (λ never. cc, λ fails. absurd (starts c.self.inside.calls _ c.args.name.now c.count-fails.result c.in-Some.file c.count-fails.ensures.fails.1 c.if-not-fails.true there fails))

pub returns-in-Some-clause-ok : goal.returns-in-Some-clause-ok
returns-in-Some-clause-ok c =
    let there = placed c.self.inside.files.items c.deref.result.now c.args.name.now (Some c.in-Some.file) c.deref.ensures.value c.in-Some.ensures in
    rw (← c.self.view_is, there.at, there.told, c.count-fails.ensures.counted) refl

pub returns-in_default-clause-fails : goal.returns-in_default-clause-fails
returns-in_default-clause-fails c =
    rw (← c.self.view_is) (
      λ _. elim c.in_default.branch [
        | in_default-via-in-Some+else-not-fails w ↦ inl (c.count-fails.ensures.fails.0 w.if-not-fails.false)
        | in_default-via-in_default w ↦ inr (placed c.self.inside.files.items c.deref.result.now c.args.name.now None c.deref.ensures.value (sym w.in_default.is ∙ c.place_of-place.ensures))
      ],
      λ _. refl,
    )
