use Rattle.std.proofs.Common.{◌≡◌, Some, sym, arith}
use Rattle.std.specs.Prelude.{slice_get}
use Rattle.std.proofs.lemmas.Option.{slice_get_within, get_or_from_slice_get}
use Rattle.std.proofs.lemmas.Str.{IsCharBoundary-after_ascii}
use Rattle.terminals.proofs.fronts.after.Goals as goal

pub range_from-requires : goal.range_from-requires
range_from-requires c = λ _.
    let text = c.args.text.now in
    let front : slice_get text 0 ≡ Some c.in-Some.first.now = sym (rw c.as_bytes.ensures.value at c.in-Some.ensures.value) in
    IsCharBoundary-after_ascii text 0 c.utf8.text (slice_get_within text 0 _ front) (omega (arith, get_or_from_slice_get text 0 _ 0 front))
