use Rattle.std.proofs.Common.{lit<}
use Rattle.std.proofs.lemmas.Str.Pattern.{rfind_char}
use Rattle.iri_resolve.proofs.Turns.{last_place, no_last_place}
use Rattle.iri_resolve.proofs.dots.drop_last_segment.Goals as goal

pub returns-in-Some : goal.returns-in-Some
returns-in-Some c =
    let text = c.as_str.result.now in
    let h = rw c.in-Some.is at (rfind_char 47 text c.rfind.result c.rfind.ensures.cases (lit< tt)) in
    rw (c.truncate.ensures.bytes, ← c.as_str.ensures.value) (last_place text c.in-Some.end h.0 h.1 h.2)

pub returns-in-None : goal.returns-in-None
returns-in-None c =
    let text = c.as_str.result.now in
    let h = rw c.in-None.is at (rfind_char 47 text c.rfind.result c.rfind.ensures.cases (lit< tt)) in
    rw (c.clear.ensures.bytes, ← c.as_str.ensures.value) (no_last_place text h)
