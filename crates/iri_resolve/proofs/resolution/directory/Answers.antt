use Rattle.std.proofs.Common.{◌≡◌, ◌+◌, ◌-◌, lit<, arith}
use Rattle.std.proofs.lemmas.Str.Pattern.{rfind_char}
use Rattle.iri_resolve.proofs.Targets.{up_to_last_slash-found, up_to_last_slash-none}
use Rattle.iri_resolve.proofs.resolution.directory.Goals as goal

pub returns-in-Some : goal.returns-in-Some
returns-in-Some c =
    let text = c.args.path.now in
    let h = rw c.in-Some.is at (rfind_char 47 text c.rfind.result c.rfind.ensures.cases (lit< tt)) in
    let n : c.in-Some.end + 1 - 0 ≡ c.in-Some.end + 1 = omega arith in
    rw (c.range.ensures.value, n) (up_to_last_slash-found text c.in-Some.end h.0 h.1 h.2)

pub returns-in-None : goal.returns-in-None
returns-in-None c =
    let text = c.args.path.now in
    up_to_last_slash-none text (rw c.in-None.is at (rfind_char 47 text c.rfind.result c.rfind.ensures.cases (lit< tt)))
