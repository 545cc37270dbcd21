use Rattle.std.proofs.Common.{lit<}
use Rattle.std.proofs.lemmas.Str.Pattern.{rfind_char}
use Rattle.iri_resolve.proofs.OpenBases.{put-resolved, put-open, slash-in_open}
use Rattle.iri_resolve.proofs.base.put_behind.Goals as goal

pub unreachable-requires : goal.unreachable-requires
unreachable-requires c =
    let text = c.as_str.result.now in
    slash-in_open text (rw c.as_str.ensures.value c.requires.is_open) (rw c.in_default.is at (rfind_char 47 text c.rfind.result c.rfind.ensures.cases (lit< tt)))

pub returns-clause-is : goal.returns-clause-is
returns-clause-is c =
    let text = c.as_str.result.now in
    let h = rw c.in-Some.is at (rfind_char 47 text c.rfind.result c.rfind.ensures.cases (lit< tt)) in
    rw (c.in_ok-push_str.ensures.bytes, c.truncate.ensures.bytes, ← c.as_str.ensures.value)
    (put-resolved text c.args.reference.now (rw c.as_str.ensures.value c.requires.is_open) c.requires.plain c.in-Some.end h.0 h.1 h.2)

pub returns-clause-stays_open : goal.returns-clause-stays_open
returns-clause-stays_open c =
    let text = c.as_str.result.now in
    let h = rw c.in-Some.is at (rfind_char 47 text c.rfind.result c.rfind.ensures.cases (lit< tt)) in
    rw (c.in_ok-push_str.ensures.bytes, c.truncate.ensures.bytes, ← c.as_str.ensures.value)
    (put-open text c.args.reference.now (rw c.as_str.ensures.value c.requires.is_open) c.requires.plain c.in-Some.end h.0 h.1 h.2)
