use Rattle.iri_resolve.proofs.Schemes.{begins_with_scheme-HasScheme}
use Rattle.iri_resolve.proofs.scheme.has_scheme.Goals as goal

pub returns : goal.returns
returns c = rw (c.begins_with_scheme.ensures, c.as_bytes.ensures.value) (begins_with_scheme-HasScheme c.args.text.now)
