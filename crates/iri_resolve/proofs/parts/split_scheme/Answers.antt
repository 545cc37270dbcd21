use Rattle.std.proofs.Common.{lit<, sym, ap, ◌∙◌}
use Rattle.iri_resolve.specs.Scheme.{begins_with_scheme}
use Rattle.iri_resolve.proofs.Schemes.{scheme_has_colon}
use Rattle.iri_resolve.proofs.parts.split_scheme.Goals as goal

pub returns-in-None-clause-scheme : goal.returns-in-None-clause-scheme
returns-in-None-clause-scheme c =
    absurd (scheme_has_colon c.args.text.now
    (ap begins_with_scheme (sym c.as_bytes.ensures.value) ∙ sym c.if-not-begins_with_scheme.ensures) (c.in-None.ensures.byte (lit< tt) (λ w o finds. finds)))

pub returns-in-None-clause-rest : goal.returns-in-None-clause-rest
returns-in-None-clause-rest c =
    absurd (scheme_has_colon c.args.text.now
    (ap begins_with_scheme (sym c.as_bytes.ensures.value) ∙ sym c.if-not-begins_with_scheme.ensures) (c.in-None.ensures.byte (lit< tt) (λ w o finds. finds)))
