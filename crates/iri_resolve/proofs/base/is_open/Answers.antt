use Rattle.std.proofs.Common.{sym, ap, ◌∙◌, is_some, subst}
use Rattle.std.specs.List.{list_any}
use Rattle.rdf_terms.specs.Lists.{Text}
use Rattle.iri_resolve.specs.Components.{Components}
use Rattle.iri_resolve.specs.PlainPaths.{IsDotless}
use Rattle.iri_resolve.proofs.Dotless.{is_slash, not_true}
use Rattle.iri_resolve.proofs.Openings.{opens}
use Rattle.iri_resolve.proofs.Targets.{is_some-option_copied}
use Rattle.iri_resolve.proofs.base.is_open.Goals as goal

pub returns-then-contains : goal.returns-then-contains
returns-then-contains c =
    let parts = sym c.split-parts.ensures in
    λ none. opens c.args.base.now c.requires
    (ap (λ (t : Components). is_some t.query) parts ∙ is_some-option_copied _ _ c.is_some.ensures ∙ c.if-is_some.false)
    (ap (λ (t : Components). is_some t.fragment) parts ∙ is_some-option_copied _ _ c.is_some-else-is_some.ensures ∙ c.if-is_some-2.false)
    (ap (λ (t : Components). list_any is_slash t.path) parts ∙ ap (λ (t : Text). list_any is_slash t) (sym c.as_bytes.ensures.value) ∙ sym c.contains.ensures.value ∙ c.if-contains.true)
    (subst (λ (t : Components). IsDotless t.path) (sym parts) (c.has_dot_segment.ensures (not_true c.has_dot_segment.result none)))
