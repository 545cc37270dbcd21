use Rattle.std.proofs.Common.{◌≡◌, Bool, ◌||◌, false, sym, ap, ◌∙◌, is_some, subst, refl, length, nat_eq}
use Rattle.iri_resolve.specs.Components.{Components}
use Rattle.iri_resolve.specs.Parts.{components_of}
use Rattle.iri_resolve.specs.Resolution.{begins_with_slash}
use Rattle.iri_resolve.specs.PlainPaths.{IsDotless}
use Rattle.iri_resolve.proofs.Dotless.{not_true}
use Rattle.iri_resolve.proofs.Openings.{plain}
use Rattle.iri_resolve.proofs.Targets.{is_some-option_copied}
use Rattle.iri_resolve.proofs.base.is_plain.Goals as goal

abbrev owns : Components → Bool
owns t = is_some t.scheme || (is_some t.authority || begins_with_slash t.path)

pub returns-then-not-is_empty : goal.returns-then-not-is_empty
returns-then-not-is_empty c =
    let parts = sym c.split-parts.ensures in
    let found = components_of c.split-parts.result in
    let not_own : owns found ≡ false =
    rw (is_some-option_copied c.split-parts.result.scheme _ refl, is_some-option_copied c.split-parts.result.authority _ refl) (sym c.has_own_path.ensures ∙ c.if-has_own_path.false) in
    λ none. plain c.args.reference.now
    (ap owns parts ∙ not_own)
    (ap (λ (t : Components). is_some t.query) parts ∙ is_some-option_copied _ _ c.is_some.ensures ∙ c.if-is_some.false)
    (ap (λ (t : Components). is_some t.fragment) parts ∙ is_some-option_copied _ _ c.is_some-else-is_some.ensures ∙ c.if-is_some-2.false)
    (ap (λ (t : Components). nat_eq (length t.path) 0) parts ∙ sym c.is_empty.ensures ∙ c.if-not-is_empty.true)
    (subst (λ (t : Components). IsDotless t.path) (sym parts) (c.has_dot_segment.ensures (not_true c.has_dot_segment.result none)))
