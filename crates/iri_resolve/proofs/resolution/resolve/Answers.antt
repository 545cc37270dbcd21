use Rattle.std.proofs.Common.{◌≡◌, ◌∙◌, sym, ap, subst, All, ℕ, false, refl}
use Rattle.std.proofs.lemmas.Result.{IfOk-weaker}
use Rattle.rdf_terms.proofs.Common.{Text, HasScheme, is_excluded}
use Rattle.iri_resolve.specs.Components.{Components, components}
use Rattle.iri_resolve.specs.Resolution.{target, recomposed, resolved}
use Rattle.iri_resolve.proofs.Allowed.{All-resolved}
use Rattle.iri_resolve.proofs.ResolvedSchemes.{resolved-HasScheme}
use Rattle.iri_resolve.proofs.resolution.resolve.Goals as goal

-- the text that is copied, by the steps that made it
made : (base reference : Text) (b r t : Components) (text copied : Text) → copied ≡ text → text ≡ recomposed t → t ≡ target b r → b ≡ components base → r ≡ components reference
    → copied ≡ resolved base reference
unfolding resolved
made base reference b r t text copied c m is of_base of_reference = c ∙ m ∙ ap recomposed (is ∙ (λ i. target (of_base i) (of_reference i)))

pub returns-clause-is : goal.returns-clause-is
returns-clause-is c =
    IfOk-weaker c.copy.result _ _
    (λ iri same. same ∙ made c.args.base.now c.args.reference.now _ _ _ _ _ c.as_str-2.ensures.value c.in_ok-text.ensures c.target-target.ensures c.split-base.ensures c.split-reference.ensures)
    c.copy.ensures

pub returns-clause-scheme : goal.returns-clause-scheme
returns-clause-scheme c =
    let is = made c.args.base.now c.args.reference.now _ _ _ _ _ c.as_str-2.ensures.value c.in_ok-text.ensures c.target-target.ensures c.split-base.ensures c.split-reference.ensures in
    IfOk-weaker c.copy.result _ HasScheme (λ iri same. subst HasScheme (sym (same ∙ is)) (resolved-HasScheme c.args.base.now c.args.reference.now c.requires)) c.copy.ensures

abbrev Allowed : ℕ → Type 0
Allowed b = is_excluded b ≡ false

pub returns-clause-allowed : goal.returns-clause-allowed
returns-clause-allowed c =
    let is = made c.args.base.now c.args.reference.now _ _ _ _ _ c.as_str-2.ensures.value c.in_ok-text.ensures c.target-target.ensures c.split-base.ensures c.split-reference.ensures in
    λ base reference.
    IfOk-weaker c.copy.result _ (All Allowed)
    (λ iri same. subst (All Allowed) (sym (same ∙ is)) (All-resolved Allowed refl refl refl refl c.args.base.now c.args.reference.now base reference)) c.copy.ensures
