use Rattle.std.proofs.Common.{◌≡◌, ℕ, All, false, string_bytes, sym, ap, ◌∙◌, subst, refl}
use Rattle.rdf_terms.proofs.Common.{Text, HasScheme, is_excluded}
use Rattle.iri_resolve.specs.Resolution.{resolved}
use Rattle.iri_resolve.proofs.Allowed.{All-resolved}
use Rattle.iri_resolve.proofs.ResolvedSchemes.{resolved-HasScheme}
use Rattle.iri_resolve.proofs.base.Base.turn_to.Goals as goal

abbrev Allowed : ℕ → Type 0
Allowed b = is_excluded b ≡ false

-- the base now, by the text before
turned : (old new base reference : Text) → new ≡ resolved old reference → old ≡ base → new ≡ resolved base reference
turned old new base reference is same = is ∙ ap (λ t. resolved t reference) same

pub returns-then-is_plain-clause-scheme : goal.returns-then-is_plain-clause-scheme
returns-then-is_plain-clause-scheme c =
    let is = turned (string_bytes c.self.inside.text) (string_bytes c.put_behind.new.base) c.args.self.now c.args.reference.now c.in_ok-put_behind.ensures.is c.self.view_is in
    subst HasScheme (sym is) (resolved-HasScheme c.args.self.now c.args.reference.now c.requires)

pub returns-then-is_plain-clause-allowed : goal.returns-then-is_plain-clause-allowed
returns-then-is_plain-clause-allowed c =
    let is = turned (string_bytes c.self.inside.text) (string_bytes c.put_behind.new.base) c.args.self.now c.args.reference.now c.in_ok-put_behind.ensures.is c.self.view_is in
    λ base reference. subst (All Allowed) (sym is) (All-resolved Allowed refl refl refl refl c.args.self.now c.args.reference.now base reference)
