use Rattle.std.proofs.Common.{sym, ap, ◌∙◌}
use Rattle.rdf_terms.specs.CanonicalForm.{place_of}
use Rattle.id_issuer.proofs.Places.{place_of-position}
use Rattle.id_issuer.proofs.issuer.Issuer.id_of.Goals as goal

pub returns : goal.returns
returns c = c.in_ok-place.ensures.index ∙ sym (place_of-position c.self.inside.nodes.keys c.args.node) ∙ ap (λ v. place_of v.list c.args.node) c.self.view_is

pub returns-in_err-place : goal.returns-in_err-place
returns-in_err-place c =
    c.from_residual.ensures ∙ c.in_err-place.ensures.index ∙ sym (place_of-position c.self.inside.nodes.keys c.args.node) ∙ ap (λ v. place_of v.list c.args.node) c.self.view_is
