use Rattle.std.proofs.Common.{◌<◌, All, Some, sym, ap, ◌∙◌, subst}
use Rattle.rdf_terms.proofs.Common.{place_of, each-from_All, AreDistinct-from_IsDistinct, length-distinct_below}
use Rattle.id_issuer.specs.IssuedList.{list_with}
use Rattle.id_issuer.proofs.Places.{place_of-insert_key, insert_key-list_with, All-insert_key}
use Rattle.rdf_terms.specs.declared.limits.TheConstants.{MOST_NUMBERS}
use Rattle.id_issuer.proofs.issuer.Issuer.issue.Goals as goal

pub invariant_of-self-2 : goal.invariant_of-self-2
invariant_of-self-2 c =
    let below = subst (All (λ k. k < MOST_NUMBERS)) (sym c.in_ok-place.ensures.keys) (All-insert_key MOST_NUMBERS c.self.inside.nodes.keys c.args.node c.requires c.self.invariant.1) in (
      length-distinct_below c.insert_full.new.self.keys MOST_NUMBERS (AreDistinct-from_IsDistinct _ c.insert_full.ensures.unique)
          (λ n. each-from_All (λ k. k < MOST_NUMBERS) c.insert_full.new.self.keys n below),
      below,
    )

pub returns-clause-place : goal.returns-clause-place
returns-clause-place c =
    ap (λ ks. place_of ks c.args.node) c.in_ok-place.ensures.keys ∙ place_of-insert_key c.self.inside.nodes.keys c.args.node ∙ ap Some (sym c.in_ok-place.ensures.index)

pub returns-clause-list : goal.returns-clause-list
returns-clause-list c =
    c.in_ok-place.ensures.keys ∙ insert_key-list_with c.self.inside.nodes.keys c.args.node ∙ ap (λ v. list_with v.list c.args.node) c.self.view_is
