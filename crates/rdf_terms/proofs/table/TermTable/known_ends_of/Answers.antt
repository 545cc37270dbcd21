use Rattle.std.proofs.Common.{ap, ◌∙◌}
use Rattle.rdf_terms.specs.Ends.{known_in, places_in}
use Rattle.rdf_terms.proofs.HashedTerms.{known_is}
use Rattle.rdf_terms.proofs.table.TermTable.known_ends_of.Goals as goal

pub returns : goal.returns
returns c =
    let hs = c.self.inside.terms.keys in
    c.find.ensures ∙ ap (places_in hs) c.new.ensures ∙ known_is c.self.inside.keys hs c.self.invariant.2 c.args.quad.now ∙ ap (λ ts. known_in ts c.args.quad.now) c.self.view_is
