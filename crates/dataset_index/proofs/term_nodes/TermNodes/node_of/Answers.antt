use Rattle.std.proofs.Common.{◌<◌, length, get_or, ap, sym, ◌∙◌, subst}
use Rattle.std.proofs.lemmas.List.{get_or-map}
use Rattle.rdf_terms.specs.Document.{term_at}
use Rattle.rdf_terms.specs.declared.term.Term.TheVariants.{Blank}
use Rattle.dataset_index.specs.Mentions.{node_in}
use Rattle.dataset_index.specs.HeldNodes.{held_for, node_held}
use Rattle.dataset_index.proofs.HeldNodes.{node_held-at}
use Rattle.dataset_index.proofs.term_nodes.TermNodes.node_of.Goals as goal

pub returns : goal.returns
returns c =
    let terms = c.self.inside.terms.now in
    let held = c.index.result.now in
    let within = subst (λ ts. c.args.number < length ts) (sym c.self.view_is) c.requires in
    c.node_of_number.ensures
    ∙ ap node_held (c.index.ensures ∙ ap (λ hs. get_or hs c.args.number held) c.self.invariant.0 ∙ get_or-map held_for terms c.args.number (Blank 0) held within)
    ∙ node_held-at terms c.args.number c.self.invariant.1 within
    ∙ ap (λ ts. node_in (term_at ts c.args.number)) c.self.view_is
