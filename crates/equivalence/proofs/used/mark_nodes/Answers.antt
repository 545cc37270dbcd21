use Rattle.std.proofs.Common.{◌≡◌, take, sym, ap, ◌∙◌, arith}
use Rattle.std.specs.List.{list_any}
use Rattle.std.proofs.lemmas.List.{take_all}
use Rattle.rdf_terms.proofs.Common.{mentions, statement, In-get_or}
use Rattle.map_search.specs.Index.{no_quad}
use Rattle.equivalence.proofs.Using.{mentioned-IsUsed}
use Rattle.equivalence.proofs.used.mark_nodes.Goals as goal

pub mark_ends-requires-clause-there : goal.mark_ends-requires-clause-there
mark_ends-requires-clause-there c = c.requires.there _ (In-get_or c.args.triples.now c.loop-triple.triple-index no_quad c.loop-triple-test.true)

pub returns : goal.returns
returns c k =
    let used = mentioned-IsUsed c.args.graph.now c.args.triples.now k in
    let all : take c.loop-triple.triple-index c.args.triples.now ≡ c.args.triples.now = take_all c.loop-triple.triple-index c.args.triples.now (let n = c.loop-triple-test.false in omega arith) in
    let e = c.loop-triple.invariant.marks k ∙ ap (list_any (λ q. mentions k (statement c.args.graph.now.terms q))) all in
    ((λ m. used.0 (sym e ∙ m)), λ u. e ∙ used.1 u)
