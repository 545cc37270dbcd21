use Rattle.std.proofs.Common.{◌≡◌, length, ap, sym, ◌∙◌, subst, arith}
use Rattle.dataset_index.specs.QuadOrder.{Ascend}
use Rattle.map_search.specs.Index.{kept}
use Rattle.lean_search.proofs.Ending.{Ascend-kept}
use Rattle.lean_search.proofs.search.triples_left.Goals as goal

pub kept_quads-requires : goal.kept_quads-requires
kept_quads-requires c = (let e : length c.quads.result.now ≡ length c.args.graph.now.quads = ap length c.quads.ensures.quads in let b = c.requires.document.draft.quads_bound in omega arith)

pub returns-clause-quads : goal.returns-clause-quads
returns-clause-quads c = c.new.ensures ∙ (c.in_ok-kept_quads.ensures ∙ ap (λ qs. kept qs c.args.index.now.live) c.quads.ensures.quads)

pub returns-clause-ascend : goal.returns-clause-ascend
returns-clause-ascend c = subst Ascend (sym (returns-clause-quads c)) (Ascend-kept c.args.graph.now.quads c.args.index.now.live c.quads.ensures.ascend)
