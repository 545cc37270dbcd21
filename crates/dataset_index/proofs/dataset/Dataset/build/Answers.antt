use Rattle.std.proofs.Common.{◌<◌, ◌≤◌, All, length, subst, sym}
use Rattle.std.proofs.lemmas.List.Elements.{All-weaker}
use Rattle.rdf_terms.specs.Document.{IsInRange}
use Rattle.rdf_terms.specs.declared.limits.TheConstants.{MOST_QUADS}
use Rattle.dataset_index.proofs.Building.{IsDocument-with_quads, quads_permuted, statements_permuted}
use Rattle.dataset_index.proofs.dataset.Dataset.build.Goals as goal

pub in_order-requires-clause-subjects : goal.in_order-requires-clause-subjects
in_order-requires-clause-subjects c =
    subst (λ n. All (λ q. q.s < n) c.quads.result.now) (sym c.len-terms.ensures.len)
    (subst (λ ts. All (λ q. q.s < length ts) c.quads.result.now) (sym c.terms.ensures)
    (subst (All (λ q. q.s < length c.args.parsed.terms)) (sym c.quads.ensures.quads)
    (All-weaker (IsInRange c.args.parsed.terms) (λ q. q.s < length c.args.parsed.terms) (λ q r. r.s) c.args.parsed.quads c.quads.ensures.document.draft.in_range)))

pub in_order-requires-clause-bound : goal.in_order-requires-clause-bound
in_order-requires-clause-bound c = subst (λ qs. length qs ≤ MOST_QUADS) (sym c.quads.ensures.quads) c.quads.ensures.document.draft.quads_bound

pub without_nodes-requires-clause-document : goal.without_nodes-requires-clause-document
without_nodes-requires-clause-document c =
    IsDocument-with_quads c.args.parsed _ _ c.quads.ensures.quads c.in_ok-quads.ensures.permutes c.into_lexicon-lexicon.result c.into_lexicon-lexicon.ensures c.quads.ensures.document

pub with_nodes-requires-clause-document : goal.with_nodes-requires-clause-document
with_nodes-requires-clause-document c =
    IsDocument-with_quads c.args.parsed _ _ c.quads.ensures.quads c.in_ok-quads.ensures.permutes c.into_lexicon-lexicon.result c.into_lexicon-lexicon.ensures c.quads.ensures.document

pub returns-then-is_empty-clause-quads : goal.returns-then-is_empty-clause-quads
returns-then-is_empty-clause-quads c =
    quads_permuted c.args.parsed _ _ c.quads.ensures.quads c.in_ok-quads.ensures.permutes c.into_lexicon-lexicon.result c.into_lexicon-lexicon.ensures c.without_nodes.result c.without_nodes.ensures

pub returns-else-is_empty-clause-quads : goal.returns-else-is_empty-clause-quads
returns-else-is_empty-clause-quads c =
    quads_permuted c.args.parsed _ _ c.quads.ensures.quads c.in_ok-quads.ensures.permutes c.into_lexicon-lexicon.result c.into_lexicon-lexicon.ensures c.with_nodes.result c.with_nodes.ensures

pub returns-then-is_empty-clause-statements : goal.returns-then-is_empty-clause-statements
returns-then-is_empty-clause-statements c =
    statements_permuted c.args.parsed _ _ c.quads.ensures.quads c.in_ok-quads.ensures.permutes c.into_lexicon-lexicon.result c.into_lexicon-lexicon.ensures c.without_nodes.result
    c.without_nodes.ensures

pub returns-else-is_empty-clause-statements : goal.returns-else-is_empty-clause-statements
returns-else-is_empty-clause-statements c =
    statements_permuted c.args.parsed _ _ c.quads.ensures.quads c.in_ok-quads.ensures.permutes c.into_lexicon-lexicon.result c.into_lexicon-lexicon.ensures c.with_nodes.result c.with_nodes.ensures
