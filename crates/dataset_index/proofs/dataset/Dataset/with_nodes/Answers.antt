use Rattle.std.proofs.Common.{◌≡◌, ◌<◌, ◌≤◌, Some, All, map, length, slice_get, sym, ap, ◌∙◌, subst}
use Rattle.rdf_terms.proofs.Common.{numbers_below, IsInRange, statement}
use Rattle.rdf_terms.specs.declared.term.Term.TheVariants.{Blank}
use Rattle.rdf_terms.specs.declared.limits.TheConstants.{MOST_QUADS}
use Rattle.dataset_index.specs.Mentions.{mention_places, AreMentions}
use Rattle.dataset_index.specs.NodeTerms.{NumbersNodes}
use Rattle.dataset_index.specs.HeldNodes.{AreNodesBelow}
use Rattle.dataset_index.specs.Indexed.{with_quads}
use Rattle.dataset_index.proofs.Building.{indexed, node_below, mentioned_below, AreNodesBelow-terms}
use Rattle.dataset_index.proofs.dataset.Dataset.with_nodes.Goals as goal

pub of-requires : goal.of-requires
of-requires c = subst AreNodesBelow (sym c.terms.ensures) (AreNodesBelow-terms _ c.requires.document)

pub node_terms-requires : goal.node_terms-requires
node_terms-requires c n k e =
    subst (λ ls. n < length ls) (sym c.labels-nodes.ensures)
    (node_below _ c.requires.document n k (subst (λ ts. slice_get ts k ≡ Some (Blank n)) (c.in_ok-term_nodes.ensures ∙ c.terms.ensures) e))

pub all_mentions-requires-clause-in_range : goal.all_mentions-requires-clause-in_range
all_mentions-requires-clause-in_range c =
    subst (λ ts. All (IsInRange ts) c.as_slice.result.now) (sym (c.in_ok-term_nodes.ensures ∙ c.terms.ensures))
    (subst (All (IsInRange c.args.lexicon.terms)) (sym c.as_slice.ensures.value) c.requires.document.draft.in_range)

pub all_mentions-requires-clause-bound : goal.all_mentions-requires-clause-bound
all_mentions-requires-clause-bound c = subst (λ qs. length qs ≤ MOST_QUADS) (sym c.as_slice.ensures.value) c.requires.document.draft.quads_bound

pub build-requires-clause-nodes : goal.build-requires-clause-nodes
build-requires-clause-nodes c =
    let quads = c.args.quads.items in
    let mentions = c.in_ok-mentions.mentions.items in
    subst (All (λ m. m.node < length c.labels-nodes.result.now)) (sym c.as_slice-2.ensures.value)
    (subst (λ ls. All (λ m. m.node < length ls) mentions) (sym c.labels-nodes.ensures)
    (mentioned_below (with_quads c.args.lexicon quads) mentions (length quads) c.requires.document
    (subst (λ ts. AreMentions (map (statement ts) quads) mentions (length quads)) (c.in_ok-term_nodes.ensures ∙ c.terms.ensures)
    (subst (λ qs. AreMentions (map (statement c.in_ok-term_nodes.term_nodes) qs) mentions (length qs)) c.as_slice.ensures.value c.in_ok-mentions.ensures.places))))

pub invariant_of-result : goal.invariant_of-result
invariant_of-result c =
    let quads = c.args.quads.items in
    let numbers = c.in_ok-node_terms.node_terms.items in
    let mentions = c.in_ok-mentions.mentions.items in
    indexed (with_quads c.args.lexicon quads) numbers mentions c.in_ok-index.index
    c.requires.distinct
    c.requires.document
    c.requires.ascend
    (c.in_ok-node_terms.ensures.count ∙ ap length c.labels-nodes.ensures)
    (subst (λ ts. NumbersNodes ts numbers (length ts)) (c.in_ok-term_nodes.ensures ∙ c.terms.ensures) c.in_ok-node_terms.ensures.numbers)
    (subst (λ ts. AreMentions (map (statement ts) quads) mentions (length quads)) (c.in_ok-term_nodes.ensures ∙ c.terms.ensures)
    (subst (λ qs. AreMentions (map (statement c.in_ok-term_nodes.term_nodes) qs) mentions (length qs)) c.as_slice.ensures.value c.in_ok-mentions.ensures.places))
    (c.in_ok-index.ensures ∙ ap (λ ns. map (mention_places ns) (numbers_below (length c.labels-nodes.result.now))) c.as_slice-2.ensures.value
    ∙ ap (λ ls. map (mention_places mentions) (numbers_below (length ls))) c.labels-nodes.ensures)
