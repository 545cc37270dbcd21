use Rattle.std.proofs.Common.{◌<◌, length, ap, subst, ◌∙◌, sym}
use Rattle.rdf_terms.specs.Document.{statements}
use Rattle.dataset_index.specs.Mentions.{places_of}
use Rattle.dataset_index.proofs.Building.{index_count, index_at}
use Rattle.dataset_index.proofs.dataset.Dataset.quads_of.Goals as goal

pub of-requires : goal.of-requires
of-requires c =
    subst (λ n. c.args.node < n) (sym (index_count _ _ _ c.self.invariant))
    (subst (λ d. c.args.node < length d.labels) (sym c.self.view_is) c.requires)

pub returns : goal.returns
returns c =
    index_at _ _ _ c.self.invariant c.args.node c.of.result.now (subst (λ d. c.args.node < length d.labels) (sym c.self.view_is) c.requires) c.of.ensures
    ∙ ap (λ d. places_of (statements d) c.args.node) c.self.view_is
