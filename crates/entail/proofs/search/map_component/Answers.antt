use Rattle.std.proofs.Common.{◌<◌, sym, subst}
use Rattle.rdf_terms.specs.Document.{statements}
use Rattle.component_walk.proofs.AtNodes.{statement_within}
use Rattle.entail.specs.Searched.{IsComponentSearched}
use Rattle.entail.proofs.Mapping.{is_graph, mapping_goes_on, mapping_past, unmapped}
use Rattle.entail.proofs.search.map_component.Goals as goal

pub returns-in-Mapped-clause-passed : goal.returns-in-Mapped-clause-passed
returns-in-Mapped-clause-passed c =
    let s = subst
    (IsComponentSearched (statements c.args.crossing.now.entailed.now) (statements c.args.crossing.now.graph.now) c.args.crossing.now.graph.now.terms c.args.start c.args.limit
    c.args.workspace.now.images.items c.search_component.new.workspace.images.items) c.in-Mapped.is c.in_ok-searched.ensures.searched in
    mapping_goes_on (statements c.args.crossing.now.entailed.now) (statements c.args.crossing.now.graph.now) c.args.crossing.now.graph.now.terms c.args.workspace.now.images.items c.args.start
    c.requires.mapped
    s.walk s.is_walk c.search_component.new.workspace.images.items s.is_searched

pub returns-in-Unmapped-clause-passed : goal.returns-in-Unmapped-clause-passed
returns-in-Unmapped-clause-passed c =
    let s = subst
    (IsComponentSearched (statements c.args.crossing.now.entailed.now) (statements c.args.crossing.now.graph.now) c.args.crossing.now.graph.now.terms c.args.start c.args.limit
    c.args.workspace.now.images.items c.search_component.new.workspace.images.items) c.in-Unmapped.is c.in_ok-searched.ensures.searched in
    unmapped (statements c.args.crossing.now.entailed.now) (statements c.args.crossing.now.graph.now) s.walk s.is_searched

pub returns-in-PastLimit-clause-stop : goal.returns-in-PastLimit-clause-stop
returns-in-PastLimit-clause-stop c =
    let s = subst
    (IsComponentSearched (statements c.args.crossing.now.entailed.now) (statements c.args.crossing.now.graph.now) c.args.crossing.now.graph.now.terms c.args.start c.args.limit
    c.args.workspace.now.images.items c.search_component.new.workspace.images.items) c.in-PastLimit.is c.in_ok-searched.ensures.searched in (
      (is_graph c.args.crossing.now.graph.now c.requires.crossed.graph, is_graph c.args.crossing.now.entailed.now c.requires.crossed.entailed),
      mapping_past (statements c.args.crossing.now.entailed.now) (statements c.args.crossing.now.graph.now) c.args.crossing.now.graph.now.terms c.args.workspace.now.images.items c.args.start
          c.requires.mapped
          s.walk s.is_walk
          (λ n u. subst (λ k. n < k) (sym c.requires.workspace.count) (statement_within c.args.crossing.now.entailed.now c.requires.crossed.entailed u.statement u.there n u.mentioned))
          c.requires.unmapped c.args.limit s.is_searched.1,
    )
