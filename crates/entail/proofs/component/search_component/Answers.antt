use Rattle.std.proofs.Common.{ℕ, ◌<◌, ◌↔◌, IfOk, length, sym, ap, ◌∙◌, subst}
use Rattle.std.specs.List.{All}
use Rattle.rdf_terms.specs.Lists.{In}
use Rattle.rdf_terms.specs.Document.{statements}
use Rattle.component_walk.proofs.Walks.{same_nodes, walk_used}
use Rattle.entail.specs.Searched.{IsWalkSearched}
use Rattle.entail.proofs.Leaving.{component_searched, searched_same}
use Rattle.entail.proofs.Walked.{walk_within}
use Rattle.entail.proofs.component.search_component.Goals as goal

pub most_bound-bound-requires-clause-within : goal.most_bound-bound-requires-clause-within
most_bound-bound-requires-clause-within c =
    subst (All (λ n. n < length c.args.crossing.now.entailed.now.labels)) (sym c.as_slice.ensures.value)
    (walk_within c.args.crossing.now.entailed.now c.requires.crossed.entailed c.args.start c.in_ok-walk.walk.items c.in_ok-walk.ensures.walk)

pub walk_in-requires-2-clause-used : goal.walk_in-requires-2-clause-used
walk_in-requires-2-clause-used c =
    walk_used (statements c.args.crossing.now.entailed.now) c.args.start c.in_ok-walk.walk.items c.in_ok-walk.ensures.walk c.most_bound-bound.result
    (subst (λ xs. In c.most_bound-bound.result xs) c.as_slice.ensures.value c.most_bound-bound.ensures)

pub returns-in-PastLimit-clause-searched : goal.returns-in-PastLimit-clause-searched
returns-in-PastLimit-clause-searched c =
    let same = ap (λ xs. xs.items) (c.walk_in-2.ensures.images ∙ c.walk_in.ensures.images) in
    let s = subst
    (IsWalkSearched (statements c.args.crossing.now.entailed.now) (statements c.args.crossing.now.graph.now) c.args.crossing.now.graph.now.terms c.as_slice-2.result.now c.args.limit
    c.walk_in-2.new.workspace.images.items c.search_walk.new.workspace.images.items) c.in-PastLimit.is c.in_ok-searched.ensures.searched in
    component_searched (statements c.args.crossing.now.entailed.now) (statements c.args.crossing.now.graph.now) c.args.crossing.now.graph.now.terms c.args.limit c.args.start c.in_ok-walk.walk.items
    c.args.workspace.now.images.items c.search_walk.new.workspace.images.items c.search_walk-in-PastLimit.new.workspace.images.items c.in_ok-walk.ensures.walk (s.0 ∙ same)
    c.search_walk-in-PastLimit.result
    (subst (λ ws. IfOk c.search_walk-in-PastLimit.result
    (IsWalkSearched (statements c.args.crossing.now.entailed.now) (statements c.args.crossing.now.graph.now) c.args.crossing.now.graph.now.terms ws c.args.limit
    c.search_walk.new.workspace.images.items c.search_walk-in-PastLimit.new.workspace.images.items)) c.as_slice-in-PastLimit.ensures.value c.search_walk-in-PastLimit.ensures.searched)

pub returns : goal.returns
returns c =
    let same = ap (λ xs. xs.items) (c.walk_in-2.ensures.images ∙ c.walk_in.ensures.images) in
    let nodes : (n : ℕ) → In n c.in_ok-quick.quick.items ↔ In n c.in_ok-walk.walk.items = λ n. (let b : In n c.in_ok-walk.walk.items ↔ In n c.in_ok-quick.quick.items = same_nodes
    (statements c.args.crossing.now.entailed.now) c.args.start c.most_bound-bound.result c.in_ok-walk.walk.items c.in_ok-quick.quick.items c.in_ok-walk.ensures.walk c.in_ok-quick.ensures.walk
    (subst (λ xs. In c.most_bound-bound.result xs) c.as_slice.ensures.value c.most_bound-bound.ensures) n in (b.1, b.0)) in
    let s = subst
    (λ ws. IsWalkSearched (statements c.args.crossing.now.entailed.now) (statements c.args.crossing.now.graph.now) c.args.crossing.now.graph.now.terms ws c.args.limit
    c.walk_in-2.new.workspace.images.items c.search_walk.new.workspace.images.items c.in_ok-searched.searched) c.as_slice-2.ensures.value c.in_ok-searched.ensures.searched in
    record {
      workspace = c.in_ok-searched.ensures.workspace;
      searched = record {
        walk = c.in_ok-walk.walk.items;
        is_walk = c.in_ok-walk.ensures.walk;
        is_searched = subst (λ xs. IsWalkSearched (statements c.args.crossing.now.entailed.now) (statements c.args.crossing.now.graph.now) c.args.crossing.now.graph.now.terms
            c.in_ok-walk.walk.items c.args.limit
            xs c.search_walk.new.workspace.images.items c.in_ok-searched.searched) same
            (searched_same (statements c.args.crossing.now.entailed.now) (statements c.args.crossing.now.graph.now) c.args.crossing.now.graph.now.terms c.args.limit c.in_ok-quick.quick.items
            c.in_ok-walk.walk.items
            c.walk_in-2.new.workspace.images.items c.search_walk.new.workspace.images.items c.in_ok-searched.searched nodes c.in_default.not-PastLimit s);
      };
    }
