use Rattle.std.proofs.Common.{List, ap, subst, sym}
use Rattle.rdf_terms.proofs.Common.{In-Permutes, Permutes-sym, dataset as dataset_of, In}
use Rattle.canon_model.specs.Groups.{groups}
use Rattle.canon_model.specs.Meaning.{meaning}
use Rattle.related_hash.specs.Grouping.{AreGroups}
use Rattle.related_hash.specs.declared.group.Group.{Group as Bag}
use Rattle.ndegree_hash.specs.PathChoice.{PathChoice}
use Rattle.ndegree_hash.proofs.Keeping.{known-opened}
use Rattle.ndegree_hash.proofs.machine.open_call.Goals as goal

pub returns : goal.returns
returns c = record {
  text = c.new.ensures.items;
  bags =
      let g = groups (meaning c.args.profile) (dataset_of c.args.dataset.now) c.args.canon.now.list c.args.trail.now.list c.args.node in
      subst (λ (bags : List Bag). AreGroups g.nodes g.hashes bags) (sym c.new-groups.ensures) c.in_ok-found.ensures.groups;
  mark = c.mark.ensures;
  others = c.new-4.ensures.items;
  known =
      known-opened (dataset_of c.args.dataset.now) c.args.canon.now.list c.args.trail.now.list _ (λ x h. absurd (In-Permutes x (Permutes-sym c.in_ok-arrangement.ensures.permutes) h))
      (λ bag h. c.in_ok-found.ensures.in_range bag (subst (λ (bags : List Bag). In bag bags) c.new-groups.ensures h)) (ap (λ (p : PathChoice). p.has_choice) c.new-2.ensures);
}
