use Rattle.std.proofs.Common.{[], ap, subst, sym, ◌++◌, ◌∙◌, ◌∷◌, append_assoc}
use Rattle.canon_model.specs.Meaning.{meaning}
use Rattle.related_hash.specs.Gathering.{AllArranged}
use Rattle.related_hash.proofs.SortedGroups.{arranged-more}
use Rattle.related_hash.proofs.grouping.all_closed.Goals as goal

pub loop-group-preserved : goal.loop-group-preserved
loop-group-preserved c =
    let before = c.loop-group.invariant.before in
    let ρ = meaning c.args.profile in
    record {
      before = before ++ c.in-Some.group ∷ [];
      parts = c.loop-group.invariant.parts ∙ ap (λ gs. before ++ gs) c.in-Some.ensures ∙ sym (append_assoc before (c.in-Some.group ∷ []) c.next.new.self);
      arranged_are = subst (λ gs. AllArranged ρ (before ++ c.in-Some.group ∷ []) gs) (sym c.in_ok-push.ensures.items)
          (arranged-more ρ before c.loop-group.closed_groups.items c.in-Some.group c.closed.result c.loop-group.invariant.arranged_are c.closed.ensures);
    }
