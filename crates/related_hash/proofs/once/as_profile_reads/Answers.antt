use Rattle.std.proofs.Common.{subst, sym, ◌∙◌}
use Rattle.std.proofs.lemmas.List.Sorted.{IsNonDecreasingBy-from_sort}
use Rattle.rdf_terms.proofs.Common.{Permutes, Permutes-from_IsPermutation}
use Rattle.canon_model.specs.Groups.{as_read}
use Rattle.canon_model.specs.Meaning.{meaning}
use Rattle.related_hash.specs.Grouping.{Ascends}
use Rattle.related_hash.proofs.NodesOnce.{Ascends-as_read, Ascends-from_IsNonDecreasing}
use Rattle.related_hash.proofs.once.as_profile_reads.Goals as goal
use Rattle.canon_model.proofs.RelabelGroups.{as_read-perm}

pub leave_once-requires : goal.leave_once-requires
leave_once-requires c = Ascends-from_IsNonDecreasing _ (IsNonDecreasingBy-from_sort (λ x. x) _ c.sort_unstable.ensures.sorted)

pub returns-clause-permutes : goal.returns-clause-permutes
returns-clause-permutes c =
    subst (λ ns. Permutes (as_read (meaning c.args.profile) c.args.nodes.items) ns) (sym (c.new.ensures ∙ c.leave_once.ensures))
    (as_read-perm (meaning c.args.profile) (Permutes-from_IsPermutation _ _ c.sort_unstable.ensures.permutation))

pub returns-clause-ascending : goal.returns-clause-ascending
returns-clause-ascending c =
    subst Ascends (sym (c.new.ensures ∙ c.leave_once.ensures))
    (Ascends-as_read (meaning c.args.profile) _ (Ascends-from_IsNonDecreasing _ (IsNonDecreasingBy-from_sort (λ x. x) _ c.sort_unstable.ensures.sorted)))
