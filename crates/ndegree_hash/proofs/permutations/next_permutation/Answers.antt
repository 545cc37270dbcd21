use Rattle.std.proofs.Common.{[], arith, take, ap, refl, subst, sym, ◌∙◌, ◌∷◌, ◌≡◌}
use Rattle.ndegree_hash.specs.declared.at.At.TheVariants.{Begin, Between}
use Rattle.canon_model.specs.CountedRun.{nothing}
use Rattle.ndegree_hash.specs.Behind.{behind}
use Rattle.rdf_terms.specs.Lists.{Permutes}
use Rattle.ndegree_hash.specs.KnownNodes.{IsTrail}
use Rattle.ndegree_hash.specs.FrameSteps.{Leads}
use Rattle.ndegree_hash.specs.Frames.{choice_of}
use Rattle.ndegree_hash.specs.Resume.{OpenGroup}
use Rattle.ndegree_hash.proofs.Keeping.{IsTrail-take, known-permuted, known-same}
use Rattle.ndegree_hash.proofs.Behind.{behind-last, behind-next}
use Rattle.ndegree_hash.proofs.EndedPermutations.{between-begins, between-closes}
use Rattle.ndegree_hash.proofs.TrailParts.{choice-kept}
use Rattle.std.proofs.lemmas.List.{take-take}
use Rattle.ndegree_hash.proofs.permutations.next_permutation.Goals as goal

pub returns-then-not-next-clause-leads : goal.returns-then-not-next-clause-leads
returns-then-not-next-clause-leads c =
    between-closes c.args.canon.now.list c.args.trail.now.list c.args.frame.now _ c.requires (behind-last c.args.frame.now.arrangement (c.next.ensures.last.0 c.if-not-next.true)) refl refl

pub returns-clause-leads : goal.returns-clause-leads
returns-clause-leads c =
    let h = c.in_ok-keep_aside.ensures in
    let next : behind c.args.frame.now.arrangement ≡ c.keep_aside.new.frame.arrangement ∷ behind c.keep_aside.new.frame.arrangement =
    behind-next c.args.frame.now.arrangement c.next.new.self c.if-not-next.ensures.moves ∙ ap (λ p. p ∷ behind p) (sym h.arrangement) in
    subst (λ u. Leads c.args.canon.now.list c.args.trail.now.list c.args.frame.now Between nothing u c.keep_aside.new.frame Begin) (sym c.undo.ensures.list)
    (between-begins c.args.canon.now.list c.args.trail.now.list c.args.frame.now c.keep_aside.new.frame c.requires next h.group h.mark h.aside)

pub returns-then-not-next-clause-keeps : goal.returns-then-not-next-clause-keeps
returns-then-not-next-clause-keeps c = record {
  known = λ D k t. known-same D c.args.canon.now.list c.args.trail.now.list c.args.trail.now.list c.args.frame.now _ c.if-not-next.ensures.unchanged refl refl k;
  trail = λ D k t. t;
}

pub returns-clause-keeps : goal.returns-clause-keeps
returns-clause-keeps c =
    let h = c.in_ok-keep_aside.ensures in
    record {
      known = λ D k t.
          known-permuted D c.args.canon.now.list c.args.trail.now.list c.undo.new.self.list c.args.frame.now c.keep_aside.new.frame
          (subst (Permutes c.args.frame.now.arrangement) (sym h.arrangement) c.if-not-next.ensures.moves.permutes) (ap (λ (g : OpenGroup). g.bags) (h.group []))
          (ap (λ u. choice_of u c.keep_aside.new.frame) c.undo.ensures.list
          ∙ choice-kept c.args.trail.now.list (take c.keep_aside.new.frame.mark c.args.trail.now.list) c.keep_aside.new.frame h.aside
          (take-take c.keep_aside.new.frame.mark c.keep_aside.new.frame.mark c.args.trail.now.list (omega arith))
          ∙ ap (λ (g : OpenGroup). g.chosen) (h.group [])) k;
      trail = λ D k t. subst (IsTrail D c.args.canon.now.list) (sym c.undo.ensures.list) (IsTrail-take D c.args.canon.now.list c.keep_aside.new.frame.mark c.args.trail.now.list t);
    }
