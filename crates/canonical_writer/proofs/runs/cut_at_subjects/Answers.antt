use Rattle.std.proofs.Common.{◌==◌, ◌≤◌, length, All, refl, sym, subst}
use Rattle.std.proofs.lemmas.List.Elements.{All-drop}
use Rattle.std.proofs.lemmas.List.Sums.{prefix_len-le-length}
use Rattle.rdf_terms.specs.Document.{statement, IsInRange}
use Rattle.canonical_writer.specs.Names.{HasNames}
use Rattle.canonical_writer.specs.Runs.{IsRun}
use Rattle.canonical_writer.proofs.Stretches.{whole_more, AllZip-more, IsRun-one_subject}
use Rattle.canonical_writer.proofs.runs.cut_at_subjects.Goals as goal

pub split_at-requires : goal.split_at-requires
split_at-requires g c = subst (λ n. n ≤ length c.loop-first.rest.now) (sym c.subject_len.ensures) (prefix_len-le-length (λ q. q.s == c.in-Some.first.now.s) c.loop-first.rest.now)

pub loop-first-preserved : goal.loop-first-preserved
loop-first-preserved g c =
    let name = g.N.Names.name c.args.named.now.names.now in
    let terms = c.args.named.now.terms.now in
    let kept = c.loop-first.invariant in
    let rest = c.loop-first.rest.now in
    let n = c.subject_len.result in
    record {
      whole = whole_more (λ p. p.now) c.loop-first.stretches.items _ _ rest _ _ n c.in_ok-push.ensures.items c.split_at.ensures.front c.split_at.ensures.back kept.whole;
      runs = AllZip-more (λ k p. IsRun name terms k p.now) c.loop-first.keys _ c.loop-first.stretches.items _ _ _ c.in_ok-push_start.ensures c.in_ok-push.ensures.items kept.runs
          (subst (IsRun name terms _) (sym c.split_at.ensures.front) (IsRun-one_subject name terms _ c.in-Some.first.now.s n rest refl c.subject_len.ensures kept.in_range kept.named));
      in_range = subst (All (IsInRange terms)) (sym c.split_at.ensures.back) (All-drop (IsInRange terms) n rest kept.in_range);
      named = subst (All (λ q. HasNames name (statement terms q))) (sym c.split_at.ensures.back) (All-drop (λ q. HasNames name (statement terms q)) n rest kept.named);
    }
