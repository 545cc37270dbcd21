use Rattle.std.proofs.Common.{List, ◌++◌, All, get_or, true≢false, sym, ap, ◌∙◌, subst}
use Rattle.std.specs.Io.{StartsWith}
use Rattle.rdf_terms.specs.Lists.{Text, joined, sorted}
use Rattle.canonical_writer.specs.Names.{naming_of}
use Rattle.canonical_writer.specs.Runs.{lines_of}
use Rattle.canonical_writer.specs.declared.runs.Run.{Run}
use Rattle.canonical_writer.proofs.Stretches.{lines_begin}
use Rattle.canonical_writer.proofs.Fronts.{starts_itself}
use Rattle.canonical_writer.proofs.Groups.{nothing_written, same_writes, group_ended, run_added, all_written}
use Rattle.canonical_writer.proofs.sorted.write_runs.Goals.{then-not-begins_with+in_ok-append_sorted, else-not-begins_with}
use Rattle.canonical_writer.proofs.sorted.write_runs.Goals as goal

pub loop-place-init : goal.loop-place-init
loop-place-init g c =
    nothing_written _ _ c.args.runs.now c.in_ok-text.text.items c.new-group.result c.first_key-front.result.now c.in_ok-text.ensures.items c.new-group.ensures c.first_key-front.ensures

pub push_lines-requires : goal.push_lines-requires
push_lines-requires g c = c.requires.runs c.loop-place.place _ c.loop-place-test.true

pub loop-place-preserved : goal.loop-place-preserved
loop-place-preserved g c =
    let name = g.N.Names.name c.args.named.now.names.now in
    let terms = c.args.named.now.terms.now in
    let key : Run → Text = λ r. r.key.now in
    let texts : Run → List Text = λ r. lines_of (naming_of name) terms r.quads.now in
    let runs = c.args.runs.now in
    let i = c.loop-place.place in
    let kept = c.loop-place.invariant in
    let now = c.if-not-begins_with in
    let keyed : All (λ r. All (λ t. StartsWith t (key r)) (texts r)) runs = λ k d h. lines_begin name terms (key (get_or runs k d)) (get_or runs k d).quads.now (c.requires.runs k d h) in
    let here = c.begins_with.ensures in
    let room = c.make_room.ensures in
    elim c.if-not-begins_with.branch [
      | then-not-begins_with+in_ok-append_sorted w ↦
          run_added key texts runs keyed i _ c.loop-place-test.true now.text.items now.group now.front.now
          (same_writes key texts runs i _ now.text.items _ now.group _ now.front.now (ap (λ v. v.items) w.text-is
          ∙ (w.in_ok-append_sorted.ensures ∙ ap (λ t. t ++ joined (sorted c.loop-place.group)) room)) (w.group-is ∙ w.clear.ensures) (ap (λ b. b.now) w.front-is)
          (group_ended key texts runs keyed i _ c.loop-place-test.true c.loop-place.text.items c.loop-place.group c.loop-place.front.now kept c.requires.sorted
          (λ s. true≢false (sym (here.1 s) ∙ w.if-not-begins_with.true))))
          _ (subst (StartsWith (key (get_or runs i _))) (sym (ap (λ b. b.now) w.front-is)) (starts_itself _)) c.in_ok-push_lines.ensures
      | else-not-begins_with w ↦
          run_added key texts runs keyed i _ c.loop-place-test.true now.text.items now.group now.front.now
          (same_writes key texts runs i _ now.text.items _ now.group _ now.front.now (ap (λ v. v.items) w.text-is ∙ room) w.group-is (ap (λ b. b.now) w.front-is) kept)
          _ (subst (StartsWith (key (get_or runs i _))) (sym (ap (λ b. b.now) w.front-is)) (here.0 w.if-not-begins_with.false)) c.in_ok-push_lines.ensures
    ]

pub returns : goal.returns
returns g c =
    c.new.ensures ∙ all_written _ _ c.args.runs.now c.loop-place.place c.loop-place.text.items c.loop-place.group c.loop-place.front.now _ c.loop-place-test.false c.loop-place.invariant
    c.in_ok-append_sorted-2.ensures
