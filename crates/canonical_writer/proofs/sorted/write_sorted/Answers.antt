use Rattle.std.proofs.Common.{◌≡◌, List, Bor, All, length, sym, ap, ◌∙◌, subst, IfOk}
use Rattle.std.specs.List.{flat_map, AllZip}
use Rattle.std.proofs.lemmas.Slice.Zip.{AllZip-long}
use Rattle.rdf_terms.specs.Lists.{Text, joined, sorted}
use Rattle.rdf_terms.specs.declared.term.Quad.{Quad}
use Rattle.canonical_writer.specs.Names.{naming_of}
use Rattle.canonical_writer.specs.Runs.{lines_of, IsRun}
use Rattle.canonical_writer.specs.declared.runs.Run.{Run}
use Rattle.canonical_writer.proofs.Stretches.{All-pairs, sorted_lines}
use Rattle.canonical_writer.proofs.sorted.write_sorted.Goals as goal

pub sorted_runs-requires : goal.sorted_runs-requires
sorted_runs-requires g c =
    sym (ap length c.as_slice.ensures.value
    ∙ AllZip-long (λ k p. IsRun (g.N.Names.name c.args.names.now) c.args.terms.now k p.now) c.cut_at_subjects.new.keys c.in_ok-stretches.stretches.items c.in_ok-stretches.ensures.runs)

pub write_runs-requires-clause-runs : goal.write_runs-requires-clause-runs
write_runs-requires-clause-runs g c =
    let is_run : Text → List Quad → Type 0 = IsRun (g.N.Names.name c.args.names.now) c.args.terms.now in
    let zipped = subst (λ ss. AllZip (λ k (p : Bor (List Quad)). is_run k p.now) c.cut_at_subjects.new.keys ss) (sym c.as_slice.ensures.value) c.in_ok-stretches.ensures.runs in
    subst (All (λ (r : Run). is_run r.key.now r.quads.now)) (sym c.as_slice-2.ensures.value)
    (All-pairs is_run (λ p. p.now) (λ (r : Run). (r.key.now, r.quads.now)) c.cut_at_subjects.new.keys c.as_slice.result.now c.in_ok-runs.runs.items zipped c.in_ok-runs.ensures.permutation)

pub returns : goal.returns
returns g c =
    let ν = naming_of (g.N.Names.name c.args.names.now) in
    let terms = c.args.terms.now in
    let is_run : Text → List Quad → Type 0 = IsRun (g.N.Names.name c.args.names.now) terms in
    let zipped = subst (λ ss. AllZip (λ k (p : Bor (List Quad)). is_run k p.now) c.cut_at_subjects.new.keys ss) (sym c.as_slice.ensures.value) c.in_ok-stretches.ensures.runs in
    subst (λ v. IfOk c.write_runs.result (λ t. t ≡ v))
    (ap (λ rs. joined (sorted (flat_map (λ (r : Run). lines_of ν terms r.quads.now) rs))) c.as_slice-2.ensures.value
    ∙ sorted_lines ν terms is_run (λ (p : Bor (List Quad)). p.now) (λ (r : Run). (r.key.now, r.quads.now)) c.cut_at_subjects.new.keys c.as_slice.result.now c.in_ok-runs.runs.items c.args.quads.now
    zipped c.in_ok-runs.ensures.permutation (ap (flat_map (λ (p : Bor (List Quad)). p.now)) c.as_slice.ensures.value ∙ c.in_ok-stretches.ensures.whole))
    c.write_runs.ensures
