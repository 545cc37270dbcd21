use Rattle.std.proofs.Common.{◌∙◌, refl, sym}
use Rattle.std.proofs.lemmas.Result.{IfOk-weaker}
use Rattle.iri_resolve.specs.Parts.{components_of}
use Rattle.iri_resolve.proofs.Targets.{path-own, path-empty, path-merged, is_some-option_copied}
use Rattle.iri_resolve.proofs.resolution.target_path.Goals as goal

pub returns-then-has_own_path : goal.returns-then-has_own_path
returns-then-has_own_path c =
    let base = components_of c.args.base.now in
    let reference = components_of c.args.reference.now in
    IfOk-weaker c.remove_dot_segments.result _ _
    (λ path is. is ∙ path-own base reference (rw (is_some-option_copied c.args.reference.now.scheme _ refl, is_some-option_copied c.args.reference.now.authority _ refl)
    (sym c.if-has_own_path.ensures)))
    c.remove_dot_segments.ensures

pub returns-in_ok-from_str : goal.returns-in_ok-from_str
returns-in_ok-from_str c =
    let base = components_of c.args.base.now in
    let reference = components_of c.args.reference.now in
    c.in_ok-from_str.ensures.ok
    ∙ path-empty base reference (rw (is_some-option_copied c.args.reference.now.scheme _ refl, is_some-option_copied c.args.reference.now.authority _ refl) (sym c.if-has_own_path.ensures))
    (sym c.if-is_empty.ensures)

pub returns-in_ok-merged : goal.returns-in_ok-merged
returns-in_ok-merged c =
    let base = components_of c.args.base.now in
    let reference = components_of c.args.reference.now in
    IfOk-weaker c.remove_dot_segments-else-is_empty.result _ _
    (λ path is.
    is ∙ rw (c.as_str.ensures.value, c.in_ok-merged.ensures)
    (path-merged base reference (rw (is_some-option_copied c.args.reference.now.scheme _ refl, is_some-option_copied c.args.reference.now.authority _ refl) (sym c.if-has_own_path.ensures))
    (sym c.if-is_empty.ensures)))
    c.remove_dot_segments-else-is_empty.ensures
