use Rattle.std.proofs.Common.{◌≡◌, ◌++◌, ap, ◌∙◌, subst, OnOk}
use Rattle.canonical_writer.proofs.LinePlaces.{line_behind}
use Rattle.canonical_writer.proofs.line.append_behind.Goals as goal

pub returns-clause-ok : goal.returns-clause-ok
returns-clause-ok g c =
    let start_copied = c.in_ok-extend_from_slice.ensures.items ∙ ap (λ t. c.args.out.now.items ++ t) c.requires.start in
    subst (λ t. OnOk c.push_rest.result (c.push_rest.new.out.items ≡ t)) (line_behind _ _ _ _ start_copied) c.push_rest.ensures.ok
