use Rattle.std.proofs.Common.{◌≡◌, subst, OnOk}
use Rattle.canonical_writer.proofs.LinePlaces.{line_behind}
use Rattle.canonical_writer.proofs.line.append_line.Goals as goal

pub returns-clause-ok : goal.returns-clause-ok
returns-clause-ok g c = subst (λ t. OnOk c.push_rest.result (c.push_rest.new.out.items ≡ t)) (line_behind _ _ _ _ c.in_ok-push_place.ensures.ok) c.push_rest.ensures.ok
