use Rattle.std.proofs.Common.{ap, not, is_some, sym, ◌∙◌}
use Rattle.std.proofs.Math.Bool.{not-not}
use Rattle.canon_model.proofs.Issuers.{is_issued-place_of}
use Rattle.canon_core.proofs.starts.has_no_identifier.Goals as goal

pub returns : goal.returns
returns c = sym (not-not _) ∙ ap not (sym c.is_none.ensures) ∙ ap (λ o. not (is_some o)) c.id_of.ensures ∙ ap not (sym (is_issued-place_of c.args.node c.args.canon.now.list))
