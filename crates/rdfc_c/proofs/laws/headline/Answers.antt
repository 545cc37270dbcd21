use Rattle.rdfc_c.proofs.LentForms.{done_forms, unsettled_forms}
use Rattle.rdfc_c.proofs.laws.headline.Goals as goal

pub returns : goal.returns
returns c = record {
  done = λ files word bytes options before after answer call zero. done_forms files word bytes options before after answer call zero;
  unsettled = λ files word bytes options before after answer call three. unsettled_forms files word bytes options before after answer call three;
}
