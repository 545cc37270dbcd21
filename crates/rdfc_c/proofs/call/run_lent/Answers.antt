use Rattle.std.proofs.Common.{ap, ◌∙◌, sym, subst}
use Rattle.rdfc_cli.specs.Options.{syntax_in, settings_in}
use Rattle.rdfc_c.specs.Answers.{IsDelivered, taken_of, refused_of, files_of}
use Rattle.rdfc_c.proofs.Told.{usage_told, of_lent}
use Rattle.rdfc_c.proofs.call.run_lent.Goals as goal

pub returns-clause-usage : goal.returns-clause-usage
returns-clause-usage c =
    λ two. c.run_block-status.ensures.usage
    (usage_told c.run_block-status.result c.bytes.result.now c.args.out.now c.deliver-delivery.new.out c.deliver-delivery.result c.deliver-delivery.ensures
    (sym (ap (λ d. d.status) c.tell.ensures.delivery) ∙ two))

pub returns-clause-answer : goal.returns-clause-answer
returns-clause-answer c = λ command options spells. record {
  status = c.run_block-status.result;
  failed = c.run_block-status.new.shelf.faults;
  text = c.bytes.result.now;
  old = c.new-text.result;
  new = c.run_block-status.new.out;
  empty = c.new-text.ensures.taken;
  gathered = c.bytes.ensures;
  answers = of_lent taken_of refused_of (syntax_in options) _ (files_of c.args.first.now c.args.second.now) _ _ command (settings_in options) _ _ _ c.new-shelf.ensures.files
      c.new-shelf.ensures.no_faults (c.run_block-status.ensures.answer command options spells);
  delivered = subst (λ d. IsDelivered c.run_block-status.result c.bytes.result.now c.args.out.now c.deliver-delivery.new.out d) (sym c.tell.ensures.delivery) c.deliver-delivery.ensures;
  cause_is = c.tell.ensures.cause;
  file_is = c.tell.ensures.file;
  line_is = c.tell.ensures.line;
  note = c.bytes-2.result.now;
  old_notes = c.new-notes.result;
  new_notes = c.run_block-status.new.notes;
  no_note = c.new-notes.ensures.taken;
  noted = c.bytes-2.ensures;
  is_noted = c.run_block-status.ensures.note command options spells;
  has_note = c.tell.ensures.note;
}
