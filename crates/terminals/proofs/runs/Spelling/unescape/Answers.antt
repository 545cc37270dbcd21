use Rattle.std.proofs.Common.{◌++◌, false, ap, ◌∙◌}
use Rattle.std.specs.Prelude.{encode_utf8}
use Rattle.terminals.specs.Spellings.{TextSpells}
use Rattle.terminals.proofs.Running.{ran_start, cut_behind_run, utf8_behind_escape}
use Rattle.terminals.proofs.Unescaping.{left_err, left_step, left_end, left_err_escape}
use Rattle.terminals.proofs.runs.Spelling.unescape.Goals as goal

pub range-requires-clause-end_boundary : goal.range-requires-clause-end_boundary
range-requires-clause-end_boundary c = cut_behind_run c.args.self.now.body _ _ false (ran_start _ _ _ c.loop-c.invariant.utf8 c.after_plain-stop.ensures)

pub loop-c-preserved : goal.loop-c-preserved
loop-c-preserved c = record {
  utf8 = utf8_behind_escape c.args.self.now.body _ _ _ _ false (ran_start _ _ _ c.loop-c.invariant.utf8 c.after_plain-stop.ensures) c.in-Some.ensures.found;
  left =
      left_step c.args.self.now.body _ _ _ _ _ c.loop-c.invariant.utf8 c.after_plain-stop.ensures c.range.ensures.value c.loop-c.invariant.left _ _ _ c.in-Some.ensures.found
      (c.in_ok-push-in-Some.ensures.bytes ∙ ap (λ s. s ++ encode_utf8 c.in-Some.c) c.in_ok-push_str.ensures.bytes);
}

pub returns-in-None-clause-value : goal.returns-in-None-clause-value
returns-in-None-clause-value c =
    left_end c.args.self.now.body _ _ _ _ _ c.loop-c.invariant.utf8 c.after_plain-stop.ensures c.range.ensures.value c.loop-c.invariant.left _ c.in-None.ensures.none
    c.in_ok-push_str.ensures.bytes

pub returns-in_err-push_str-clause-front : goal.returns-in_err-push_str-clause-front
returns-in_err-push_str-clause-front c =
    left_err c.from_residual.result (TextSpells c.args.self.now.body) c.args.self.now.text.now c.loop-c.rest.now _ _ c.in_err-push_str.ensures.bytes c.loop-c.invariant.left

pub returns-in_err-push-in-Some-clause-front : goal.returns-in_err-push-in-Some-clause-front
returns-in_err-push-in-Some-clause-front c =
    left_err_escape c.args.self.now.body c.args.self.now.text.now _ _ _ _ c.loop-c.invariant.utf8 c.after_plain-stop.ensures c.range.ensures.value c.loop-c.invariant.left
    c.from_residual-in_err-push-in-Some.result _ _ _ c.in-Some.ensures.found (c.in_err-push-in-Some.ensures.bytes ∙ c.in_ok-push_str.ensures.bytes)
