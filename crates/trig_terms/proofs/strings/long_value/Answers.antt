use Rattle.std.proofs.Common.{string_bytes, ap, ◌++◌, ◌∙◌}
use Rattle.std.specs.Prelude.{encode_utf8}
use Rattle.std.proofs.lemmas.Str.{IsUtf8-past_char}
use Rattle.terminals.specs.declared.bodies.Body.TheVariants.{Long}
use Rattle.trig_terms.proofs.LongStrings.{left_step, left_end, run_utf8, run_shorter}
use Rattle.trig_terms.proofs.strings.long_value.Goals as goal

pub loop-piece-smaller : goal.loop-piece-smaller
loop-piece-smaller c = run_shorter c.args.quote c.loop-piece.rest.now _ c.in-Some.next.now c.in-Some.mark _ c.run.ensures c.in-Some.ensures.found

pub loop-piece-preserved : goal.loop-piece-preserved
loop-piece-preserved c = record {
  utf8 = IsUtf8-past_char _ c.in-Some.next.now c.in-Some.mark (run_utf8 (Long c.args.quote) c.loop-piece.rest.now _ _ c.run.ensures c.loop-piece.invariant.utf8) c.in-Some.ensures.found;
  left =
      left_step c.args.quote c.args.inside.now c.loop-piece.rest.now _ c.in-Some.next.now (string_bytes c.loop-piece.value) (string_bytes c.unescape.new.into)
      (string_bytes c.push.new.self) c.in-Some.mark _
      c.run.ensures c.in_ok-unescape.ensures.value c.in-Some.ensures.found
      (c.in_ok-push.ensures.bytes ∙ ap (λ w. w ++ encode_utf8 c.in-Some.mark) (c.in_ok-push_str.ensures.bytes
      ∙ ap (λ p. string_bytes c.loop-piece.value ++ p) c.as_str.ensures.value)) c.loop-piece.invariant.left;
}

pub returns-in_default : goal.returns-in_default
returns-in_default c = λ value means.
    c.with_escapes_undone.ensures
    ∙ left_end c.args.quote c.args.inside.now c.loop-piece.rest.now _ (string_bytes c.loop-piece.value) (string_bytes c.unescape.new.into) (string_bytes c.push_str.new.self) _
    c.run.ensures c.in_ok-unescape.ensures.value c.in_default.ensures.none
    (c.in_ok-push_str.ensures.bytes ∙ ap (λ p. string_bytes c.loop-piece.value ++ p) c.as_str.ensures.value) c.loop-piece.invariant.left value means
