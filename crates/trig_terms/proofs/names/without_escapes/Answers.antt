use Rattle.std.proofs.Common.{◌++◌, string_bytes, ap, sym, ◌∙◌}
use Rattle.std.proofs.lemmas.List.{append_assoc}
use Rattle.std.proofs.lemmas.Str.{IsUtf8-past_char}
use Rattle.terminals.proofs.Labelling.{rest_smaller}
use Rattle.trig_lexer.specs.Names.{unescaped_behind}
use Rattle.trig_lexer.proofs.LocalParts.{unescaped-step}
use Rattle.trig_terms.proofs.names.without_escapes.Goals as goal

pub loop-c-smaller : goal.loop-c-smaller
loop-c-smaller c = rest_smaller _ _ _ c.in-Some.ensures.found

pub loop-c-preserved : goal.loop-c-preserved
loop-c-preserved c = record {
  utf8 = IsUtf8-past_char c.loop-c.rest.now c.in-Some.next.now c.in-Some.c c.loop-c.invariant.utf8 c.in-Some.ensures.found;
  written = c.loop-c.invariant.written
      ∙ ap (λ r. string_bytes c.loop-c.value ++ r)
      (unescaped-step c.loop-c.escapes c.escapes_next-escapes.result c.in-Some.c c.loop-c.rest.now c.in-Some.next.now c.escapes_next-escapes.ensures c.in-Some.ensures.found)
      ∙ sym (append_assoc (string_bytes c.loop-c.value) _ (unescaped_behind c.escapes_next-escapes.result c.in-Some.next.now))
      ∙ ap (λ f. f ++ unescaped_behind c.escapes_next-escapes.result c.in-Some.next.now) (sym c.in_ok-push_kept.ensures);
}
