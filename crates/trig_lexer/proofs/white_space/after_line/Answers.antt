use Rattle.std.proofs.Common.{sym, ◌∙◌}
use Rattle.std.proofs.lemmas.Str.{IsUtf8-past_char}
use Rattle.terminals.proofs.Labelling.{rest_smaller}
use Rattle.trig_lexer.proofs.WhiteSpace.{line_start, line_more, line_ends, line_ends_text}
use Rattle.trig_lexer.proofs.white_space.after_line.Goals as goal

pub loop-c-init : goal.loop-c-init
loop-c-init c = record { utf8 = c.utf8.text; line = line_start c.args.text.now c.utf8.text }

pub loop-c-smaller : goal.loop-c-smaller
loop-c-smaller c = rest_smaller _ _ _ c.in-Some.ensures.found

pub loop-c-preserved : goal.loop-c-preserved
loop-c-preserved c = record {
  utf8 = IsUtf8-past_char c.loop-c.rest.now c.in-Some.next.now c.in-Some.c c.loop-c.invariant.utf8 c.in-Some.ensures.found;
  line = line_more c.args.text.now _ _ c.in-Some.c c.loop-c.invariant.line c.in-Some.ensures.found (sym c.ends_line.ensures ∙ c.if-ends_line.false);
}

pub returns-then-ends_line : goal.returns-then-ends_line
returns-then-ends_line c = line_ends c.args.text.now _ _ c.in-Some.c c.loop-c.invariant.line c.in-Some.ensures.found (sym c.ends_line.ensures ∙ c.if-ends_line.true)

pub returns-in_default : goal.returns-in_default
returns-in_default c = line_ends_text c.args.text.now _ c.loop-c.invariant.line c.in_default.ensures.none
