use Rattle.std.proofs.Common.{length, sym, ap, ◌∙◌, arith}
use Rattle.std.specs.List.{prefix_len}
use Rattle.std.proofs.lemmas.List.{length-drop}
use Rattle.std.proofs.lemmas.Str.{IsUtf8-past_char}
use Rattle.char_tables.specs.Classes.{is_ascii_pn}
use Rattle.terminals.proofs.Labelling.{labelled_start, labelled_more, labelled_ascii, labelled_dot, labelled_end, stops_at_end, stops_at_other, rest_smaller}
use Rattle.terminals.proofs.labels.after_label.Goals as goal

pub loop-c-init : goal.loop-c-init
loop-c-init c =
    let text = c.args.text.now in
    record {
      end_utf8 = c.after_ascii-end.utf8;
      rest_utf8 = c.after_ascii-end.utf8;
      labelled = labelled_ascii c.args.grammar text text _ (labelled_start c.args.grammar text c.utf8.text.0 c.utf8.text.1.1) c.after_ascii-end.ensures;
    }

pub loop-c-smaller-then-ends_label : goal.loop-c-smaller-then-ends_label
loop-c-smaller-then-ends_label c =
    let next = c.in-Some.next.now in
    omega (arith, rest_smaller _ next _ c.in-Some.ensures.found, ap length c.after_ascii-end-then-ends_label.ensures, length-drop (prefix_len is_ascii_pn next) next)

pub loop-c-preserved-then-ends_label : goal.loop-c-preserved-then-ends_label
loop-c-preserved-then-ends_label c =
    let more = labelled_more c.args.grammar c.args.text.now _ _ _ c.in-Some.c c.loop-c.invariant.labelled c.in-Some.ensures.found (sym c.ends_label.ensures ∙ c.if-ends_label.true) in
    record {
      end_utf8 = c.after_ascii-end-then-ends_label.utf8;
      rest_utf8 = c.after_ascii-end-then-ends_label.utf8;
      labelled = labelled_ascii c.args.grammar c.args.text.now _ _ more c.after_ascii-end-then-ends_label.ensures;
    }

pub loop-c-preserved : goal.loop-c-preserved
loop-c-preserved c = record {
  end_utf8 = c.loop-c.invariant.end_utf8;
  rest_utf8 = IsUtf8-past_char c.loop-c.rest.now c.in-Some.next.now c.in-Some.c c.loop-c.invariant.rest_utf8 c.in-Some.ensures.found;
  labelled = labelled_dot c.args.grammar c.args.text.now _ _ _ c.in-Some.c c.loop-c.invariant.labelled c.in-Some.ensures.found c.if-c-eq46.true;
}

pub returns-else-c-eq46 : goal.returns-else-c-eq46
returns-else-c-eq46 c =
    let so = c.loop-c.invariant.labelled in
    labelled_end c.args.grammar c.args.text.now _ _ so
    (stops_at_other c.args.grammar c.args.text.now _ _ _ c.in-Some.c so c.in-Some.ensures.found (sym c.ends_label.ensures ∙ c.if-ends_label.false) c.if-c-eq46.false)

pub returns-in_default : goal.returns-in_default
returns-in_default c =
    let so = c.loop-c.invariant.labelled in
    labelled_end c.args.grammar c.args.text.now _ _ so (stops_at_end c.args.grammar c.args.text.now _ _ so c.in_default.ensures.none)
