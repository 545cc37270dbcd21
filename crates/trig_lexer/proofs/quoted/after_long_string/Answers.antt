use Rattle.terminals.proofs.Outcomes.{IfNone_since}
use Rattle.trig_lexer.specs.Strings.{AreLongPieces}
use Rattle.trig_lexer.proofs.Texts.{shape_utf8}
use Rattle.trig_lexer.proofs.Longs.{utf8_behind_three, longing_start, longing_more, longing_end, longing_none, pieces_smaller}
use Rattle.trig_lexer.proofs.quoted.after_long_string.Goals as goal

pub loop-end-init : goal.loop-end-init
loop-end-init c = record {
  utf8 = utf8_behind_three c.args.quote c.args.text.now c.in_ok-rest.rest.now c.in_ok-rest.ensures.found c.utf8.text;
  longing = longing_start c.args.quote c.args.text.now _ c.in_ok-rest.ensures.found c.utf8.text;
}

pub loop-end-smaller : goal.loop-end-smaller
loop-end-smaller c = pieces_smaller c.args.quote c.loop-end.rest.now c.in_ok-rest-2.rest.now c.in_ok-rest-2.ensures.found

pub loop-end-preserved : goal.loop-end-preserved
loop-end-preserved c = record {
  utf8 = shape_utf8 (AreLongPieces c.args.quote) c.loop-end.rest.now c.in_ok-rest-2.rest.now c.in_ok-rest-2.ensures.found c.loop-end.invariant.utf8;
  longing = longing_more c.args.quote c.args.text.now _ _ c.loop-end.invariant.longing c.in_ok-rest-2.ensures.found;
}

pub returns-in-Some-clause-found : goal.returns-in-Some-clause-found
returns-in-Some-clause-found c = longing_end c.args.quote c.args.text.now _ _ c.loop-end.invariant.longing c.in-Some.ensures.found

pub returns-in_err-rest-2-clause-none : goal.returns-in_err-rest-2-clause-none
returns-in_err-rest-2-clause-none c =
    IfNone_since _ _ (longing_none c.args.quote c.args.text.now _ c.loop-end.invariant.longing c.in_default.ensures.none c.in_err-rest-2.ensures.none)
