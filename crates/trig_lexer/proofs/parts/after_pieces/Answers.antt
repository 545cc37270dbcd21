use Rattle.std.proofs.Common.{arith}
use Rattle.terminals.proofs.Tagging.{utf8_behind_mark}
use Rattle.trig_lexer.specs.declared.parts.Place.TheVariants.{Later}
use Rattle.trig_lexer.specs.Names.{IsPiece}
use Rattle.trig_lexer.proofs.Texts.{shape_utf8}
use Rattle.trig_lexer.proofs.Plx.{piece_smaller}
use Rattle.trig_lexer.proofs.Parting.{parted_start, parted_piece, parted_dot, parted_end}
use Rattle.trig_lexer.proofs.parts.after_pieces.Goals as goal

pub loop-next-init : goal.loop-next-init
loop-next-init c = record { end_utf8 = c.utf8.text; rest_utf8 = c.utf8.text; parted = parted_start c.args.part c.args.text.now c.utf8.text }

pub loop-next-smaller-in-Some : goal.loop-next-smaller-in-Some
loop-next-smaller-in-Some c = piece_smaller c.args.part Later c.loop-next.rest.now c.in-Some.next.now c.in-Some.ensures.found

pub loop-next-preserved-in-Some : goal.loop-next-preserved-in-Some
loop-next-preserved-in-Some c =
    let utf8 = shape_utf8 (IsPiece c.args.part Later) c.loop-next.rest.now c.in-Some.next.now c.in-Some.ensures.found c.loop-next.invariant.rest_utf8 in
    record { end_utf8 = utf8; rest_utf8 = utf8; parted = parted_piece c.args.part c.args.text.now _ _ _ c.loop-next.invariant.parted c.in-Some.ensures.found }

pub loop-next-preserved : goal.loop-next-preserved
loop-next-preserved c = record {
  end_utf8 = c.loop-next.invariant.end_utf8;
  rest_utf8 = utf8_behind_mark c.loop-next.rest.now c.in-Some-after.next.now 46 (omega arith) c.in-Some-after.ensures.found c.loop-next.invariant.rest_utf8;
  parted = parted_dot c.args.part c.args.text.now _ _ _ c.loop-next.invariant.parted c.in-Some-after.ensures.found;
}

pub returns-in_default-after : goal.returns-in_default-after
returns-in_default-after c =
    parted_end c.args.part c.args.text.now _ _ c.loop-next.invariant.parted c.in_default.ensures.none c.in_default-after.ensures.none
