use Rattle.iri_resolve.proofs.Turns.{turn_dot, turn_slash_dot, turn_slash_dot_dot, turn_other}
use Rattle.iri_resolve.proofs.dots.take_segment.Goals as goal

pub returns-in-text-clause-turn : goal.returns-in-text-clause-turn
returns-in-text-clause-turn c =
    rw c.after_slash.ensures
    (turn_dot c.args.input.now c.first_segment.result.0.now c.first_segment.result.1.now _ c.first_segment.ensures.segment c.first_segment.ensures.rest c.in-text.is)

pub returns-in-text-2-clause-turn : goal.returns-in-text-2-clause-turn
returns-in-text-2-clause-turn c =
    rw c.or_slash.ensures
    (turn_slash_dot c.args.input.now c.first_segment.result.0.now c.first_segment.result.1.now _ c.first_segment.ensures.segment c.first_segment.ensures.rest c.in-text-2.is)

pub returns-in-text-3-clause-turn : goal.returns-in-text-3-clause-turn
returns-in-text-3-clause-turn c =
    rw (c.or_slash-in-text-3.ensures, c.drop_last_segment.ensures)
    (turn_slash_dot_dot c.args.input.now c.first_segment.result.0.now c.first_segment.result.1.now _ c.first_segment.ensures.segment c.first_segment.ensures.rest c.in-text-3.is)

pub returns-in_ok-push_str-in_default-clause-turn : goal.returns-in_ok-push_str-in_default-clause-turn
returns-in_ok-push_str-in_default-clause-turn c =
    rw c.in_ok-push_str-in_default.ensures.bytes
    (turn_other c.args.input.now c.first_segment.result.0.now c.first_segment.result.1.now _ c.first_segment.ensures.segment c.first_segment.ensures.rest
    c.in_default.not-text c.in_default.not-text-2 c.in_default.not-text-3 c.in_default.not-text-4)
