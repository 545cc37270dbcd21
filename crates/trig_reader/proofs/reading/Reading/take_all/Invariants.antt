use Rattle.std.proofs.Common.{◌≡◌, ◌-◌, List, false, length}
use Rattle.std.specs.Str.{IsCharBoundary}
use Rattle.trig_lexer.specs.declared.token.Token.{Token}
use Rattle.trig_reader.specs.Tokens.{place_behind, is_behind_string, HaveNoEnd}
use Rattle.trig_reader.specs.Reading.{HasTaken}
use Rattle.trig_reader.proofs.reading.Reading.take_all.Given as goal

abbrev pub invariant-loop-token : goal.invariant-loop-token
invariant-loop-token l = record {
  tokens : List Token;
  taken : HasTaken l.text l.fn.self tokens l.self;
  no_end : HaveNoEnd tokens;
  place_is : l.place ≡ place_behind 0 tokens;
  after_is : l.after_string ≡ is_behind_string false tokens;
  boundary : IsCharBoundary l.text l.place;
}

abbrev pub decreases-loop-token : goal.decreases-loop-token
decreases-loop-token l = length l.text - l.place
