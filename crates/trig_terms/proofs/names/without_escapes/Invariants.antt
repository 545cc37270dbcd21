use Rattle.std.proofs.Common.{◌≡◌, ◌++◌, length, string_bytes}
use denote.Text.{Utf8}
use denote.Shadow.{shadow}
use Rattle.trig_lexer.specs.Names.{unescaped, unescaped_behind}
use Rattle.trig_terms.proofs.names.without_escapes.Given as goal

abbrev pub invariant-loop-c : goal.invariant-loop-c
invariant-loop-c l = record {
  utf8 : shadow (Utf8 l.rest);
  written : unescaped l.text ≡ string_bytes l.value ++ unescaped_behind l.escapes l.rest;
}

abbrev pub decreases-loop-c : goal.decreases-loop-c
decreases-loop-c l = length l.rest
