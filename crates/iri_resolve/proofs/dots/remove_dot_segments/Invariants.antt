use Rattle.std.proofs.Common.{length, string_bytes}
use denote.Text.{Utf8}
use denote.Shadow.{shadow}
use Rattle.iri_resolve.proofs.Turns.{LeadsTo}
use Rattle.iri_resolve.proofs.dots.remove_dot_segments.Given as goal

abbrev pub invariant-loop-input : goal.invariant-loop-input
invariant-loop-input l = shadow (Utf8 l.input) × LeadsTo l.path l.input (string_bytes l.output)

abbrev pub decreases-loop-input : goal.decreases-loop-input
decreases-loop-input l = length l.input
