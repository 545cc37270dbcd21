use Rattle.std.proofs.Common.{◌≤◌, ◌+◌, ◌*◌, length, map, take}
use Rattle.rdf_terms.specs.Document.{Extends, NumbersAll}
use Rattle.rdf_terms.specs.References.{statement_of}
use Rattle.rdf_terms.proofs.numbering.number_all.Given as goal

abbrev pub invariant-loop-place : goal.invariant-loop-place
invariant-loop-place l = record {
  numbers : NumbersAll l.fn.terms (map statement_of (take l.place l.quads)) l.numbered.items l.terms;
  extends : Extends l.fn.terms l.terms;
  bound : length l.terms ≤ length l.fn.terms + 4 * l.place;
}
