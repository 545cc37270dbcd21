use Rattle.std.proofs.Common.{take}
use Rattle.rdf_terms.specs.Document.{Extends, AddsAll}
use Rattle.rdf_terms.proofs.numbering.insert_all.Given as goal

abbrev pub invariant-loop-quad : goal.invariant-loop-quad
invariant-loop-quad l = record {
  adds : AddsAll l.fn.quads.keys (take l.quad-index l.numbered) l.quads.keys;
  extends : Extends l.fn.quads.keys l.quads.keys;
}
