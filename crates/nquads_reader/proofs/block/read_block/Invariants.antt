use Rattle.std.proofs.Common.{◌≡◌, ◌+◌, ◌*◌, ◌≤◌, ◌++◌, List, length}
use Rattle.rdf_terms.specs.Lists.{Text}
use Rattle.nquads_reader.specs.Lines.{lines_of}
use Rattle.nquads_reader.specs.Document.{AllState}
use Rattle.nquads_reader.proofs.block.read_block.Given as goal

abbrev pub invariant-loop-quads : goal.invariant-loop-quads
invariant-loop-quads l = record {
  passed : List Text;
  splits : lines_of l.bytes ≡ passed ++ lines_of l.rest;
  states : AllState passed l.quads.items;
  counted : l.lines ≡ length passed;
  few_quads : length l.quads.items ≤ l.lines;
  few : l.lines + length l.rest ≤ length l.bytes;
  room : 7 * length l.quads.items + length l.rest ≤ length l.bytes;
}

abbrev pub decreases-loop-quads : goal.decreases-loop-quads
decreases-loop-quads l = length l.rest
