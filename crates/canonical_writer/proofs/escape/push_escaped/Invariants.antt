use Rattle.std.proofs.Common.{◌≡◌, ◌≤◌, ◌-◌, ◌++◌, take, drop}
use Rattle.std.specs.Io.{StartsWith}
use Rattle.std.specs.List.{flat_map}
use Rattle.rdf_terms.specs.CanonicalForm.{escaped}
use Rattle.canonical_writer.proofs.escape.push_escaped.Given as goal

-- what is written, and the run that is not written yet, are the text so far with its escapes
abbrev pub invariant-loop-i : goal.invariant-loop-i
invariant-loop-i l = record {
  run : l.start ≤ l.i;
  so_far : l.out.items ++ take (l.i - l.start) (drop l.start l.text) ≡ l.initial.out.items ++ flat_map escaped (take l.i l.text);
  front : StartsWith l.out.items l.initial.out.items;
}
