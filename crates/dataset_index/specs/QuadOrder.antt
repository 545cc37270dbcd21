-- The order of quads by the numbers of subject, predicate, object and graph name; the default graph comes first.
use Rattle.std.specs.Prelude.{List, IsSorted}
use Rattle.std.specs.Option.{option_cmp}
use Rattle.std.specs.Ordering.{nat_cmp, ordering_then}
use Rattle.std.specs.declared.cmp.Ordering.{Ordering}
use Rattle.rdf_terms.specs.declared.term.Quad.{Quad}

abbrev pub quad_cmp : Quad → Quad → Ordering
quad_cmp a b =
    ordering_then (nat_cmp a.s b.s) (ordering_then (nat_cmp a.p b.p)
    (ordering_then (nat_cmp a.o b.o) (option_cmp nat_cmp a.g b.g)))

abbrev pub Ascend : List Quad → Type 0
Ascend quads = IsSorted quad_cmp quads
