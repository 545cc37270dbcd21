-- A quad that is never asked for.
use Rattle.std.proofs.Common.{None}
use Rattle.rdf_terms.specs.declared.term.Quad.{Quad}

abbrev pub no_quad : Quad
no_quad = record { s = 0; p = 0; o = 0; g = None }
