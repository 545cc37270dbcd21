use Rattle.std.proofs.Common.{refl, arith}
use Rattle.std.proofs.lemmas.Option.{slice_get_within}
use Rattle.rdf_terms.specs.declared.term.Term.TheVariants.{Blank}
use Rattle.lean_search.proofs.search.node_mapped.Goals as goal

pub bounds-to-number : goal.bounds-to-number
bounds-to-number c = (let l = slice_get_within c.args.graph.now.terms c.term_of-number.result (Blank c.args.node) c.term_of-number.ensures in let e = c.requires.length in omega arith)

pub returns : goal.returns
returns c = record { number = c.term_of-number.result; number_is = c.term_of-number.ensures; mapped_is = refl }
