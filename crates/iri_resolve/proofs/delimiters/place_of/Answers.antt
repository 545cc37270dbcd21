use Rattle.std.proofs.lemmas.Str.Pattern.{find_char}
use Rattle.iri_resolve.proofs.FirstPlaces.{position_of, boundary_of}
use Rattle.iri_resolve.proofs.delimiters.place_of.Goals as goal

pub returns-clause-is : goal.returns-clause-is
returns-clause-is c =
    rw c.unwrap_or.ensures (position_of c.args.delimiter c.args.text.now c.find.result (find_char c.args.delimiter c.args.text.now c.find.result c.find.ensures.cases c.requires))

pub returns-clause-boundary : goal.returns-clause-boundary
returns-clause-boundary c = rw c.unwrap_or.ensures (boundary_of c.args.text.now _ _ c.find.result c.find.ensures.cases)
