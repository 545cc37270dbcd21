use Rattle.std.proofs.Common.{refl}
use Rattle.iri_resolve.proofs.FirstPlaces.{none_before_end}
use Rattle.iri_resolve.proofs.delimiters.cut.Goals as goal

pub returns-in-None-clause-back : goal.returns-in-None-clause-back
returns-in-None-clause-back c =
    rw (none_before_end c.args.delimiter c.args.text.now (c.in-None.ensures.byte c.requires (λ w o finds. finds))) refl
