use Rattle.trig_terms.specs.Meaning.Place.{AtPrefixIri}
use Rattle.trig_builder.proofs.telling.Telling.turn_to_prefix_iri.Goals as goal

pub returns-clause-tells : goal.returns-clause-tells
returns-clause-tells c t h = c.turn_to.ensures.tells t AtPrefixIri tt h
