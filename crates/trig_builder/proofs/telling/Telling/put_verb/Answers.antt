use Rattle.rdf_terms.specs.References.{term_of}
use Rattle.trig_builder.specs.Telling.{view_of}
use Rattle.trig_builder.proofs.Putting.{verb_put_told}
use Rattle.trig_builder.proofs.telling.Telling.put_verb.Goals as goal

pub returns-in_ok-verb-clause-tells : goal.returns-in_ok-verb-clause-tells
returns-in_ok-verb-clause-tells c t said is h =
    verb_put_told (view_of c.args.self.now) t said c.requires.here.0 (term_of c.args.term) c.in_ok-verb.verb c.with_verb.result c.replace-behind.result
    c.requires.here.1 c.replace-behind.ensures.value c.in_ok-verb.ensures c.with_verb.ensures (c.is_iri.ensures.0 c.if-is_iri.true) is h
