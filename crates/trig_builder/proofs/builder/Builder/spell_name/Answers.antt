use Rattle.std.proofs.Common.{string_bytes, sym}
use Rattle.trig_builder.specs.Building.{defined}
use Rattle.trig_builder.proofs.Meanings.{whole_spelled}
use Rattle.trig_builder.proofs.builder.Builder.spell_name.Goals as goal

pub returns-clause-whole : goal.returns-clause-whole
returns-clause-whole c e =
    whole_spelled (defined c.args.self.now.prefixes c.args.prefix.now) c.in-Some.iri.now c.args.local.now (string_bytes c.write_name.new.name)
    (c.requires.ready.prefixes c.args.prefix.now) (sym c.in-Some.ensures) c.requires.local c.in_ok-write_name.ensures
