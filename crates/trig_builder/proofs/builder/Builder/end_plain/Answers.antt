use Rattle.std.proofs.Common.{codes, refl}
use Rattle.trig_terms.proofs.Datatypes.{xsd_valid}
use Rattle.trig_builder.proofs.builder.Builder.end_plain.Goals as goal

pub end_string-requires-clause-kind : goal.end_string-requires-clause-kind
end_string-requires-clause-kind c = xsd_valid (codes "string") refl refl
