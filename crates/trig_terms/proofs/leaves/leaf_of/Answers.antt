use Rattle.std.proofs.Common.{codes, refl}
use Rattle.trig_terms.proofs.Datatypes.{xsd_valid}
use Rattle.trig_terms.proofs.leaves.leaf_of.Goals as goal

pub typed-requires : goal.typed-requires
typed-requires c = xsd_valid (codes "integer") refl refl

pub typed-requires-in-Decimal : goal.typed-requires-in-Decimal
typed-requires-in-Decimal c = xsd_valid (codes "decimal") refl refl

pub typed-requires-in-Double : goal.typed-requires-in-Double
typed-requires-in-Double c = xsd_valid (codes "double") refl refl

pub typed-requires-in-WordTrue : goal.typed-requires-in-WordTrue
typed-requires-in-WordTrue c = xsd_valid (codes "boolean") refl refl
