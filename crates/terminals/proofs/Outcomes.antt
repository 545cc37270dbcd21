-- Clauses on an `Option` from facts that hold of it.
use Rattle.std.proofs.Common.{Option, Some, None}
use Rattle.std.specs.Option.{IfNone}

pub IfNone_since : {X : Type 0} (r : Option X) (P : Type 0) → P → IfNone r P
IfNone_since None P p = p
IfNone_since (Some x) P p = tt

pub IfNone_then : {X : Type 0} (r : Option X) (P Q : Type 0) → (P → Q) → IfNone r P → IfNone r Q
IfNone_then None P Q f p = f p
IfNone_then (Some x) P Q f p = tt
