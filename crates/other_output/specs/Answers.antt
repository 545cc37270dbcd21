-- Which answer comes where.
use Rattle.std.specs.Prelude.{◌≡◌, ◌↔◌, Some, None}
use Rattle.rdf_terms.specs.Vocabulary.{Text, Dataset}
use Rattle.canon_model.specs.Hashing.{Hashing}
use Rattle.ndegree_hash.specs.Log.{tie_of}
use Rattle.ndegree_hash.specs.declared.tie.Tie.{Tie}
use Rattle.canon_core.specs.declared.canon.Canon.{Canon}
use Rattle.canon_core.specs.Canonical.{IsCanon}
use Rattle.other_output.specs.Along.{IsFormAlong}
use Rattle.other_output.specs.Openness.{IsOpenness}
use Rattle.other_output.specs.declared.other.Openness.{Openness}
use Rattle.other_output.specs.declared.other.Openness.TheVariants.{Settled, Another, NotKnown}

-- every tie is joined: exactly where the run has kept none that is not
abbrev pub SettledWhereNone : Type 0
SettledWhereNone =
    (ρ : Hashing) (D : Dataset) (canon : Canon) → IsCanon ρ D canon
    → (openness : Openness) → IsOpenness ρ D canon openness → ((openness ≡ Settled) ↔ (canon.unsettled ≡ None))

-- where it has kept one, the form along it decides: another output exactly where it differs from that of the run, and
-- not known exactly where the two are equal
abbrev pub ToldByForms : Type 0
ToldByForms =
    (ρ : Hashing) (D : Dataset) (canon : Canon) → IsCanon ρ D canon
    → (t : Tie) → canon.unsettled ≡ Some t → (text : Text) → IsFormAlong ρ D (tie_of t) text
    → (openness : Openness) → IsOpenness ρ D canon openness
    → ((openness ≡ Another text) ↔ (¬ (canon.bytes ≡ text))) × ((openness ≡ NotKnown) ↔ (canon.bytes ≡ text))

-- two answers are equal
abbrev pub OneOpenness : Type 0
OneOpenness =
    (ρ : Hashing) (D : Dataset) (canon : Canon) → IsCanon ρ D canon
    → (one other : Openness) → IsOpenness ρ D canon one → IsOpenness ρ D canon other → one ≡ other
