-- How what the builder holds stands for how far the document has come.
use Rattle.std.specs.Prelude.{◌≡◌, Bool, true, false, Option, Some, None, All, IfSome}
use Rattle.std.specs.HashMap.{get_by_text}
use Rattle.rdf_terms.specs.Vocabulary.{Text, HasScheme, is_excluded}
use Rattle.trig_terms.specs.Meaning.{State, Pending, Undefined, looked_up}
use Rattle.trig_terms.specs.Meaning.Pending.{Plain, AwaitsType}
use Rattle.trig_terms.specs.Meaning.Undefined.{NoPrefix, NoBase}
use Rattle.trig_builder.specs.declared.builder.Builder.{Builder}
use Rattle.trig_builder.specs.declared.builder.Missing.{Missing}
use Rattle.trig_builder.specs.declared.builder.Missing.TheVariants.{Prefix, Base}
use Rattle.trig_builder.specs.declared.prefixes.Prefixes.{Prefixes}
use Rattle.trig_builder.specs.declared.pending.Pending.{Pending as PendingString}
use Rattle.trig_builder.specs.declared.pending.Pending.TheVariants.{Plain as PlainString, AwaitsType as TypedString}
use Rattle.trig_builder.specs.Telling.{view_of, IsSound, Tells}

-- what the prefix was last set to
abbrev pub defined : Prefixes → Text → Option Text
defined p prefix = get_by_text p.iris prefix

-- what a name stands for, if its prefix is set
abbrev pub if_set : Bool → Text → Option Text
if_set true iri = Some iri
if_set false iri = None

-- a text with a scheme, in which no character stands that an IRI may not have (RDF 1.1 TriG, section 4.5, IRIREF)
pub record IsWhole (text : Text) : Type 0 where
  pub has_scheme : HasScheme text
  pub allowed : All (λ c. is_excluded c ≡ false) text

abbrev pub pending_of : Option PendingString → Option Pending
pending_of None = None
pending_of (Some (PlainString lexical)) = Some (Plain lexical)
pending_of (Some (TypedString lexical)) = Some (AwaitsType lexical)

abbrev pub undefined_of : Option Missing → Option Undefined
undefined_of None = None
undefined_of (Some Prefix) = Some NoPrefix
undefined_of (Some Base) = Some NoBase

-- what is so at each time, whatever was met
pub record IsReady (b : Builder) : Type 0 where
  pub telling : IsSound (view_of b.telling)
  pub prefixes : (prefix : Text) → IfSome (defined b.prefixes prefix) IsWhole
  pub base : IfSome b.base IsWhole

-- the builder has taken leaves that bring the document to this state
pub record Builds (b : Builder) (s : State) : Type 0 where
  pub told : Tells (view_of b.telling) s.told
  pub prefixes : (prefix : Text) → defined b.prefixes prefix ≡ looked_up s.prefixes prefix
  pub base : b.base ≡ s.base
  pub setting : b.setting ≡ s.setting
  pub pending : pending_of b.pending ≡ s.pending
  pub undefined : undefined_of b.missing ≡ s.undefined
