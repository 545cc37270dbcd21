-- What follows where nothing failed: `other` writes another output, or says why it writes none.
use Rattle.std.specs.Prelude.{ℕ, Option}
use Rattle.rdf_terms.specs.Vocabulary.{Text}
use Rattle.outside.specs.Faults.{Rose}
use Rattle.rdfc_cli.specs.Answers.{Content, FileSeen, Answers, IsPastAlong}
use Rattle.rdfc_cli.specs.Completeness.{IsFine}
use Rattle.rdfc_cli.specs.Headline.{OfEachReading}
use Rattle.rdfc_cli.specs.Words.Command.{other}
use Rattle.rdfc_cli.specs.declared.options.Settings.{Settings}
use Rattle.rdfc_cli.specs.declared.status.Status.{Status}
use Rattle.rdfc_cli.specs.declared.status.Status.TheVariants.{Done, NoOther, NotFound, NoMemory}

-- a file that is accepted, with no failed call on it, whose counted run is within the limit, and the run along its
-- first tie that is not joined too, where there is one
pub record IsFineTwice (file : FileSeen) (settings : Settings) : Type 0 where
  pub content : Content
  pub fine : IsFine file settings content
  pub within_along : OfEachReading file.syntax fine.bytes (λ D. ¬ (IsPastAlong settings D))

-- the other output was written whole, or there is none, or none was found, or memory was refused
abbrev pub IsOtherAnswer : Status → Type 0
IsOtherAnswer Done = Unit {0}
IsOtherAnswer NoOther = Unit {0}
IsOtherAnswer (NotFound tie) = Unit {0}
IsOtherAnswer NoMemory = Unit {0}
IsOtherAnswer status = ⊥

abbrev pub FindsOthers : {K : Type 0} → (K → Option Text) → (K → ℕ) → Type 0
FindsOthers {K} taken faults =
    (file : Text → FileSeen) (word : Text) (settings : Settings) (old new : K) (status : Status)
    → IsFineTwice (file word) settings → ¬ (Rose (faults old) (faults new))
    → Answers taken faults file (other word) settings old new status → IsOtherAnswer status
