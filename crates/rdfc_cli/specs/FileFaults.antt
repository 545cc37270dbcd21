-- A file that was handed over in pieces, why a file gave no dataset, and what it says where it did.
use Rattle.std.specs.Prelude.{◌≡◌, ℕ, ◌≤◌, Option, IfSome, length}
use Rattle.rdf_terms.specs.Vocabulary.{Text, Document, dataset}
use Rattle.outside.specs.Faults.{Rose}
use Rattle.rdfc_cli.specs.declared.status.Status.{Status}
use Rattle.rdfc_cli.specs.declared.status.Status.TheVariants.{Refused as RefusedStatus, ReadFault, NoMemory as NoMemoryStatus}
use Rattle.rdfc_cli.specs.Answers.{Content, FileSeen, IsCause}
use Rattle.rdfc_cli.specs.Words.{Syntax}
use Rattle.rdfc_cli.specs.declared.files.TheConstants.{FILE_LIMIT}
use Rattle.rdfc_cli.specs.declared.files.FileFault.{FileFault}
use Rattle.rdfc_cli.specs.declared.files.FileFault.TheVariants.{Failed, Refused, NoMemory}

-- what holds bytes in this way holds a whole file within the limit: its bytes, where they are told
pub record IsFed {I : Type 0} (Holds : I → Text → Type 0) (told : Option Text) (intake : I) : Type 0 where
  pub bytes : Text
  pub whole : IfSome told (λ all. bytes ≡ all)
  pub within : length bytes ≤ FILE_LIMIT
  pub holds : Holds intake bytes

abbrev pub content_of : Document → Content
content_of d = record { dataset = dataset d; labels = d.labels }

abbrev pub IsFileFault : FileSeen → FileFault → Type 0
IsFileFault file Failed = Rose file.faults file.faults_now
IsFileFault file (Refused cause) = IfSome file.told (λ bytes. IsCause file.syntax bytes cause)
IsFileFault file NoMemory = Unit {0}

-- the same of the bytes alone, which were read whole
abbrev pub IsTextFault : Syntax → Text → FileFault → Type 0
IsTextFault syntax bytes Failed = ⊥
IsTextFault syntax bytes (Refused cause) = IsCause syntax bytes cause
IsTextFault syntax bytes NoMemory = Unit {0}

-- the status that the fault of the file at this place ends a run with
abbrev pub IsFaultStatus : FileFault → ℕ → Status → Type 0
IsFaultStatus Failed place status = status ≡ ReadFault place
IsFaultStatus (Refused cause) place status = status ≡ RefusedStatus (record { file = place; cause = cause })
IsFaultStatus NoMemory place status = status ≡ NoMemoryStatus
