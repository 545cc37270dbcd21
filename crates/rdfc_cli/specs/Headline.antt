-- What the answer of a run says of `canon` on a file that is told: the headline, status by status.
use Rattle.std.specs.Prelude.{◌≡◌, ℕ, ◌<◌, ◌≤◌, Option, Some, take}
use Rattle.std.specs.Io.KnownBytes.{Appends}
use Rattle.rdf_terms.specs.Vocabulary.{Text, Dataset, IsValid, AreIsomorphic}
use Rattle.outside.specs.Faults.{Rose}
use Rattle.canon_model.specs.Hashing.{Hashing}
use Rattle.canon_model.specs.Allowed.{IsCanonicalOutput}
use Rattle.canon_model.specs.JoinedTies.{IsFirstUnjoined, ties_of_run}
use Rattle.canon_model.specs.Ties.{AreTied, IsJoined}
use Rattle.canon_model.specs.TieSymmetry.{IsCarried}
use Rattle.canon_model.specs.Output.{units_of}
use Rattle.ndegree_hash.specs.Log.{tie_of}
use Rattle.ndegree_hash.specs.declared.tie.Tie.{Tie}
use Rattle.rdfc_cli.specs.Answers.{Content, Accepts, FileSeen, Answers, IsCause, hashing_of}
use Rattle.rdfc_cli.specs.Puts.{IsCutShort}
use Rattle.rdfc_cli.specs.Words.{Syntax}
use Rattle.rdfc_cli.specs.Words.Command.{on_file}
use Rattle.rdfc_cli.specs.declared.options.Settings.{Settings}
use Rattle.rdfc_cli.specs.declared.words.Task.TheVariants.{Canon}
use Rattle.rdfc_cli.specs.declared.status.Status.{Status}
use Rattle.rdfc_cli.specs.declared.status.Status.TheVariants.{Done, Unsettled, Refused, ReadFault, WriteFault, WorkLimit, NoMemory}
use Rattle.rdfc_cli.specs.declared.status.Cause.{Cause}

-- whatever dataset the bytes of the file are read as
abbrev pub OfEachReading : Syntax → Text → (Dataset → Type 0) → Type 0
OfEachReading syntax bytes Fact = (content : Content) → Accepts syntax bytes content → Fact content.dataset

-- The file is accepted with this content. The standard allows the text for its dataset, and for no dataset that is not
-- isomorphic to it, under whichever hashing, and the counted run takes no more units than the limit.
pub record IsOutputFor (syntax : Syntax) (bytes : Text) (settings : Settings) (content : Content)
    (text : Text) : Type 0 where
  pub accepts : Accepts syntax bytes content
  pub allowed : IsCanonicalOutput (hashing_of settings) content.dataset text
  pub tells : (ρ : Hashing) (E : Dataset) → IsValid E → IsCanonicalOutput ρ E text → AreIsomorphic content.dataset E
  pub within : OfEachReading syntax bytes (λ D. units_of (hashing_of settings) D ≤ settings.limit)

-- With status 0 the output has taken the text and nothing else, and whatever the standard allows for whichever
-- isomorphic dataset is this text.
pub record IsOneOutput (before now : Option Text) (syntax : Syntax) (bytes : Text) (settings : Settings) : Type 0 where
  pub content : Content
  pub text : Text
  pub grown : Appends before now text
  pub is_output : IsOutputFor syntax bytes settings content text
  pub only : (E : Dataset) → AreIsomorphic content.dataset E → (other : Text)
      → IsCanonicalOutput (hashing_of settings) E other → other ≡ text

-- With status 3 it has taken the text and nothing else. The two lists of the tie are those of outcomes that the
-- algorithm doesn't tell apart: it is the first tie of the counted run whose exchange is no symmetry of the dataset,
-- and no symmetry that keeps the identifiers that were issued before carries the one list to the other.
pub record HasUnsettledTie (before now : Option Text) (syntax : Syntax) (bytes : Text) (settings : Settings)
    (tie : Tie) : Type 0 where
  pub content : Content
  pub text : Text
  pub grown : Appends before now text
  pub is_output : IsOutputFor syntax bytes settings content text
  pub first : IsFirstUnjoined content.dataset (ties_of_run (hashing_of settings) content.dataset) (tie_of tie)
  pub tied : AreTied (hashing_of settings) content.dataset tie.canon (take tie.passed tie.left) tie.left tie.right
  pub not_joined : ¬ (IsJoined content.dataset tie.canon tie.left tie.right)
  pub not_carried : ¬ (IsCarried content.dataset tie.canon (take tie.passed tie.left) tie.left tie.right)

-- with status 6 it has taken a proper prefix of such a text
pub record IsCutOff (before now : Option Text) (syntax : Syntax) (bytes : Text) (settings : Settings) : Type 0 where
  pub content : Content
  pub text : Text
  pub cut : IsCutShort before now text
  pub is_output : IsOutputFor syntax bytes settings content text

-- with status 7 the file is accepted, and the counted run takes more units than the limit
pub record IsPastUnits (syntax : Syntax) (bytes : Text) (settings : Settings) (limit : ℕ) : Type 0 where
  pub limit_is : limit ≡ settings.limit
  pub content : Content
  pub accepts : Accepts syntax bytes content
  pub passes : OfEachReading syntax bytes (λ D. settings.limit < units_of (hashing_of settings) D)

module _ {K : Type 0} (taken : K → Option Text) (faults : K → ℕ) where
  -- What each status says, where the file of the command has these bytes: with each but 0, 3 and 6 nothing was put.
  -- There are no others.
  abbrev pub Says : FileSeen → Text → Settings → K → K → Status → Type 0
  Says file bytes settings old new Done = IsOneOutput (taken old) (taken new) file.syntax bytes settings
  Says file bytes settings old new (Unsettled tie) =
      HasUnsettledTie (taken old) (taken new) file.syntax bytes settings tie
  Says file bytes settings old new WriteFault =
      Rose (faults old) (faults new) × IsCutOff (taken old) (taken new) file.syntax bytes settings
  Says file bytes settings old new (WorkLimit place limit) =
      (new ≡ old) × (place ≡ 0) × IsPastUnits file.syntax bytes settings limit
  Says file bytes settings old new (Refused refusal) =
      (new ≡ old) × (refusal.file ≡ 0) × IsCause file.syntax bytes refusal.cause
  Says file bytes settings old new (ReadFault place) =
      (new ≡ old) × (place ≡ 0) × Rose file.faults file.faults_now
  Says file bytes settings old new NoMemory = new ≡ old
  Says file bytes settings old new status = ⊥

  abbrev pub Headline : Type 0
  Headline =
      (file : Text → FileSeen) (word bytes : Text) (settings : Settings) (old new : K) (status : Status)
      → (file word).told ≡ Some bytes → Answers taken faults file (on_file Canon word) settings old new status
      → Says (file word) bytes settings old new status

-- ---- causes

-- bytes are refused for one cause, and those that are accepted for none
pub record CausesExclude : Type 0 where
  pub one : (syntax : Syntax) (bytes : Text) (cause other : Cause) → IsCause syntax bytes cause
      → IsCause syntax bytes other → cause ≡ other
  pub none : (syntax : Syntax) (bytes : Text) (content : Content) (cause : Cause) → Accepts syntax bytes content
      → ¬ (IsCause syntax bytes cause)
