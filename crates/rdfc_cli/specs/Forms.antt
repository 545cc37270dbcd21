-- What is kept of a file that is compared: its canonical run, and what it calls its nodes.
use Rattle.std.specs.Prelude.{◌≡◌, ℕ, ◌<◌, ◌⊎◌, List, length, Option, Some, None}
use Rattle.rdf_terms.specs.Vocabulary.{In, Dataset}
use Rattle.rdf_terms.specs.declared.pair_list.Bijection.{Bijection}
use Rattle.rdf_terms.specs.declared.term.Label.{Label}
use Rattle.canon_core.specs.Canonical.{IsCanon}
use Rattle.canon_core.specs.declared.canon.Canon.{Canon}
use Rattle.iso_compare.specs.Comparison.{AreDifferent, AreUndecided}
use Rattle.iso_compare.specs.declared.verdict.Verdict.{Verdict}
use Rattle.iso_compare.specs.declared.verdict.Verdict.TheVariants.{Same, Different as DifferentVerdict, Undecided as UndecidedVerdict}
use Rattle.rdfc_cli.specs.Answers.{Content, IsWithin, IsPast, IsPairing, hashing_of}
use Rattle.rdfc_cli.specs.Reports.{pairs_text}
use Rattle.rdfc_cli.specs.declared.form.Form.{Form}
use Rattle.rdfc_cli.specs.declared.options.Settings.{Settings}
use Rattle.rdfc_cli.specs.declared.output.Output.{Output}
use Rattle.rdfc_cli.specs.declared.status.Status.{Status}
use Rattle.rdfc_cli.specs.declared.status.Status.TheVariants.{Different, WorkLimit, NoMemory, Undecided}

-- the canonical run of the dataset is within the limit, and this is what it gave
pub record IsCanonWithin (settings : Settings) (D : Dataset) (canon : Canon) : Type 0 where
  pub within : IsWithin settings D
  pub canon_is : IsCanon (hashing_of settings) D canon

-- what the run gave, or that it passes the limit
abbrev pub IsRun : Settings → Dataset → Option Canon → Type 0
IsRun settings D (Some canon) = IsCanonWithin settings D canon
IsRun settings D None = IsPast settings D

-- the run of the content's dataset, and its labels
pub record IsFormOf (settings : Settings) (content : Content) (form : Form) : Type 0 where
  pub run : IsRun settings content.dataset form.canon
  pub labels_are : form.labels.items ≡ content.labels
  pub nodes_are : content.dataset.nodes ≡ length content.labels

-- ---- two of them

-- the nodes of the pairs are below these numbers
abbrev pub HasPairsBelow : ℕ → ℕ → List (ℕ × ℕ) → Type 0
HasPairsBelow nodes others pairs = (p : ℕ × ℕ) → In p pairs → (p.0 < nodes) × (p.1 < others)

-- the pairs of the verdict, where it has some, are of nodes below these numbers
abbrev pub HasNodesBelow : ℕ → ℕ → Verdict → Type 0
HasNodesBelow nodes others (Same map) = HasPairsBelow nodes others map.pairs
HasNodesBelow nodes others verdict = Unit {0}

-- the text of a verdict by these labels
pub record IsVerdictOutput (labels others : List Label) (verdict : Verdict) (output : Output) : Type 0 where
  pub none_unsettled : output.unsettled ≡ None
  pub bijection : Bijection
  pub verdict_is : verdict ≡ Same bijection
  pub text_is : output.text ≡ pairs_text labels others bijection.pairs

-- the status that tells a verdict without a text
abbrev pub IsVerdictStop : Verdict → Status → Type 0
IsVerdictStop verdict Different = verdict ≡ DifferentVerdict
IsVerdictStop verdict (Undecided s t) = verdict ≡ UndecidedVerdict s t
IsVerdictStop verdict NoMemory = Unit {0}
IsVerdictStop verdict status = ⊥

-- the text of a comparison
pub record IsPairOutput (settings : Settings) (content other : Content) (output : Output) : Type 0 where
  pub none_unsettled : output.unsettled ≡ None
  pub pairing : IsPairing settings content other output.text

-- why a comparison has no text
abbrev pub IsPairStop : Settings → Content → Content → Status → Type 0
IsPairStop settings content other (WorkLimit place limit) =
    (limit ≡ settings.limit) × (((place ≡ 0) × IsPast settings content.dataset)
    ⊎ ((place ≡ 1) × IsWithin settings content.dataset × IsPast settings other.dataset))
IsPairStop settings content other Different =
    IsWithin settings content.dataset × IsWithin settings other.dataset
    × AreDifferent (hashing_of settings) content.dataset other.dataset
IsPairStop settings content other (Undecided s t) =
    IsWithin settings content.dataset × IsWithin settings other.dataset
    × AreUndecided (hashing_of settings) content.dataset other.dataset s t
IsPairStop settings content other NoMemory = Unit {0}
IsPairStop settings content other status = ⊥
