-- Runs of a task on a file, and of `load` on a number, are determined.
use Rattle.std.proofs.Common.{◌≡◌, ℕ, [], Option, Some, None, inl, inr, refl, sym, subst, append-nil}
use Rattle.std.specs.Io.KnownBytes.{Appends}
use Rattle.rdf_terms.proofs.Common.{Text}
use Rattle.outside.specs.Faults.{Rose}
use Rattle.load_document.specs.LoadDocument.{load_document}
use Rattle.canon_model.specs.Hashing.{Hashing}
use Rattle.rdfc_cli.specs.Answers.{Content, Accepts, FileSeen, IsCause, IsPast, IsRunText}
use Rattle.rdfc_cli.specs.Determined.{IsPlainAnswer}
use Rattle.rdfc_cli.specs.Reports.{IsTextOf, IsSummary}
use Rattle.rdfc_cli.specs.Words.Command.{on_file, load}
use Rattle.rdfc_cli.specs.Words.Syntax.{nquads}
use Rattle.rdfc_cli.specs.declared.options.Settings.{Settings}
use Rattle.rdfc_cli.specs.declared.words.Task.{Task}
use Rattle.rdfc_cli.specs.declared.status.Status.{Status}
use Rattle.rdfc_cli.specs.declared.status.Status.TheVariants.{Done, Unsettled, Refused, ReadFault, WriteFault, WorkLimit, NoMemory, SearchLimit}
use Rattle.rdfc_cli.proofs.Headlines.{of_told}
use Rattle.rdfc_cli.proofs.SameRuns.{Ends}

-- the text of a task on what a document says
abbrev pub IsTaskText : Task → Hashing → Content → Text → Type 0
IsTaskText task ρ content text = IsTextOf task ρ content.dataset content.labels text

-- the summary of it
abbrev pub IsSummaryText : Hashing → Content → Text → Type 0
IsSummaryText ρ content text = IsSummary ρ content.dataset text

-- nothing is taken where nothing changes
pub nothing_taken : {K : Type 0} (taken : K → Option Text) (old new : K) → new ≡ old → Appends (taken old) (taken new) []
nothing_taken taken old new e = subst (λ k. Appends (taken old) (taken k) []) (sym e) (by (taken old))
  where
    by : (t : Option Text) → Appends t t []
    by None = tt
    by (Some bytes) = sym (append-nil bytes)

module _ {K : Type 0} (taken : K → Option Text) (faults : K → ℕ) where
  pub task_ends : (file : Text → FileSeen) (task : Task) (word bytes : Text) (settings : Settings) (old new : K) (status : Status) → (file word).told ≡ Some bytes
      → ¬ (Rose (file word).faults (file word).faults_now) → IsPlainAnswer taken faults file (on_file task word) settings old new status
      → Ends (file word).syntax bytes settings (IsTaskText task) (taken old) (taken new) status
  task_ends file task word bytes settings old new Done told unread a =
      let f = of_told (file word).told bytes (λ bytes. (content : Content) × Accepts (file word).syntax bytes content
      × IsRunText settings None (λ ρ. IsTextOf task ρ content.dataset content.labels) content.dataset a.answers.0) told a.answers.2 in
      record { text = a.answers.0; grown = a.answers.1; content = f.0; accepts = f.1; run = f.2 }
  task_ends file task word bytes settings old new (Unsettled tie) told unread a =
      let f = of_told (file word).told bytes (λ bytes. (content : Content) × Accepts (file word).syntax bytes content
      × IsRunText settings (Some tie) (λ ρ. IsTextOf task ρ content.dataset content.labels) content.dataset a.answers.0) told a.answers.2 in
      record { text = a.answers.0; grown = a.answers.1; content = f.0; accepts = f.1; run = f.2 }
  task_ends file task word bytes settings old new (Refused refusal) told unread a = elim a.answers.1 [
    | inl r ↦ (nothing_taken taken old new a.answers.0, r.0, of_told (file word).told bytes (λ bytes. IsCause (file word).syntax bytes refusal.cause) told r.1)
    | inr r ↦ absurd r.1
  ]
  task_ends file task word bytes settings old new (ReadFault place) told unread a = absurd (unread a.answers.1.1)
  task_ends file task word bytes settings old new WriteFault told unread a = absurd (a.no_put_failed a.answers.0)
  task_ends file task word bytes settings old new (WorkLimit place limit) told unread a =
      let s = a.answers.1 in
      let f = of_told (file word).told bytes (λ bytes. (content : Content) × Accepts (file word).syntax bytes content × IsPast settings content.dataset) told s.1.1 in
      (nothing_taken taken old new a.answers.0, s.1.0, s.0, record { content = f.0; accepts = f.1; past = f.2 })
  task_ends file task word bytes settings old new NoMemory told unread a = absurd (a.memory refl)
  task_ends file task word bytes settings old new (SearchLimit limit image) told unread a = absurd a.answers.1.1
  task_ends file task word bytes settings old new status told unread a = absurd a.answers.1

  pub load_ends : (file : Text → FileSeen) (n : ℕ) (settings : Settings) (old new : K) (status : Status) → IsPlainAnswer taken faults file (load n) settings old new status
      → Ends nquads (load_document n) settings IsSummaryText (taken old) (taken new) status
  load_ends file n settings old new Done a =
      let f = a.answers.2 in
      record { text = a.answers.0; grown = a.answers.1; content = f.0; accepts = f.1; run = f.2 }
  load_ends file n settings old new (Unsettled tie) a =
      let f = a.answers.2 in
      record { text = a.answers.0; grown = a.answers.1; content = f.0; accepts = f.1; run = f.2 }
  load_ends file n settings old new (Refused refusal) a = elim a.answers.1 [ inl r ↦ absurd r | inr r ↦ absurd r.1 ]
  load_ends file n settings old new WriteFault a = absurd (a.no_put_failed a.answers.0)
  load_ends file n settings old new (WorkLimit place limit) a =
      let s = a.answers.1 in
      (nothing_taken taken old new a.answers.0, s.1.0, s.0, record { content = s.1.1.0; accepts = s.1.1.1; past = s.1.1.2 })
  load_ends file n settings old new NoMemory a = absurd (a.memory refl)
  load_ends file n settings old new (SearchLimit limit image) a = absurd a.answers.1.1
  load_ends file n settings old new status a = absurd a.answers.1
