-- What the numbers of an answer tell of the run.
use Rattle.std.proofs.Common.{◌≡◌, ℕ, Option, inl, inr, refl, subst, arith}
use Rattle.rdf_terms.specs.Lists.{Text}
use Rattle.lent_memory.specs.LentFiles.{LentFiles, told_of, faults_of}
use Rattle.rdfc_cli.specs.Answers.{FileSeen, Answers}
use Rattle.rdfc_cli.specs.Words.{Command, Syntax}
use Rattle.rdfc_cli.specs.declared.options.Settings.{Settings}
use Rattle.rdfc_cli.specs.declared.status.Status.{Status}
use Rattle.rdfc_cli.specs.declared.status.Status.TheVariants.{Done, Different, NoOther, Usage, Unsettled, NotFound, Refused, ReadFault, WriteFault, WorkLimit, NoMemory, Undecided, SearchLimit}
use Rattle.rdfc_c.specs.declared.delivery.Delivery.{Delivery}
use Rattle.rdfc_c.specs.Answers.{IsDelivered, lent_file}

-- only words that are no command are told by 2
pub usage_told : (status : Status) (text before after : Text) (delivery : Delivery) → IsDelivered status text before after delivery → delivery.status ≡ 2 → status ≡ Usage
usage_told Done text before after delivery (inl w) e = absurd (omega (arith, w.status, e))
usage_told Done text before after delivery (inr n) e = absurd (omega (arith, n.status, e))
usage_told Different text before after delivery u e = absurd (omega (arith, u.status, e))
usage_told NoOther text before after delivery u e = absurd (omega (arith, u.status, e))
usage_told (NotFound tie) text before after delivery u e = absurd (omega (arith, u.status, e))
usage_told Usage text before after delivery u e = refl
usage_told (Unsettled tie) text before after delivery (inl w) e = absurd (omega (arith, w.status, e))
usage_told (Unsettled tie) text before after delivery (inr n) e = absurd (omega (arith, n.status, e))
usage_told (Refused refusal) text before after delivery u e = absurd (omega (arith, u.status, e))
usage_told (ReadFault place) text before after delivery u e = absurd (omega (arith, u.status, e))
usage_told WriteFault text before after delivery u e = absurd (omega (arith, u.status, e))
usage_told (WorkLimit place limit) text before after delivery u e = absurd (omega (arith, u.status, e))
usage_told NoMemory text before after delivery u e = absurd (omega (arith, u.status, e))
usage_told (Undecided s t) text before after delivery u e = absurd (omega (arith, u.status, e))
usage_told (SearchLimit limit image) text before after delivery u e = absurd (omega (arith, u.status, e))

-- a shelf of files on which no call has failed yet
abbrev pub seen_of : Syntax → LentFiles → ℕ → ℕ → Text → FileSeen
seen_of syntax files failed failed_now name = record { syntax = syntax; told = told_of files name; faults = faults_of failed name; faults_now = faults_of failed_now name }

pub of_lent : {K : Type 0} (taken : K → Option Text) (faults : K → ℕ) (syntax : Syntax) (files lent : LentFiles) (failed failed_now : ℕ) (command : Command) (settings : Settings) (old new : K)
    (status : Status) → files ≡ lent → failed ≡ 0 → Answers taken faults (seen_of syntax files failed failed_now) command settings old new status
    → Answers taken faults (lent_file syntax lent failed_now) command settings old new status
of_lent taken faults syntax files lent failed failed_now command settings old new status e none a =
    subst (λ k. Answers taken faults (seen_of syntax lent k failed_now) command settings old new status) none
    (subst (λ f. Answers taken faults (seen_of syntax f failed failed_now) command settings old new status) e a)
