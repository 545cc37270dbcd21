-- Two runs on the dataset of one document end alike, and with one text.
use Rattle.std.proofs.Common.{◌≡◌, ◌<◌, [], Option, Some, None, sym, ◌∙◌, subst}
use Rattle.std.specs.Io.KnownBytes.{Appends}
use Rattle.rdf_terms.proofs.Common.{Text, Dataset}
use Rattle.canon_model.specs.Hashing.{Hashing}
use Rattle.canon_model.specs.QuadOrder.{HaveSameQuads}
use Rattle.canon_core.specs.Canonical.{IsFirstUnsettled}
use Rattle.ndegree_hash.specs.declared.tie.Tie.{Tie}
use Rattle.rdfc_cli.specs.Answers.{Content, Accepts, Finds, IsCause, IsPast, IsRunText, hashing_of}
use Rattle.rdfc_cli.specs.Determined.{AreAlike, TakeOneText}
use Rattle.rdfc_cli.specs.Words.{Syntax}
use Rattle.rdfc_cli.specs.declared.options.Settings.{Settings}
use Rattle.rdfc_cli.specs.declared.status.Status.{Status}
use Rattle.rdfc_cli.specs.declared.status.Status.TheVariants.{Done, Unsettled, Refused, WorkLimit}
use Rattle.rdfc_cli.specs.declared.status.Refusal.{Refusal}
use Rattle.rdfc_cli.proofs.Headlines.{no_cause_if_accepted, not_both, one_cause, same_labels, same_quads, same_units}
use Rattle.rdfc_cli.proofs.SameQuads.{HaveSameLists, same_unsettled}

first_of_found : (found : Option Tie) (ρ : Hashing) (D : Dataset) → Finds found ρ D → IsFirstUnsettled ρ D found
first_of_found None ρ D f = f.settled
first_of_found (Some tie) ρ D f = f

-- one refusal of a document
pub same_refusal : (refusal other : Refusal) → refusal.file ≡ other.file → refusal.cause ≡ other.cause → refusal ≡ other
same_refusal refusal other file cause i = record { file = file i; cause = cause i }

-- nothing was taken on either side
pub nothing : (before now other_before other_now : Option Text) → Appends before now [] → Appends other_before other_now [] → TakeOneText before now other_before other_now
nothing before now other_before other_now a b = record { text = []; grown = a; other_grown = b }

module _ (syntax : Syntax) (bytes : Text) (settings : Settings) (IsText : Hashing → Content → Text → Type 0) where
  -- the run found this, and its text was taken
  pub record IsFound (found : Option Tie) (before now : Option Text) : Type 0 where
    pub text : Text
    pub grown : Appends before now text
    pub content : Content
    pub accepts : Accepts syntax bytes content
    pub run : IsRunText settings found (λ ρ. IsText ρ content) content.dataset text

  -- the run passes the limit
  pub record PassesByRun : Type 0 where
    pub content : Content
    pub accepts : Accepts syntax bytes content
    pub past : IsPast settings content.dataset

  -- how a run on the document ends
  abbrev pub Ends : Option Text → Option Text → Status → Type 0
  Ends before now Done = IsFound None before now
  Ends before now (Unsettled tie) = IsFound (Some tie) before now
  Ends before now (Refused refusal) = Appends before now [] × (refusal.file ≡ 0) × IsCause syntax bytes refusal.cause
  Ends before now (WorkLimit place limit) = Appends before now [] × (place ≡ 0) × (limit ≡ settings.limit) × PassesByRun
  Ends before now status = ⊥

  module _ (one_text : (ρ : Hashing) (a b : Content) (x y : Text) → HaveSameQuads a.dataset b.dataset → a.labels ≡ b.labels → IsText ρ a x → IsText ρ b y → x ≡ y) where
    both_quads : (a b : Content) → Accepts syntax bytes a → Accepts syntax bytes b → HaveSameQuads a.dataset b.dataset
    both_quads a b x y = same_quads syntax bytes a b x y

    -- what was found is the same, and so is the text
    one_found : (found others : Option Tie) (before now other_before other_now : Option Text) → IsFound found before now → IsFound others other_before other_now
        → HaveSameLists found others × TakeOneText before now other_before other_now
    one_found found others before now other_before other_now x y =
        let s = both_quads x.content y.content x.accepts y.accepts in
        let e = one_text (hashing_of settings) x.content y.content x.text y.text s (same_labels syntax bytes x.content y.content x.accepts y.accepts) x.run.is_text y.run.is_text in (
          same_unsettled (hashing_of settings) x.content.dataset y.content.dataset found others s (first_of_found found (hashing_of settings) x.content.dataset x.run.finds)
              (first_of_found others (hashing_of settings) y.content.dataset y.run.finds),
          record { text = x.text; grown = x.grown; other_grown = subst (Appends other_before other_now) (sym e) y.grown },
        )

    not_past : (found : Option Tie) (before now : Option Text) → IsFound found before now → ¬ PassesByRun
    not_past found before now x p =
        not_both _ settings.limit (subst (λ n. settings.limit < n) (same_units (hashing_of settings) syntax bytes x.content p.content x.accepts p.accepts) p.past) x.run.within

    pub agree : (before now other_before other_now : Option Text) (status other : Status) → Ends before now status → Ends other_before other_now other
        → AreAlike status other × TakeOneText before now other_before other_now
    agree before now b n Done Done x y = (tt, (one_found None None before now b n x y).1)
    agree before now b n Done (Unsettled t) x y = absurd (one_found None (Some t) before now b n x y).0
    agree before now b n Done (Refused r) x y = absurd (no_cause_if_accepted syntax bytes x.content r.cause x.accepts y.2)
    agree before now b n Done (WorkLimit p l) x y = absurd (not_past None before now x y.3)
    agree before now b n Done other x y = absurd y
    agree before now b n (Unsettled s) Done x y = absurd (one_found (Some s) None before now b n x y).0
    agree before now b n (Unsettled s) (Unsettled t) x y = one_found (Some s) (Some t) before now b n x y
    agree before now b n (Unsettled s) (Refused r) x y = absurd (no_cause_if_accepted syntax bytes x.content r.cause x.accepts y.2)
    agree before now b n (Unsettled s) (WorkLimit p l) x y = absurd (not_past (Some s) before now x y.3)
    agree before now b n (Unsettled s) other x y = absurd y
    agree before now b n (Refused r) Done x y = absurd (no_cause_if_accepted syntax bytes y.content r.cause y.accepts x.2)
    agree before now b n (Refused r) (Unsettled t) x y = absurd (no_cause_if_accepted syntax bytes y.content r.cause y.accepts x.2)
    agree before now b n (Refused r) (Refused q) x y =
        (same_refusal r q (x.1 ∙ sym y.1) (one_cause syntax bytes r.cause q.cause x.2 y.2), nothing before now b n x.0 y.0)
    agree before now b n (Refused r) (WorkLimit p l) x y = absurd (no_cause_if_accepted syntax bytes y.3.content r.cause y.3.accepts x.2)
    agree before now b n (Refused r) other x y = absurd y
    agree before now b n (WorkLimit p l) Done x y = absurd (not_past None b n y x.3)
    agree before now b n (WorkLimit p l) (Unsettled t) x y = absurd (not_past (Some t) b n y x.3)
    agree before now b n (WorkLimit p l) (Refused r) x y = absurd (no_cause_if_accepted syntax bytes x.3.content r.cause x.3.accepts y.2)
    agree before now b n (WorkLimit p l) (WorkLimit q m) x y = ((x.1 ∙ sym y.1, x.2 ∙ sym y.2), nothing before now b n x.0 y.0)
    agree before now b n (WorkLimit p l) other x y = absurd y
    agree before now b n status other x y = absurd x
