-- The bytes that a call wrote are what its run put.
use Rattle.std.proofs.Common.{◌≡◌, ℕ, List, [], Option, Some, take, drop, length, inl, inr, sym, subst, ◌∙◌, arith, ap}
use Rattle.std.proofs.Math.Seq.{take-append_seam}
use Rattle.rdf_terms.specs.Lists.{Text}
use Rattle.lent_memory.specs.LentFiles.{LentFiles}
use Rattle.lent_memory.specs.declared.sink.GatheringSink.{GatheringSink}
use Rattle.ndegree_hash.specs.declared.tie.Tie.{Tie}
use Rattle.rdfc_cli.proofs.Headlines.{headline}
use Rattle.rdfc_cli.specs.Answers.{FileSeen}
use Rattle.rdfc_cli.specs.Headline.{IsOneOutput, HasUnsettledTie, Says}
use Rattle.rdfc_cli.specs.Options.{settings_in, syntax_in}
use Rattle.rdfc_cli.specs.Words.{Given}
use Rattle.rdfc_cli.specs.declared.options.Settings.{Settings}
use Rattle.rdfc_cli.specs.declared.status.Status.{Status}
use Rattle.rdfc_cli.specs.declared.status.Status.TheVariants.{Done, Different, NoOther, Usage, Unsettled, NotFound, Refused, ReadFault, WriteFault, WorkLimit, NoMemory, Undecided, SearchLimit}
use Rattle.rdfc_c.specs.Answers.{IsDelivered, IsWritten, lent_file, taken_of, refused_of, delivery_of}
use Rattle.rdfc_c.specs.Headline.{IsCanonCall}
use Rattle.rdfc_c.specs.declared.answer.Answer.{Answer}
use Rattle.rdfc_c.specs.declared.delivery.Delivery.{Delivery}

front : (code : ℕ) (text before after : Text) (d : Delivery) → IsWritten code text before after d → take d.written after ≡ text
front code text before after d w = rw (w.written, w.after_is) (take-append_seam text (drop (length text) before))

-- what holds of the sink holds of the bytes that were written
moved : (P : Option Text → Option Text → Type 0) (code : ℕ) (text before after : Text) (d : Delivery) (old new : GatheringSink) → taken_of old ≡ Some [] → taken_of new ≡ Some text
    → IsWritten code text before after d → P (taken_of old) (taken_of new) → P (Some []) (Some (take d.written after))
moved P code text before after d old new empty gathered w p =
    subst (λ now. P (Some []) now) (gathered ∙ ap Some (sym (front code text before after d w))) (subst (λ then. P then (taken_of new)) empty p)

one : (file : FileSeen) (bytes : Text) (settings : Settings) (old new : GatheringSink) (status : Status) (text before after : Text) (d : Delivery)
    → taken_of old ≡ Some [] → taken_of new ≡ Some text → IsDelivered status text before after d → d.status ≡ 0 → Says taken_of refused_of file bytes settings old new status
    → IsOneOutput (Some []) (Some (take d.written after)) file.syntax bytes settings
one file bytes settings old new Done text before after d empty gathered (inl w) e says = moved (λ b n. IsOneOutput b n file.syntax bytes settings) 0 text before after d old new empty gathered w says
one file bytes settings old new Done text before after d empty gathered (inr n) e says = absurd (omega (arith, n.status, e))
one file bytes settings old new Different text before after d empty gathered u e says = absurd (omega (arith, u.status, e))
one file bytes settings old new NoOther text before after d empty gathered u e says = absurd (omega (arith, u.status, e))
one file bytes settings old new Usage text before after d empty gathered u e says = absurd (omega (arith, u.status, e))
one file bytes settings old new (Unsettled tie) text before after d empty gathered (inl w) e says = absurd (omega (arith, w.status, e))
one file bytes settings old new (Unsettled tie) text before after d empty gathered (inr n) e says = absurd (omega (arith, n.status, e))
one file bytes settings old new (NotFound tie) text before after d empty gathered u e says = absurd (omega (arith, u.status, e))
one file bytes settings old new (Refused refusal) text before after d empty gathered u e says = absurd (omega (arith, u.status, e))
one file bytes settings old new (ReadFault place) text before after d empty gathered u e says = absurd (omega (arith, u.status, e))
one file bytes settings old new WriteFault text before after d empty gathered u e says = absurd (omega (arith, u.status, e))
one file bytes settings old new (WorkLimit place limit) text before after d empty gathered u e says = absurd (omega (arith, u.status, e))
one file bytes settings old new NoMemory text before after d empty gathered u e says = absurd (omega (arith, u.status, e))
one file bytes settings old new (Undecided s t) text before after d empty gathered u e says = absurd (omega (arith, u.status, e))
one file bytes settings old new (SearchLimit limit image) text before after d empty gathered u e says = absurd (omega (arith, u.status, e))

tied : (file : FileSeen) (bytes : Text) (settings : Settings) (old new : GatheringSink) (status : Status) (text before after : Text) (d : Delivery)
    → taken_of old ≡ Some [] → taken_of new ≡ Some text → IsDelivered status text before after d → d.status ≡ 3 → Says taken_of refused_of file bytes settings old new status
    → (tie : Tie) × HasUnsettledTie (Some []) (Some (take d.written after)) file.syntax bytes settings tie
tied file bytes settings old new (Unsettled tie) text before after d empty gathered (inl w) e says =
    (tie, moved (λ b n. HasUnsettledTie b n file.syntax bytes settings tie) 3 text before after d old new empty gathered w says)
tied file bytes settings old new (Unsettled tie) text before after d empty gathered (inr n) e says = absurd (omega (arith, n.status, e))
tied file bytes settings old new Done text before after d empty gathered (inl w) e says = absurd (omega (arith, w.status, e))
tied file bytes settings old new Done text before after d empty gathered (inr n) e says = absurd (omega (arith, n.status, e))
tied file bytes settings old new Different text before after d empty gathered u e says = absurd (omega (arith, u.status, e))
tied file bytes settings old new NoOther text before after d empty gathered u e says = absurd (omega (arith, u.status, e))
tied file bytes settings old new Usage text before after d empty gathered u e says = absurd (omega (arith, u.status, e))
tied file bytes settings old new (NotFound tie) text before after d empty gathered u e says = absurd says
tied file bytes settings old new (Refused refusal) text before after d empty gathered u e says = absurd (omega (arith, u.status, e))
tied file bytes settings old new (ReadFault place) text before after d empty gathered u e says = absurd (omega (arith, u.status, e))
tied file bytes settings old new WriteFault text before after d empty gathered u e says = absurd (omega (arith, u.status, e))
tied file bytes settings old new (WorkLimit place limit) text before after d empty gathered u e says = absurd (omega (arith, u.status, e))
tied file bytes settings old new NoMemory text before after d empty gathered u e says = absurd (omega (arith, u.status, e))
tied file bytes settings old new (Undecided s t) text before after d empty gathered u e says = absurd (omega (arith, u.status, e))
tied file bytes settings old new (SearchLimit limit image) text before after d empty gathered u e says = absurd (omega (arith, u.status, e))

pub done_forms : (files : LentFiles) (word bytes : Text) (options : List Given) (before after : Text) (answer : Answer)
    → IsCanonCall files word bytes options before after answer → answer.status ≡ 0
    → IsOneOutput (Some []) (Some (take answer.written after)) (syntax_in options) bytes (settings_in options)
done_forms files word bytes options before after answer call zero =
    let a = call.answered in
    one (lent_file (syntax_in options) files a.failed word) bytes (settings_in options) a.old a.new a.status a.text before after (delivery_of answer) a.empty a.gathered a.delivered zero
    (headline taken_of refused_of (lent_file (syntax_in options) files a.failed) word bytes (settings_in options) a.old a.new a.status call.told a.answers)

pub unsettled_forms : (files : LentFiles) (word bytes : Text) (options : List Given) (before after : Text) (answer : Answer)
    → IsCanonCall files word bytes options before after answer → answer.status ≡ 3
    → (tie : Tie) × HasUnsettledTie (Some []) (Some (take answer.written after)) (syntax_in options) bytes (settings_in options) tie
unsettled_forms files word bytes options before after answer call three =
    let a = call.answered in
    tied (lent_file (syntax_in options) files a.failed word) bytes (settings_in options) a.old a.new a.status a.text before after (delivery_of answer) a.empty a.gathered a.delivered three
    (headline taken_of refused_of (lent_file (syntax_in options) files a.failed) word bytes (settings_in options) a.old a.new a.status call.told a.answers)
