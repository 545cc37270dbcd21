-- Runs of `other` are determined.
use Rattle.std.proofs.Common.{◌≡◌, ℕ, ◌<◌, ◌⊎◌, [], Option, Some, IfSome, inl, inr, refl, sym, ◌∙◌, subst}
use Rattle.std.specs.Io.KnownBytes.{Appends}
use Rattle.rdf_terms.proofs.Common.{Text, Dataset}
use Rattle.outside.specs.Faults.{Rose}
use Rattle.canon_model.specs.Output.{chosen_form}
use Rattle.canon_model.specs.QuadOrder.{HaveSameQuads}
use Rattle.canon_core.specs.Canonical.{IsUnsettledBy}
use Rattle.ndegree_hash.specs.Log.{tie_of}
use Rattle.ndegree_hash.specs.declared.tie.Tie.{Tie}
use Rattle.rdfc_cli.specs.Answers.{Content, Accepts, FileSeen, HasSameFormAlong, IsCause, IsDone, IsOtherText, IsPast, IsPastAlong, IsWithin, hashing_of}
use Rattle.rdfc_cli.specs.Determined.{AreAlike, IsPlainAnswer, TakeOneText}
use Rattle.rdfc_cli.specs.Words.{Syntax}
use Rattle.rdfc_cli.specs.Words.Command.{other}
use Rattle.rdfc_cli.specs.declared.options.Settings.{Settings}
use Rattle.rdfc_cli.specs.declared.status.Refusal.{Refusal}
use Rattle.rdfc_cli.specs.declared.status.Status.{Status}
use Rattle.rdfc_cli.specs.declared.status.Status.TheVariants.{Done, NoOther, Unsettled, NotFound, Refused, ReadFault, WriteFault, WorkLimit, NoMemory, SearchLimit}
use Rattle.rdfc_cli.proofs.Headlines.{no_cause_if_accepted, not_both, of_told, one_cause, same_quads, same_units}
use Rattle.rdfc_cli.proofs.SameQuads.{not_unsettled, not_past_along, same_first, same_form, same_form_along, same_settled}
use Rattle.rdfc_cli.proofs.SameRuns.{nothing, same_refusal}
use Rattle.rdfc_cli.proofs.SameTasks.{nothing_taken}

module _ (syntax : Syntax) (bytes : Text) (settings : Settings) where
  -- the document is accepted, and this holds of its dataset
  pub record IsRead (Fact : Dataset → Type 0) : Type 0 where
    pub content : Content
    pub accepts : Accepts syntax bytes content
    pub fact : Fact content.dataset

  -- another output was taken
  pub record IsTaken (before now : Option Text) : Type 0 where
    pub text : Text
    pub grown : Appends before now text
    pub read : IsRead (λ D. IsOtherText settings D text)

  abbrev pub IsSettledThen : Dataset → Type 0
  IsSettledThen D = IsWithin settings D × IsDone (hashing_of settings) D

  abbrev pub IsSameAlong : Tie → Dataset → Type 0
  IsSameAlong tie D = IsWithin settings D × HasSameFormAlong settings.limit tie (hashing_of settings) D

  abbrev pub IsPastEither : Dataset → Type 0
  IsPastEither D = IsPast settings D ⊎ IsPastAlong settings D

  -- how a run on the document ends
  abbrev pub EndsOther : Option Text → Option Text → Status → Type 0
  EndsOther before now Done = IsTaken before now
  EndsOther before now NoOther = Appends before now [] × IsRead IsSettledThen
  EndsOther before now (NotFound tie) = Appends before now [] × IsRead (IsSameAlong tie)
  EndsOther before now (Refused refusal) = Appends before now [] × (refusal.file ≡ 0) × IsCause syntax bytes refusal.cause
  EndsOther before now (WorkLimit place limit) = Appends before now [] × (place ≡ 0) × (limit ≡ settings.limit) × IsRead IsPastEither
  EndsOther before now status = ⊥

  -- ---- two of them

  module _ (Fact OtherFact : Dataset → Type 0) (x : IsRead Fact) (y : IsRead OtherFact) where
    both_quads : HaveSameQuads x.content.dataset y.content.dataset
    both_quads = same_quads syntax bytes x.content y.content x.accepts y.accepts

    not_past : IsWithin settings x.content.dataset → ¬ (IsPast settings y.content.dataset)
    not_past within past =
        not_both _ settings.limit (subst (λ n. settings.limit < n) (same_units (hashing_of settings) syntax bytes x.content y.content x.accepts y.accepts) past) within

    one_tie : (s t : Tie) → IsUnsettledBy (hashing_of settings) x.content.dataset s → IsUnsettledBy (hashing_of settings) y.content.dataset t → tie_of s ≡ tie_of t
    one_tie s t u v = same_first (hashing_of settings) x.content.dataset y.content.dataset (tie_of s) (tie_of t) both_quads u.first v.first

    not_settled : (t : Tie) → IsDone (hashing_of settings) x.content.dataset → ¬ (IsUnsettledBy (hashing_of settings) y.content.dataset t)
    not_settled t done u = not_unsettled (hashing_of settings) y.content.dataset t (same_settled (hashing_of settings) x.content.dataset y.content.dataset both_quads done.settled) u

  one_text : (before now b n : Option Text) → IsTaken before now → IsTaken b n → TakeOneText before now b n
  one_text before now b n x y =
      let F = λ (D : Dataset). IsOtherText settings D x.text in
      let G = λ (D : Dataset). IsOtherText settings D y.text in
      let s = both_quads F G x.read y.read in
      let e = same_form_along (hashing_of settings) x.read.content.dataset y.read.content.dataset (tie_of x.read.fact.tie) (tie_of y.read.fact.tie) x.text y.text x.read.accepts.valid s
      (one_tie F G x.read y.read x.read.fact.tie y.read.fact.tie x.read.fact.unsettled y.read.fact.unsettled) x.read.fact.form y.read.fact.form in
      record { text = x.text; grown = x.grown; other_grown = subst (Appends b n) (sym e) y.grown }

  -- the form along the tie differs from that of the run, or it doesn't
  not_the_same : (tie : Tie) (before now : Option Text) → IsTaken before now → ¬ (IsRead (IsSameAlong tie))
  not_the_same tie before now x y =
      let F = λ (D : Dataset). IsOtherText settings D x.text in
      let s = both_quads F (IsSameAlong tie) x.read y in
      let e = same_form_along (hashing_of settings) x.read.content.dataset y.content.dataset (tie_of x.read.fact.tie) (tie_of tie) x.text (chosen_form (hashing_of settings) y.content.dataset)
      x.read.accepts.valid s (one_tie F (IsSameAlong tie) x.read y x.read.fact.tie tie x.read.fact.unsettled y.fact.1.unsettled) x.read.fact.form y.fact.1.form in
      x.read.fact.differs (sym (e ∙ same_form (hashing_of settings) x.read.content.dataset y.content.dataset s))

  not_settled_if_taken : (before now : Option Text) → IsTaken before now → ¬ (IsRead IsSettledThen)
  not_settled_if_taken before now x y = not_settled IsSettledThen (λ D. IsOtherText settings D x.text) y x.read x.read.fact.tie y.fact.1 x.read.fact.unsettled

  not_settled_if_same : (tie : Tie) → IsRead (IsSameAlong tie) → ¬ (IsRead IsSettledThen)
  not_settled_if_same tie x y = not_settled IsSettledThen (IsSameAlong tie) y x tie y.fact.1 x.fact.1.unsettled

  not_past_if_settled : IsRead IsSettledThen → ¬ (IsRead IsPastEither)
  not_past_if_settled x y = elim y.fact [
    | inl past ↦ not_past IsSettledThen IsPastEither x y x.fact.0 past
    | inr past ↦ not_settled IsSettledThen IsPastEither x y past.tie x.fact.1 past.unsettled
  ]

  not_refused : (refusal : Refusal) (Fact : Dataset → Type 0) → IsRead Fact → ¬ (IsCause syntax bytes refusal.cause)
  not_refused refusal Fact x c = no_cause_if_accepted syntax bytes x.content refusal.cause x.accepts c

  not_past_if_taken : (before now : Option Text) → IsTaken before now → ¬ (IsRead IsPastEither)
  not_past_if_taken before now x y =
      let F = λ (D : Dataset). IsOtherText settings D x.text in
      elim y.fact [
        | inl past ↦ not_past F IsPastEither x.read y x.read.fact.within past
        | inr past ↦ not_past_along (hashing_of settings) x.read.content.dataset y.content.dataset (tie_of x.read.fact.tie) (tie_of past.tie) settings.limit x.read.accepts.valid
            (both_quads F IsPastEither x.read y) (one_tie F IsPastEither x.read y x.read.fact.tie past.tie x.read.fact.unsettled past.unsettled) x.read.fact.within_along past.passes
      ]

  not_past_if_same : (tie : Tie) → IsRead (IsSameAlong tie) → ¬ (IsRead IsPastEither)
  not_past_if_same tie x y = elim y.fact [
    | inl past ↦ not_past (IsSameAlong tie) IsPastEither x y x.fact.0 past
    | inr past ↦ not_past_along (hashing_of settings) x.content.dataset y.content.dataset (tie_of tie) (tie_of past.tie) settings.limit x.accepts.valid
        (both_quads (IsSameAlong tie) IsPastEither x y) (one_tie (IsSameAlong tie) IsPastEither x y tie past.tie x.fact.1.unsettled past.unsettled) x.fact.1.within_along past.passes
  ]

  pub others_agree : (before now b n : Option Text) (status other_status : Status) → EndsOther before now status → EndsOther b n other_status
      → AreAlike status other_status × TakeOneText before now b n
  others_agree before now b n Done Done x y = (tt, one_text before now b n x y)
  others_agree before now b n Done NoOther x y = absurd (not_settled_if_taken before now x y.1)
  others_agree before now b n Done (NotFound t) x y = absurd (not_the_same t before now x y.1)
  others_agree before now b n Done (Refused r) x y = absurd (not_refused r _ x.read y.2)
  others_agree before now b n Done (WorkLimit p l) x y = absurd (not_past_if_taken before now x y.3)
  others_agree before now b n Done status x y = absurd y
  others_agree before now b n NoOther Done x y = absurd (not_settled_if_taken b n y x.1)
  others_agree before now b n NoOther NoOther x y = (tt, nothing before now b n x.0 y.0)
  others_agree before now b n NoOther (NotFound t) x y = absurd (not_settled_if_same t y.1 x.1)
  others_agree before now b n NoOther (Refused r) x y = absurd (not_refused r _ x.1 y.2)
  others_agree before now b n NoOther (WorkLimit p l) x y = absurd (not_past_if_settled x.1 y.3)
  others_agree before now b n NoOther status x y = absurd y
  others_agree before now b n (NotFound s) Done x y = absurd (not_the_same s b n y x.1)
  others_agree before now b n (NotFound s) NoOther x y = absurd (not_settled_if_same s x.1 y.1)
  others_agree before now b n (NotFound s) (NotFound t) x y =
      (one_tie (IsSameAlong s) (IsSameAlong t) x.1 y.1 s t x.1.fact.1.unsettled y.1.fact.1.unsettled, nothing before now b n x.0 y.0)
  others_agree before now b n (NotFound s) (Refused r) x y = absurd (not_refused r _ x.1 y.2)
  others_agree before now b n (NotFound s) (WorkLimit p l) x y = absurd (not_past_if_same s x.1 y.3)
  others_agree before now b n (NotFound s) status x y = absurd y
  others_agree before now b n (Refused r) Done x y = absurd (not_refused r _ y.read x.2)
  others_agree before now b n (Refused r) NoOther x y = absurd (not_refused r _ y.1 x.2)
  others_agree before now b n (Refused r) (NotFound t) x y = absurd (not_refused r _ y.1 x.2)
  others_agree before now b n (Refused r) (Refused q) x y =
      (same_refusal r q (x.1 ∙ sym y.1) (one_cause syntax bytes r.cause q.cause x.2 y.2), nothing before now b n x.0 y.0)
  others_agree before now b n (Refused r) (WorkLimit p l) x y = absurd (not_refused r _ y.3 x.2)
  others_agree before now b n (Refused r) status x y = absurd y
  others_agree before now b n (WorkLimit p l) Done x y = absurd (not_past_if_taken b n y x.3)
  others_agree before now b n (WorkLimit p l) NoOther x y = absurd (not_past_if_settled y.1 x.3)
  others_agree before now b n (WorkLimit p l) (NotFound t) x y = absurd (not_past_if_same t y.1 x.3)
  others_agree before now b n (WorkLimit p l) (Refused r) x y = absurd (not_refused r _ x.3 y.2)
  others_agree before now b n (WorkLimit p l) (WorkLimit q m) x y = ((x.1 ∙ sym y.1, x.2 ∙ sym y.2), nothing before now b n x.0 y.0)
  others_agree before now b n (WorkLimit p l) status x y = absurd y
  others_agree before now b n status other_status x y = absurd x

-- ---- what a run answers

module _ {K : Type 0} (taken : K → Option Text) (faults : K → ℕ) (file : Text → FileSeen) (word bytes : Text) (settings : Settings) (told : (file word).told ≡ Some bytes)
    (unread : ¬ (Rose (file word).faults (file word).faults_now)) where
  read : (Fact : Dataset → Type 0) → IfSome (file word).told (λ bytes. (content : Content) × Accepts (file word).syntax bytes content × Fact content.dataset)
      → IsRead (file word).syntax bytes settings Fact
  read Fact a =
      let f = of_told (file word).told bytes (λ bytes. (content : Content) × Accepts (file word).syntax bytes content × Fact content.dataset) told a in
      record { content = f.0; accepts = f.1; fact = f.2 }

  pub other_ends : (old new : K) (status : Status) → IsPlainAnswer taken faults file (other word) settings old new status
      → EndsOther (file word).syntax bytes settings (taken old) (taken new) status
  other_ends old new Done a = record { text = a.answers.0; grown = a.answers.1; read = read (λ D. IsOtherText settings D a.answers.0) a.answers.2.1 }
  other_ends old new NoOther a = (nothing_taken taken old new a.answers.0, read (λ D. IsWithin settings D × IsDone (hashing_of settings) D) a.answers.1)
  other_ends old new (Unsettled tie) a = absurd (let e = a.answers.2.0 in cc)
  other_ends old new (NotFound tie) a = (nothing_taken taken old new a.answers.0, read (λ D. IsWithin settings D × HasSameFormAlong settings.limit tie (hashing_of settings) D) a.answers.1)
  other_ends old new (Refused refusal) a = elim a.answers.1 [
    | inl r ↦ (nothing_taken taken old new a.answers.0, r.0, of_told (file word).told bytes (λ bytes. IsCause (file word).syntax bytes refusal.cause) told r.1)
    | inr r ↦ absurd r.1
  ]
  other_ends old new (ReadFault place) a = absurd (unread a.answers.1.1)
  other_ends old new WriteFault a = absurd (a.no_put_failed a.answers.0)
  other_ends old new (WorkLimit place limit) a =
      (nothing_taken taken old new a.answers.0, a.answers.1.1.0, a.answers.1.0, read (λ D. IsPast settings D ⊎ IsPastAlong settings D) a.answers.1.1.1)
  other_ends old new NoMemory a = absurd (a.memory refl)
  other_ends old new (SearchLimit limit image) a = absurd a.answers.1.1
  other_ends old new status a = absurd a.answers.1
