-- Comparisons are determined, but for which bijection they write.
use Rattle.std.proofs.Common.{◌≡◌, ℕ, ◌<◌, ◌⊎◌, Option, Some, inl, inr, refl, sym, ◌∙◌, subst}
use Rattle.rdf_terms.proofs.Common.{Text, Dataset}
use Rattle.outside.specs.Faults.{Rose}
use Rattle.canon_model.specs.Output.{chosen_form}
use Rattle.canon_model.specs.QuadOrder.{HaveSameQuads}
use Rattle.ndegree_hash.specs.Log.{tie_of}
use Rattle.ndegree_hash.specs.declared.tie.Tie.{Tie}
use Rattle.iso_compare.specs.Comparison.{AreDifferent, AreUndecided}
use Rattle.rdfc_cli.specs.Answers.{AreBothAccepted, Content, Accepts, FileSeen, IsCause, IsPairing, IsPast, IsWithin, hashing_of}
use Rattle.rdfc_cli.specs.Determined.{AreAlike, IsPlainAnswer}
use Rattle.rdfc_cli.specs.Words.{Syntax}
use Rattle.rdfc_cli.specs.Words.Command.{compare}
use Rattle.rdfc_cli.specs.declared.options.Settings.{Settings}
use Rattle.rdfc_cli.specs.declared.status.Refusal.{Refusal}
use Rattle.rdfc_cli.specs.declared.status.Status.{Status}
use Rattle.rdfc_cli.specs.declared.status.Status.TheVariants.{Done, Different, Unsettled, Refused, ReadFault, WriteFault, WorkLimit, NoMemory, Undecided, SearchLimit}
use Rattle.rdfc_cli.proofs.Headlines.{no_cause_if_accepted, not_both, of_told, one_cause, same_quads, same_units}
use Rattle.rdfc_cli.proofs.SameQuads.{not_unsettled, same_first, same_form, same_settled}
use Rattle.rdfc_cli.proofs.SameRuns.{same_refusal}

module _ (syntax other_syntax : Syntax) (bytes other_bytes : Text) (settings : Settings) where
  -- both documents are accepted, and this holds of them
  pub record AreRead (Fact : Content → Content → Type 0) : Type 0 where
    pub content : Content
    pub other : Content
    pub accepts : Accepts syntax bytes content
    pub accepts_other : Accepts other_syntax other_bytes other
    pub fact : Fact content other

  abbrev pub IsPastAt : ℕ → Content → Content → Type 0
  IsPastAt place content other =
      ((place ≡ 0) × IsPast settings content.dataset) ⊎ ((place ≡ 1) × IsWithin settings content.dataset × IsPast settings other.dataset)

  abbrev pub AreWithin : (Dataset → Dataset → Type 0) → Content → Content → Type 0
  AreWithin Fact content other = IsWithin settings content.dataset × IsWithin settings other.dataset × Fact content.dataset other.dataset

  abbrev pub HaveOneForm : Dataset → Dataset → Type 0
  HaveOneForm D E = chosen_form (hashing_of settings) D ≡ chosen_form (hashing_of settings) E

  -- the first document is refused, or it is accepted and the second is refused
  abbrev pub IsRefusedFor : Refusal → Type 0
  IsRefusedFor refusal =
      ((refusal.file ≡ 0) × IsCause syntax bytes refusal.cause)
      ⊎ ((refusal.file ≡ 1) × ((content : Content) × Accepts syntax bytes content) × IsCause other_syntax other_bytes refusal.cause)

  -- how a comparison of the documents ends
  abbrev pub EndsComparison : Status → Type 0
  EndsComparison Done = AreRead (AreWithin HaveOneForm)
  EndsComparison Different = AreRead (AreWithin (AreDifferent (hashing_of settings)))
  EndsComparison (Undecided s t) = AreRead (AreWithin (λ D E. AreUndecided (hashing_of settings) D E s t))
  EndsComparison (Refused refusal) = IsRefusedFor refusal
  EndsComparison (WorkLimit place limit) = (limit ≡ settings.limit) × AreRead (IsPastAt place)
  EndsComparison status = ⊥

  -- ---- two of them

  not_refused_if_read : (refusal : Refusal) (Fact : Content → Content → Type 0) → AreRead Fact → ¬ (IsRefusedFor refusal)
  not_refused_if_read refusal Fact x (inl r) = no_cause_if_accepted syntax bytes x.content refusal.cause x.accepts r.1
  not_refused_if_read refusal Fact x (inr r) = no_cause_if_accepted other_syntax other_bytes x.other refusal.cause x.accepts_other r.2

  one_refusal : (refusal other : Refusal) → IsRefusedFor refusal → IsRefusedFor other → refusal ≡ other
  one_refusal refusal other (inl x) (inl y) = same_refusal refusal other (x.0 ∙ sym y.0) (one_cause syntax bytes refusal.cause other.cause x.1 y.1)
  one_refusal refusal other (inl x) (inr y) = absurd (no_cause_if_accepted syntax bytes y.1.0 refusal.cause y.1.1 x.1)
  one_refusal refusal other (inr x) (inl y) = absurd (no_cause_if_accepted syntax bytes x.1.0 other.cause x.1.1 y.1)
  one_refusal refusal other (inr x) (inr y) = same_refusal refusal other (x.0 ∙ sym y.0) (one_cause other_syntax other_bytes refusal.cause other.cause x.2 y.2)

  module _ (Fact OtherFact : Content → Content → Type 0) (x : AreRead Fact) (y : AreRead OtherFact) where
    first_quads : HaveSameQuads x.content.dataset y.content.dataset
    first_quads = same_quads syntax bytes x.content y.content x.accepts y.accepts

    second_quads : HaveSameQuads x.other.dataset y.other.dataset
    second_quads = same_quads other_syntax other_bytes x.other y.other x.accepts_other y.accepts_other

    first_not_past : IsWithin settings x.content.dataset → ¬ (IsPast settings y.content.dataset)
    first_not_past within past =
        not_both _ settings.limit (subst (λ n. settings.limit < n) (same_units (hashing_of settings) syntax bytes x.content y.content x.accepts y.accepts) past) within

    second_not_past : IsWithin settings x.other.dataset → ¬ (IsPast settings y.other.dataset)
    second_not_past within past =
        not_both _ settings.limit (subst (λ n. settings.limit < n) (same_units (hashing_of settings) other_syntax other_bytes x.other y.other x.accepts_other y.accepts_other) past) within

    forms_are_equal : chosen_form (hashing_of settings) x.content.dataset ≡ chosen_form (hashing_of settings) x.other.dataset
        → chosen_form (hashing_of settings) y.content.dataset ≡ chosen_form (hashing_of settings) y.other.dataset
    forms_are_equal e = same_form (hashing_of settings) x.content.dataset y.content.dataset first_quads ∙ e ∙ sym (same_form (hashing_of settings) x.other.dataset y.other.dataset second_quads)

  not_past_if_within : (place : ℕ) (Fact : Dataset → Dataset → Type 0) → AreRead (AreWithin Fact) → ¬ (AreRead (IsPastAt place))
  not_past_if_within place Fact x y = elim y.fact [
    | inl p ↦ first_not_past (AreWithin Fact) (IsPastAt place) x y x.fact.0 p.1
    | inr p ↦ second_not_past (AreWithin Fact) (IsPastAt place) x y x.fact.1 p.2
  ]

  one_place : (place other_place : ℕ) → AreRead (IsPastAt place) → AreRead (IsPastAt other_place) → place ≡ other_place
  one_place place other_place x y = by x.fact y.fact
    where
      by : IsPastAt place x.content x.other → IsPastAt other_place y.content y.other → place ≡ other_place
      by (inl p) (inl q) = p.0 ∙ sym q.0
      by (inl p) (inr q) = absurd (first_not_past (IsPastAt other_place) (IsPastAt place) y x q.1 p.1)
      by (inr p) (inl q) = absurd (first_not_past (IsPastAt place) (IsPastAt other_place) x y p.1 q.1)
      by (inr p) (inr q) = p.0 ∙ sym q.0

  not_different : AreRead (AreWithin HaveOneForm) → ¬ (AreRead (AreWithin (AreDifferent (hashing_of settings))))
  not_different x y = y.fact.2.bytes_differ (forms_are_equal (AreWithin HaveOneForm) (AreWithin (AreDifferent (hashing_of settings))) x y x.fact.2)

  not_undecided : (s t : Tie) → AreRead (AreWithin HaveOneForm) → ¬ (AreRead (AreWithin (λ D E. AreUndecided (hashing_of settings) D E s t)))
  not_undecided s t x y = y.fact.2.bytes_differ (forms_are_equal (AreWithin HaveOneForm) (AreWithin (λ D E. AreUndecided (hashing_of settings) D E s t)) x y x.fact.2)

  not_both_apart : (s t : Tie) → AreRead (AreWithin (AreDifferent (hashing_of settings))) → ¬ (AreRead (AreWithin (λ D E. AreUndecided (hashing_of settings) D E s t)))
  not_both_apart s t x y =
      let first = first_quads (AreWithin (AreDifferent (hashing_of settings))) (AreWithin (λ D E. AreUndecided (hashing_of settings) D E s t)) x y in
      let second = second_quads (AreWithin (AreDifferent (hashing_of settings))) (AreWithin (λ D E. AreUndecided (hashing_of settings) D E s t)) x y in
      elim x.fact.2.settled [
        | inl h ↦ not_unsettled (hashing_of settings) y.content.dataset s (same_settled (hashing_of settings) x.content.dataset y.content.dataset first h) y.fact.2.first
        | inr h ↦ not_unsettled (hashing_of settings) y.other.dataset t (same_settled (hashing_of settings) x.other.dataset y.other.dataset second h) y.fact.2.second
      ]

  one_pair_of_ties : (s t u v : Tie) → AreRead (AreWithin (λ D E. AreUndecided (hashing_of settings) D E s t)) → AreRead (AreWithin (λ D E. AreUndecided (hashing_of settings) D E u v))
      → (tie_of s ≡ tie_of u) × (tie_of t ≡ tie_of v)
  one_pair_of_ties s t u v x y =
      let first = first_quads (AreWithin (λ D E. AreUndecided (hashing_of settings) D E s t)) (AreWithin (λ D E. AreUndecided (hashing_of settings) D E u v)) x y in
      let second = second_quads (AreWithin (λ D E. AreUndecided (hashing_of settings) D E s t)) (AreWithin (λ D E. AreUndecided (hashing_of settings) D E u v)) x y in (
        same_first (hashing_of settings) x.content.dataset y.content.dataset (tie_of s) (tie_of u) first x.fact.2.first.first y.fact.2.first.first,
        same_first (hashing_of settings) x.other.dataset y.other.dataset (tie_of t) (tie_of v) second x.fact.2.second.first y.fact.2.second.first,
      )

  pub comparisons_agree : (status other : Status) → EndsComparison status → EndsComparison other → AreAlike status other
  comparisons_agree Done Done x y = tt
  comparisons_agree Done Different x y = absurd (not_different x y)
  comparisons_agree Done (Undecided s t) x y = absurd (not_undecided s t x y)
  comparisons_agree Done (Refused r) x y = absurd (not_refused_if_read r _ x y)
  comparisons_agree Done (WorkLimit p l) x y = absurd (not_past_if_within p _ x y.1)
  comparisons_agree Done other x y = absurd y
  comparisons_agree Different Done x y = absurd (not_different y x)
  comparisons_agree Different Different x y = tt
  comparisons_agree Different (Undecided s t) x y = absurd (not_both_apart s t x y)
  comparisons_agree Different (Refused r) x y = absurd (not_refused_if_read r _ x y)
  comparisons_agree Different (WorkLimit p l) x y = absurd (not_past_if_within p _ x y.1)
  comparisons_agree Different other x y = absurd y
  comparisons_agree (Undecided s t) Done x y = absurd (not_undecided s t y x)
  comparisons_agree (Undecided s t) Different x y = absurd (not_both_apart s t y x)
  comparisons_agree (Undecided s t) (Undecided u v) x y = one_pair_of_ties s t u v x y
  comparisons_agree (Undecided s t) (Refused r) x y = absurd (not_refused_if_read r _ x y)
  comparisons_agree (Undecided s t) (WorkLimit p l) x y = absurd (not_past_if_within p _ x y.1)
  comparisons_agree (Undecided s t) other x y = absurd y
  comparisons_agree (Refused r) Done x y = absurd (not_refused_if_read r _ y x)
  comparisons_agree (Refused r) Different x y = absurd (not_refused_if_read r _ y x)
  comparisons_agree (Refused r) (Undecided s t) x y = absurd (not_refused_if_read r _ y x)
  comparisons_agree (Refused r) (Refused q) x y = one_refusal r q x y
  comparisons_agree (Refused r) (WorkLimit p l) x y = absurd (not_refused_if_read r _ y.1 x)
  comparisons_agree (Refused r) other x y = absurd y
  comparisons_agree (WorkLimit p l) Done x y = absurd (not_past_if_within p _ y x.1)
  comparisons_agree (WorkLimit p l) Different x y = absurd (not_past_if_within p _ y x.1)
  comparisons_agree (WorkLimit p l) (Undecided s t) x y = absurd (not_past_if_within p _ y x.1)
  comparisons_agree (WorkLimit p l) (Refused r) x y = absurd (not_refused_if_read r _ x.1 y)
  comparisons_agree (WorkLimit p l) (WorkLimit q m) x y = (one_place p q x.1 y.1, x.0 ∙ sym y.0)
  comparisons_agree (WorkLimit p l) other x y = absurd y
  comparisons_agree status other x y = absurd x

-- ---- what a run answers

module _ {K : Type 0} (taken : K → Option Text) (faults : K → ℕ) (file : Text → FileSeen) (first second bytes other_bytes : Text) (settings : Settings) (told : (file first).told ≡ Some bytes)
    (other_told : (file second).told ≡ Some other_bytes) (unread : ¬ (Rose (file first).faults (file first).faults_now)) (other_unread : ¬ (Rose (file second).faults (file second).faults_now)) where
  read : (Fact : Content → Content → Type 0) → AreBothAccepted (file first) (file second) Fact → AreRead (file first).syntax (file second).syntax bytes other_bytes settings Fact
  read Fact a = record {
    content = a.content;
    other = a.other;
    accepts = of_told (file first).told bytes (λ bytes. Accepts (file first).syntax bytes a.content) told a.accepts;
    accepts_other = of_told (file second).told other_bytes (λ bytes. Accepts (file second).syntax bytes a.other) other_told a.accepts_other;
    fact = a.fact;
  }

  pub comparison_ends : (old new : K) (status : Status) → IsPlainAnswer taken faults file (compare first second) settings old new status
      → EndsComparison (file first).syntax (file second).syntax bytes other_bytes settings status
  comparison_ends old new Done a =
      let r = read (λ content other. IsPairing settings content other a.answers.0) a.answers.2.1 in
      record { content = r.content; other = r.other; accepts = r.accepts; accepts_other = r.accepts_other; fact = (r.fact.within, r.fact.other_within, r.fact.same_form) }
  comparison_ends old new Different a =
      read (λ content other. IsWithin settings content.dataset × IsWithin settings other.dataset × AreDifferent (hashing_of settings) content.dataset other.dataset) a.answers.1
  comparison_ends old new (Unsettled tie) a = absurd (let e = a.answers.2.0 in cc)
  comparison_ends old new (Refused refusal) a = elim a.answers.1 [
    | inl r ↦ elim r [
      | inl h ↦ inl (h.0, of_told (file first).told bytes (λ bytes. IsCause (file first).syntax bytes refusal.cause) told h.1)
      | inr h ↦ (let f = of_told (file first).told bytes (λ bytes. (content : Content) × Accepts (file first).syntax bytes content × Unit {0}) told h.1 in
          inr (h.0, (f.0, f.1), of_told (file second).told other_bytes (λ bytes. IsCause (file second).syntax bytes refusal.cause) other_told h.2))
    ]
    | inr r ↦ absurd r.1
  ]
  comparison_ends old new (ReadFault place) a = elim a.answers.1 [ inl h ↦ absurd (unread h.1) | inr h ↦ absurd (other_unread h.2) ]
  comparison_ends old new WriteFault a = absurd (a.no_put_failed a.answers.0)
  comparison_ends old new (WorkLimit place limit) a = (a.answers.1.0, read (IsPastAt (file first).syntax (file second).syntax bytes other_bytes settings place) a.answers.1.1)
  comparison_ends old new NoMemory a = absurd (a.memory refl)
  comparison_ends old new (Undecided s t) a =
      read (λ content other. IsWithin settings content.dataset × IsWithin settings other.dataset × AreUndecided (hashing_of settings) content.dataset other.dataset s t) a.answers.1
  comparison_ends old new (SearchLimit limit image) a = absurd a.answers.1.1
  comparison_ends old new status a = absurd a.answers.1
