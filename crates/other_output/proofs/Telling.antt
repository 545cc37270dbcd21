-- Which answer comes where.
use Rattle.std.proofs.Common.{◌≡◌, ◌↔◌, ◌∷◌, Option, Some, None, inl, refl, sym, ap, subst, ◌∙◌}
use Rattle.rdf_terms.proofs.Common.{Dataset, In, In-append_right, Text}
use Rattle.canon_model.specs.Hashing.{Hashing}
use Rattle.canon_model.specs.JoinedTies.{IsSettled}
use Rattle.ndegree_hash.specs.Log.{tie_of}
use Rattle.ndegree_hash.specs.declared.tie.Tie.{Tie}
use Rattle.canon_core.specs.declared.canon.Canon.{Canon}
use Rattle.canon_core.specs.Canonical.{IsCanon, IsFirstUnsettled, IsUnsettledBy}
use Rattle.other_output.specs.Along.{IsFormAlong}
use Rattle.other_output.specs.Answers.{SettledWhereNone, ToldByForms, OneOpenness}
use Rattle.other_output.specs.NewResults.{KnownAlongNewResults}
use Rattle.other_output.specs.Openness.{IsOpenness, IsOtherRun}
use Rattle.other_output.specs.declared.other.Openness.{Openness}
use Rattle.other_output.specs.declared.other.Openness.TheVariants.{Settled, Another, NotKnown}
use Rattle.other_output.proofs.AlongNewResults.{other_form_along_new_results}
use Rattle.other_output.proofs.OneForm.{one_form_along}
use Rattle.other_output.proofs.Verdicts.{run_of}

-- a tie that is not joined is one of the run
not_settled : (ρ : Hashing) (D : Dataset) (t : Tie) → IsUnsettledBy ρ D t → ¬ (IsSettled ρ D)
not_settled ρ D t u joined = u.not_joined (joined (tie_of t) (subst (In (tie_of t)) (sym u.first.ties_are) (In-append_right u.first.before (tie_of t ∷ u.first.behind) (tie_of t) (inl refl))))

module _ (ρ : Hashing) (D : Dataset) (canon : Canon) (it : IsCanon ρ D canon) where
  none-from_settled : IsSettled ρ D → canon.unsettled ≡ None
  none-from_settled settled = by canon.unsettled it.unsettled
    where
      by : (found : Option Tie) → IsFirstUnsettled ρ D found → found ≡ None
      by None u = refl
      by (Some t) u = absurd (not_settled ρ D t u settled)

  -- the tie of a run that was made along one
  some : (text : Text) (run : IsOtherRun ρ D canon text) → ¬ (canon.unsettled ≡ None)
  some text run none = let e : Some run.tie ≡ None = sym run.is ∙ none in cc

  pub settled : (openness : Openness) → IsOpenness ρ D canon openness → (openness ≡ Settled) ↔ (canon.unsettled ≡ None)
  settled Settled o = (λ e. none-from_settled o.settled, λ e. refl)
  settled (Another text) o = (λ e. cc, λ e. absurd (some text o.run e))
  settled NotKnown o = (λ e. cc, λ e. absurd (some canon.bytes o e))

  -- two runs along a tie have one form
  one_text : (text other : Text) → IsOtherRun ρ D canon text → IsOtherRun ρ D canon other → text ≡ other
  one_text text other run again =
      let e : Some again.tie ≡ Some run.tie = sym again.is ∙ run.is in
      let same : again.tie ≡ run.tie = cc in
      one_form_along ρ D (tie_of run.tie) it.bytes.valid text other run.form (subst (λ t. IsFormAlong ρ D (tie_of t) other) same again.form)

  module _ (t : Tie) (is : canon.unsettled ≡ Some t) (text : Text) (form : IsFormAlong ρ D (tie_of t) text) where
    run : IsOtherRun ρ D canon text
    run = run_of ρ D canon it t is text form text refl

    pub told : (openness : Openness) → IsOpenness ρ D canon openness
        → ((openness ≡ Another text) ↔ (¬ (canon.bytes ≡ text))) × ((openness ≡ NotKnown) ↔ (canon.bytes ≡ text))
    told Settled o = absurd (some text run (none-from_settled o.settled))
    told (Another other) o =
        let same = one_text other text o.run run in
        ((λ e h. o.differs (h ∙ sym same), λ n. ap Another same), (λ e. cc, λ h. absurd (o.differs (h ∙ sym same))))
    told NotKnown o = let same = one_text canon.bytes text o run in ((λ e. cc, λ n. absurd (n same)), (λ e. same, λ h. refl))

  pub one : (a b : Openness) → IsOpenness ρ D canon a → IsOpenness ρ D canon b → a ≡ b
  one Settled b o p = sym ((settled b p).1 (none-from_settled o.settled))
  one (Another text) b o p = sym ((told o.run.tie o.run.is text o.run.form b p).0.1 o.differs)
  one NotKnown b o p = sym ((told o.tie o.is canon.bytes o.form b p).1.1 refl)

pub settled_where_none : SettledWhereNone
settled_where_none ρ D canon it openness o = settled ρ D canon it openness o

pub told_by_forms : ToldByForms
told_by_forms ρ D canon it t is text form openness o = told ρ D canon it t is text form openness o

pub one_openness : OneOpenness
one_openness ρ D canon it a b o p = one ρ D canon it a b o p

pub known_along_new_results : KnownAlongNewResults
known_along_new_results ρ D canon it t is new openness o e =
    let run : IsOtherRun ρ D canon canon.bytes = subst (IsOpenness ρ D canon) e o in
    let some : Some run.tie ≡ Some t = sym run.is ∙ is in
    let same : run.tie ≡ t = cc in
    other_form_along_new_results ρ D it.bytes.valid (tie_of t) new canon.bytes (subst (λ u. IsFormAlong ρ D (tie_of u) canon.bytes) same run.form) (sym it.bytes.chosen)
