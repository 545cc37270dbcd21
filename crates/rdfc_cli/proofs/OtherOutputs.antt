-- Why there is no other output of a dataset to write.
use Rattle.std.proofs.Common.{◌≡◌, Some, MatchOption, inr, refl, sym, subst}
use Rattle.rdf_terms.proofs.Common.{Document, Dataset, dataset}
use Rattle.canon_model.specs.Meaning.{meaning}
use Rattle.canon_model.specs.JoinedTies.{IsSettled}
use Rattle.canon_model.specs.Output.{IsOnlyOutput, chosen_form}
use Rattle.ndegree_hash.specs.declared.tie.Tie.{Tie}
use Rattle.canon_core.specs.Canonical.{IsUnsettledBy}
use Rattle.canon_core.specs.declared.canon.Canon.{Canon}
use Rattle.other_output.specs.Openness.{IsOnly, OtherRunPasses}
use Rattle.rdfc_cli.specs.Answers.{IsWithin, IsDone, IsPastAlong, hashing_of}
use Rattle.rdfc_cli.specs.Forms.{IsCanonWithin}
use Rattle.ndegree_hash.specs.declared.stop.Stop.{Stop}
use Rattle.ndegree_hash.specs.declared.stop.Stop.TheVariants.{WorkLimit as WorkLimitStop, NoMemory as NoMemoryStop}
use Rattle.rdfc_cli.specs.Outputs.{IsOtherEnd, EndsRun}
use Rattle.rdfc_cli.specs.declared.options.Settings.{Settings}
use Rattle.rdfc_cli.specs.declared.status.Status.{Status}

module _ (settings : Settings) (D : Dataset) (canon : Canon) (run : IsCanonWithin settings D canon) (profile : canon.profile ≡ settings.profile) where
  chosen : canon.bytes ≡ chosen_form (hashing_of settings) D
  chosen = run.canon_is.bytes.chosen

  unsettled_by : (t : Tie) → canon.unsettled ≡ Some t → IsUnsettledBy (hashing_of settings) D t
  unsettled_by t e = subst (λ found. MatchOption found (IsSettled (hashing_of settings) D) (IsUnsettledBy (hashing_of settings) D)) e run.canon_is.unsettled

  pub no_other : IsOnly (meaning canon.profile) D canon → IsWithin settings D × IsDone (hashing_of settings) D
  no_other only =
      let o = subst (λ p. IsOnly (meaning p) D canon) profile only in
      (run.within, record { settled = o.settled; only = subst (IsOnlyOutput (hashing_of settings) D) chosen o.only })

  past_along : OtherRunPasses (meaning canon.profile) D canon settings.limit → IsPastAlong settings D
  past_along other =
      let o = subst (λ p. OtherRunPasses (meaning p) D canon settings.limit) profile other in
      record { within = run.within; tie = o.tie; unsettled = unsettled_by o.tie o.is; passes = o.passes }

-- the run along the tie is stopped
pub past_end : (settings : Settings) (d : Document) (canon : Canon) → IsCanonWithin settings (dataset d) canon → canon.profile ≡ settings.profile → (stop : Stop) (status : Status)
    → (stop ≡ WorkLimitStop → OtherRunPasses (meaning canon.profile) (dataset d) canon settings.limit) → EndsRun stop settings.limit status → IsOtherEnd settings d status
past_end settings d canon run profile WorkLimitStop status over e =
    subst (IsOtherEnd settings d) (sym e) (refl, refl, inr (past_along settings (dataset d) canon run profile (over refl)))
past_end settings d canon run profile NoMemoryStop status over e = subst (IsOtherEnd settings d) (sym e) tt
