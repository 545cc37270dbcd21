-- Another output is written, or it is told why there is none.
use Rattle.std.proofs.Common.{◌≡◌, ℕ, Option, Some, IfSome, ◌⊎◌, inl, inr, sym, subst}
use Rattle.rdf_terms.proofs.Common.{Text}
use Rattle.rdfc_cli.specs.Answers.{Content, Accepts, IsPast, IsPastAlong}
use Rattle.rdfc_cli.specs.OtherOutputs.{FindsOthers}
use Rattle.rdfc_cli.specs.declared.status.Status.TheVariants.{Done, NoOther, Unsettled, NotFound, Refused, ReadFault, WriteFault, WorkLimit, NoMemory, SearchLimit}
use Rattle.rdfc_cli.proofs.Alike.{not_past, not_refused}
use Rattle.rdfc_cli.proofs.Headlines.{of_told}

-- what holds of the bytes holds as the file is told
if_told : (told : Option Text) (bytes : Text) (Fact : Text → Type 0) → told ≡ Some bytes → Fact bytes → IfSome told Fact
if_told told bytes Fact e f = subst (λ t. IfSome t Fact) (sym e) f

module _ {K : Type 0} (taken : K → Option Text) (faults : K → ℕ) where
  pub finds_others : FindsOthers taken faults
  finds_others file word settings old new Done p unfailed a = tt
  finds_others file word settings old new NoOther p unfailed a = tt
  finds_others file word settings old new (Unsettled tie) p unfailed a = absurd (let e = a.2.0 in cc)
  finds_others file word settings old new (NotFound tie) p unfailed a = tt
  finds_others file word settings old new (Refused refusal) p unfailed a =
      elim a.1 [ inl r ↦ not_refused settings (file word) p.content refusal.cause p.fine r.1 | inr r ↦ r.1 ]
  finds_others file word settings old new (ReadFault place) p unfailed a = p.fine.no_read_failed a.1.1
  finds_others file word settings old new WriteFault p unfailed a = unfailed a.0
  finds_others file word settings old new (WorkLimit place limit) p unfailed a =
      let f = of_told (file word).told p.fine.bytes (λ bytes. (content : Content) × Accepts (file word).syntax bytes content
      × (IsPast settings content.dataset ⊎ IsPastAlong settings content.dataset)) p.fine.told a.1.1.1 in
      elim f.2 [
        | inl past ↦ not_past settings (file word) p.content f.0 p.fine (as_told f.0 f.1) past
        | inr past ↦ p.within_along f.0 f.1 past
      ]
    where
      as_told : (read : Content) → Accepts (file word).syntax p.fine.bytes read → IfSome (file word).told (λ bytes. Accepts (file word).syntax bytes read)
      as_told read accepts = if_told (file word).told p.fine.bytes (λ bytes. Accepts (file word).syntax bytes read) p.fine.told accepts
  finds_others file word settings old new NoMemory p unfailed a = tt
  finds_others file word settings old new (SearchLimit limit image) p unfailed a = absurd a.1.1
  finds_others file word settings old new status p unfailed a = absurd a.1
