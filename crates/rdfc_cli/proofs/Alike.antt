-- Files that are accepted and within the limit get their text or their verdict, and isomorphic ones their bijection,
-- where one of them has no unjoined tie.
use Rattle.std.proofs.Common.{ℕ, ◌<◌, Option, IfSome, inl, inr, subst}
use Rattle.rdf_terms.proofs.Common.{Text}
use Rattle.canon_model.specs.QuadOrder.{HaveSameQuads}
use Rattle.rdfc_cli.specs.Answers.{Content, Accepts, FileSeen, IsCause, IsPast, hashing_of}
use Rattle.rdfc_cli.specs.Completeness.{IsFine, AreFine, AreFineAndAlike, IsComplete, LoadsNumbers, JudgesPairs, FindsBijections}
use Rattle.rdfc_cli.specs.declared.options.Settings.{Settings}
use Rattle.rdfc_cli.specs.declared.status.Status.TheVariants.{Done, Different, Unsettled, Refused, ReadFault, WriteFault, WorkLimit, NoMemory, Undecided, SearchLimit}
use Rattle.rdfc_cli.specs.declared.status.Cause.{Cause}
use Rattle.rdfc_cli.proofs.Headlines.{same_quads, same_units, of_told, not_both, no_cause_if_accepted}
use Rattle.rdfc_cli.proofs.SameQuads.{same_settled, same_isomorphic, not_unsettled}

-- ---- one file, read in two ways

module _ (settings : Settings) (file : FileSeen) (content read : Content) (fine : IsFine file settings content) (accepts : IfSome file.told (λ bytes. Accepts file.syntax bytes read)) where
  accepted : Accepts file.syntax fine.bytes read
  accepted = of_told file.told fine.bytes (λ bytes. Accepts file.syntax bytes read) fine.told accepts

  read_quads : HaveSameQuads content.dataset read.dataset
  read_quads = same_quads file.syntax fine.bytes content read fine.accepts accepted

  pub not_past : ¬ (IsPast settings read.dataset)
  not_past past =
      not_both _ settings.limit (subst (λ n. settings.limit < n) (same_units (hashing_of settings) file.syntax fine.bytes content read fine.accepts accepted) past) fine.within

pub not_refused : (settings : Settings) (file : FileSeen) (content : Content) (cause : Cause) → IsFine file settings content → IfSome file.told (λ bytes. IsCause file.syntax bytes cause) → ⊥
not_refused settings file content cause fine c =
    no_cause_if_accepted file.syntax fine.bytes content cause fine.accepts (of_told file.told fine.bytes (λ bytes. IsCause file.syntax bytes cause) fine.told c)

are_fine : (first second : FileSeen) (settings : Settings) → AreFineAndAlike first second settings → AreFine first second settings
are_fine first second settings p = record { content = p.content; other = p.other; fine = p.fine; other_fine = p.other_fine }

-- ---- one run

module _ {K : Type 0} (taken : K → Option Text) (faults : K → ℕ) where
  pub is_complete : IsComplete taken faults
  is_complete file task word settings content old new Done fine none a = tt
  is_complete file task word settings content old new (Unsettled tie) fine none a = tt
  is_complete file task word settings content old new (Refused refusal) fine none a = elim a.1 [ inl r ↦ not_refused settings (file word) content refusal.cause fine r.1 | inr r ↦ r.1 ]
  is_complete file task word settings content old new (ReadFault place) fine none a = fine.no_read_failed a.1.1
  is_complete file task word settings content old new WriteFault fine none a = none a.0
  is_complete file task word settings content old new (WorkLimit place limit) fine none a =
      let f = of_told (file word).told fine.bytes (λ bytes. (content : Content) × Accepts (file word).syntax bytes content × IsPast settings content.dataset) fine.told a.1.1.1 in
      not_both _ settings.limit (subst (λ n. settings.limit < n) (same_units (hashing_of settings) (file word).syntax fine.bytes content f.0 fine.accepts f.1) f.2) fine.within
  is_complete file task word settings content old new NoMemory fine none a = tt
  is_complete file task word settings content old new (SearchLimit limit image) fine none a = absurd a.1.1
  is_complete file task word settings content old new status fine none a = absurd a.1

  pub loads_numbers : LoadsNumbers taken faults
  loads_numbers file n settings old new Done within none a = tt
  loads_numbers file n settings old new (Unsettled tie) within none a = tt
  loads_numbers file n settings old new (Refused refusal) within none a = elim a.1 [ inl r ↦ r | inr r ↦ r.1 ]
  loads_numbers file n settings old new WriteFault within none a = none a.0
  loads_numbers file n settings old new (WorkLimit place limit) within none a = not_both _ settings.limit a.1.1.1.2 (within a.1.1.1.0 a.1.1.1.1)
  loads_numbers file n settings old new NoMemory within none a = tt
  loads_numbers file n settings old new (SearchLimit limit image) within none a = absurd a.1.1
  loads_numbers file n settings old new status within none a = absurd a.1

-- ---- two files

module _ {K : Type 0} (taken : K → Option Text) (faults : K → ℕ) where
  pub judges_pairs : JudgesPairs taken faults
  judges_pairs file first second settings old new Done p none a = tt
  judges_pairs file first second settings old new Different p none a = tt
  judges_pairs file first second settings old new (Unsettled tie) p none a = absurd (let e = a.2.0 in cc)
  judges_pairs file first second settings old new (Refused refusal) p none a =
      elim a.1 [
        | inl r ↦ elim r [ inl h ↦ not_refused settings (file first) p.content refusal.cause p.fine h.1 | inr h ↦ not_refused settings (file second) p.other refusal.cause p.other_fine h.2 ]
        | inr r ↦ r.1
      ]
  judges_pairs file first second settings old new (ReadFault place) p none a = elim a.1 [ inl h ↦ p.fine.no_read_failed h.1 | inr h ↦ p.other_fine.no_read_failed h.2 ]
  judges_pairs file first second settings old new WriteFault p none a = none a.0
  judges_pairs file first second settings old new (WorkLimit place limit) p none a = elim a.1.1.fact [
    | inl h ↦ not_past settings (file first) p.content a.1.1.content p.fine a.1.1.accepts h.1
    | inr h ↦ not_past settings (file second) p.other a.1.1.other p.other_fine a.1.1.accepts_other h.2
  ]
  judges_pairs file first second settings old new NoMemory p none a = tt
  judges_pairs file first second settings old new (Undecided s t) p none a = tt
  judges_pairs file first second settings old new (SearchLimit limit image) p none a = absurd a.1.1
  judges_pairs file first second settings old new status p none a = absurd a.1

  pub finds_bijections : FindsBijections taken faults
  finds_bijections file first second settings old new Done p none a = tt
  finds_bijections file first second settings old new Different p none a =
      a.1.fact.2.not_isomorphic (same_isomorphic p.content.dataset p.other.dataset a.1.content.dataset a.1.other.dataset (read_quads settings (file first) p.content a.1.content p.fine a.1.accepts)
      (read_quads settings (file second) p.other a.1.other p.other_fine a.1.accepts_other) p.isomorphic)
  finds_bijections file first second settings old new NoMemory p none a = tt
  finds_bijections file first second settings old new (Undecided s t) p none a = elim p.settled [
    | inl h ↦ not_unsettled (hashing_of settings) a.1.content.dataset s (same_settled (hashing_of settings) p.content.dataset a.1.content.dataset
        (read_quads settings (file first) p.content a.1.content p.fine a.1.accepts) h) a.1.fact.2.first
    | inr h ↦ not_unsettled (hashing_of settings) a.1.other.dataset t (same_settled (hashing_of settings) p.other.dataset a.1.other.dataset
        (read_quads settings (file second) p.other a.1.other p.other_fine a.1.accepts_other) h) a.1.fact.2.second
  ]
  finds_bijections file first second settings old new status p none a = judges_pairs file first second settings old new status (are_fine (file first) (file second) settings p) none a
