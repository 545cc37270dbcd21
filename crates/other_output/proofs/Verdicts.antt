-- What a run along a tie says of the outputs.
use Rattle.std.proofs.Common.{◌≡◌, ℕ, ◌<◌, List, All, Some, None, inl, inr, sym, ap, subst, ◌∙◌}
use Rattle.rdf_terms.proofs.Common.{AreIsomorphic, Dataset, In, Text, numbers_below, All-from_each}
use Rattle.canonical_writer.specs.Determined.{CarriesLists}
use Rattle.canon_model.specs.Hashing.{Hashing}
use Rattle.canon_model.specs.CountedRun.{Tie}
use Rattle.canon_model.specs.Ties.{AreTied, IsTie}
use Rattle.canon_model.specs.JoinedTies.{IsSettled}
use Rattle.canon_model.specs.Output.{IsOutputOf}
use Rattle.ndegree_hash.specs.Log.{tie_of}
use Rattle.ndegree_hash.specs.declared.tie.Tie.{Tie as CarriedTie}
use Rattle.canon_core.specs.declared.canon.Canon.{Canon}
use Rattle.canon_core.specs.Canonical.{IsCanon, IsFirstUnsettled}
use Rattle.other_output.proofs.Outputs.{outputs_of_isomorphic}
use Rattle.other_output.specs.Along.{IsFormAlong, nodes_along}
use Rattle.other_output.specs.Openness.{IsCompared, IsOnly, IsOpenness, IsOtherRun}
use Rattle.other_output.specs.declared.other.Openness.{Openness}
use Rattle.other_output.specs.declared.other.Openness.TheVariants.{Settled, Another, NotKnown}

-- ---- the nodes of a tie

module _ (ρ : Hashing) (D : Dataset) (t : Tie) (tie : IsTie ρ D t) (count : ℕ) (is : count ≡ D.nodes) where
  canonical_node : AreTied ρ D t.canonical t.passed t.left t.right → (n : ℕ) → In n t.canonical → n < D.nodes
  canonical_node (inl r) n h = r.left_outcome.valid.canonical_nodes n h
  canonical_node (inr p) n h = p.begun.call.canonical_nodes n h

  pub canonical_low : All (λ n. n < count) t.canonical
  canonical_low = subst (λ m. All (λ n. n < m) t.canonical) (sym is) (All-from_each (λ n. n < D.nodes) t.canonical (canonical_node tie.tied))

  pub right_low : All (λ n. n < count) t.right
  right_low = subst (λ m. All (λ n. n < m) t.right) (sym is) (All-from_each (λ n. n < D.nodes) t.right tie.may_be_exchanged.right_nodes)

-- ---- the form

iso_of : (D E : Dataset) (c d : List ℕ) → CarriesLists D E c d → AreIsomorphic D E
iso_of D E c d lists = record { relabelling = lists.relabelling; carries = lists.carries }

pub form_of_numbered : (ρ : Hashing) (D E : Dataset) (t : Tie) (count : ℕ) (order : List ℕ) (text : Text) → count ≡ D.nodes → order ≡ nodes_along count t.canonical t.right
    → CarriesLists D E order (numbers_below D.nodes) → IsOutputOf ρ E text → IsFormAlong ρ D t text
form_of_numbered ρ D E t count order text is order_is lists output =
    let order_is_along = order_is ∙ ap (λ n. nodes_along n t.canonical t.right) is in
    record {
      numbered = E;
      along = subst (λ c. CarriesLists D E c (numbers_below D.nodes)) order_is_along lists;
      chosen = output.chosen;
      allowed = outputs_of_isomorphic ρ D E (iso_of D E order (numbers_below D.nodes) lists) text output.allowed;
    }

-- ---- the verdict

module _ (ρ : Hashing) (D : Dataset) (canon : Canon) (it : IsCanon ρ D canon) where
  pub only_output : canon.unsettled ≡ None → IsOnly ρ D canon
  only_output none = let settled : IsSettled ρ D = subst (IsFirstUnsettled ρ D) none it.unsettled in record { settled = settled; only = it.only settled }

  module _ (t : CarriedTie) (is : canon.unsettled ≡ Some t) (other : Text) (form : IsFormAlong ρ D (tie_of t) other) where
    pub run_of : (text : Text) → text ≡ other → IsOtherRun ρ D canon text
    run_of text e = record { tie = t; is = is; unsettled = subst (IsFirstUnsettled ρ D) is it.unsettled; form = subst (IsFormAlong ρ D (tie_of t)) (sym e) form }

    pub openness_of : (result : Openness) → IsCompared canon.bytes other result → IsOpenness ρ D canon result
    openness_of Settled h = absurd h
    openness_of (Another text) h =
        let run = run_of text h.0 in
        record {
          run = run;
          differs = λ e. h.1 (e ∙ h.0);
          two = record { first = canon.bytes; second = text; first_allowed = it.bytes.allowed; second_allowed = run.form.allowed; differ = λ e. h.1 (e ∙ h.0) };
        }
    openness_of NotKnown h = run_of canon.bytes h
