-- What two canonical forms say of their datasets.
use Rattle.std.proofs.Common.{◌≡◌, ℕ, List, [], ◌∷◌, map, nat_cmp, Option, Some, None, inl, inr, refl, sym, ap, ◌∙◌, subst, Ordering, Less, Equal, Greater}
use Rattle.std.specs.Cmp.{IsTotalOrder}
use Rattle.std.specs.List.{zip}
use Rattle.std.specs.List.Sorted.{IsPermutation, IsSorted}
use Rattle.std.specs.Ordering.{ordering_then}
use Rattle.std.proofs.lemmas.Cmp.{nat_cmp_total, on_total, ranked, then_total}
use Rattle.rdf_terms.proofs.Common.{Dataset, AreIsomorphic, AreDistinct, In, Permutes, numbers_below, In-map, from_In-map, AreDistinct-Permutes, In-Permutes, Permutes-from_IsPermutation, Permutes-map, Permutes-sym, map-map, from_In-numbers_below, In-numbers_below}
use Rattle.canonical_writer.specs.Determined.{CarriesLists, ListsNodes}
use Rattle.canon_model.specs.Allowed.{canonical_form}
use Rattle.canon_model.specs.Hashing.{Hashing}
use Rattle.canon_model.specs.JoinedTies.{IsSettled}
use Rattle.canon_model.specs.Output.{chosen_form}
use Rattle.canon_model.proofs.CanonicalLists.{canonical_lists_are_complete}
use Rattle.canon_model.proofs.Maps.{map_identity}
use Rattle.canon_model.proofs.Equivariance.{back_relabelling, carries_back}
use Rattle.ndegree_hash.specs.declared.tie.Tie.{Tie}
use Rattle.canon_core.specs.Canonical.{IsCanon, IsFirstUnsettled}
use Rattle.canon_core.specs.HashOrder.{StrictlyAscends}
use Rattle.canon_core.specs.declared.canon.Canon.{Canon}
use Rattle.canon_core.proofs.Ascending.{StrictlyAscends-numbers_below, ascends_from_sort, same_ascending}
use Rattle.canon_core.proofs.TwoOutputs.{shared_output}
use Rattle.iso_compare.specs.Comparison.{AreApart, AreDifferent, AreSame, AreUndecided, IsVerdict}
use Rattle.iso_compare.specs.Pairs.{first_of, pair_cmp, second_of}
use Rattle.iso_compare.specs.declared.verdict.Verdict.{Verdict}

pair_cmp_total : IsTotalOrder pair_cmp
pair_cmp_total = then_total (on_total first_of nat_cmp_total) (on_total second_of nat_cmp_total)

-- ---- pairs of two lists, place by place

zip-map : (σ : ℕ → ℕ) (c : List ℕ) → zip c (map σ c) ≡ map (λ n. (n, σ n)) c
zip-map σ [] = refl
zip-map σ (n ∷ c) = ap (λ w. (n, σ n) ∷ w) (zip-map σ c)

firsts-are : (σ : ℕ → ℕ) (c : List ℕ) → map first_of (map (λ n. (n, σ n)) c) ≡ c
firsts-are σ c = map-map first_of (λ n. (n, σ n)) c ∙ map_identity (λ n. n) (λ n. refl) c

-- pairs whose first numbers ascend do so too
ascends-pairs : (σ : ℕ → ℕ) (ns : List ℕ) → StrictlyAscends nat_cmp ns → StrictlyAscends pair_cmp (map (λ n. (n, σ n)) ns)
ascends-pairs σ [] a = tt
ascends-pairs σ (n ∷ ns) a = (
  λ p h.
      let f = from_In-map (λ m. (m, σ m)) ns p h in
      let less : nat_cmp n p.0 ≡ Less = subst (λ m. nat_cmp n m ≡ Less) (sym (ap first_of f.2)) (a.0 f.0 f.1) in
      ap (λ o. ordering_then o (nat_cmp (σ n) p.1)) less,
  ascends-pairs σ ns a.1,
)

tied_firsts : (m n : ℕ) (o : Ordering) → ordering_then (nat_cmp m n) o ≡ Equal → m ≡ n
tied_firsts m n o e = by (nat_cmp m n) refl e
  where
    by : (r : Ordering) → nat_cmp m n ≡ r → ordering_then r o ≡ Equal → m ≡ n
    by Less f g = cc
    by Equal f g = ranked m n Equal (sym f)
    by Greater f g = cc

-- the pairs of a list of all nodes, sorted, are all nodes in order
pairs-in_order : (σ : ℕ → ℕ) (nodes : ℕ) (c : List ℕ) (pairs : List (ℕ × ℕ)) → ListsNodes nodes c → Permutes (map (λ n. (n, σ n)) c) pairs → IsSorted pair_cmp pairs
    → pairs ≡ map (λ n. (n, σ n)) (numbers_below nodes)
pairs-in_order σ nodes c pairs l p up =
    same_ascending pair_cmp pair_cmp_total pairs (map (λ n. (n, σ n)) (numbers_below nodes))
    (ascends_from_sort pair_cmp pair_cmp_total first_of (λ x y e. tied_firsts x.0 y.0 (nat_cmp x.1 y.1) e) pairs up
    (AreDistinct-Permutes (Permutes-map first_of p) (subst AreDistinct (sym (firsts-are σ c)) l.distinct)))
    (ascends-pairs σ (numbers_below nodes) (StrictlyAscends-numbers_below nodes))
    (λ x h.
    let f = from_In-map (λ n. (n, σ n)) c x (In-Permutes x (Permutes-sym p) h) in
    subst (λ w. In w (map (λ n. (n, σ n)) (numbers_below nodes))) (sym f.2) (In-map (λ n. (n, σ n)) (numbers_below nodes) f.0 (In-numbers_below nodes f.0 ((l.all f.0).0 f.1))))
    (λ x h.
    let f = from_In-map (λ n. (n, σ n)) (numbers_below nodes) x h in
    subst (λ w. In w pairs) (sym f.2) (In-Permutes (f.0, σ f.0) p (In-map (λ n. (n, σ n)) c f.0 ((l.all f.0).1 (from_In-numbers_below nodes f.0 f.1)))))

-- ---- two canonical forms

module _ (ρ : Hashing) (A B : Dataset) (first second : Canon) (k : IsCanon ρ A first) (l : IsCanon ρ B second) where
  form_of : (D : Dataset) (canon : Canon) (m : IsCanon ρ D canon) → canon.bytes ≡ canonical_form D canon.order
  form_of D canon m = m.bytes.chosen ∙ ap (canonical_form D) (sym m.order_is)

  carried : first.bytes ≡ second.bytes → CarriesLists A B first.order second.order
  carried e = shared_output ρ ρ A B k.bytes.valid l.bytes.valid first.order second.order k.order_allowed l.order_allowed (sym (form_of A first k) ∙ e ∙ form_of B second l)

  first-lists : ListsNodes A.nodes first.order
  first-lists = let c = canonical_lists_are_complete ρ A k.bytes.valid first.order k.order_allowed in record { distinct = c.1; all = c.0 }

  pub same-forms : first.bytes ≡ second.bytes → (pairs : List (ℕ × ℕ)) → IsPermutation (zip first.order second.order) pairs → IsSorted pair_cmp pairs → AreSame ρ A B pairs
  same-forms e pairs p up =
      let t = carried e in
      let all : Permutes (map (λ n. (n, t.relabelling.to n)) first.order) pairs = subst (λ w. Permutes w pairs) (ap (zip first.order) (sym t.lists) ∙ zip-map t.relabelling.to first.order)
      (Permutes-from_IsPermutation (zip first.order second.order) pairs p) in
      record {
        bytes_equal = sym k.bytes.chosen ∙ e ∙ l.bytes.chosen;
        bijection = record { relabelling = t.relabelling; carries = t.carries; pairs_are = pairs-in_order t.relabelling.to A.nodes first.order pairs first-lists all up };
      }

  -- ---- where the bytes differ

  module _ (differ : ¬ (first.bytes ≡ second.bytes)) where
    forms-differ : ¬ (chosen_form ρ A ≡ chosen_form ρ B)
    forms-differ e = differ (k.bytes.chosen ∙ e ∙ sym l.bytes.chosen)

    apart-first : IsSettled ρ A → ¬ (AreIsomorphic A B)
    apart-first s iso = differ (sym (k.only s B iso second.bytes l.bytes.allowed))

    turned_round : AreIsomorphic A B → AreIsomorphic B A
    turned_round iso = record {
      relabelling = back_relabelling A B iso.relabelling iso.carries.nodes;
      carries = carries_back iso.relabelling.to iso.relabelling.from iso.relabelling.from-to A B iso.carries;
    }

    apart-second : IsSettled ρ B → ¬ (AreIsomorphic A B)
    apart-second s iso = differ (l.only s A (turned_round iso) first.bytes k.bytes.allowed)

    verdict-apart : (s t : Option Tie) → IsFirstUnsettled ρ A s → IsFirstUnsettled ρ B t → (verdict : Verdict) → AreApart s t verdict → IsVerdict ρ A B verdict
    verdict-apart (Some s) (Some t) f g verdict e =
        let u : AreUndecided ρ A B s t = record { bytes_differ = forms-differ; first = f; second = g } in subst (IsVerdict ρ A B) (sym e) u
    verdict-apart (Some s) None f g verdict e =
        let u : AreDifferent ρ A B = record { bytes_differ = forms-differ; settled = inr g; not_isomorphic = apart-second g } in subst (IsVerdict ρ A B) (sym e) u
    verdict-apart None t f g verdict e =
        let u : AreDifferent ρ A B = record { bytes_differ = forms-differ; settled = inl f; not_isomorphic = apart-first f } in subst (IsVerdict ρ A B) (sym e) u

    pub different-forms : (verdict : Verdict) → AreApart first.unsettled second.unsettled verdict → IsVerdict ρ A B verdict
    different-forms verdict e = verdict-apart first.unsettled second.unsettled k.unsettled l.unsettled verdict e
