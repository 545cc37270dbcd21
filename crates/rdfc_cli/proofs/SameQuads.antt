-- Datasets whose lists have the same quads: ties, forms and what is counted of them are the same.
use Rattle.std.proofs.Common.{◌≡◌, ℕ, zero, suc, arith, ◌<◌, ◌≤◌, List, [], ◌∷◌, ◌++◌, Option, Some, None, map, inl, inr, refl, sym, ap, ◌∙◌, subst}
use Rattle.rdf_terms.proofs.Common.{Text, IsValid, numbers_below, In, permutes_trans, Dataset, Relabelling, Carries, AreIsomorphic, relabel_statement, joined, canonical_line, issued_names, In-append_right, Permutes-map, Permutes-sym, sorted-Permutes}
use Rattle.rdf_terms.specs.declared.term.Prefix.TheVariants.{Canonical}
use Rattle.canon_model.specs.CountedRun.{Tie, counted_run}
use Rattle.canon_model.specs.Hashing.{Hashing}
use Rattle.canon_model.specs.JoinedTies.{IsSettled, IsJoinedTie, IsFirstUnjoined, JoinedCount, ties_of_run}
use Rattle.canon_model.specs.Allowed.{canonical_form}
use Rattle.canon_model.specs.Output.{chosen_form, units_of}
use Rattle.canon_model.specs.QuadOrder.{HaveSameQuads}
use Rattle.canon_model.specs.Ties.{IsJoined, AreJoined}
use Rattle.canon_model.proofs.QuadOrder.{counted_run_of_quads}
use Rattle.canon_core.specs.Canonical.{IsUnsettledBy, IsFirstUnsettled}
use Rattle.ndegree_hash.specs.Log.{tie_of}
use Rattle.ndegree_hash.specs.declared.tie.Tie.{Tie as CarriedTie}
use Rattle.other_output.specs.Along.{IsFormAlong, IsNumberedAlong, IsWithinLimitAlong, PassesLimitAlong, nodes_along}
use Rattle.rdfc_cli.proofs.NumberedAlong.{numbered_quads}
use Rattle.rdfc_cli.proofs.OptionWords.{head_same, tail_same}

-- ---- symmetries and ties

same_symmetry : (D E : Dataset) → HaveSameQuads D E → (r : Relabelling D.nodes) → Carries r.to D D → Carries r.to E E
same_symmetry D E s r k = record {
  nodes = refl;
  statements = permutes_trans (Permutes-map (relabel_statement r.to) (Permutes-sym s.statements)) (permutes_trans k.statements s.statements);
}

relabelling_for : (m n : ℕ) → n ≡ m → Relabelling m → Relabelling n
relabelling_for m n e r = record {
  to = r.to;
  from = r.from;
  from-to = r.from-to;
  to-from = r.to-from;
  to_node = λ x l. subst (λ k. r.to x < k) (sym e) (r.to_node x (subst (λ k. x < k) e l));
  from_node = λ x l. subst (λ k. r.from x < k) (sym e) (r.from_node x (subst (λ k. x < k) e l));
}

pub same_joined : (D E : Dataset) (c left right : List ℕ) → HaveSameQuads D E → IsJoined D c left right → IsJoined E c left right
unfolding relabelling_for
same_joined D E c left right s j = record {
  as_long = j.as_long;
  symmetry = record { relabelling = relabelling_for D.nodes E.nodes s.nodes j.symmetry.relabelling; keeps = same_symmetry D E s j.symmetry.relabelling j.symmetry.keeps };
  is_exchange = j.is_exchange;
  fixes_canonical = j.fixes_canonical;
}

pub same_settled : (ρ : Hashing) (D E : Dataset) → HaveSameQuads D E → IsSettled ρ D → IsSettled ρ E
same_settled ρ D E s settled t i =
    same_joined D E t.canonical t.left t.right s (settled t (subst (In t) (ap (λ run. run.trace.ties) (counted_run_of_quads ρ D E s)) i))

pub same_isomorphic : (A B D E : Dataset) → HaveSameQuads A D → HaveSameQuads B E → AreIsomorphic A B → AreIsomorphic D E
unfolding relabelling_for
same_isomorphic A B D E s t iso =
    let r = iso.relabelling in
    record {
      relabelling = relabelling_for A.nodes D.nodes s.nodes r;
      carries = record {
        nodes = t.nodes ∙ iso.carries.nodes ∙ sym s.nodes;
        statements = permutes_trans (Permutes-map (relabel_statement r.to) (Permutes-sym s.statements)) (permutes_trans iso.carries.statements t.statements);
      };
    }

pub have_same_quads-sym : (D E : Dataset) → HaveSameQuads D E → HaveSameQuads E D
have_same_quads-sym D E s = record { nodes = sym s.nodes; statements = Permutes-sym s.statements }

pub same_ties : (ρ : Hashing) (D E : Dataset) → HaveSameQuads D E → ties_of_run ρ E ≡ ties_of_run ρ D
same_ties ρ D E s = ap (λ run. run.trace.ties) (counted_run_of_quads ρ D E s)

-- ---- the form

pub same_form : (ρ : Hashing) (D E : Dataset) → HaveSameQuads D E → chosen_form ρ E ≡ chosen_form ρ D
same_form ρ D E s = ap (λ run. canonical_form E run.value) (counted_run_of_quads ρ D E s)
    ∙ ap joined (sorted-Permutes (Permutes-map (canonical_line (issued_names Canonical (counted_run ρ D).value)) (Permutes-sym s.statements)))

-- ---- numbered along a tie

pub same_along : (D E F : Dataset) (t : Tie) → HaveSameQuads D E → IsNumberedAlong D t F → IsNumberedAlong E t F
unfolding relabelling_for
same_along D E F t s a = record {
  relabelling = relabelling_for D.nodes E.nodes s.nodes a.relabelling;
  lists = subst (λ n. map a.relabelling.to (nodes_along n t.canonical t.right) ≡ numbers_below n) (sym s.nodes) a.lists;
  carries = record {
    nodes = a.carries.nodes ∙ sym s.nodes;
    statements = permutes_trans (Permutes-map (relabel_statement a.relabelling.to) (Permutes-sym s.statements)) a.carries.statements;
  };
}

-- one form, whichever of the two is numbered along one tie
pub same_form_along : (ρ : Hashing) (D E : Dataset) (s t : Tie) (x y : Text) → IsValid D → HaveSameQuads D E → s ≡ t → IsFormAlong ρ D s x → IsFormAlong ρ E t y → x ≡ y
same_form_along ρ D E s t x y valid same e f g =
    let back = same_along E D g.numbered s (have_same_quads-sym D E same) (subst (λ u. IsNumberedAlong E u g.numbered) (sym e) g.along) in
    f.chosen ∙ sym (same_form ρ f.numbered g.numbered (numbered_quads D f.numbered g.numbered valid (nodes_along D.nodes s.canonical s.right) f.along back)) ∙ sym g.chosen

-- a run along one tie that is within the limit does not pass it
pub not_past_along : (ρ : Hashing) (D E : Dataset) (s t : Tie) (limit : ℕ) → IsValid D → HaveSameQuads D E → s ≡ t → IsWithinLimitAlong ρ D s limit → ¬ (PassesLimitAlong ρ E t limit)
not_past_along ρ D E s t limit valid same e w p =
    let back = same_along E D p.numbered s (have_same_quads-sym D E same) (subst (λ u. IsNumberedAlong E u p.numbered) (sym e) p.along) in
    let quads = numbered_quads D w.numbered p.numbered valid (nodes_along D.nodes s.canonical s.right) w.along back in
    let units : units_of ρ p.numbered ≡ units_of ρ w.numbered = ap (λ run. run.trace.units) (counted_run_of_quads ρ w.numbered p.numbered quads) in
    let within : units_of ρ w.numbered ≤ limit = w.within in
    let passes : limit < units_of ρ p.numbered = p.passes in
    omega (arith, units, within, passes)

-- ---- the first tie that is not joined

module _ (D : Dataset) where
  one_first : (before other_before behind other_behind : List Tie) (s t : Tie) → before ++ s ∷ behind ≡ other_before ++ t ∷ other_behind → AreJoined D before → AreJoined D other_before
      → ¬ (IsJoinedTie D s) → ¬ (IsJoinedTie D t) → s ≡ t
  one_first [] [] behind other_behind s t e h k m n = head_same s t behind other_behind e
  one_first [] (u ∷ others) behind other_behind s t e h k m n = absurd (m (subst (IsJoinedTie D) (sym (head_same s u behind (others ++ t ∷ other_behind) e)) (k u (inl refl))))
  one_first (u ∷ us) [] behind other_behind s t e h k m n = absurd (n (subst (IsJoinedTie D) (head_same u t (us ++ s ∷ behind) other_behind e) (h u (inl refl))))
  one_first (u ∷ us) (v ∷ vs) behind other_behind s t e h k m n =
      one_first us vs behind other_behind s t (tail_same u v (us ++ s ∷ behind) (vs ++ t ∷ other_behind) e) (λ x i. h x (inr i)) (λ x i. k x (inr i)) m n

pub same_first : (ρ : Hashing) (D E : Dataset) (s t : Tie) → HaveSameQuads D E → IsFirstUnjoined D (ties_of_run ρ D) s → IsFirstUnjoined E (ties_of_run ρ E) t → s ≡ t
same_first ρ D E s t same a b =
    let back = have_same_quads-sym D E same in
    one_first D a.before b.before a.behind b.behind s t (sym a.ties_are ∙ sym (same_ties ρ D E same) ∙ b.ties_are) a.joined_before
    (λ x i. same_joined E D x.canonical x.left x.right back (b.joined_before x i)) a.not_joined (λ j. b.not_joined (same_joined D E t.canonical t.left t.right same j))

-- a run with each tie joined has none that is not
pub not_unsettled : (ρ : Hashing) (D : Dataset) (t : CarriedTie) → IsSettled ρ D → ¬ (IsUnsettledBy ρ D t)
not_unsettled ρ D t settled u =
    u.not_joined (settled (tie_of t) (subst (In (tie_of t)) (sym u.first.ties_are) (In-append_right u.first.before (tie_of t ∷ u.first.behind) (tie_of t) (inl refl))))

-- two answers to which tie is the first have the same lists, or there is none
abbrev pub HaveSameLists : Option CarriedTie → Option CarriedTie → Type 0
HaveSameLists None None = Unit {0}
HaveSameLists (Some s) (Some t) = tie_of s ≡ tie_of t
HaveSameLists found others = ⊥

pub same_unsettled : (ρ : Hashing) (D E : Dataset) (found others : Option CarriedTie) → HaveSameQuads D E → IsFirstUnsettled ρ D found → IsFirstUnsettled ρ E others → HaveSameLists found others
same_unsettled ρ D E None None same a b = tt
same_unsettled ρ D E None (Some t) same a b = not_unsettled ρ E t (same_settled ρ D E same a) b
same_unsettled ρ D E (Some s) None same a b = not_unsettled ρ D s (same_settled ρ E D (have_same_quads-sym D E same) b) a
same_unsettled ρ D E (Some s) (Some t) same a b = same_first ρ D E (tie_of s) (tie_of t) same a.first b.first

-- ---- how many ties are joined

module _ (D E : Dataset) (same : HaveSameQuads D E) where
  here : (t : Tie) → IsJoinedTie E t → IsJoinedTie D t
  here t j = same_joined E D t.canonical t.left t.right (have_same_quads-sym D E same) j

  there : (t : Tie) → IsJoinedTie D t → IsJoinedTie E t
  there t j = same_joined D E t.canonical t.left t.right same j

  one_count : (ties : List Tie) (j k : ℕ) → JoinedCount D ties j → JoinedCount E ties k → j ≡ k
  one_count [] j k h i = h ∙ sym i
  one_count (t ∷ ties) zero zero h i = refl
  one_count (t ∷ ties) zero (suc k) h (inl i) = absurd (h.0 (here t i.0))
  one_count (t ∷ ties) zero (suc k) h (inr i) = one_count ties zero (suc k) h.1 i.1
  one_count (t ∷ ties) (suc j) zero (inl h) i = absurd (i.0 (there t h.0))
  one_count (t ∷ ties) (suc j) zero (inr h) i = one_count ties (suc j) zero h.1 i.1
  one_count (t ∷ ties) (suc j) (suc k) (inl h) (inl i) = ap suc (one_count ties j k h.1 i.1)
  one_count (t ∷ ties) (suc j) (suc k) (inl h) (inr i) = absurd (i.0 (there t h.0))
  one_count (t ∷ ties) (suc j) (suc k) (inr h) (inl i) = absurd (h.0 (here t i.0))
  one_count (t ∷ ties) (suc j) (suc k) (inr h) (inr i) = one_count ties (suc j) (suc k) h.1 i.1

pub same_count : (ρ : Hashing) (D E : Dataset) (j k : ℕ) → HaveSameQuads D E → JoinedCount D (ties_of_run ρ D) j → JoinedCount E (ties_of_run ρ E) k → j ≡ k
same_count ρ D E j k same h i = one_count D E same (ties_of_run ρ D) j k h (subst (λ ties. JoinedCount E ties k) (same_ties ρ D E same) i)
