-- A map that hits each of finitely many nodes by one of them takes them to nodes, different ones to different ones.
use Rattle.std.proofs.Common.{◌≡◌, ℕ, suc, ◌≤◌, ◌⊎◌, true, List, [], ◌∷◌, length, map, None, refl, sym, ap, ◌∙◌, subst, inl, inr, arith}
use Rattle.std.proofs.lemmas.Bool.{cases_eq}
use Rattle.std.proofs.lemmas.List.{length-map}
use Rattle.rdf_terms.proofs.Common.{In, AreDistinct, Statement, mentions, IsUsed, In-map, from_In-map, AreDistinct-map, each-from_All}
use Rattle.rdf_terms.specs.declared.term.Term.{Term}
use Rattle.rdf_terms.specs.declared.term.Term.TheVariants.{Iri, Blank, Literal}
use Rattle.graph_model.specs.Graphs.{mapped, mapped_triple, IsEndomorphism, IsGraph, IsLean}
use Rattle.graph_model.proofs.Counting.{length-within, length-without, without}
use Rattle.graph_model.proofs.Maps.{by_subject, by_object}
use Rattle.equivalence.specs.Laws.{IsPermuted}
use Rattle.equivalence.proofs.Nodes.{nodes_of, nodes_once, used_in, in_used, is_end, is_node-of}

In-without : (x z : ℕ) (ys : List ℕ) (h : In x ys) → In z ys → (¬ (z ≡ x)) → In z (without x ys h)
unfolding without
In-without x z [] h i n = absurd h
In-without x z (y ∷ ys) (inl e) (inl f) n = absurd (n (f ∙ sym e))
In-without x z (y ∷ ys) (inl e) (inr i) n = i
In-without x z (y ∷ ys) (inr h) (inl f) n = inl f
In-without x z (y ∷ ys) (inr h) (inr i) n = inr (In-without x z ys h i n)

same_node : (x y : ℕ) → Blank x ≡ Blank y → x ≡ y
same_node x y e = cc

module _ (ns : List ℕ) (once : AreDistinct ns) (φ : ℕ → Term) where
  -- not all of them are hit by all but one
  all_but : (m : ℕ) (i : In m ns) → ((n : ℕ) → In n ns → (k : ℕ) × In k ns × (¬ (k ≡ m)) × (φ k ≡ Blank n)) → ⊥
  all_but m i h =
      let a : length (map Blank ns) ≤ length (map φ (without m ns i)) =
      length-within (map Blank ns) (map φ (without m ns i)) (AreDistinct-map Blank ns (λ x y _ _ e. same_node x y e) once)
      (λ t j. (let p = from_In-map Blank ns t j in let k = h p.0 p.1
      in subst (λ w. In w (map φ (without m ns i))) (k.3 ∙ sym p.2) (In-map φ (without m ns i) k.0 (In-without m k.0 ns i k.1 k.2)))) in
      let b : length (map Blank ns) ≡ length ns = length-map ns Blank in
      let c : length (map φ (without m ns i)) ≡ length (without m ns i) = length-map (without m ns i) φ in
      let d : length ns ≡ suc (length (without m ns i)) = length-without m ns i in
      absurd (omega arith)

  module _ (hit : (n : ℕ) → In n ns → (k : ℕ) × In k ns × (φ k ≡ Blank n)) where
    pub different : (m n : ℕ) → In m ns → In n ns → φ m ≡ φ n → m ≡ n
    different m n i j e = by (cases_eq n m)
      where
        other : (¬ (n ≡ m)) → (x : ℕ) → In x ns → (k : ℕ) × In k ns × (¬ (k ≡ m)) × (φ k ≡ Blank x)
        other ne x l = (let h = hit x l in elim (cases_eq h.0 m) [
          | inl f ↦ (n, j, ne, sym e ∙ (ap φ (sym f) ∙ h.2))
          | inr o ↦ (h.0, h.1, o, h.2)
        ])

        by : (n ≡ m) ⊎ (¬ (n ≡ m)) → m ≡ n
        by (inl f) = sym f
        by (inr ne) = absurd (all_but m i (other ne))

    no_other : (m : ℕ) → In m ns → ((x : ℕ) → ¬ (φ m ≡ Blank x)) → ⊥
    no_other m i none = all_but m i (λ x l. (let h = hit x l in (h.0, h.1, (λ f. none x (ap φ (sym f) ∙ h.2)), h.2)))

    pub blank : (m : ℕ) → In m ns → (k : ℕ) × (φ m ≡ Blank k)
    blank m i = by (φ m) refl
      where
        by : (t : Term) → φ m ≡ t → (k : ℕ) × (φ m ≡ Blank k)
        by (Blank k) e = (k, e)
        by (Iri t) e = absurd (no_other m i (λ x f. cc))
        by (Literal l) e = absurd (no_other m i (λ x f. cc))

-- ---- an endomorphism of a lean graph

module _ (L : List Statement) (φ : ℕ → Term) (graph : IsGraph L) (lean : IsLean L) (endo : IsEndomorphism φ L) where
  abbrev Named : Statement → Type 0
  Named st = st.graph_name ≡ None

  source : (t : Term) (n : ℕ) → mapped φ t ≡ Blank n → (k : ℕ) × (t ≡ Blank k) × (φ k ≡ Blank n)
  source (Iri t) n e = absurd cc
  source (Blank k) n e = (k, refl, e)
  source (Literal l) n e = absurd cc

  unnamed : (st : Statement) → In st L → st.graph_name ≡ None
  unnamed st i = each-from_All Named L st graph i

  hit : (n : ℕ) → In n (nodes_of L) → (k : ℕ) × In k (nodes_of L) × (φ k ≡ Blank n)
  hit n i =
      let u : IsUsed L n = in_used L n i in
      let p = from_In-map (mapped_triple φ) L u.statement (lean φ endo u.statement u.there) in
      elim (is_end n u.statement (unnamed u.statement u.there) u.mentioned) [
        | inl e ↦ (let s = source p.0.subject n (sym (ap (λ (st : Statement). st.subject) p.2) ∙ e)
            in (s.0, used_in L s.0 unnamed (record { statement = p.0; there = p.1; mentioned = by_subject p.0 s.0 (is_node-of s.0 p.0.subject s.1) }), s.2))
        | inr e ↦ (let s = source p.0.object n (sym (ap (λ (st : Statement). st.object) p.2) ∙ e)
            in (s.0, used_in L s.0 unnamed (record { statement = p.0; there = p.1; mentioned = by_object p.0 s.0 (is_node-of s.0 p.0.object s.1) }), s.2))
      ]

  -- a node that an end of a triple is taken to is used
  used_after : (n k : ℕ) → IsUsed L n → φ n ≡ Blank k → IsUsed L k
  used_after n k u e = elim (is_end n u.statement (unnamed u.statement u.there) u.mentioned) [
    | inl s ↦ taken (by_subject (mapped_triple φ u.statement) k (is_node-of k (mapped φ u.statement.subject) (ap (mapped φ) s ∙ e)))
    | inr o ↦ taken (by_object (mapped_triple φ u.statement) k (is_node-of k (mapped φ u.statement.object) (ap (mapped φ) o ∙ e)))
  ]
    where
      taken : mentions k (mapped_triple φ u.statement) ≡ true → IsUsed L k
      taken m = record { statement = mapped_triple φ u.statement; there = endo u.statement u.there; mentioned = m }

  pub lean_is_permuted : IsPermuted L φ
  lean_is_permuted = record {
    into = λ n u. (let b = blank (nodes_of L) (nodes_once L) φ hit n (used_in L n unnamed u) in (b.0, used_after n b.0 u b.1, b.1));
    onto = λ k u. (let h = hit k (used_in L k unnamed u) in (h.0, in_used L h.0 h.1, h.2));
    once = λ m n u v e. different (nodes_of L) (nodes_once L) φ hit m n (used_in L m unnamed u) (used_in L n unnamed v) e;
  }
