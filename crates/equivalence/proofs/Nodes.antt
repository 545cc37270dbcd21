-- The nodes of a graph, each once.
use Rattle.std.proofs.Common.{◌≡◌, ℕ, ◌⊎◌, true, List, [], ◌∷◌, None, refl, sym, ap, ◌∙◌, subst, inl, inr, true≢false}
use Rattle.std.proofs.lemmas.Bool.{eqb-true, or_cases}
use Rattle.rdf_terms.proofs.Common.{In, AreDistinct, Statement, mentions, is_node, is_named_by, IsUsed, decide_in}
use Rattle.rdf_terms.specs.declared.term.Term.{Term}
use Rattle.rdf_terms.specs.declared.term.Term.TheVariants.{Iri, Blank, Literal}
use Rattle.graph_model.proofs.Maps.{eqb-itself, by_subject, by_object}

pub node_is : (n : ℕ) (t : Term) → is_node n t ≡ true → t ≡ Blank n
node_is n (Iri t) e = absurd (true≢false (sym e))
node_is n (Blank m) e = ap Blank (eqb-true m n e)
node_is n (Literal l) e = absurd (true≢false (sym e))

pub is_node-of : (n : ℕ) (t : Term) → t ≡ Blank n → is_node n t ≡ true
is_node-of n t e = ap (is_node n) e ∙ eqb-itself n

-- a node that a triple mentions is one of its ends
pub is_end : (n : ℕ) (st : Statement) → st.graph_name ≡ None → mentions n st ≡ true → (st.subject ≡ Blank n) ⊎ (st.object ≡ Blank n)
is_end n st g e = elim (or_cases (is_node n st.subject) _ e) [
  | inl a ↦ inl (node_is n st.subject a)
  | inr h ↦ elim (or_cases (is_node n st.object) (is_named_by n st.graph_name) h) [
    | inl b ↦ inr (node_is n st.object b)
    | inr c ↦ absurd (true≢false (sym c ∙ ap (is_named_by n) g))
  ]
]

-- ---- a list of all nodes

with_if : (x : ℕ) (ns : List ℕ) → In x ns ⊎ (¬ (In x ns)) → List ℕ
with_if x ns (inl h) = ns
with_if x ns (inr h) = x ∷ ns

with_term : Term → List ℕ → List ℕ
with_term (Iri t) ns = ns
with_term (Blank n) ns = with_if n ns (decide_in n ns)
with_term (Literal l) ns = ns

if_once : (x : ℕ) (ns : List ℕ) (d : In x ns ⊎ (¬ (In x ns))) → AreDistinct ns → AreDistinct (with_if x ns d)
unfolding with_if
if_once x ns (inl h) o = o
if_once x ns (inr h) o = (h, o)

if_self : (x : ℕ) (ns : List ℕ) (d : In x ns ⊎ (¬ (In x ns))) → In x (with_if x ns d)
unfolding with_if
if_self x ns (inl h) = h
if_self x ns (inr h) = inl refl

if_old : (x y : ℕ) (ns : List ℕ) (d : In x ns ⊎ (¬ (In x ns))) → In y ns → In y (with_if x ns d)
unfolding with_if
if_old x y ns (inl h) i = i
if_old x y ns (inr h) i = inr i

if_from : (x y : ℕ) (ns : List ℕ) (d : In x ns ⊎ (¬ (In x ns))) → In y (with_if x ns d) → (y ≡ x) ⊎ In y ns
unfolding with_if
if_from x y ns (inl h) i = inr i
if_from x y ns (inr h) i = i

term_once : (t : Term) (ns : List ℕ) → AreDistinct ns → AreDistinct (with_term t ns)
unfolding with_term
term_once (Iri t) ns o = o
term_once (Blank n) ns o = if_once n ns (decide_in n ns) o
term_once (Literal l) ns o = o

term_old : (t : Term) (y : ℕ) (ns : List ℕ) → In y ns → In y (with_term t ns)
unfolding with_term
term_old (Iri t) y ns i = i
term_old (Blank n) y ns i = if_old n y ns (decide_in n ns) i
term_old (Literal l) y ns i = i

term_self : (t : Term) (y : ℕ) (ns : List ℕ) → t ≡ Blank y → In y (with_term t ns)
unfolding with_term
term_self t y ns e = subst (λ w. In y (with_term w ns)) (sym e) (if_self y ns (decide_in y ns))

term_from : (t : Term) (y : ℕ) (ns : List ℕ) → In y (with_term t ns) → (t ≡ Blank y) ⊎ In y ns
unfolding with_term
term_from (Iri t) y ns i = inr i
term_from (Blank n) y ns i = elim (if_from n y ns (decide_in n ns) i) [ inl e ↦ inl (ap Blank (sym e)) | inr j ↦ inr j ]
term_from (Literal l) y ns i = inr i

pub nodes_of : List Statement → List ℕ
nodes_of [] = []
nodes_of (st ∷ G) = with_term st.subject (with_term st.object (nodes_of G))

pub nodes_once : (G : List Statement) → AreDistinct (nodes_of G)
unfolding nodes_of
nodes_once [] = tt
nodes_once (st ∷ G) = term_once st.subject (with_term st.object (nodes_of G)) (term_once st.object (nodes_of G) (nodes_once G))

end_in : (G : List Statement) (st : Statement) (n : ℕ) → In st G → (st.subject ≡ Blank n) ⊎ (st.object ≡ Blank n) → In n (nodes_of G)
unfolding nodes_of
end_in [] st n i e = absurd i
end_in (x ∷ G) st n (inl s) (inl e) = term_self x.subject n (with_term x.object (nodes_of G)) (ap (λ (y : Statement). y.subject) (sym s) ∙ e)
end_in (x ∷ G) st n (inl s) (inr e) = term_old x.subject n (with_term x.object (nodes_of G)) (term_self x.object n (nodes_of G) (ap (λ (y : Statement). y.object) (sym s) ∙ e))
end_in (x ∷ G) st n (inr i) e = term_old x.subject n (with_term x.object (nodes_of G)) (term_old x.object n (nodes_of G) (end_in G st n i e))

pub used_in : (G : List Statement) (n : ℕ) → ((st : Statement) → In st G → st.graph_name ≡ None) → IsUsed G n → In n (nodes_of G)
used_in G n graph u = end_in G u.statement n u.there (is_end n u.statement (graph u.statement u.there) u.mentioned)

pub in_used : (G : List Statement) (n : ℕ) → In n (nodes_of G) → IsUsed G n
unfolding nodes_of
in_used [] n i = absurd i
in_used (x ∷ G) n i = by (term_from x.subject n (with_term x.object (nodes_of G)) i) (in_used G n)
  where
    by : (x.subject ≡ Blank n) ⊎ In n (with_term x.object (nodes_of G)) → (In n (nodes_of G) → IsUsed G n) → IsUsed (x ∷ G) n
    by (inl e) ih = record { statement = x; there = inl refl; mentioned = by_subject x n (is_node-of n x.subject e) }
    by (inr j) ih = elim (term_from x.object n (nodes_of G) j) [
      | inl e ↦ record { statement = x; there = inl refl; mentioned = by_object x n (is_node-of n x.object e) }
      | inr k ↦ (let u = ih k in record { statement = u.statement; there = inr u.there; mentioned = u.mentioned })
    ]
