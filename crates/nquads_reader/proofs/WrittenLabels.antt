-- The labels of what a canonical line states are the names of the nodes that its statement mentions.
use Rattle.std.proofs.Common.{◌≡◌, ℕ, ◌<◌, true, [], ◌∷◌, ◌++◌, inl, inr, Option, Some, None, IfSome, sym, ap, true≢false}
use Rattle.std.proofs.lemmas.Bool.{eqb-true}
use Rattle.rdf_terms.proofs.Common.{In, Statement, IsValidTerm, IsValidStatement, is_node, is_named_by, mentions, Naming, In-append, In-append_left, In-append_right}
use Rattle.rdf_terms.specs.declared.term.Term.{Term}
use Rattle.rdf_terms.specs.declared.term.Term.TheVariants.{Iri as IriTerm, Blank, Literal as LiteralTerm}
use Rattle.rdf_terms.specs.declared.term.Label.{Label}
use Rattle.rdf_terms.specs.declared.term.Label.TheVariants.{Named}
use Rattle.rdf_terms.proofs.Finishing.{one_of}
use Rattle.nquads_reader.specs.Document.{labels_of_resource, labels_of_object, labels_of_graph_name, mentioned}
use Rattle.nquads_reader.proofs.WrittenQuads.{written_resource, written_object, written_graph_name, written_quad}

module _ (ν : Naming) where
  abbrev pub name_label : ℕ → Label
  name_label n = Named (ν n)

  -- ---- the labels of a quad are the names of the nodes that it mentions

  module _ (nodes : ℕ) (l : Label) where
    -- the label is the name of a node
    abbrev pub IsName : Type 0
    IsName = (n : ℕ) × (n < nodes) × (l ≡ name_label n)

    one_name : (n : ℕ) → n < nodes → In l (name_label n ∷ []) → IsName
    one_name n v (inl e) = (n, v, e)
    one_name n v (inr none) = absurd none

    resource_name : (t : Term) → IsValidTerm nodes t → In l (labels_of_resource (written_resource ν t)) → IsName
    resource_name (IriTerm iri) v i = absurd i
    resource_name (Blank n) v i = one_name n v i
    resource_name (LiteralTerm k) v i = absurd i

    object_name : (t : Term) → IsValidTerm nodes t → In l (labels_of_object (written_object ν t)) → IsName
    object_name (IriTerm iri) v i = absurd i
    object_name (Blank n) v i = one_name n v i
    object_name (LiteralTerm k) v i = absurd i

    graph_name_name : (g : Option Term) → IfSome g (IsValidTerm nodes) → In l (labels_of_graph_name (written_graph_name ν g)) → IsName
    graph_name_name None v i = absurd i
    graph_name_name (Some t) v i = resource_name t v i

    pub quad_name : (st : Statement) → IsValidStatement nodes st → In l (mentioned (written_quad ν st)) → IsName
    quad_name st v i =
        elim (In-append (labels_of_resource (written_resource ν st.subject)) (labels_of_object (written_object ν st.object) ++ labels_of_graph_name (written_graph_name ν st.graph_name)) l i) as
        (λ _. IsName) [
          | inl s ↦ resource_name st.subject v.subject s
          | inr more ↦ elim (In-append (labels_of_object (written_object ν st.object)) (labels_of_graph_name (written_graph_name ν st.graph_name)) l more) as (λ _. IsName) [
            | inl o ↦ object_name st.object v.object o
            | inr g ↦ graph_name_name st.graph_name v.graph_name g
          ]
        ]

  module _ (n : ℕ) where
    here : (m : ℕ) → is_node n (Blank m) ≡ true → In (name_label n) (name_label m ∷ [])
    here m e = inl (ap name_label (sym (eqb-true m n e)))

    resource_label : (t : Term) → is_node n t ≡ true → In (name_label n) (labels_of_resource (written_resource ν t))
    resource_label (IriTerm iri) e = absurd (true≢false (sym e))
    resource_label (Blank m) e = here m e
    resource_label (LiteralTerm l) e = absurd (true≢false (sym e))

    object_label : (t : Term) → is_node n t ≡ true → In (name_label n) (labels_of_object (written_object ν t))
    object_label (IriTerm iri) e = absurd (true≢false (sym e))
    object_label (Blank m) e = here m e
    object_label (LiteralTerm l) e = absurd (true≢false (sym e))

    graph_name_label : (g : Option Term) → is_named_by n g ≡ true → In (name_label n) (labels_of_graph_name (written_graph_name ν g))
    graph_name_label None e = absurd (true≢false (sym e))
    graph_name_label (Some t) e = resource_label t e

    pub quad_label : (st : Statement) → mentions n st ≡ true → In (name_label n) (mentioned (written_quad ν st))
    quad_label st e =
        let subject = labels_of_resource (written_resource ν st.subject) in
        let object = labels_of_object (written_object ν st.object) in
        let graph_name = labels_of_graph_name (written_graph_name ν st.graph_name) in
        one_of (is_node n st.subject) (is_node n st.object) (is_named_by n st.graph_name)
        (λ s. In-append_left subject (object ++ graph_name) (name_label n) (resource_label st.subject s))
        (λ o. In-append_right subject (object ++ graph_name) (name_label n) (In-append_left object graph_name (name_label n) (object_label st.object o)))
        (λ g. In-append_right subject (object ++ graph_name) (name_label n) (In-append_right object graph_name (name_label n) (graph_name_label st.graph_name g)))
        e
