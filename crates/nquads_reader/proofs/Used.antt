-- Each node of a document that was read stands in a quad.
use Rattle.std.proofs.Common.{◌≡◌, ℕ, ◌<◌, true, ◌||◌, List, [], ◌∷◌, ◌++◌, inl, inr, Option, Some, None, length, slice_get, refl, ap, sym, subst, ◌∙◌, eqb, eq-eqb}
use Rattle.std.specs.List.{flat_map, AllZip}
use Rattle.rdf_terms.proofs.Common.{Text, In, AreDistinct, Statement, is_node, is_named_by, mentions, IsUsed, label_at, In-append, one_place, In-get_or, In-AddsAll, from_In-AddsAll, AreDistinct-AddsAll}
use Rattle.rdf_terms.specs.declared.term.Term.{Term}
use Rattle.rdf_terms.specs.declared.term.Label.{Label}
use Rattle.nquads_reader.specs.declared.quad.Resource.{Resource}
use Rattle.nquads_reader.specs.declared.quad.Resource.TheVariants.{Iri, Label as LabelResource}
use Rattle.nquads_reader.specs.declared.quad.Object.{Object}
use Rattle.nquads_reader.specs.declared.quad.Object.TheVariants.{Resource as ResourceObject, Literal as LiteralObject}
use Rattle.nquads_reader.specs.declared.quad.StatedQuad.{StatedQuad}
use Rattle.nquads_reader.specs.Document.{IsResourceTerm, IsObjectTerm, IsGraphNameTerm, IsStatementOf, AreRead, labels_of_resource, labels_of_object, labels_of_graph_name, mentioned}
use Rattle.std.proofs.lemmas.Bool.{or_left, or_right}
use Rattle.std.proofs.lemmas.Option.{slice_get-get_or}
use Rattle.rdf_terms.specs.declared.term.Label.TheVariants.{Anonymous}

-- ---- who mentions a label

module _ (labels : List Label) (distinct : AreDistinct labels) (n : ℕ) (l : Label) (at : slice_get labels n ≡ Some l) where
  resource_node : (r : Resource) (t : Term) → IsResourceTerm labels r t → In l (labels_of_resource r) → is_node n t ≡ true
  resource_node (Iri iri) t h i = absurd i
  resource_node (LabelResource label) t h (inr none) = absurd none
  resource_node (LabelResource label) t h (inl e) =
      let same : h.0 ≡ n = one_place labels h.0 n l distinct (h.1 ∙ ap Some (sym e)) at in
      subst (λ u. is_node n u ≡ true) (sym h.2) (ap (λ m. eqb m n) same ∙ itself n)
    where
      itself : (m : ℕ) → eqb m m ≡ true
      itself m = eq-eqb m m refl

  object_node : (o : Object) (t : Term) → IsObjectTerm labels o t → In l (labels_of_object o) → is_node n t ≡ true
  object_node (ResourceObject r) t h i = resource_node r t h i
  object_node (LiteralObject lit) t h i = absurd i

  graph_name_node : (g : Option Resource) (t : Option Term) → IsGraphNameTerm labels g t → In l (labels_of_graph_name g) → is_named_by n t ≡ true
  graph_name_node None t h i = absurd i
  graph_name_node (Some r) t h i = subst (λ u. is_named_by n u ≡ true) (sym h.2) (resource_node r h.0 h.1 i)

  statement_mentions : (q : StatedQuad) (st : Statement) → IsStatementOf labels q st → In l (mentioned q) → mentions n st ≡ true
  statement_mentions q st h i =
      elim (In-append (labels_of_resource q.subject) (labels_of_object q.object ++ labels_of_graph_name q.graph_name) l i) as (λ _. mentions n st ≡ true) [
        | inl s ↦ or_left (is_node n st.subject) (is_node n st.object || is_named_by n st.graph_name) (resource_node q.subject st.subject h.subject s)
        | inr more ↦ or_right (is_node n st.subject) (is_node n st.object || is_named_by n st.graph_name)
            (elim (In-append (labels_of_object q.object) (labels_of_graph_name q.graph_name) l more) as (λ _. (is_node n st.object || is_named_by n st.graph_name) ≡ true) [
              | inl o ↦ or_left (is_node n st.object) (is_named_by n st.graph_name) (object_node q.object st.object h.object o)
              | inr g ↦ or_right (is_node n st.object) (is_named_by n st.graph_name) (graph_name_node q.graph_name st.graph_name h.graph_name g)
            ])
      ]

  some_statement : (qs : List StatedQuad) (sts : List Statement) → AllZip (IsStatementOf labels) qs sts → In l (flat_map mentioned qs) → (st : Statement) × In st sts × (mentions n st ≡ true)
  some_statement [] [] h i = absurd i
  some_statement [] (st ∷ sts) h i = absurd h
  some_statement (q ∷ qs) [] h i = absurd h
  some_statement (q ∷ qs) (st ∷ sts) h i =
      elim (In-append (mentioned q) (flat_map mentioned qs) l i) as (λ _. (u : Statement) × In u (st ∷ sts) × (mentions n u ≡ true)) [
        | inl a ↦ (st, inl refl, statement_mentions q st h.0 a)
        | inr b ↦ let r = some_statement qs sts h.1 b in (r.0, inr r.1, r.2)
      ]

pub node_used : (lines : List Text) (labels : List Label) (sts : List Statement) → AreRead lines labels sts → (n : ℕ) → n < length labels → IsUsed sts n
node_used lines labels sts h n less =
    let distinct = AreDistinct-AddsAll [] (flat_map mentioned h.stated) labels h.labels_are tt in
    let l = label_at labels n in
    let from = from_In-AddsAll [] (flat_map mentioned h.stated) labels l h.labels_are (In-get_or labels n (Anonymous 0) less) in
    let there : In l (flat_map mentioned h.stated) = elim from as (λ _. In l (flat_map mentioned h.stated)) [ inl none ↦ absurd none | inr i ↦ i ] in
    let found = some_statement labels distinct n l (slice_get-get_or labels n (Anonymous 0) less) h.stated h.numbered h.numbers there in
    record { statement = found.0; there = In-AddsAll [] h.numbered sts found.0 h.statements_are found.1; mentioned = found.2 }
