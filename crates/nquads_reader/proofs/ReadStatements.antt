-- The statements that are read are those of the dataset, by the numbers of their labels.
use Rattle.std.proofs.Common.{◌≡◌, ℕ, ◌<◌, List, [], ◌∷◌, Option, Some, None, IfSome, All, map, slice_get, refl}
use Rattle.std.specs.List.{AllZip}
use Rattle.std.proofs.lemmas.List.Elements.{All-head, All-tail}
use Rattle.rdf_terms.proofs.Common.{Statement, IsIri, IsIriOrBlank, IsValidTerm, IsValidStatement, relabel_term, relabel_graph_name, relabel_statement, Naming}
use Rattle.rdf_terms.specs.declared.term.Term.{Term}
use Rattle.rdf_terms.specs.declared.term.Term.TheVariants.{Iri as IriTerm, Blank, Literal as LiteralTerm}
use Rattle.rdf_terms.specs.declared.term.Label.{Label}
use Rattle.rdf_terms.specs.declared.term.Label.TheVariants.{Named}
use Rattle.nquads_reader.specs.Document.{IsResourceTerm, IsObjectTerm, IsGraphNameTerm, IsStatementOf}
use Rattle.nquads_reader.proofs.WrittenQuads.{written_resource, written_object, written_graph_name, written_iri, written_quad}

module _ (ν : Naming) (nodes : ℕ) (labels : List Label) (to : ℕ → ℕ) (at : (n : ℕ) → n < nodes → slice_get labels (to n) ≡ Some (Named (ν n))) where
  resource_moved : (t : Term) → IsIriOrBlank t → IsValidTerm nodes t → IsResourceTerm labels (written_resource ν t) (relabel_term to t)
  resource_moved (IriTerm iri) k v = refl
  resource_moved (Blank n) k v = (to n, at n v, refl)
  resource_moved (LiteralTerm l) k v = absurd k

  object_moved : (t : Term) → IsValidTerm nodes t → IsObjectTerm labels (written_object ν t) (relabel_term to t)
  object_moved (IriTerm iri) v = refl
  object_moved (Blank n) v = (to n, at n v, refl)
  object_moved (LiteralTerm l) v = refl

  graph_name_moved : (g : Option Term) → IfSome g IsIriOrBlank → IfSome g (IsValidTerm nodes) → IsGraphNameTerm labels (written_graph_name ν g) (relabel_graph_name to g)
  graph_name_moved None k v = refl
  graph_name_moved (Some t) k v = (relabel_term to t, resource_moved t k v, refl)

  statement_moved : (st : Statement) → IsValidStatement nodes st → IsStatementOf labels (written_quad ν st) (relabel_statement to st)
  statement_moved st v = record {
    subject = resource_moved st.subject v.subject_kind v.subject;
    predicate = predicate st.predicate v.predicate_kind;
    object = object_moved st.object v.object;
    graph_name = graph_name_moved st.graph_name v.graph_name_kind v.graph_name;
  }
    where
      predicate : (t : Term) → IsIri t → relabel_term to t ≡ IriTerm (written_iri t)
      predicate (IriTerm iri) k = refl
      predicate (Blank n) k = absurd k
      predicate (LiteralTerm l) k = absurd k

  pub statements_moved : (sts : List Statement) → All (IsValidStatement nodes) sts → AllZip (IsStatementOf labels) (map (written_quad ν) sts) (map (relabel_statement to) sts)
  statements_moved [] all = tt
  statements_moved (st ∷ sts) all = (statement_moved st (All-head (IsValidStatement nodes) st sts all), statements_moved sts (All-tail (IsValidStatement nodes) st sts all))
