-- What the canonical line of a statement states.
use Rattle.std.proofs.Common.{ℕ, [], Option, Some, None, IfSome}
use Rattle.rdf_terms.proofs.Common.{Text, Statement, HasScheme, IsIri, IsIriOrBlank, IsValidKind, IsValidTerm, IsValidStatement, Naming}
use Rattle.rdf_terms.specs.declared.term.Term.{Term}
use Rattle.rdf_terms.specs.declared.term.Term.TheVariants.{Iri as IriTerm, Blank, Literal as LiteralTerm}
use Rattle.rdf_terms.specs.declared.term.LiteralKind.{LiteralKind}
use Rattle.rdf_terms.specs.declared.term.LiteralKind.TheVariants.{Typed, Tagged}
use Rattle.nquads_reader.specs.Document.{IsAbsoluteResource, IsAbsoluteKind, IsAbsoluteObject, HasAbsoluteIris}
use Rattle.nquads_reader.specs.declared.quad.Resource.{Resource}
use Rattle.nquads_reader.specs.declared.quad.Resource.TheVariants.{Iri, Label}
use Rattle.nquads_reader.specs.declared.quad.Object.{Object}
use Rattle.nquads_reader.specs.declared.quad.Object.TheVariants.{Resource as ResourceObject, Literal as LiteralObject}
use Rattle.nquads_reader.specs.declared.quad.StatedQuad.{StatedQuad}

-- the resource for an IRI or a blank node; a literal stands in no such place
abbrev pub written_resource : Naming → Term → Resource
written_resource ν (IriTerm iri) = Iri iri
written_resource ν (Blank n) = Label (ν n)
written_resource ν (LiteralTerm l) = Iri []

abbrev pub written_iri : Term → Text
written_iri (IriTerm iri) = iri
written_iri (Blank n) = []
written_iri (LiteralTerm l) = []

abbrev pub written_object : Naming → Term → Object
written_object ν (IriTerm iri) = ResourceObject (Iri iri)
written_object ν (Blank n) = ResourceObject (Label (ν n))
written_object ν (LiteralTerm l) = LiteralObject l

abbrev pub written_graph_name : Naming → Option Term → Option Resource
written_graph_name ν None = None
written_graph_name ν (Some t) = Some (written_resource ν t)

abbrev pub written_quad : Naming → Statement → StatedQuad
written_quad ν st = record {
  subject = written_resource ν st.subject;
  predicate = written_iri st.predicate;
  object = written_object ν st.object;
  graph_name = written_graph_name ν st.graph_name;
}

-- ---- each of its IRIs has a scheme

module _ (ν : Naming) (nodes : ℕ) where
  resource_absolute : (t : Term) → IsIriOrBlank t → IsValidTerm nodes t → IsAbsoluteResource (written_resource ν t)
  resource_absolute (IriTerm iri) k v = v.has_scheme
  resource_absolute (Blank n) k v = tt
  resource_absolute (LiteralTerm l) k v = absurd k

  object_absolute : (t : Term) → IsValidTerm nodes t → IsAbsoluteObject (written_object ν t)
  object_absolute (IriTerm iri) v = v.has_scheme
  object_absolute (Blank n) v = tt
  object_absolute (LiteralTerm l) v = by l.kind v.1
    where
      by : (kind : LiteralKind) → IsValidKind kind → IsAbsoluteKind kind
      by (Typed iri) v = v.has_scheme
      by (Tagged tag) v = tt

  graph_name_absolute : (g : Option Term) → IfSome g IsIriOrBlank → IfSome g (IsValidTerm nodes) → IfSome (written_graph_name ν g) IsAbsoluteResource
  graph_name_absolute None k v = tt
  graph_name_absolute (Some t) k v = resource_absolute t k v

  predicate_scheme : (t : Term) → IsIri t → IsValidTerm nodes t → HasScheme (written_iri t)
  predicate_scheme (IriTerm iri) k v = v.has_scheme
  predicate_scheme (Blank n) k v = absurd k
  predicate_scheme (LiteralTerm l) k v = absurd k

  pub quad_absolute : (st : Statement) → IsValidStatement nodes st → HasAbsoluteIris (written_quad ν st)
  quad_absolute st v = record {
    subject = resource_absolute st.subject v.subject_kind v.subject;
    predicate = predicate_scheme st.predicate v.predicate_kind v.predicate;
    object = object_absolute st.object v.object;
    graph_name = graph_name_absolute st.graph_name v.graph_name_kind v.graph_name;
  }
