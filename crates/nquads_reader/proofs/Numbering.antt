-- Labels and statements as they are added, one after the other.
use Rattle.std.proofs.Common.{◌≡◌, ℕ, zero, suc, List, [], ◌∷◌, ◌++◌, Option, Some, None, IfSome, length, slice_get, refl, sym, ap, subst, ◌∙◌}
use Rattle.std.specs.List.{AllZip}
use Rattle.std.proofs.lemmas.Option.{slice_get_within}
use Rattle.rdf_terms.proofs.Common.{Statement, IsIri, IsIriOrBlank, IsValidTerm, IsValidStatement, AddsAll, Extends, AddsAll-append, AddsAll-extends}
use Rattle.rdf_terms.specs.declared.term.Term.{Term}
use Rattle.rdf_terms.specs.declared.term.Term.TheVariants.{Iri as IriTerm}
use Rattle.rdf_terms.specs.declared.term.Label.{Label}
use Rattle.rdf_terms.specs.declared.term.Label.TheVariants.{Named}
use Rattle.nquads_reader.specs.declared.quad.Resource.{Resource}
use Rattle.nquads_reader.specs.declared.quad.Resource.TheVariants.{Iri, Label as LabelResource}
use Rattle.nquads_reader.specs.declared.quad.Object.{Object}
use Rattle.nquads_reader.specs.declared.quad.Object.TheVariants.{Resource as ResourceObject, Literal as LiteralObject}
use Rattle.nquads_reader.specs.declared.quad.StatedQuad.{StatedQuad}
use Rattle.nquads_reader.specs.Document.{IsResourceTerm, IsObjectTerm, IsGraphNameTerm, IsStatementOf, labels_of_resource, labels_of_object, labels_of_graph_name, mentioned}
use Rattle.nquads_reader.specs.Reading.{IsValidResource, IsValidObject, IsValidQuad}

-- ---- what a label names stays where labels come behind it

slice_get-front : (xs ys : List Label) (n : ℕ) (x : Label) → slice_get xs n ≡ Some x → slice_get (xs ++ ys) n ≡ Some x
slice_get-front [] ys zero x h = cc
slice_get-front [] ys (suc n) x h = cc
slice_get-front (z ∷ zs) ys zero x h = h
slice_get-front (z ∷ zs) ys (suc n) x h = slice_get-front zs ys n x h

resource_kept : (old new : List Label) → Extends old new → (r : Resource) (t : Term) → IsResourceTerm old r t → IsResourceTerm new r t
resource_kept old new e (Iri iri) t h = h
resource_kept old new e (LabelResource label) t h = (h.0, ap (λ l. slice_get l h.0) e.1 ∙ slice_get-front old e.0 h.0 (Named label) h.1, h.2)

object_kept : (old new : List Label) → Extends old new → (o : Object) (t : Term) → IsObjectTerm old o t → IsObjectTerm new o t
object_kept old new e (ResourceObject r) t h = resource_kept old new e r t h
object_kept old new e (LiteralObject l) t h = h

graph_name_kept : (old new : List Label) → Extends old new → (g : Option Resource) (t : Option Term) → IsGraphNameTerm old g t → IsGraphNameTerm new g t
graph_name_kept old new e None t h = h
graph_name_kept old new e (Some r) t h = (h.0, resource_kept old new e r h.0 h.1, h.2)

statement_kept : (old new : List Label) → Extends old new → (q : StatedQuad) (st : Statement) → IsStatementOf old q st → IsStatementOf new q st
statement_kept old new e q st h = record {
  subject = resource_kept old new e q.subject st.subject h.subject;
  predicate = h.predicate;
  object = object_kept old new e q.object st.object h.object;
  graph_name = graph_name_kept old new e q.graph_name st.graph_name h.graph_name;
}

pub statements_kept : (old new : List Label) → Extends old new → (qs : List StatedQuad) (sts : List Statement) → AllZip (IsStatementOf old) qs sts → AllZip (IsStatementOf new) qs sts
statements_kept old new e [] [] h = tt
statements_kept old new e [] (st ∷ sts) h = absurd h
statements_kept old new e (q ∷ qs) [] h = absurd h
statements_kept old new e (q ∷ qs) (st ∷ sts) h = (statement_kept old new e q st h.0, statements_kept old new e qs sts h.1)

-- ---- one quad

module _ (q : StatedQuad) (l0 l1 l2 l3 : List Label) (s o : Term) (g : Option Term) (sl : AddsAll l0 (labels_of_resource q.subject) l1) (ol : AddsAll l1 (labels_of_object q.object) l2)
    (gl : AddsAll l2 (labels_of_graph_name q.graph_name) l3) (si : IsResourceTerm l1 q.subject s) (oi : IsObjectTerm l2 q.object o) (gi : IsGraphNameTerm l3 q.graph_name g) where
  pub quad_labels : AddsAll l0 (mentioned q) l3
  quad_labels =
      AddsAll-append l0 (labels_of_resource q.subject) l1 (labels_of_object q.object ++ labels_of_graph_name q.graph_name) l3 sl
      (AddsAll-append l1 (labels_of_object q.object) l2 (labels_of_graph_name q.graph_name) l3 ol gl)

  last : Extends l2 l3
  last = AddsAll-extends l2 (labels_of_graph_name q.graph_name) l3 gl

  pub quad_statement : IsStatementOf l3 q (record { subject = s; predicate = IriTerm q.predicate; object = o; graph_name = g })
  quad_statement = record {
    subject = resource_kept l2 l3 last q.subject s (resource_kept l1 l2 (AddsAll-extends l1 (labels_of_object q.object) l2 ol) q.subject s si);
    predicate = refl;
    object = object_kept l2 l3 last q.object o oi;
    graph_name = gi;
  }

-- ---- it is valid

resource_valid : (labels : List Label) (r : Resource) (t : Term) → IsValidResource r → IsResourceTerm labels r t → IsIriOrBlank t × IsValidTerm (length labels) t
resource_valid labels (Iri iri) t valid h = subst (λ u. IsIriOrBlank u × IsValidTerm (length labels) u) (sym h) (tt, valid)
resource_valid labels (LabelResource label) t valid h = subst (λ u. IsIriOrBlank u × IsValidTerm (length labels) u) (sym h.2) (tt, slice_get_within labels h.0 (Named label) h.1)

object_valid : (labels : List Label) (o : Object) (t : Term) → IsValidObject o → IsObjectTerm labels o t → IsValidTerm (length labels) t
object_valid labels (ResourceObject r) t valid h = (resource_valid labels r t valid h).1
object_valid labels (LiteralObject l) t valid h = subst (IsValidTerm (length labels)) (sym h) valid

graph_name_valid : (labels : List Label) (g : Option Resource) (t : Option Term) → IfSome g IsValidResource → IsGraphNameTerm labels g t
    → IfSome t IsIriOrBlank × IfSome t (IsValidTerm (length labels))
graph_name_valid labels None t valid h = subst (λ u. IfSome u IsIriOrBlank × IfSome u (IsValidTerm (length labels))) (sym h) (tt, tt)
graph_name_valid labels (Some r) t valid h = subst (λ u. IfSome u IsIriOrBlank × IfSome u (IsValidTerm (length labels))) (sym h.2) (resource_valid labels r h.0 valid h.1)

pub statement_valid : (labels : List Label) (q : StatedQuad) (st : Statement) → IsValidQuad q → IsStatementOf labels q st → IsValidStatement (length labels) st
statement_valid labels q st valid h = record {
  subject_kind = (resource_valid labels q.subject st.subject valid.subject h.subject).0;
  predicate_kind = subst IsIri (sym h.predicate) tt;
  graph_name_kind = (graph_name_valid labels q.graph_name st.graph_name valid.graph_name h.graph_name).0;
  subject = (resource_valid labels q.subject st.subject valid.subject h.subject).1;
  predicate = subst (IsValidTerm (length labels)) (sym h.predicate) valid.predicate;
  object = object_valid labels q.object st.object valid.object h.object;
  graph_name = (graph_name_valid labels q.graph_name st.graph_name valid.graph_name h.graph_name).1;
}
