-- A document has one reading.
use Rattle.std.proofs.Common.{◌≡◌, List, [], ◌∷◌, ◌++◌, Option, Some, None, refl, sym, ap, subst, ◌∙◌}
use Rattle.std.specs.List.{flat_map, AllZip}
use Rattle.rdf_terms.proofs.Common.{Text, AreDistinct, Statement, AddsAll, one_place, AddsAll-same, AreDistinct-AddsAll}
use Rattle.rdf_terms.specs.declared.term.Term.{Term}
use Rattle.rdf_terms.specs.declared.term.Term.TheVariants.{Blank}
use Rattle.rdf_terms.specs.declared.term.Label.{Label}
use Rattle.rdf_terms.specs.declared.term.Label.TheVariants.{Named}
use Rattle.nquads_reader.specs.declared.quad.Resource.{Resource}
use Rattle.nquads_reader.specs.declared.quad.Resource.TheVariants.{Iri, Label as LabelResource}
use Rattle.nquads_reader.specs.declared.quad.Object.{Object}
use Rattle.nquads_reader.specs.declared.quad.Object.TheVariants.{Resource as ResourceObject, Literal as LiteralObject}
use Rattle.nquads_reader.specs.declared.quad.StatedQuad.{StatedQuad}
use Rattle.nquads_reader.specs.Document.{quads_in, AllState, mentioned, IsResourceTerm, IsObjectTerm, IsGraphNameTerm, IsStatementOf, AreRead}
use Rattle.nquads_reader.proofs.LineTerms.{stated_same}

pub state-same : (lines : List Text) (a b : List StatedQuad) → AllState lines a → AllState lines b → a ≡ b
state-same [] a b h k = h ∙ sym k
state-same (line ∷ lines) a b h k =
    let one = stated_same line h.0 k.0 h.2.states k.2.states in
    let more = state-same lines h.1 k.1 h.4 k.4 in
    h.3 ∙ (λ i. quads_in (one i) ++ more i) ∙ sym k.3

-- ---- statements by labels that are distinct

module _ (labels : List Label) (distinct : AreDistinct labels) where
  resource-same : (r : Resource) (t u : Term) → IsResourceTerm labels r t → IsResourceTerm labels r u → t ≡ u
  resource-same (Iri iri) t u h k = h ∙ sym k
  resource-same (LabelResource label) t u h k = h.2 ∙ ap Blank (one_place labels h.0 k.0 (Named label) distinct h.1 k.1) ∙ sym k.2

  object-same : (o : Object) (t u : Term) → IsObjectTerm labels o t → IsObjectTerm labels o u → t ≡ u
  object-same (ResourceObject r) t u h k = resource-same r t u h k
  object-same (LiteralObject l) t u h k = h ∙ sym k

  graph_name-same : (g : Option Resource) (t u : Option Term) → IsGraphNameTerm labels g t → IsGraphNameTerm labels g u → t ≡ u
  graph_name-same None t u h k = h ∙ sym k
  graph_name-same (Some r) t u h k = h.2 ∙ ap Some (resource-same r h.0 k.0 h.1 k.1) ∙ sym k.2

  statement-same : (q : StatedQuad) (st su : Statement) → IsStatementOf labels q st → IsStatementOf labels q su → st ≡ su
  statement-same q st su h k =
      let s = resource-same q.subject st.subject su.subject h.subject k.subject in
      let p = h.predicate ∙ sym k.predicate in
      let o = object-same q.object st.object su.object h.object k.object in
      let g = graph_name-same q.graph_name st.graph_name su.graph_name h.graph_name k.graph_name in
      λ i. record { subject = s i; predicate = p i; object = o i; graph_name = g i }

  statements-same : (qs : List StatedQuad) (a b : List Statement) → AllZip (IsStatementOf labels) qs a → AllZip (IsStatementOf labels) qs b → a ≡ b
  statements-same [] [] [] h k = refl
  statements-same [] (x ∷ xs) b h k = absurd h
  statements-same [] [] (y ∷ ys) h k = absurd k
  statements-same (q ∷ qs) [] b h k = absurd h
  statements-same (q ∷ qs) (x ∷ xs) [] h k = absurd k
  statements-same (q ∷ qs) (x ∷ xs) (y ∷ ys) h k =
      let one = statement-same q x y h.0 k.0 in
      let more = statements-same qs xs ys h.1 k.1 in
      λ i. one i ∷ more i

-- ---- the document

pub AreRead-same : (lines : List Text) (labels other : List Label) (sts others : List Statement) → AreRead lines labels sts → AreRead lines other others → (labels ≡ other) × (sts ≡ others)
AreRead-same lines labels other sts others h k =
    let stated = state-same lines h.stated k.stated h.faultless k.faultless in
    let same : labels ≡ other = AddsAll-same [] (flat_map mentioned k.stated) labels other (subst (λ qs. AddsAll [] (flat_map mentioned qs) labels) stated h.labels_are) k.labels_are in
    let distinct = AreDistinct-AddsAll [] (flat_map mentioned k.stated) other k.labels_are tt in
    let numbers = subst (λ ls. AllZip (IsStatementOf ls) k.stated h.numbered) same (subst (λ qs. AllZip (IsStatementOf labels) qs h.numbered) stated h.numbers) in
    let numbered = statements-same other distinct k.stated h.numbered k.numbered numbers k.numbers in
    (same, AddsAll-same [] k.numbered sts others (subst (λ ns. AddsAll [] ns sts) numbered h.statements_are) k.statements_are)
