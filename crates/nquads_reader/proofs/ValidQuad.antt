-- The texts of what faultless lines state are valid.
use Rattle.std.proofs.Common.{◌≡◌, ◌<◌, true, false, not, nat_lt, List, [], ◌∷◌, Option, Some, None, IfSome, All, inl, inr, sym, subst, refl}
use Rattle.std.specs.List.{list_all}
use Rattle.std.specs.Str.{IsUtf8}
use Rattle.std.proofs.lemmas.Bool.{ltb-true, not-true}
use Rattle.std.proofs.lemmas.Str.{IsUtf8-from_ascii}
use Rattle.std.proofs.lemmas.Str.Ascii.{IsAscii-from_all}
use Rattle.std.proofs.lemmas.List.Elements.{All-weaker, All-nil, All-cons, All-append}
use Rattle.std.proofs.lemmas.List.Sums.{AllPass-from_list_all}
use Rattle.rdf_terms.proofs.Common.{Text, HasScheme, is_excluded, IsAbsoluteIri, IsValidKind, xsd_string}
use Rattle.rdf_terms.specs.declared.term.LiteralKind.{LiteralKind}
use Rattle.rdf_terms.specs.declared.term.LiteralKind.TheVariants.{Typed, Tagged}
use Rattle.nquads_reader.specs.declared.quad.Resource.{Resource}
use Rattle.nquads_reader.specs.declared.quad.Resource.TheVariants.{Iri, Label}
use Rattle.nquads_reader.specs.declared.quad.Object.{Object}
use Rattle.nquads_reader.specs.declared.quad.Object.TheVariants.{Resource as ResourceObject, Literal as LiteralObject}
use Rattle.nquads_reader.specs.declared.quad.StatedQuad.{StatedQuad}
use Rattle.nquads_reader.specs.Grammar.{BeginsWithIri, BeginsWithResource, BeginsWithSuffix, BeginsWithObject, BeginsWithGraphName}
use Rattle.nquads_reader.specs.Document.{IsAbsoluteResource, IsAbsoluteKind, IsAbsoluteObject, IsFaultless, quads_in, AllState}
use Rattle.nquads_reader.specs.Reading.{IsValidResource, IsValidObject, IsValidQuad}
use Rattle.terminals.specs.declared.bodies.Quote.TheVariants.{Double}
use Rattle.terminals.proofs.Facts.{iri_absolute, tag_is, string_utf8}

iri_valid : (text iri rest : Text) → BeginsWithIri text iri rest → HasScheme iri → IsAbsoluteIri iri
iri_valid text iri rest h scheme = iri_absolute text iri rest h scheme

xsd_allowed : All (λ c. is_excluded c ≡ false) xsd_string
xsd_allowed =
    let tested : list_all (λ c. not (is_excluded c)) xsd_string ≡ true = refl in
    All-weaker (λ c. not (is_excluded c) ≡ true) (λ c. is_excluded c ≡ false) (λ c. not-true (is_excluded c)) xsd_string (AllPass-from_list_all (λ c. not (is_excluded c)) xsd_string tested)

xsd_utf8 : IsUtf8 xsd_string
xsd_utf8 =
    let tested : list_all (λ c. nat_lt c 128) xsd_string ≡ true = refl in
    IsUtf8-from_ascii xsd_string (IsAscii-from_all xsd_string (All-weaker (λ c. nat_lt c 128 ≡ true) (λ c. c < 128) (λ c h. ltb-true c 128 h) xsd_string
    (AllPass-from_list_all (λ c. nat_lt c 128) xsd_string tested)))

resource_valid : (text : Text) (r : Resource) (rest : Text) → BeginsWithResource text r rest → IsAbsoluteResource r → IsValidResource r
resource_valid text (Iri iri) rest h scheme = iri_valid text iri rest h scheme
resource_valid text (Label label) rest h scheme = tt

kind_valid : (text : Text) (k : LiteralKind) (rest : Text) → BeginsWithSuffix text k rest → IsAbsoluteKind k → IsValidKind k
kind_valid text (Typed iri) rest (inl h) scheme = iri_valid h.at_iri iri rest h.datatype scheme
kind_valid text (Typed iri) rest (inr h) scheme = record {
  has_scheme = scheme;
  allowed = subst (All (λ c. is_excluded c ≡ false)) (sym h.0) xsd_allowed;
  utf8 = subst IsUtf8 (sym h.0) xsd_utf8;
}
kind_valid text (Tagged tag) rest h scheme = tag_is text tag rest h

object_valid : (text : Text) (o : Object) (rest : Text) → BeginsWithObject text o rest → IsAbsoluteObject o → IsValidObject o
object_valid text (ResourceObject r) rest h scheme = resource_valid text r rest h scheme
object_valid text (LiteralObject l) rest h scheme = (string_utf8 Double text l.lexical h.lexical.after h.lexical.begins, kind_valid h.at_suffix l.kind rest h.suffix scheme)

graph_name_valid : (text : Text) (g : Option Resource) (rest : Text) → BeginsWithGraphName text g rest → IfSome g IsAbsoluteResource → IfSome g IsValidResource
graph_name_valid text None rest h scheme = tt
graph_name_valid text (Some r) rest h scheme = resource_valid text r h.after h.begins scheme

quad_valid : (line : Text) (q : StatedQuad) → IsFaultless line (Some q) → IsValidQuad q
quad_valid line q f =
    let s = f.states in
    record {
      subject = resource_valid s.at_subject q.subject s.terms.subject.after s.terms.subject.begins f.absolute.subject;
      predicate = iri_valid s.terms.at_predicate q.predicate s.terms.predicate.after s.terms.predicate.begins f.absolute.predicate;
      object = object_valid s.terms.at_object q.object s.terms.object.after s.terms.object.begins f.absolute.object;
      graph_name = graph_name_valid s.terms.at_graph_name q.graph_name s.at_dot s.terms.graph_name f.absolute.graph_name;
    }

stated_valid : (line : Text) (stated : Option StatedQuad) → IsFaultless line stated → All IsValidQuad (quads_in stated)
stated_valid line None f = All-nil IsValidQuad
stated_valid line (Some q) f = All-cons IsValidQuad q [] (quad_valid line q f) (All-nil IsValidQuad)

pub quads_valid : (lines : List Text) (quads : List StatedQuad) → AllState lines quads → All IsValidQuad quads
quads_valid [] quads h = subst (All IsValidQuad) (sym h) (All-nil IsValidQuad)
quads_valid (l ∷ ls) quads h = subst (All IsValidQuad) (sym h.3) (All-append IsValidQuad (quads_in h.0) h.1 (stated_valid l h.0 h.2) (quads_valid ls h.1 h.4))
