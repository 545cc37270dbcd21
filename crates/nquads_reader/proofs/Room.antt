-- A line that states a quad has at least seven bytes, and a quad mentions at most three labels.
use Rattle.std.proofs.Common.{◌≡◌, ◌∙◌, ◌+◌, ◌*◌, ◌≤◌, List, [], ◌∷◌, ◌++◌, Option, Some, None, inl, inr, length, ap, arith, length-append}
use Rattle.std.specs.List.{flat_map}
use Rattle.std.proofs.lemmas.Slice.Zip.{AllZip-long}
use Rattle.rdf_terms.proofs.Common.{Text, Document, AddsAll, statements, length-adds}
use Rattle.rdf_terms.specs.declared.term.Label.{Label as NodeLabel}
use Rattle.rdf_terms.specs.declared.term.LiteralKind.{LiteralKind}
use Rattle.rdf_terms.specs.declared.term.LiteralKind.TheVariants.{Typed, Tagged}
use Rattle.nquads_reader.specs.declared.quad.Resource.{Resource}
use Rattle.nquads_reader.specs.declared.quad.Resource.TheVariants.{Iri, Label}
use Rattle.nquads_reader.specs.declared.quad.Object.{Object}
use Rattle.nquads_reader.specs.declared.quad.Object.TheVariants.{Resource as ResourceObject, Literal as LiteralObject}
use Rattle.nquads_reader.specs.declared.quad.StatedQuad.{StatedQuad}
use Rattle.nquads_reader.specs.Grammar.{IsWhiteThen, BeginsWithResource, BeginsWithSuffix, BeginsWithObject, BeginsWithGraphName, IsStatement}
use Rattle.nquads_reader.specs.Document.{IsFaultless, quads_in, labels_of_resource, labels_of_object, labels_of_graph_name, mentioned, IsStatementOf}
use Rattle.nquads_reader.specs.Reading.{Appends, TakesQuads}
use Rattle.nquads_reader.proofs.TerminalFacts.{iri_room, label_room, string_room, tag_room}

white_room : (text rest : Text) → IsWhiteThen text rest → length rest ≤ length text
white_room text rest w = omega (arith, ap length w.spelled, length-append w.white rest)

resource_room : (text : Text) (r : Resource) (rest : Text) → BeginsWithResource text r rest → 2 + length rest ≤ length text
resource_room text (Iri iri) rest h = iri_room text iri rest h
resource_room text (Label label) rest h = label_room text label rest h

suffix_room : (text : Text) (k : LiteralKind) (rest : Text) → BeginsWithSuffix text k rest → length rest ≤ length text
suffix_room text (Typed iri) rest (inl h) = omega (arith, ap length h.marks, white_room h.behind h.at_iri h.white, iri_room h.at_iri iri rest h.datatype)
suffix_room text (Typed iri) rest (inr h) = omega (arith, ap length h.1)
suffix_room text (Tagged tag) rest h = omega (arith, tag_room text tag rest h)

object_room : (text : Text) (o : Object) (rest : Text) → BeginsWithObject text o rest → 2 + length rest ≤ length text
object_room text (ResourceObject r) rest h = resource_room text r rest h
object_room text (LiteralObject l) rest h =
    omega (arith, string_room text l.lexical h.lexical.after h.lexical.begins, white_room h.lexical.after h.at_suffix h.lexical.white, suffix_room h.at_suffix l.kind rest h.suffix)

graph_name_room : (text : Text) (g : Option Resource) (rest : Text) → BeginsWithGraphName text g rest → length rest ≤ length text
graph_name_room text None rest h = omega (arith, ap length h.0)
graph_name_room text (Some r) rest h = omega (arith, resource_room text r h.after h.begins, white_room h.after rest h.white)

statement_room : (line : Text) (q : StatedQuad) → IsStatement line q → 7 ≤ length line
statement_room line q h = omega (
  arith,
  white_room line h.at_subject h.white,
  resource_room h.at_subject q.subject h.terms.subject.after h.terms.subject.begins,
  white_room h.terms.subject.after h.terms.at_predicate h.terms.subject.white,
  iri_room h.terms.at_predicate q.predicate h.terms.predicate.after h.terms.predicate.begins,
  white_room h.terms.predicate.after h.terms.at_object h.terms.predicate.white,
  object_room h.terms.at_object q.object h.terms.object.after h.terms.object.begins,
  white_room h.terms.object.after h.terms.at_graph_name h.terms.object.white,
  graph_name_room h.terms.at_graph_name q.graph_name h.at_dot h.terms.graph_name,
  ap length h.ends.dot,
)

pub all_room : {A : Type 0} (old xs new : List A) → AddsAll old xs new → length new ≤ length old + length xs
all_room old [] new h = omega (arith, ap length h)
all_room old (x ∷ xs) new h = omega (arith, length-adds old x h.0 h.1, all_room h.0 xs new h.2)

resource_labels : (r : Resource) → length (labels_of_resource r) ≤ 1
resource_labels (Iri iri) = omega arith
resource_labels (Label label) = omega arith

object_labels : (o : Object) → length (labels_of_object o) ≤ 1
object_labels (ResourceObject r) = resource_labels r
object_labels (LiteralObject l) = omega arith

graph_name_labels : (g : Option Resource) → length (labels_of_graph_name g) ≤ 1
graph_name_labels None = omega arith
graph_name_labels (Some r) = resource_labels r

mentioned_room : (q : StatedQuad) → length (mentioned q) ≤ 3
mentioned_room q = omega (
  arith,
  resource_labels q.subject,
  object_labels q.object,
  graph_name_labels q.graph_name,
  length-append (labels_of_resource q.subject) (labels_of_object q.object ++ labels_of_graph_name q.graph_name),
  length-append (labels_of_object q.object) (labels_of_graph_name q.graph_name),
)

all_mentioned_room : (qs : List StatedQuad) → length (flat_map mentioned qs) ≤ 3 * length qs
all_mentioned_room [] = omega arith
all_mentioned_room (q ∷ qs) = omega (arith, length-append (mentioned q) (flat_map mentioned qs), mentioned_room q, all_mentioned_room qs)

pub labels_room : (old new : List NodeLabel) (q : StatedQuad) → AddsAll old (mentioned q) new → length new ≤ length old + 3
labels_room old new q h = omega (arith, all_room old (mentioned q) new h, mentioned_room q)

-- ---- lines and the quads that they state

stated_room : (line : Text) (stated : Option StatedQuad) → IsFaultless line stated → 7 * length (quads_in stated) ≤ length line
stated_room line None f = omega arith
stated_room line (Some q) f = omega (arith, statement_room line q f.states)

stated_few : (stated : Option StatedQuad) → length (quads_in stated) ≤ 1
stated_few None = omega arith
stated_few (Some q) = omega arith

module _ (line : Text) (old new : List StatedQuad) (appends : Appends line old new) where
  longer : length new ≡ length old + length (quads_in appends.stated)
  longer = ap length appends.appended ∙ length-append old (quads_in appends.stated)

  pub appended_room : 7 * length new ≤ 7 * length old + length line
  appended_room = omega (arith, longer, stated_room line appends.stated appends.faultless)

  pub appended_few : length new ≤ length old + 1
  appended_few = omega (arith, longer, stated_few appends.stated)

module _ (qs : List StatedQuad) (old new : Document) (takes : TakesQuads qs old new) where
  pub taken_quads_room : length (statements new) ≤ length (statements old) + length qs
  taken_quads_room = omega (arith, all_room (statements old) takes.numbered (statements new) takes.adds, AllZip-long (IsStatementOf new.labels) qs takes.numbered takes.numbers)

  pub taken_labels_room : length new.labels ≤ length old.labels + 3 * length qs
  taken_labels_room = omega (arith, all_room old.labels (flat_map mentioned qs) new.labels takes.labels, all_mentioned_room qs)
