-- A text begins with one term at most, and what follows it is one.
use Rattle.std.proofs.Common.{◌≡◌, ◌≢◌, ℕ, [], ◌∷◌, ◌⊎◌, inl, inr, Option, Some, None, ap, sym, subst, ◌∙◌, refl, arith}
use Rattle.rdf_terms.specs.Lists.{Text}
use Rattle.rdf_terms.specs.declared.term.Literal.{Literal}
use Rattle.rdf_terms.specs.declared.term.LiteralKind.{LiteralKind}
use Rattle.rdf_terms.specs.declared.term.LiteralKind.TheVariants.{Typed, Tagged}
use Rattle.terminals.specs.Terminal.{TextBeginsWithNone}
use Rattle.terminals.specs.Terminals.{BlankNodeLabel, LangTag}
use Rattle.terminals.specs.declared.labels.Grammar.TheVariants.{NQuads}
use Rattle.nquads_reader.specs.declared.quad.Resource.{Resource}
use Rattle.nquads_reader.specs.declared.quad.Resource.TheVariants.{Iri, Label}
use Rattle.nquads_reader.specs.declared.quad.Object.{Object}
use Rattle.nquads_reader.specs.declared.quad.Object.TheVariants.{Resource as ResourceObject, Literal as LiteralObject}
use Rattle.nquads_reader.specs.declared.quad.StatedQuad.{StatedQuad}
use Rattle.nquads_reader.specs.Grammar.{IsWhiteThen, IsOptionalComment, IsBlank, IsSpaced, BeginsWithIri, BeginsWithLabel, BeginsWithString, BeginsWithTag, BeginsWithResource, BeginsWithDatatype, BeginsWithNoSuffix, BeginsWithSuffix, BeginsWithLiteral, BeginsWithObject, BeginsWithGraphName, BeginsWithTerms, EndsStatement, States}
use Rattle.nquads_reader.specs.Reading.{Reads}
use Rattle.terminals.proofs.Facts.{no_reading}
use Rattle.nquads_reader.proofs.TerminalFacts.{iri_same, label_same, string_same, tag_same, iri_begins, label_begins, string_begins, tag_begins}
use Rattle.nquads_reader.proofs.WhiteSpace.{white_same}

heads : (c d : ℕ) (x y : Text) → c ∷ x ≡ d ∷ y → c ≡ d
heads c d x y e = cc

tails : (c d : ℕ) (x y : Text) → c ∷ x ≡ d ∷ y → x ≡ y
tails c d x y e = cc

-- ---- which byte stands first

-- the byte that a text begins with
record Begins (text : Text) (c : ℕ) : Type 0 where
  more : Text
  is : text ≡ c ∷ more

one_first : (text : Text) (c d : ℕ) → Begins text c → Begins text d → c ≡ d
one_first text c d a b = heads c d a.more b.more (sym a.is ∙ b.is)

resource_begins : (text : Text) (a : Resource) (r : Text) → BeginsWithResource text a r → Begins text 60 ⊎ Begins text 95
resource_begins text (Iri iri) r h = let b = iri_begins text iri r h in inl (record { more = b.0; is = b.1 })
resource_begins text (Label label) r h = let b = label_begins text label r h in inr (record { more = b.0; is = b.1 })

resource_not : (text : Text) (a : Resource) (r : Text) (c : ℕ) → c ≢ 60 → c ≢ 95 → BeginsWithResource text a r → Begins text c → ⊥
resource_not text a r c iri label h b = by (resource_begins text a r h)
  where
    by : Begins text 60 ⊎ Begins text 95 → ⊥
    by (inl x) = iri (one_first text c 60 b x)
    by (inr x) = label (one_first text c 95 b x)

literal_begins : (text : Text) (l : Literal) (r : Text) → BeginsWithLiteral text l r → Begins text 34
literal_begins text l r h = let b = string_begins text l.lexical h.lexical.after h.lexical.begins in record { more = b.0; is = b.1 }

tag_first : (text tag r : Text) → BeginsWithTag text tag r → Begins text 64
tag_first text tag r h = let b = tag_begins text tag r h in record { more = b.0; is = b.1 }

datatype_first : (text iri r : Text) → BeginsWithDatatype text iri r → Begins text 94
datatype_first text iri r h = record { more = 94 ∷ h.behind; is = h.marks }

no_suffix_not : (text : Text) (c : ℕ) → BeginsWithNoSuffix text → Begins text c → (c ≢ 94) × (c ≢ 64)
no_suffix_not text c h b = subst BeginsWithNoSuffix b.is h

-- ---- one value and one rest

pub spaced_same : {V : Type 0} (P : V → Text → Type 0) → ((v w : V) (r s : Text) → P v r → P w s → (v ≡ w) × (r ≡ s)) → (v w : V) (r s : Text) → IsSpaced (P v) r → IsSpaced (P w) s → (v ≡ w) × (r ≡ s)
spaced_same P same v w r s a b =
    let e = same v w a.after b.after a.begins b.begins in
    (e.0, white_same b.after r s (subst (λ t. IsWhiteThen t r) e.1 a.white) b.white)

resource_same : (text : Text) (a b : Resource) (r s : Text) → BeginsWithResource text a r → BeginsWithResource text b s → (a ≡ b) × (r ≡ s)
resource_same text (Iri a) (Iri b) r s x y = let e = iri_same text a r b s x y in (ap Iri e.0, e.1)
resource_same text (Label a) (Label b) r s x y = let e = label_same text a r b s x y in (ap Label e.0, e.1)
resource_same text (Iri a) (Label b) r s x y = absurd (differ text a r b s x y)
  where
    differ : (text a r b s : Text) → BeginsWithIri text a r → BeginsWithLabel text b s → ⊥
    differ text a r b s x y = let p = iri_begins text a r x in let q = label_begins text b s y in omega (arith, heads 60 95 p.0 q.0 (sym p.1 ∙ q.1))
resource_same text (Label a) (Iri b) r s x y = absurd (differ text b s a r y x)
  where
    differ : (text a r b s : Text) → BeginsWithIri text a r → BeginsWithLabel text b s → ⊥
    differ text a r b s x y = let p = iri_begins text a r x in let q = label_begins text b s y in omega (arith, heads 60 95 p.0 q.0 (sym p.1 ∙ q.1))

datatype_same : (text a b r s : Text) → BeginsWithDatatype text a r → BeginsWithDatatype text b s → (a ≡ b) × (r ≡ s)
datatype_same text a b r s x y =
    let behind : x.behind ≡ y.behind = tails 94 94 x.behind y.behind (tails 94 94 (94 ∷ x.behind) (94 ∷ y.behind) (sym x.marks ∙ y.marks)) in
    let at : x.at_iri ≡ y.at_iri = white_same y.behind x.at_iri y.at_iri (subst (λ t. IsWhiteThen t x.at_iri) behind x.white) y.white in
    iri_same y.at_iri a r b s (subst (λ t. BeginsWithIri t a r) at x.datatype) y.datatype

suffix_same : (text : Text) (a b : LiteralKind) (r s : Text) → BeginsWithSuffix text a r → BeginsWithSuffix text b s → (a ≡ b) × (r ≡ s)
suffix_same text (Typed a) (Typed b) r s (inl x) (inl y) = let e = datatype_same text a b r s x y in (ap Typed e.0, e.1)
suffix_same text (Typed a) (Typed b) r s (inr x) (inr y) = (ap Typed (x.0 ∙ sym y.0), x.1 ∙ sym y.1)
suffix_same text (Typed a) (Typed b) r s (inl x) (inr y) = absurd ((no_suffix_not text 94 y.2 (datatype_first text a r x)).0 refl)
suffix_same text (Typed a) (Typed b) r s (inr x) (inl y) = absurd ((no_suffix_not text 94 x.2 (datatype_first text b s y)).0 refl)
suffix_same text (Tagged a) (Tagged b) r s x y = let e = tag_same text a r b s x y in (ap Tagged e.0, e.1)
suffix_same text (Typed a) (Tagged b) r s (inl x) y = let e = one_first text 94 64 (datatype_first text a r x) (tag_first text b s y) in absurd (omega arith)
suffix_same text (Typed a) (Tagged b) r s (inr x) y = absurd ((no_suffix_not text 64 x.2 (tag_first text b s y)).1 refl)
suffix_same text (Tagged a) (Typed b) r s x (inl y) = let e = one_first text 94 64 (datatype_first text b s y) (tag_first text a r x) in absurd (omega arith)
suffix_same text (Tagged a) (Typed b) r s x (inr y) = absurd ((no_suffix_not text 64 y.2 (tag_first text a r x)).1 refl)

literal_is : (a b : Literal) → a.lexical ≡ b.lexical → a.kind ≡ b.kind → a ≡ b
literal_is a b e f = λ i. record { lexical = e i; kind = f i }

literal_same : (text : Text) (a b : Literal) (r s : Text) → BeginsWithLiteral text a r → BeginsWithLiteral text b s → (a ≡ b) × (r ≡ s)
literal_same text a b r s x y =
    let e = spaced_same (BeginsWithString text) (λ v w p q f g. string_same text v p w q f g) a.lexical b.lexical x.at_suffix y.at_suffix x.lexical y.lexical in
    let k = suffix_same y.at_suffix a.kind b.kind r s (subst (λ t. BeginsWithSuffix t a.kind r) e.1 x.suffix) y.suffix in
    (literal_is a b e.0 k.0, k.1)

object_same : (text : Text) (a b : Object) (r s : Text) → BeginsWithObject text a r → BeginsWithObject text b s → (a ≡ b) × (r ≡ s)
object_same text (ResourceObject a) (ResourceObject b) r s x y = let e = resource_same text a b r s x y in (ap ResourceObject e.0, e.1)
object_same text (LiteralObject a) (LiteralObject b) r s x y = let e = literal_same text a b r s x y in (ap LiteralObject e.0, e.1)
object_same text (ResourceObject a) (LiteralObject b) r s x y = absurd (resource_not text a r 34 (λ e. omega arith) (λ e. omega arith) x (literal_begins text b s y))
object_same text (LiteralObject a) (ResourceObject b) r s x y = absurd (resource_not text b s 34 (λ e. omega arith) (λ e. omega arith) y (literal_begins text a r x))

pub graph_name_same : (text : Text) (a b : Option Resource) (r s : Text) → BeginsWithGraphName text a r → BeginsWithGraphName text b s → (a ≡ b) × (r ≡ s)
graph_name_same text None None r s x y = (refl, x.0 ∙ sym y.0)
graph_name_same text (Some a) (Some b) r s x y = let e = spaced_same (BeginsWithResource text) (resource_same text) a b r s x y in (ap Some e.0, e.1)
graph_name_same text None (Some b) r s x y = absurd (resource_not text b y.after 46 (λ e. omega arith) (λ e. omega arith) y.begins (record { more = x.1.0; is = x.1.1 }))
graph_name_same text (Some a) None r s x y = absurd (resource_not text a x.after 46 (λ e. omega arith) (λ e. omega arith) x.begins (record { more = y.1.0; is = y.1.1 }))

quad_is : (a b : StatedQuad) → a.subject ≡ b.subject → a.predicate ≡ b.predicate → a.object ≡ b.object → a.graph_name ≡ b.graph_name → a ≡ b
quad_is a b s p o g = λ i. record { subject = s i; predicate = p i; object = o i; graph_name = g i }

-- ---- the terms of a statement, one after the other

subject_same : (text : Text) (a b : Resource) (r s : Text) → IsSpaced (BeginsWithResource text a) r → IsSpaced (BeginsWithResource text b) s → (a ≡ b) × (r ≡ s)
subject_same text a b r s x y = spaced_same (BeginsWithResource text) (resource_same text) a b r s x y

predicate_same : (text a b r s : Text) → IsSpaced (BeginsWithIri text a) r → IsSpaced (BeginsWithIri text b) s → (a ≡ b) × (r ≡ s)
predicate_same text a b r s x y = spaced_same (BeginsWithIri text) (λ v w p q f g. iri_same text v p w q f g) a b r s x y

spaced_object_same : (text : Text) (a b : Object) (r s : Text) → IsSpaced (BeginsWithObject text a) r → IsSpaced (BeginsWithObject text b) s → (a ≡ b) × (r ≡ s)
spaced_object_same text a b r s x y = spaced_same (BeginsWithObject text) (object_same text) a b r s x y

module _ (text : Text) (s : Resource) (at_predicate : Text) (subject : IsSpaced (BeginsWithResource text s) at_predicate) (quad : StatedQuad) (rest : Text) (h : BeginsWithTerms text quad rest) where
  predicate_place : at_predicate ≡ h.at_predicate
  predicate_place = (subject_same text s quad.subject at_predicate h.at_predicate subject h.subject).1

  predicate_there : IsSpaced (BeginsWithIri at_predicate quad.predicate) h.at_object
  predicate_there = subst (λ t. IsSpaced (BeginsWithIri t quad.predicate) h.at_object) (sym predicate_place) h.predicate

  object_place : (p at_object : Text) → IsSpaced (BeginsWithIri at_predicate p) at_object → at_object ≡ h.at_object
  object_place p at_object x = (predicate_same at_predicate p quad.predicate at_object h.at_object x predicate_there).1

  object_there : (p at_object : Text) → IsSpaced (BeginsWithIri at_predicate p) at_object → IsSpaced (BeginsWithObject at_object quad.object) h.at_graph_name
  object_there p at_object x = subst (λ t. IsSpaced (BeginsWithObject t quad.object) h.at_graph_name) (sym (object_place p at_object x)) h.object

  graph_name_there : (p at_object : Text) (o : Object) (at_graph_name : Text) → IsSpaced (BeginsWithIri at_predicate p) at_object → IsSpaced (BeginsWithObject at_object o) at_graph_name
      → BeginsWithGraphName at_graph_name quad.graph_name rest
  graph_name_there p at_object o at_graph_name x y =
      let e = spaced_object_same at_object o quad.object at_graph_name h.at_graph_name y (object_there p at_object x) in
      subst (λ t. BeginsWithGraphName t quad.graph_name rest) (sym e.1) h.graph_name

pub terms_same : (text : Text) (a b : StatedQuad) (r s : Text) → BeginsWithTerms text a r → BeginsWithTerms text b s → (a ≡ b) × (r ≡ s)
terms_same text a b r s x y =
    let subject = subject_same text a.subject b.subject x.at_predicate y.at_predicate x.subject y.subject in
    let predicate = predicate_same y.at_predicate a.predicate b.predicate x.at_object y.at_object (subst (λ t. IsSpaced (BeginsWithIri t a.predicate) x.at_object) subject.1 x.predicate) y.predicate in
    let object = spaced_object_same y.at_object a.object b.object x.at_graph_name y.at_graph_name (subst (λ t. IsSpaced (BeginsWithObject t a.object) x.at_graph_name) predicate.1 x.object) y.object in
    let graph_name = graph_name_same y.at_graph_name a.graph_name b.graph_name r s (subst (λ t. BeginsWithGraphName t a.graph_name r) object.1 x.graph_name) y.graph_name in
    (quad_is a b subject.0 predicate.0 object.0 graph_name.0, graph_name.1)

-- ---- where nothing of the kind stands

pub no_resource : (text : Text) → ((v r : Text) → BeginsWithIri text v r → ⊥) → TextBeginsWithNone (BlankNodeLabel NQuads) text → (v : Resource) (r : Text) → BeginsWithResource text v r → ⊥
no_resource text iri label (Iri v) r h = iri v r h
no_resource text iri label (Label v) r h = no_reading (BlankNodeLabel NQuads) text v r label h

pub no_tag : (text : Text) → TextBeginsWithNone LangTag text → (v r : Text) → BeginsWithTag text v r → ⊥
no_tag text none v r h = no_reading LangTag text v r none h

pub datatype_reads : {X : Type 0} (view : X → Text × Text) (o : Option X) (text first behind at_iri : Text) → text ≡ 94 ∷ first → first ≡ 94 ∷ behind → IsWhiteThen behind at_iri
    → Reads view (BeginsWithIri at_iri) o → Reads view (BeginsWithDatatype text) o
datatype_reads view (Some x) text first behind at_iri one two white h = record { behind = behind; at_iri = at_iri; marks = one ∙ ap (λ t. 94 ∷ t) two; white = white; datatype = h }
datatype_reads view None text first behind at_iri one two white h = λ v r d.
    let same : behind ≡ d.behind = tails 94 94 behind d.behind (tails 94 94 (94 ∷ behind) (94 ∷ d.behind) (sym (one ∙ ap (λ t. 94 ∷ t) two) ∙ d.marks)) in
    let at : at_iri ≡ d.at_iri = white_same behind at_iri d.at_iri white (subst (λ t. IsWhiteThen t d.at_iri) (sym same) d.white) in
    h v r (subst (λ t. BeginsWithIri t v r) (sym at) d.datatype)

pub no_suffix : (text lexical after at_suffix : Text) → BeginsWithString text lexical after → IsWhiteThen after at_suffix → ((k : LiteralKind) (r : Text) → BeginsWithSuffix at_suffix k r → ⊥)
    → (l : Literal) (r : Text) → BeginsWithLiteral text l r → ⊥
no_suffix text lexical after at_suffix string white none l r h =
    let e = spaced_same (BeginsWithString text) (λ v w p q f g. string_same text v p w q f g) lexical l.lexical at_suffix h.at_suffix
    (record { after = after; begins = string; white = white }) h.lexical in
    none l.kind r (subst (λ t. BeginsWithSuffix t l.kind r) (sym e.1) h.suffix)

pub no_predicate : (text : Text) (s : Resource) (after at_predicate : Text) → BeginsWithResource text s after → IsWhiteThen after at_predicate → ((v r : Text) → BeginsWithIri at_predicate v r → ⊥)
    → (q : StatedQuad) (rest : Text) → BeginsWithTerms text q rest → ⊥
no_predicate text s after at_predicate subject white none q rest h =
    let there = predicate_there text s at_predicate (record { after = after; begins = subject; white = white }) q rest h in
    none q.predicate there.after there.begins

pub no_object : (text : Text) (s : Resource) (a1 at_predicate p a2 at_object : Text) → BeginsWithResource text s a1 → IsWhiteThen a1 at_predicate → BeginsWithIri at_predicate p a2
    → IsWhiteThen a2 at_object → ((v : Object) (r : Text) → BeginsWithObject at_object v r → ⊥) → (q : StatedQuad) (rest : Text) → BeginsWithTerms text q rest → ⊥
no_object text s a1 at_predicate p a2 at_object subject w1 predicate w2 none q rest h =
    let there = object_there text s at_predicate (record { after = a1; begins = subject; white = w1 }) q rest h p at_object (record { after = a2; begins = predicate; white = w2 }) in
    none q.object there.after there.begins

pub no_graph_name : (text : Text) (s : Resource) (a1 at_predicate p a2 at_object : Text) (o : Object) (a3 at_graph_name : Text) → BeginsWithResource text s a1 → IsWhiteThen a1 at_predicate
    → BeginsWithIri at_predicate p a2 → IsWhiteThen a2 at_object → BeginsWithObject at_object o a3 → IsWhiteThen a3 at_graph_name
    → ((v : Option Resource) (r : Text) → BeginsWithGraphName at_graph_name v r → ⊥) → (q : StatedQuad) (rest : Text) → BeginsWithTerms text q rest → ⊥
no_graph_name text s a1 at_predicate p a2 at_object o a3 at_graph_name subject w1 predicate w2 object w3 none q rest h =
    none q.graph_name rest (graph_name_there text s at_predicate (record { after = a1; begins = subject; white = w1 }) q rest h p at_object o at_graph_name
    (record { after = a2; begins = predicate; white = w2 }) (record { after = a3; begins = object; white = w3 }))

pub all_terms : (text : Text) (s : Resource) (a1 at_predicate p a2 at_object : Text) (o : Object) (a3 at_graph_name : Text) (g : Option Resource) (rest : Text) → BeginsWithResource text s a1
    → IsWhiteThen a1 at_predicate → BeginsWithIri at_predicate p a2 → IsWhiteThen a2 at_object → BeginsWithObject at_object o a3 → IsWhiteThen a3 at_graph_name
    → BeginsWithGraphName at_graph_name g rest → BeginsWithTerms text (record { subject = s; predicate = p; object = o; graph_name = g }) rest
all_terms text s a1 at_predicate p a2 at_object o a3 at_graph_name g rest subject w1 predicate w2 object w3 graph_name = record {
  at_predicate = at_predicate;
  at_object = at_object;
  at_graph_name = at_graph_name;
  subject = record { after = a1; begins = subject; white = w1 };
  predicate = record { after = a2; begins = predicate; white = w2 };
  object = record { after = a3; begins = object; white = w3 };
  graph_name = graph_name;
}

-- ---- the ends of a line

blank_same : (text rest : Text) → IsWhiteThen text rest → IsBlank text → IsOptionalComment rest
blank_same text rest white b = subst IsOptionalComment (white_same text b.rest rest b.white white) b.comment

pub ends_statement : (text behind at_end : Text) → text ≡ 46 ∷ behind → IsWhiteThen behind at_end → (IsOptionalComment at_end → EndsStatement text) × (EndsStatement text → IsOptionalComment at_end)
ends_statement text behind at_end dot white = (
  λ comment. record { after_dot = behind; dot = dot; blank = record { rest = at_end; white = white; comment = comment } },
  λ ends.
      let same : ends.after_dot ≡ behind = tails 46 46 ends.after_dot behind (sym ends.dot ∙ dot) in
      blank_same behind at_end white (subst IsBlank same ends.blank),
)

comment_not : (text : Text) (a : Resource) (r : Text) → BeginsWithResource text a r → IsOptionalComment text → ⊥
comment_not [] a r h c = by (resource_begins [] a r h)
  where
    by : Begins [] 60 ⊎ Begins [] 95 → ⊥
    by (inl x) = let e = x.is in cc
    by (inr x) = let e = x.is in cc
comment_not (d ∷ ds) a r h c = resource_not (d ∷ ds) a r 35 (λ e. omega arith) (λ e. omega arith) h (record { more = ds; is = ap (λ x. x ∷ ds) c })

-- a line that is not blank and begins with no terms states nothing
pub states_nothing : (line text : Text) → IsWhiteThen line text → (IsOptionalComment text → ⊥) → ((q : StatedQuad) (rest : Text) → BeginsWithTerms text q rest → ⊥) → (stated : Option StatedQuad)
    → States line stated → ⊥
states_nothing line text white no_comment no_terms None h = no_comment (blank_same line text white h)
states_nothing line text white no_comment no_terms (Some q) h =
    let same : h.at_subject ≡ text = white_same line h.at_subject text h.white white in
    no_terms q h.at_dot (subst (λ t. BeginsWithTerms t q h.at_dot) same h.terms)

-- nor does one whose terms no end of a statement follows
pub states_no_end : (line text : Text) (quad : StatedQuad) (rest : Text) → IsWhiteThen line text → (IsOptionalComment text → ⊥) → BeginsWithTerms text quad rest → (EndsStatement rest → ⊥)
    → (stated : Option StatedQuad) → States line stated → ⊥
states_no_end line text quad rest white no_comment terms no_end None h = no_comment (blank_same line text white h)
states_no_end line text quad rest white no_comment terms no_end (Some q) h =
    let same : h.at_subject ≡ text = white_same line h.at_subject text h.white white in
    let e = terms_same text q quad h.at_dot rest (subst (λ t. BeginsWithTerms t q h.at_dot) same h.terms) terms in
    no_end (subst EndsStatement e.1 h.ends)

-- a line states one thing
pub stated_same : (line : Text) (a b : Option StatedQuad) → States line a → States line b → a ≡ b
stated_same line None None x y = refl
stated_same line (Some a) (Some b) x y =
    let at : x.at_subject ≡ y.at_subject = white_same line x.at_subject y.at_subject x.white y.white in
    ap Some (terms_same y.at_subject a b x.at_dot y.at_dot (subst (λ t. BeginsWithTerms t a x.at_dot) at x.terms) y.terms).0
stated_same line None (Some b) x y = absurd (comment_not y.at_subject b.subject y.terms.subject.after y.terms.subject.begins (blank_same line y.at_subject y.white x))
stated_same line (Some a) None x y = absurd (comment_not x.at_subject a.subject x.terms.subject.after x.terms.subject.begins (blank_same line x.at_subject x.white y))
