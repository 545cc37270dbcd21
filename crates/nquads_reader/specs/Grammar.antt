-- The grammar of one line (RDF 1.1 N-Quads, section 4), apart from how it is read.
use Rattle.std.specs.Prelude.{◌≡◌, ◌≢◌, ℕ, Bool, true, false, ◌||◌, ◌==◌, ◌⊎◌, [], ◌∷◌, ◌++◌, Option, Some, None, All}
use Rattle.rdf_terms.specs.Vocabulary.{Text, xsd_string}
use Rattle.rdf_terms.specs.declared.term.Literal.{Literal}
use Rattle.rdf_terms.specs.declared.term.LiteralKind.{LiteralKind}
use Rattle.rdf_terms.specs.declared.term.LiteralKind.TheVariants.{Typed, Tagged}
use Rattle.terminals.specs.Terminal.{TextBeginsWith}
use Rattle.terminals.specs.Terminals.{IriRef, ShortString, LangTag, BlankNodeLabel}
use Rattle.terminals.specs.declared.bodies.Quote.TheVariants.{Double}
use Rattle.terminals.specs.declared.labels.Grammar.TheVariants.{NQuads}
use Rattle.nquads_reader.specs.declared.quad.Resource.{Resource}
use Rattle.nquads_reader.specs.declared.quad.Resource.TheVariants.{Iri, Label}
use Rattle.nquads_reader.specs.declared.quad.Object.{Object}
use Rattle.nquads_reader.specs.declared.quad.Object.TheVariants.{Resource as ResourceObject, Literal as LiteralObject}
use Rattle.nquads_reader.specs.declared.quad.StatedQuad.{StatedQuad}

-- ---- white space and comments

-- a space or a tab
abbrev pub is_space_or_tab : ℕ → Bool
is_space_or_tab c = c == 32 || c == 9

abbrev pub BeginsWithNoWhite : Text → Type 0
BeginsWithNoWhite [] = Unit {0}
BeginsWithNoWhite (c ∷ cs) = is_space_or_tab c ≡ false

-- all spaces and tabs at the front, and then the rest
pub record IsWhiteThen (text rest : Text) : Type 0 where
  pub white : Text
  pub spelled : text ≡ white ++ rest
  pub allowed : All (λ c. is_space_or_tab c ≡ true) white
  pub stops : BeginsWithNoWhite rest

-- nothing, or `#` and whatever follows it
abbrev pub IsOptionalComment : Text → Type 0
IsOptionalComment [] = Unit {0}
IsOptionalComment (c ∷ cs) = c ≡ 35

-- white space and optionally a comment
pub record IsBlank (text : Text) : Type 0 where
  pub rest : Text
  pub white : IsWhiteThen text rest
  pub comment : IsOptionalComment rest

-- something at the front, then white space, and then the rest
pub record IsSpaced (BeginsWith : Text → Type 0) (rest : Text) : Type 0 where
  pub after : Text
  pub begins : BeginsWith after
  pub white : IsWhiteThen after rest

-- ---- terminals: the text begins with it, and then comes the rest

abbrev pub BeginsWithIri : Text → Text → Text → Type 0
BeginsWithIri text iri rest = TextBeginsWith IriRef text iri rest

abbrev pub BeginsWithLabel : Text → Text → Text → Type 0
BeginsWithLabel text label rest = TextBeginsWith (BlankNodeLabel NQuads) text label rest

abbrev pub BeginsWithString : Text → Text → Text → Type 0
BeginsWithString text lexical rest = TextBeginsWith (ShortString Double) text lexical rest

abbrev pub BeginsWithTag : Text → Text → Text → Type 0
BeginsWithTag text tag rest = TextBeginsWith LangTag text tag rest

-- ---- terms

-- IRIREF | BLANK_NODE_LABEL, which is a subject or a graphLabel
abbrev pub BeginsWithResource : Text → Resource → Text → Type 0
BeginsWithResource text (Iri iri) rest = BeginsWithIri text iri rest
BeginsWithResource text (Label label) rest = BeginsWithLabel text label rest

-- `^^` and IRIREF, with white space between
pub record BeginsWithDatatype (text iri rest : Text) : Type 0 where
  pub behind : Text
  pub at_iri : Text
  pub marks : text ≡ 94 ∷ 94 ∷ behind
  pub white : IsWhiteThen behind at_iri
  pub datatype : BeginsWithIri at_iri iri rest

-- neither `^` nor `@`
abbrev pub BeginsWithNoSuffix : Text → Type 0
BeginsWithNoSuffix [] = Unit {0}
BeginsWithNoSuffix (c ∷ cs) = (c ≢ 94) × (c ≢ 64)

-- ('^^' IRIREF | LANGTAG)?, where a string with neither is an `xsd:string`
abbrev pub BeginsWithSuffix : Text → LiteralKind → Text → Type 0
BeginsWithSuffix text (Typed iri) rest =
    BeginsWithDatatype text iri rest ⊎ ((iri ≡ xsd_string) × (rest ≡ text) × BeginsWithNoSuffix text)
BeginsWithSuffix text (Tagged tag) rest = BeginsWithTag text tag rest

-- literal ::= STRING_LITERAL_QUOTE ('^^' IRIREF | LANGTAG)?
pub record BeginsWithLiteral (text : Text) (literal : Literal) (rest : Text) : Type 0 where
  pub at_suffix : Text
  pub lexical : IsSpaced (BeginsWithString text literal.lexical) at_suffix
  pub suffix : BeginsWithSuffix at_suffix literal.kind rest

-- object ::= IRIREF | BLANK_NODE_LABEL | literal
abbrev pub BeginsWithObject : Text → Object → Text → Type 0
BeginsWithObject text (ResourceObject resource) rest = BeginsWithResource text resource rest
BeginsWithObject text (LiteralObject literal) rest = BeginsWithLiteral text literal rest

-- ---- the statement

abbrev pub BeginsWithGraphName : Text → Option Resource → Text → Type 0
BeginsWithGraphName text None rest = (rest ≡ text) × ((after : Text) × (text ≡ 46 ∷ after))
BeginsWithGraphName text (Some resource) rest = IsSpaced (BeginsWithResource text resource) rest

-- subject predicate object graphLabel?, each with white space behind it; a graphLabel is left out in front of a dot
pub record BeginsWithTerms (text : Text) (quad : StatedQuad) (rest : Text) : Type 0 where
  pub at_predicate : Text
  pub at_object : Text
  pub at_graph_name : Text
  pub subject : IsSpaced (BeginsWithResource text quad.subject) at_predicate
  pub predicate : IsSpaced (BeginsWithIri at_predicate quad.predicate) at_object
  pub object : IsSpaced (BeginsWithObject at_object quad.object) at_graph_name
  pub graph_name : BeginsWithGraphName at_graph_name quad.graph_name rest

-- a dot, and then white space and optionally a comment
pub record EndsStatement (text : Text) : Type 0 where
  pub after_dot : Text
  pub dot : text ≡ 46 ∷ after_dot
  pub blank : IsBlank after_dot

-- statement ::= subject predicate object graphLabel? '.', with white space before it, and white space and optionally a
-- comment behind it
pub record IsStatement (line : Text) (quad : StatedQuad) : Type 0 where
  pub at_subject : Text
  pub at_dot : Text
  pub white : IsWhiteThen line at_subject
  pub terms : BeginsWithTerms at_subject quad at_dot
  pub ends : EndsStatement at_dot

-- ---- the line

-- the line is in the grammar, and states no quad or this one
abbrev pub States : Text → Option StatedQuad → Type 0
States line None = IsBlank line
States line (Some quad) = IsStatement line quad
