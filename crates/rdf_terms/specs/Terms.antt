-- Terms and quads by their terms, and which of them RDF allows.
use Rattle.std.specs.Prelude.{◌≡◌, ℕ, ◌<◌, Bool, true, false, ◌||◌, ◌==◌, nat_le, List, [], ◌∷◌, ◌++◌, Option, IfSome, IsUtf8, All, length}
use Rattle.std.specs.Char.{is_ascii_alphabetic, is_ascii_alphanumeric}
use Rattle.rdf_terms.specs.Lists.{Text}
use Rattle.rdf_terms.specs.declared.term.Term.{Term}
use Rattle.rdf_terms.specs.declared.term.Term.TheVariants.{Iri, Blank, Literal}
use Rattle.rdf_terms.specs.declared.term.LiteralKind.{LiteralKind}
use Rattle.rdf_terms.specs.declared.term.LiteralKind.TheVariants.{Typed, Tagged}

-- A quad by its terms (RDF 1.1 Concepts, sections 3.1 and 4). No graph name stands for the default graph.
pub record Statement : Type 0 where
  pub subject : Term
  pub predicate : Term
  pub object : Term
  pub graph_name : Option Term

-- ---- which term may stand where (RDF 1.1 Concepts, sections 3.1 and 4)

abbrev pub IsIri : Term → Type 0
IsIri (Iri t) = Unit {0}
IsIri (Blank n) = ⊥
IsIri (Literal l) = ⊥

abbrev pub IsIriOrBlank : Term → Type 0
IsIriOrBlank (Iri t) = Unit {0}
IsIriOrBlank (Blank n) = Unit {0}
IsIriOrBlank (Literal l) = ⊥

-- ---- IRIs (RDF 1.1 Concepts, section 3.2; RFC 3986, section 3.1)

-- a letter, digit, `+`, `-` or `.`
abbrev pub is_scheme_byte : ℕ → Bool
is_scheme_byte c = is_ascii_alphanumeric c || (c == 43 || (c == 45 || c == 46))

-- the text begins with a letter, then letters, digits, `+`, `-` and `.`, then `:`
pub record HasScheme (text : Text) : Type 0 where
  pub letter : ℕ
  pub more : Text
  pub rest : Text
  pub spelled : text ≡ letter ∷ (more ++ 58 ∷ rest)
  pub begins : is_ascii_alphabetic letter ≡ true
  pub goes_on : All (λ c. is_scheme_byte c ≡ true) more

-- the characters that IRIREF excludes (RDF 1.1 N-Quads, section 4): U+0000 to U+0020, `<`, `>`, `"`, `{`, `}`, `|`,
-- `^`, the grave accent and `\`
abbrev pub is_excluded : ℕ → Bool
is_excluded c =
    nat_le c 32
    || (c == 60
    || (c == 62 || (c == 34 || (c == 123 || (c == 125 || (c == 124 || (c == 94 || (c == 96 || c == 92))))))))

pub record IsAbsoluteIri (text : Text) : Type 0 where
  pub has_scheme : HasScheme text
  pub allowed : All (λ c. is_excluded c ≡ false) text
  pub utf8 : IsUtf8 text

-- ---- literals (RDF 1.1 Concepts, section 3.3)

-- letters, or letters and digits, at least one
pub record IsPrimarySubtag (text : Text) : Type 0 where
  pub some : 0 < length text
  pub letters : All (λ c. is_ascii_alphabetic c ≡ true) text

pub record IsSubtag (text : Text) : Type 0 where
  pub some : 0 < length text
  pub alphanumeric : All (λ c. is_ascii_alphanumeric c ≡ true) text

-- each subtag behind a `-`
abbrev pub behind_dashes : List Text → Text
behind_dashes [] = []
behind_dashes (t ∷ ts) = 45 ∷ (t ++ behind_dashes ts)

-- the form of LANGTAG without its `@` (RDF 1.1 N-Quads, section 4)
pub record IsLanguageTag (text : Text) : Type 0 where
  pub primary : Text
  pub subtags : List Text
  pub spelled : text ≡ primary ++ behind_dashes subtags
  pub is_primary : IsPrimarySubtag primary
  pub are_subtags : All IsSubtag subtags

abbrev pub IsValidKind : LiteralKind → Type 0
IsValidKind (Typed iri) = IsAbsoluteIri iri
IsValidKind (Tagged tag) = IsLanguageTag tag

-- ---- valid terms and statements

-- the texts of the term are well formed, and a blank node is one of so many
abbrev pub IsValidTerm : ℕ → Term → Type 0
IsValidTerm nodes (Iri t) = IsAbsoluteIri t
IsValidTerm nodes (Blank n) = n < nodes
IsValidTerm nodes (Literal l) = IsUtf8 l.lexical × IsValidKind l.kind

-- each place holds a kind of term that it may, and each term is valid
pub record IsValidStatement (nodes : ℕ) (st : Statement) : Type 0 where
  pub subject_kind : IsIriOrBlank st.subject
  pub predicate_kind : IsIri st.predicate
  pub graph_name_kind : IfSome st.graph_name IsIriOrBlank
  pub subject : IsValidTerm nodes st.subject
  pub predicate : IsValidTerm nodes st.predicate
  pub object : IsValidTerm nodes st.object
  pub graph_name : IfSome st.graph_name (IsValidTerm nodes)
