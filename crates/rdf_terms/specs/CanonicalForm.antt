-- Canonical N-Quads under names for the blank nodes: the form of a line (RDF Dataset Canonicalization, appendix A, "A
-- Canonical form of N-Quads"), and the lines of a dataset in order, one after the other (its section 5).
use Rattle.std.specs.Prelude.{ℕ, suc, Bool, ◌||◌, ◌&&◌, ◌==◌, nat_le, nat_lt, if◌then◌else◌, List, [], ◌∷◌, ◌++◌, ◌+◌, ◌/◌, ◌%◌, map, Option, Some, None, codes}
use Rattle.std.specs.List.{flat_map}
use Rattle.std.specs.Str.{bytes_eq}
use Rattle.rdf_terms.specs.Lists.{Text, sorted, joined}
use Rattle.rdf_terms.specs.Numeral.{numeral}
use Rattle.rdf_terms.specs.Terms.{Statement}
use Rattle.rdf_terms.specs.Dataset.{Dataset}
use Rattle.rdf_terms.specs.declared.term.Term.{Term}
use Rattle.rdf_terms.specs.declared.term.Term.TheVariants.{Iri, Blank, Literal}
use Rattle.rdf_terms.specs.declared.term.LiteralKind.{LiteralKind}
use Rattle.rdf_terms.specs.declared.term.LiteralKind.TheVariants.{Typed, Tagged}
use Rattle.rdf_terms.specs.declared.term.Prefix.{Prefix}
use Rattle.rdf_terms.specs.declared.term.Prefix.TheVariants.{Canonical, Temporary}

-- ---- names

-- a naming gives each node its identifier, without the `_:`
abbrev pub Naming : Type 0
Naming = ℕ → Text

abbrev pub prefix_text : Prefix → Text
prefix_text Canonical = codes "c14n"
prefix_text Temporary = codes "b"

-- an issued identifier: the prefix and a place, counted from 0 (RDF Dataset Canonicalization, section 4.5)
abbrev pub identifier : Prefix → ℕ → Text
identifier prefix place = prefix_text prefix ++ numeral place

abbrev pub after_first : Option ℕ → Option ℕ
after_first None = None
after_first (Some k) = Some (suc k)

-- the place of a node in a list, if it is there
abbrev pub place_of : List ℕ → ℕ → Option ℕ
place_of [] n = None
place_of (x ∷ xs) n = if x == n then Some 0 else after_first (place_of xs n)

-- the text of a name, and nothing for a node that has none
abbrev pub name_or_nothing : Option Text → Text
name_or_nothing None = []
name_or_nothing (Some t) = t

abbrev pub identifier_at : Prefix → Option ℕ → Option Text
identifier_at prefix None = None
identifier_at prefix (Some k) = Some (identifier prefix k)

-- each node of the list is named by its place
abbrev pub issued_name : Prefix → List ℕ → ℕ → Option Text
issued_name prefix list n = identifier_at prefix (place_of list n)

abbrev pub issued_names : Prefix → List ℕ → Naming
issued_names prefix list n = name_or_nothing (issued_name prefix list n)

-- ---- strings

-- a hexadecimal digit in upper case
abbrev pub hex_digit : ℕ → ℕ
hex_digit d = if nat_lt d 10 then 48 + d else 55 + d

-- U+0000 to U+0007, U+000B, U+000E to U+001F and U+007F
abbrev pub is_written_by_number : ℕ → Bool
is_written_by_number c = nat_le c 7 || (c == 11 || ((nat_le 14 c && nat_le c 31) || c == 127))

-- what is written for a byte of a string: each escaped character is one byte of UTF-8, and all others are written
-- natively
unfoldable pub escaped : ℕ → Text
escaped c =
    if c == 8 then codes "\\b"
    else if c == 9 then codes "\\t"
    else if c == 10 then codes "\\n"
    else if c == 12 then codes "\\f"
    else if c == 13 then codes "\\r"
    else if c == 34 then codes "\\\""
    else if c == 92 then codes "\\\\"
    else if is_written_by_number c then codes "\\u00" ++ (hex_digit (c / 16) ∷ hex_digit (c % 16) ∷ [])
    else c ∷ []

-- ---- terms, lines and texts

abbrev pub xsd_string : Text
xsd_string = codes "http://www.w3.org/2001/XMLSchema#string"

-- the datatype is not written for `xsd:string`
abbrev pub canonical_suffix : LiteralKind → Text
canonical_suffix (Typed iri) = if bytes_eq iri xsd_string then [] else codes "^^<" ++ (iri ++ codes ">")
canonical_suffix (Tagged tag) = codes "@" ++ tag

abbrev pub canonical_term : Naming → Term → Text
canonical_term ν (Iri t) = codes "<" ++ (t ++ codes ">")
canonical_term ν (Blank n) = codes "_:" ++ ν n
canonical_term ν (Literal l) = codes "\"" ++ (flat_map escaped l.lexical ++ (codes "\"" ++ canonical_suffix l.kind))

abbrev pub canonical_graph_name : Naming → Option Term → Text
canonical_graph_name ν None = []
canonical_graph_name ν (Some t) = canonical_term ν t ++ codes " "

-- one space follows the subject, the predicate, the object and the graph name; then come a dot and a line feed
unfoldable pub canonical_line : Naming → Statement → Text
canonical_line ν st =
    canonical_term ν st.subject
    ++ (codes " "
    ++ (canonical_term ν st.predicate
    ++ (codes " "
    ++ (canonical_term ν st.object ++ (codes " " ++ (canonical_graph_name ν st.graph_name ++ codes ".\n"))))))

-- the lines of all quads in byte order, one after the other (RDF Dataset Canonicalization, section 5)
abbrev pub canonical_nquads : Dataset → Naming → Text
canonical_nquads D ν = joined (sorted (map (canonical_line ν) D.statements))
