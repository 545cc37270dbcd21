-- A term of a canonical line, with the space behind it, is read back.
use Rattle.std.proofs.Common.{◌≡◌, ℕ, ◌<◌, true, [], ◌∷◌, ◌++◌, Option, Some, None, IfSome, length, refl, sym, ap, subst, ◌∙◌, arith, append_assoc, inl, inr}
use Rattle.std.specs.List.{flat_map}
use Rattle.std.specs.Str.{IsUtf8}
use Rattle.std.proofs.lemmas.Bool.{and_from}
use Rattle.std.proofs.lemmas.List.Elements.{All-nil, All-cons}
use Rattle.std.proofs.lemmas.Str.{IsUtf8-append, IsUtf8-nil, IsUtf8-from_ascii}
use Rattle.std.proofs.lemmas.Str.Ascii.{IsAscii-from_all}
use Rattle.rdf_terms.proofs.Common.{Text, IsIri, IsIriOrBlank, IsAbsoluteIri, IsValidKind, IsValidTerm, Naming, escaped, canonical_suffix, canonical_term, canonical_graph_name}
use Rattle.rdf_terms.specs.declared.term.Term.{Term}
use Rattle.rdf_terms.specs.declared.term.Term.TheVariants.{Iri as IriTerm, Blank, Literal as LiteralTerm}
use Rattle.rdf_terms.specs.declared.term.Literal.{Literal}
use Rattle.rdf_terms.specs.declared.term.LiteralKind.{LiteralKind}
use Rattle.terminals.proofs.Marks.{encodes_ascii_front}
use Rattle.terminals.proofs.Facts.{ascii_scalar}
use Rattle.terminals.proofs.Tagging.{alphanumeric_ascii, tag_ascii}
use Rattle.canonical_writer.specs.Determined.{HasPlainNames}
use Rattle.canonical_writer.proofs.TermTexts.{Suffix, of_string, of_type, of_tag, suffix_of, type_regrouped, iri_regrouped, string_regrouped}
use Rattle.nquads_reader.specs.Grammar.{is_space_or_tab, BeginsWithNoWhite, IsWhiteThen, IsSpaced, BeginsWithIri, BeginsWithResource, BeginsWithNoSuffix, BeginsWithSuffix, BeginsWithObject, BeginsWithGraphName}
use Rattle.nquads_reader.specs.declared.quad.Object.TheVariants.{Literal as LiteralObject}
use Rattle.nquads_reader.proofs.WrittenTerminals.{iri_reads, string_reads, string-utf8, tag_reads, label_reads}
use Rattle.nquads_reader.proofs.WrittenQuads.{written_resource, written_iri, written_object, written_graph_name}

-- ---- what follows a term: UTF-8 that begins with neither white space nor a suffix

pub record Follows (rest : Text) : Type 0 where
  pub utf8 : IsUtf8 rest
  pub no_white : BeginsWithNoWhite rest
  pub no_suffix : BeginsWithNoSuffix rest

mark_utf8 : (c : ℕ) (rest : Text) → c < 128 → IsUtf8 rest → IsUtf8 (c ∷ rest)
mark_utf8 c rest ascii utf8 = (c ∷ utf8.0, (and_from _ _ (ascii_scalar c ascii) utf8.1.0, encodes_ascii_front c utf8.0 ascii ∙ ap (λ t. c ∷ t) utf8.1.1))

pub no_white_space : (rest : Text) → BeginsWithNoWhite rest → IsWhiteThen rest rest
no_white_space rest stops = record { white = []; spelled = refl; allowed = All-nil _; stops = stops }

one_space : (rest : Text) → BeginsWithNoWhite rest → IsWhiteThen (32 ∷ rest) rest
one_space rest stops = record { white = 32 ∷ []; spelled = refl; allowed = All-cons (λ c. is_space_or_tab c ≡ true) 32 [] refl (All-nil _); stops = stops }

-- the suffix of a literal, and the space behind it, of which a string without suffix takes the space
record ReadsSuffix (text : Text) (kind : LiteralKind) (rest : Text) : Type 0 where
  at_suffix : Text
  after : Text
  white : IsWhiteThen text at_suffix
  suffix : BeginsWithSuffix at_suffix kind after
  space : IsWhiteThen after rest

suffix_reads : (kind : LiteralKind) (s rest : Text) → Suffix kind s → IsValidKind kind → Follows rest → ReadsSuffix (s ++ 32 ∷ rest) kind rest
suffix_reads kind s rest (of_string iri e) v f = record {
  at_suffix = rest;
  after = rest;
  white = one_space rest f.no_white;
  suffix = inr (e, refl, f.no_suffix);
  space = no_white_space rest f.no_white;
}
suffix_reads kind s rest (of_type iri) v f = record {
  at_suffix = (94 ∷ 94 ∷ 60 ∷ (iri ++ 62 ∷ [])) ++ 32 ∷ rest;
  after = 32 ∷ rest;
  white = no_white_space _ refl;
  suffix = inl (record {
    behind = 60 ∷ (iri ++ 62 ∷ 32 ∷ rest);
    at_iri = 60 ∷ (iri ++ 62 ∷ 32 ∷ rest);
    marks = type_regrouped iri rest;
    white = no_white_space _ refl;
    datatype = iri_reads iri (32 ∷ rest) v (mark_utf8 32 rest (omega arith) f.utf8);
  });
  space = one_space rest f.no_white;
}
suffix_reads kind s rest (of_tag tag) v f = record {
  at_suffix = 64 ∷ (tag ++ 32 ∷ rest);
  after = 32 ∷ rest;
  white = no_white_space _ refl;
  suffix = tag_reads tag rest v f.utf8;
  space = one_space rest f.no_white;
}

-- ---- one term

abbrev pub HasNoEmptyName : ℕ → Naming → Type 0
HasNoEmptyName nodes ν = (n : ℕ) → n < nodes → 0 < length (ν n)

closed-utf8 : (iri : Text) → IsAbsoluteIri iri → IsUtf8 (60 ∷ (iri ++ 62 ∷ []))
closed-utf8 iri v = mark_utf8 60 _ (omega arith) (IsUtf8-append iri (62 ∷ []) v.utf8 (mark_utf8 62 [] (omega arith) IsUtf8-nil))

suffix-utf8 : (kind : LiteralKind) (s : Text) → Suffix kind s → IsValidKind kind → IsUtf8 s
suffix-utf8 kind s (of_string iri e) v = IsUtf8-nil
suffix-utf8 kind s (of_type iri) v = mark_utf8 94 _ (omega arith) (mark_utf8 94 _ (omega arith) (closed-utf8 iri v))
suffix-utf8 kind s (of_tag tag) v = mark_utf8 64 tag (omega arith) (IsUtf8-from_ascii tag (tag_ascii tag v))

module _ (ν : Naming) (nodes : ℕ) (plain : HasPlainNames nodes ν) (named : HasNoEmptyName nodes ν) where
  name-utf8 : (n : ℕ) → n < nodes → IsUtf8 (ν n)
  name-utf8 n h = IsUtf8-from_ascii (ν n) (IsAscii-from_all (ν n) (λ k d l. alphanumeric_ascii _ (plain n h k d l)))

  term-utf8 : (t : Term) → IsValidTerm nodes t → IsUtf8 (canonical_term ν t)
  term-utf8 (IriTerm iri) v = closed-utf8 iri v
  term-utf8 (Blank n) v = mark_utf8 95 _ (omega arith) (mark_utf8 58 (ν n) (omega arith) (name-utf8 n v))
  term-utf8 (LiteralTerm l) v =
      mark_utf8 34 _ (omega arith) (IsUtf8-append (flat_map escaped l.lexical) (34 ∷ canonical_suffix l.kind) (string-utf8 l.lexical v.0)
      (mark_utf8 34 (canonical_suffix l.kind) (omega arith) (suffix-utf8 l.kind (canonical_suffix l.kind) (suffix_of l.kind) v.1)))

  pub follows_term : (t : Term) (rest : Text) → IsValidTerm nodes t → IsUtf8 rest → Follows (canonical_term ν t ++ 32 ∷ rest)
  follows_term t rest v utf8 = by t (IsUtf8-append (canonical_term ν t) (32 ∷ rest) (term-utf8 t v) (mark_utf8 32 rest (omega arith) utf8))
    where
      by : (t : Term) → IsUtf8 (canonical_term ν t ++ 32 ∷ rest) → Follows (canonical_term ν t ++ 32 ∷ rest)
      by (IriTerm iri) u = record { utf8 = u; no_white = refl; no_suffix = (λ e. omega arith, λ e. omega arith) }
      by (Blank n) u = record { utf8 = u; no_white = refl; no_suffix = (λ e. omega arith, λ e. omega arith) }
      by (LiteralTerm l) u = record { utf8 = u; no_white = refl; no_suffix = (λ e. omega arith, λ e. omega arith) }

  pub resource_reads : (t : Term) (rest : Text) → IsIriOrBlank t → IsValidTerm nodes t → Follows rest → IsSpaced (BeginsWithResource (canonical_term ν t ++ 32 ∷ rest) (written_resource ν t)) rest
  resource_reads (IriTerm iri) rest k v f = record {
    after = 32 ∷ rest;
    begins = subst (λ t. BeginsWithIri t iri (32 ∷ rest)) (sym (iri_regrouped iri rest)) (iri_reads iri (32 ∷ rest) v (mark_utf8 32 rest (omega arith) f.utf8));
    white = one_space rest f.no_white;
  }
  resource_reads (Blank n) rest k v f = record { after = 32 ∷ rest; begins = label_reads (ν n) rest (named n v) (plain n v) f.utf8; white = one_space rest f.no_white }
  resource_reads (LiteralTerm l) rest k v f = absurd k

  pub iri_spaced : (t : Term) (rest : Text) → IsIri t → IsValidTerm nodes t → Follows rest → IsSpaced (BeginsWithIri (canonical_term ν t ++ 32 ∷ rest) (written_iri t)) rest
  iri_spaced (IriTerm iri) rest k v f = let r = resource_reads (IriTerm iri) rest tt v f in record { after = r.after; begins = r.begins; white = r.white }
  iri_spaced (Blank n) rest k v f = absurd k
  iri_spaced (LiteralTerm l) rest k v f = absurd k

  literal_reads : (l : Literal) (rest : Text) → IsValidTerm nodes (LiteralTerm l) → Follows rest → IsSpaced (BeginsWithObject (canonical_term ν (LiteralTerm l) ++ 32 ∷ rest) (LiteralObject l)) rest
  literal_reads l rest v f =
      let s = suffix_reads l.kind (canonical_suffix l.kind) rest (suffix_of l.kind) v.1 f in
      let behind : Text = canonical_suffix l.kind ++ 32 ∷ rest in
      let utf8 : IsUtf8 behind = IsUtf8-append (canonical_suffix l.kind) (32 ∷ rest) (suffix-utf8 l.kind (canonical_suffix l.kind) (suffix_of l.kind) v.1) (mark_utf8 32 rest (omega arith) f.utf8) in
      record {
        after = s.after;
        begins = subst (λ t. BeginsWithObject t (LiteralObject l) s.after) (sym (string_regrouped (flat_map escaped l.lexical) (canonical_suffix l.kind) rest)) (record {
          at_suffix = s.at_suffix;
          lexical = record { after = behind; begins = string_reads l.lexical behind v.0 utf8; white = s.white };
          suffix = s.suffix;
        });
        white = s.space;
      }

  pub object_reads : (t : Term) (rest : Text) → IsValidTerm nodes t → Follows rest → IsSpaced (BeginsWithObject (canonical_term ν t ++ 32 ∷ rest) (written_object ν t)) rest
  object_reads (IriTerm iri) rest v f = let r = resource_reads (IriTerm iri) rest tt v f in record { after = r.after; begins = r.begins; white = r.white }
  object_reads (Blank n) rest v f = let r = resource_reads (Blank n) rest tt v f in record { after = r.after; begins = r.begins; white = r.white }
  object_reads (LiteralTerm l) rest v f = literal_reads l rest v f

  dot_follows : Follows (46 ∷ [])
  dot_follows = record { utf8 = mark_utf8 46 [] (omega arith) IsUtf8-nil; no_white = refl; no_suffix = (λ e. omega arith, λ e. omega arith) }

  pub graph_name_reads : (g : Option Term) → IfSome g IsIriOrBlank → IfSome g (IsValidTerm nodes) → BeginsWithGraphName (canonical_graph_name ν g ++ 46 ∷ []) (written_graph_name ν g) (46 ∷ [])
  graph_name_reads None k v = (refl, ([], refl))
  graph_name_reads (Some t) k v =
      subst (λ s. IsSpaced (BeginsWithResource s (written_resource ν t)) (46 ∷ [])) (sym (append_assoc (canonical_term ν t) (32 ∷ []) (46 ∷ []))) (resource_reads t (46 ∷ []) k v dot_follows)

  pub graph_name_follows : (g : Option Term) → IfSome g (IsValidTerm nodes) → Follows (canonical_graph_name ν g ++ 46 ∷ [])
  graph_name_follows None v = dot_follows
  graph_name_follows (Some t) v = subst Follows (sym (append_assoc (canonical_term ν t) (32 ∷ []) (46 ∷ []))) (follows_term t (46 ∷ []) v dot_follows.utf8)
