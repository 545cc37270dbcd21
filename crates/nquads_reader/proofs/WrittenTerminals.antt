-- The terminals of a canonical line are read back: each is the longest at its place.
use Rattle.std.proofs.Common.{◌≡◌, ◌≢◌, ℕ, ◌<◌, ◌≤◌, true, false, not, [], ◌∷◌, ◌++◌, All, length, refl, sym, ap, subst, ◌∙◌, arith, ◌⊎◌, inl, inr}
use Rattle.std.specs.Prelude.{encode_utf8, encode_utf8_all}
use Rattle.std.specs.Char.{is_ascii_alphanumeric}
use Rattle.std.specs.List.{flat_map}
use Rattle.std.specs.Str.{IsAscii, IsUtf8, all_scalars}
use Rattle.std.proofs.lemmas.Bool.{and_parts, cases_lt}
use Rattle.std.proofs.lemmas.List.Elements.{All-cons, All-head, All-tail}
use Rattle.std.proofs.lemmas.Str.{encode_ascii, encodes-append, encodes-IsAscii}
use Rattle.std.proofs.lemmas.Str.Ascii.{IsAscii-cons, IsAscii-from_all}
use Rattle.rdf_terms.proofs.Common.{Text, is_excluded, IsAbsoluteIri, IsLanguageTag, escaped}
use Rattle.terminals.specs.Terminal.{Characters}
use Rattle.terminals.specs.Spellings.{stands_for_itself, Spells}
use Rattle.terminals.specs.Terminals.{BlankNodeLabel, LangTag}
use Rattle.terminals.specs.declared.bodies.Quote.TheVariants.{Double}
use Rattle.terminals.specs.declared.bodies.Body.TheVariants.{Iri, Short}
use Rattle.terminals.specs.declared.labels.Grammar.TheVariants.{NQuads}
use Rattle.terminals.proofs.Facts.{iri_characters}
use Rattle.terminals.proofs.CanonicalStrings.{written_string}
use Rattle.terminals.proofs.Labelling.{BeginsWith-before}
use Rattle.terminals.proofs.Marks.{encodes_ascii_front, BeginsWith-between}
use Rattle.terminals.proofs.Plain.{stands_past_ascii}
use Rattle.terminals.proofs.PlainLabels.{label_spaceless, is_label}
use Rattle.terminals.proofs.Tagging.{alphanumeric_ascii, tag_ascii}
use Rattle.canonical_writer.proofs.TermTexts.{tag-spaceless}
use Rattle.nquads_reader.specs.Grammar.{BeginsWithIri, BeginsWithLabel, BeginsWithString, BeginsWithTag}

-- ---- between marks

marked : (open_mark close_mark : ℕ) (inner rest : Characters) (bytes rest_bytes : Text) → open_mark < 128 → close_mark < 128 → encode_utf8_all inner ≡ bytes → encode_utf8_all rest ≡ rest_bytes
    → open_mark ∷ (bytes ++ close_mark ∷ rest_bytes) ≡ encode_utf8_all (open_mark ∷ (inner ++ close_mark ∷ rest))
marked open_mark close_mark inner rest bytes rest_bytes opens closes e f =
    sym (encodes_ascii_front open_mark (inner ++ close_mark ∷ rest) opens
    ∙ ap (λ t. open_mark ∷ t) (encodes-append inner (close_mark ∷ rest) ∙ (λ i. e i ++ (encodes_ascii_front close_mark rest closes ∙ ap (λ t. close_mark ∷ t) f) i)))

allowed_stands : (c : ℕ) → is_excluded c ≡ false → stands_for_itself Iri c ≡ true
allowed_stands c h = ap not (iri_characters c ∙ h)

character_stands : (c : ℕ) (rest : Text) → All (λ b. is_excluded b ≡ false) (encode_utf8 c ++ rest) → stands_for_itself Iri c ≡ true
character_stands c rest all = by (cases_lt c 128)
  where
    by : (c < 128) ⊎ (128 ≤ c) → stands_for_itself Iri c ≡ true
    by (inl ascii) = allowed_stands c (All-head (λ b. is_excluded b ≡ false) c rest (subst (λ f. All (λ b. is_excluded b ≡ false) (f ++ rest)) (encode_ascii c ascii) all))
    by (inr past) = stands_past_ascii Iri c past

All-behind : (P : ℕ → Type 0) (xs ys : Text) → All P (xs ++ ys) → All P ys
All-behind P [] ys all = all
All-behind P (x ∷ xs) ys all = All-behind P xs ys (All-tail P x (xs ++ ys) all)

spells_iri : (cs : Characters) → all_scalars cs ≡ true → All (λ b. is_excluded b ≡ false) (encode_utf8_all cs) → Spells Iri cs cs
spells_iri [] scalars all = refl
spells_iri (c ∷ cs) scalars all =
    let parts = and_parts _ (all_scalars cs) scalars in
    (c ∷ [], cs, refl, inl (refl, character_stands c (encode_utf8_all cs) all, parts.0), spells_iri cs parts.1 (All-behind (λ b. is_excluded b ≡ false) (encode_utf8 c) (encode_utf8_all cs) all))

pub iri_reads : (iri rest : Text) → IsAbsoluteIri iri → IsUtf8 rest → BeginsWithIri (60 ∷ (iri ++ 62 ∷ rest)) iri rest
iri_reads iri rest v utf8 = record {
  text_characters = 60 ∷ (v.utf8.0 ++ 62 ∷ utf8.0);
  value_characters = v.utf8.0;
  rest_characters = utf8.0;
  text_is = marked 60 62 v.utf8.0 utf8.0 iri rest (omega arith) (omega arith) v.utf8.1.1 utf8.1.1;
  value_is = sym v.utf8.1.1;
  rest_is = sym utf8.1.1;
  begins = BeginsWith-between 60 62 Iri refl (λ e. omega arith) v.utf8.0 v.utf8.0 utf8.0
      (spells_iri v.utf8.0 v.utf8.1.0 (subst (All (λ b. is_excluded b ≡ false)) (sym v.utf8.1.1) v.allowed));
}

pub string_reads : (lexical rest : Text) → IsUtf8 lexical → IsUtf8 rest → BeginsWithString (34 ∷ (flat_map escaped lexical ++ 34 ∷ rest)) lexical rest
string_reads lexical rest text utf8 =
    let written = written_string text.0 text.1.0 in
    record {
      text_characters = 34 ∷ (written.spelled ++ 34 ∷ utf8.0);
      value_characters = text.0;
      rest_characters = utf8.0;
      text_is = marked 34 34 written.spelled utf8.0 (flat_map escaped lexical) rest (omega arith) (omega arith) (written.is ∙ ap (flat_map escaped) text.1.1) utf8.1.1;
      value_is = sym text.1.1;
      rest_is = sym utf8.1.1;
      begins = BeginsWith-between 34 34 (Short Double) refl (λ e. omega arith) written.spelled text.0 utf8.0 written.spells;
    }

pub string-utf8 : (lexical : Text) → IsUtf8 lexical → IsUtf8 (flat_map escaped lexical)
string-utf8 lexical text = let written = written_string text.0 text.1.0 in (written.spelled, (written.scalars, written.is ∙ ap (flat_map escaped) text.1.1))

-- ---- before a space

space_is : (rest : Text) (utf8 : IsUtf8 rest) → 32 ∷ rest ≡ encode_utf8_all (32 ∷ utf8.0)
space_is rest utf8 = sym (encodes_ascii_front 32 utf8.0 (omega arith) ∙ ap (λ t. 32 ∷ t) utf8.1.1)

spaced : (front rest : Text) (utf8 : IsUtf8 rest) → IsAscii front → front ++ 32 ∷ rest ≡ encode_utf8_all (front ++ 32 ∷ utf8.0)
spaced front rest utf8 ascii = (λ i. sym (encodes-IsAscii front ascii) i ++ space_is rest utf8 i) ∙ sym (encodes-append front (32 ∷ utf8.0))

langtag_spaceless : (spelled value : Characters) → LangTag spelled value → All (λ c. c ≢ 32) spelled
langtag_spaceless spelled value is = subst (All (λ c. c ≢ 32)) (sym is.mark) (All-cons (λ c. c ≢ 32) 64 value (λ e. omega arith) (tag-spaceless value is.tag))

pub tag_reads : (tag rest : Text) → IsLanguageTag tag → IsUtf8 rest → BeginsWithTag (64 ∷ (tag ++ 32 ∷ rest)) tag (32 ∷ rest)
tag_reads tag rest v utf8 =
    let ascii = tag_ascii tag v in
    record {
      text_characters = (64 ∷ tag) ++ 32 ∷ utf8.0;
      value_characters = tag;
      rest_characters = 32 ∷ utf8.0;
      text_is = spaced (64 ∷ tag) rest utf8 (IsAscii-cons 64 tag (omega arith) ascii);
      value_is = sym (encodes-IsAscii tag ascii);
      rest_is = space_is rest utf8;
      begins = BeginsWith-before 32 LangTag langtag_spaceless (64 ∷ tag) tag utf8.0 (record { mark = refl; tag = v });
    }

-- ---- labels of letters and digits

pub label_reads : (name rest : Text) → 0 < length name → All (λ c. is_ascii_alphanumeric c ≡ true) name → IsUtf8 rest → BeginsWithLabel (95 ∷ 58 ∷ (name ++ 32 ∷ rest)) name (32 ∷ rest)
label_reads name rest some all utf8 =
    let ascii : IsAscii name = IsAscii-from_all name (λ k d l. alphanumeric_ascii _ (all k d l)) in
    record {
      text_characters = (95 ∷ 58 ∷ name) ++ 32 ∷ utf8.0;
      value_characters = name;
      rest_characters = 32 ∷ utf8.0;
      text_is = spaced (95 ∷ 58 ∷ name) rest utf8 (IsAscii-cons 95 (58 ∷ name) (omega arith) (IsAscii-cons 58 name (omega arith) ascii));
      value_is = sym (encodes-IsAscii name ascii);
      rest_is = space_is rest utf8;
      begins = BeginsWith-before 32 (BlankNodeLabel NQuads) label_spaceless (95 ∷ 58 ∷ name) name utf8.0 (is_label name some all);
    }
