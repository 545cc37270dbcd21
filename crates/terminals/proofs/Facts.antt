-- What readers of whole grammars rest on: a text begins with one reading of a terminal, and its value is what terms ask for.
use Rattle.std.proofs.Common.{◌≡◌, ℕ, ◌<◌, true, false, not, List, [], ◌∷◌, ◌++◌, All, get_or, refl, sym, ap, subst, ◌∙◌, arith, ◌⊎◌, inl, inr}
use Rattle.std.proofs.lemmas.List.Elements.{All-append}
use Rattle.std.specs.Prelude.{encode_utf8, encode_utf8_all}
use Rattle.std.specs.Char.{IsScalar}
use Rattle.std.specs.Str.{IsUtf8, all_scalars}
use Rattle.std.proofs.lemmas.Bool.{and_from, and_parts, not-true}
use Rattle.std.proofs.lemmas.Bool.Decides.{nat_tests}
use Rattle.std.proofs.lemmas.Str.{encodes_same, encodes-IsAscii}
use Rattle.rdf_terms.proofs.Common.{Text, In, is_excluded, HasScheme, IsAbsoluteIri, IsLanguageTag}
use Rattle.char_tables.specs.Rows.{is_in}
use Rattle.char_tables.specs.Classes.{excluded_from_iriref}
use Rattle.terminals.specs.declared.bodies.Quote.{Quote}
use Rattle.terminals.specs.declared.bodies.Quote.TheVariants.{Double, Single}
use Rattle.terminals.specs.declared.bodies.Body.{Body}
use Rattle.terminals.specs.declared.bodies.Body.TheVariants.{Iri, Short, Long}
use Rattle.terminals.specs.declared.labels.Grammar.{Grammar}
use Rattle.terminals.specs.Terminal.{Characters, BeginsWith, TextBeginsWith, TextBeginsWithNone}
use Rattle.terminals.specs.Escapes.{IsUchar, IsEchar, echar_meanings}
use Rattle.terminals.specs.Spellings.{stands_for_itself, IsEscape, SpellsOne, Spells, TextSpells}
use Rattle.terminals.specs.Terminals.{IsBetween, IriRef, ShortString, LangTag, BlankNodeLabel}
use Rattle.terminals.proofs.Escaping.{same_tail, same_split}
use Rattle.terminals.proofs.Plain.{bytes_stand}
use Rattle.terminals.proofs.Unique.{same_run, none_at_mark}
use Rattle.terminals.proofs.Running.{all_scalars-append_right}
use Rattle.terminals.proofs.Tagging.{tag_ascii}

-- the characters that IRIREF excludes are those that an IRI of a term excludes
pub iri_characters : (c : ℕ) → is_in excluded_from_iriref c ≡ is_excluded c
iri_characters c = grind (arith, nat_tests)

-- ---- one reading

-- what is spelled has one value
abbrev pub HasOneValue : (Characters → Characters → Type 0) → Type 0
HasOneValue terminal = (spelled value other : Characters) → terminal spelled value → terminal spelled other → value ≡ other

same_front : (terminal : Characters → Characters → Type 0) → HasOneValue terminal → (text value rest other other_rest : Characters)
    → BeginsWith terminal text value rest → BeginsWith terminal text other other_rest → (value ≡ other) × (rest ≡ other_rest)
same_front terminal one text value rest other other_rest x y =
    let at_most = x.longest y.spelled other other_rest y.splits y.fits in
    let at_least = y.longest x.spelled value rest x.splits x.fits in
    let same = same_split x.spelled y.spelled rest other_rest (sym x.splits ∙ y.splits) (omega arith) in
    (one y.spelled value other (subst (λ s. terminal s value) same.0 x.fits) y.fits, same.1)

pub same_reading : (terminal : Characters → Characters → Type 0) → HasOneValue terminal → (text value rest other other_rest : Text)
    → TextBeginsWith terminal text value rest → TextBeginsWith terminal text other other_rest → (value ≡ other) × (rest ≡ other_rest)
same_reading terminal one text value rest other other_rest x y =
    let characters = encodes_same x.text_characters y.text_characters (sym x.text_is ∙ y.text_is) in
    let same = same_front terminal one y.text_characters x.value_characters x.rest_characters y.value_characters y.rest_characters
    (subst (λ t. BeginsWith terminal t x.value_characters x.rest_characters) characters x.begins) y.begins in
    (x.value_is ∙ ap encode_utf8_all same.0 ∙ sym y.value_is, x.rest_is ∙ ap encode_utf8_all same.1 ∙ sym y.rest_is)

pub no_reading : (terminal : Characters → Characters → Type 0) (text value rest : Text) → TextBeginsWithNone terminal text → ¬ (TextBeginsWith terminal text value rest)
no_reading terminal text value rest none x =
    none x.text_characters x.text_is x.begins.spelled x.value_characters x.rest_characters x.begins.splits x.begins.fits

between_one_value : (first last : ℕ) (body : Body) → stands_for_itself body last ≡ false → ¬ (last ≡ 92) → HasOneValue (IsBetween first last body)
between_one_value first last body stops no_escape spelled value other x y =
    let whole : x.inner ++ last ∷ [] ≡ y.inner ++ last ∷ [] = same_tail first first (x.inner ++ last ∷ []) (y.inner ++ last ∷ []) (sym x.marks ∙ y.marks) in
    (same_run body value other x.inner y.inner (last ∷ []) (last ∷ []) whole x.spells y.spells (none_at_mark body last [] stops no_escape) (none_at_mark body last [] stops no_escape)).values

pub iri_one_value : HasOneValue IriRef
iri_one_value = between_one_value 60 62 Iri refl (λ e. omega arith)

pub string_one_value : (quote : Quote) → HasOneValue (ShortString quote)
string_one_value Double = between_one_value 34 34 (Short Double) refl (λ e. omega arith)
string_one_value Single = between_one_value 39 39 (Short Single) refl (λ e. omega arith)

pub label_one_value : (grammar : Grammar) → HasOneValue (BlankNodeLabel grammar)
label_one_value grammar spelled value other x y = same_tail 58 58 value other (same_tail 95 95 (58 ∷ value) (58 ∷ other) (sym x.mark ∙ y.mark))

pub tag_one_value : HasOneValue LangTag
tag_one_value spelled value other x y = same_tail 64 64 value other (sym x.mark ∙ y.mark)

pub rest_utf8 : (terminal : Characters → Characters → Type 0) (text value rest : Text) → TextBeginsWith terminal text value rest → IsUtf8 text → IsUtf8 rest
rest_utf8 terminal text value rest x utf8 =
    let characters : x.text_characters ≡ utf8.0 = encodes_same x.text_characters utf8.0 (sym x.text_is ∙ sym utf8.1.1) in (
      x.rest_characters,
      (all_scalars-append_right x.begins.spelled x.rest_characters (ap all_scalars (sym x.begins.splits ∙ characters) ∙ utf8.1.0), sym x.rest_is),
    )

-- ---- values

pub ascii_scalar : (c : ℕ) → c < 128 → IsScalar c
ascii_scalar c h = grind (arith, nat_tests)

meaning_is_ascii : (letter c : ℕ) → In (letter, c) echar_meanings → c < 128
meaning_is_ascii letter c (inl e) = let l = ap (λ (p : ℕ × ℕ). p.1) e in omega arith
meaning_is_ascii letter c (inr (inl e)) = let l = ap (λ (p : ℕ × ℕ). p.1) e in omega arith
meaning_is_ascii letter c (inr (inr (inl e))) = let l = ap (λ (p : ℕ × ℕ). p.1) e in omega arith
meaning_is_ascii letter c (inr (inr (inr (inl e)))) = let l = ap (λ (p : ℕ × ℕ). p.1) e in omega arith
meaning_is_ascii letter c (inr (inr (inr (inr (inl e))))) = let l = ap (λ (p : ℕ × ℕ). p.1) e in omega arith
meaning_is_ascii letter c (inr (inr (inr (inr (inr (inl e)))))) = let l = ap (λ (p : ℕ × ℕ). p.1) e in omega arith
meaning_is_ascii letter c (inr (inr (inr (inr (inr (inr (inl e))))))) = let l = ap (λ (p : ℕ × ℕ). p.1) e in omega arith
meaning_is_ascii letter c (inr (inr (inr (inr (inr (inr (inr (inl e)))))))) = let l = ap (λ (p : ℕ × ℕ). p.1) e in omega arith
meaning_is_ascii letter c (inr (inr (inr (inr (inr (inr (inr (inr e)))))))) = absurd e

string_escape_scalar : (spelled : List ℕ) (c : ℕ) → IsUchar spelled c ⊎ IsEchar spelled c → IsScalar c
string_escape_scalar spelled c (inl u) = elim u.named [ inl n ↦ n.1.scalar | inr n ↦ n.1.scalar ]
string_escape_scalar spelled c (inr e) = ascii_scalar c (meaning_is_ascii e.letter c e.meaning)

escape_scalar : (body : Body) (spelled : List ℕ) (c : ℕ) → IsEscape body spelled c → IsScalar c
escape_scalar Iri spelled c (u, h) = elim u.named [ inl n ↦ n.1.scalar | inr n ↦ n.1.scalar ]
escape_scalar (Short q) spelled c e = string_escape_scalar spelled c e
escape_scalar (Long q) spelled c e = string_escape_scalar spelled c e

-- what is spelled are Unicode scalar values
pub spelled_scalars : (body : Body) (value spelled : List ℕ) → Spells body spelled value → all_scalars value ≡ true
spelled_scalars body [] spelled x = refl
spelled_scalars body (c ∷ cs) spelled (f, m, p, inl (e, stands, s), ones) = and_from _ (all_scalars cs) s (spelled_scalars body cs m ones)
spelled_scalars body (c ∷ cs) spelled (f, m, p, inr e, ones) = and_from _ (all_scalars cs) (escape_scalar body f c e) (spelled_scalars body cs m ones)

pub spelled_utf8 : (body : Body) (spelled value : Text) → TextSpells body spelled value → IsUtf8 value
spelled_utf8 body spelled value x = (x.value_characters, (spelled_scalars body x.value_characters x.spelled_characters x.spells, sym x.value_is))

pub iri_utf8 : (text value rest : Text) → TextBeginsWith IriRef text value rest → IsUtf8 value
iri_utf8 text value rest x = (x.value_characters, (spelled_scalars Iri x.value_characters x.begins.fits.inner x.begins.fits.spells, sym x.value_is))

pub string_utf8 : (quote : Quote) (text value rest : Text) → TextBeginsWith (ShortString quote) text value rest → IsUtf8 value
string_utf8 quote text value rest x = (x.value_characters, (spelled_scalars (Short quote) x.value_characters x.begins.fits.inner x.begins.fits.spells, sym x.value_is))

abbrev IsAllowed : ℕ → Type 0
IsAllowed b = is_excluded b ≡ false

allowed_bytes : (c : ℕ) → is_in excluded_from_iriref c ≡ false → All IsAllowed (encode_utf8 c)
allowed_bytes c h = λ k d l. sym (iri_characters (get_or (encode_utf8 c) k d)) ∙ not-true (is_in excluded_from_iriref (get_or (encode_utf8 c) k d)) (bytes_stand Iri c (ap not h) k d l)

one_allowed : (spelled : List ℕ) (c : ℕ) → SpellsOne Iri spelled c → is_in excluded_from_iriref c ≡ false
one_allowed spelled c (inl (e, stands, s)) = not-true _ stands
one_allowed spelled c (inr (u, h)) = h

allowed_all : (value spelled : List ℕ) → Spells Iri spelled value → All IsAllowed (encode_utf8_all value)
allowed_all [] spelled x = λ k d l. absurd (omega arith)
allowed_all (c ∷ cs) spelled (f, m, p, one, ones) = All-append IsAllowed (encode_utf8 c) (encode_utf8_all cs) (allowed_bytes c (one_allowed f c one)) (allowed_all cs m ones)

-- no byte of an IRI's value is excluded
pub iri_allowed : (text value rest : Text) → TextBeginsWith IriRef text value rest → All (λ c. is_excluded c ≡ false) value
iri_allowed text value rest x = subst (All IsAllowed) (sym x.value_is) (allowed_all x.value_characters x.begins.fits.inner x.begins.fits.spells)

-- with a scheme it is an absolute IRI
pub iri_absolute : (text value rest : Text) → TextBeginsWith IriRef text value rest → HasScheme value → IsAbsoluteIri value
iri_absolute text value rest x scheme = record { has_scheme = scheme; allowed = iri_allowed text value rest x; utf8 = iri_utf8 text value rest x }

pub tag_is : (text value rest : Text) → TextBeginsWith LangTag text value rest → IsLanguageTag value
tag_is text value rest x =
    subst IsLanguageTag (sym (x.value_is ∙ encodes-IsAscii x.value_characters (tag_ascii x.value_characters x.begins.fits.tag))) x.begins.fits.tag

all_scalars-append_left : (xs ys : List ℕ) → all_scalars (xs ++ ys) ≡ true → all_scalars xs ≡ true
all_scalars-append_left [] ys h = refl
all_scalars-append_left (x ∷ xs) ys h =
    let parts = and_parts _ (all_scalars (xs ++ ys)) h in
    and_from _ (all_scalars xs) parts.0 (all_scalars-append_left xs ys parts.1)

pub label_utf8 : (grammar : Grammar) (text value rest : Text) → TextBeginsWith (BlankNodeLabel grammar) text value rest → IsUtf8 text → IsUtf8 value
label_utf8 grammar text value rest x utf8 =
    let characters : 95 ∷ 58 ∷ (x.value_characters ++ x.rest_characters) ≡ utf8.0 =
    sym (x.begins.splits ∙ ap (λ s. s ++ x.rest_characters) x.begins.fits.mark) ∙ encodes_same x.text_characters utf8.0 (sym x.text_is ∙ sym utf8.1.1) in
    let all : all_scalars (x.value_characters ++ x.rest_characters) ≡ true = ap all_scalars characters ∙ utf8.1.0 in
    (x.value_characters, (all_scalars-append_left x.value_characters x.rest_characters all, sym x.value_is))
