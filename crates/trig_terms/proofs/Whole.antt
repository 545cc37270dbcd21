-- Texts that are one terminal from their first character to their last.
use Rattle.std.proofs.Common.{◌≡◌, refl, [], ◌∷◌, ◌++◌, length, sym, ap, ◌∙◌, arith, inl, inr}
use Rattle.std.specs.Prelude.{encode_utf8, encode_utf8_all}
use Rattle.std.proofs.lemmas.List.{append-nil, length-append, nil_from_length}
use Rattle.std.proofs.lemmas.Str.{encodes_same, length-encode, len_utf8_bounds}
use Rattle.rdf_terms.specs.Lists.{Text}
use Rattle.terminals.specs.Terminal.{Characters, TextBeginsWith, TextBeginsWithNone}
use Rattle.terminals.specs.Terminals.{IriRef as Iri, ShortString, BlankNodeLabel, LangTag as Tag, ReadsSpelling}
use Rattle.terminals.specs.declared.bodies.Quote.{Quote}
use Rattle.terminals.specs.declared.bodies.Quote.TheVariants.{Double, Single}
use Rattle.terminals.specs.declared.labels.Grammar.TheVariants.{TriG}
use Rattle.terminals.specs.declared.runs.Spelling.{Spelling}
use Rattle.trig_lexer.specs.declared.kind.Kind.TheVariants.{IriRef, PnameNs, PnameLn, BlankLabel, LangTag, Quoted}
use Rattle.trig_lexer.specs.Strings.{IsQuoted}
use Rattle.trig_lexer.specs.Tokens.{IsToken}
use Rattle.trig_lexer.proofs.LocalParts.{HasParts, HasLocal, namespace_parts, name_parts}
use Rattle.trig_terms.specs.Leaves.{IsSpelled, HasValue}
use Rattle.trig_terms.specs.Values.{IsWhole, IsWholeLong}

pub nothing_encoded : (cs : Characters) → encode_utf8_all cs ≡ [] → cs ≡ []
nothing_encoded [] e = refl
nothing_encoded (c ∷ cs) e = absurd (omega (arith, ap length e, length-append (encode_utf8 c) (encode_utf8_all cs), length-encode c, (len_utf8_bounds c).0))

-- the characters of the text spell the terminal
pub record SpellsAll (terminal : Characters → Characters → Type 0) (text : Text) : Type 0 where
  pub spelled : Characters
  pub meant : Characters
  pub text_is : text ≡ encode_utf8_all spelled
  pub fits : terminal spelled meant

module _ (terminal : Characters → Characters → Type 0) (text : Text) (all : SpellsAll terminal text) where
  pub not_none : TextBeginsWithNone terminal text → ⊥
  not_none none = none all.spelled all.text_is all.spelled all.meant [] (sym (append-nil all.spelled)) all.fits

  -- nothing follows what is read
  pub no_rest : (value rest : Text) (x : TextBeginsWith terminal text value rest) → x.rest_characters ≡ []
  no_rest value rest x =
      let same : x.text_characters ≡ all.spelled = encodes_same x.text_characters all.spelled (sym x.text_is ∙ all.text_is) in
      let longest = x.begins.longest all.spelled all.meant [] (same ∙ sym (append-nil all.spelled)) all.fits in
      nil_from_length x.rest_characters (omega (arith, ap length (sym same ∙ x.begins.splits), length-append x.begins.spelled x.rest_characters))

value_read : (terminal : Characters → Characters → Type 0) (text value rest : Text) (x : TextBeginsWith terminal text value rest) → x.rest_characters ≡ [] → HasValue terminal text value
value_read terminal text value rest x nothing = record {
  spelled = x.begins.spelled;
  meant = x.value_characters;
  bytes_are = x.text_is ∙ ap encode_utf8_all (x.begins.splits ∙ ap (λ r. x.begins.spelled ++ r) nothing ∙ append-nil x.begins.spelled);
  value_is = x.value_is;
  fits = x.begins.fits;
}

pub whole_value : (terminal : Characters → Characters → Type 0) (text value rest : Text) → SpellsAll terminal text → TextBeginsWith terminal text value rest → HasValue terminal text value
whole_value terminal text value rest all x = value_read terminal text value rest x (no_rest terminal text all value rest x)

-- ---- kinds with a value

pub iri_spelled : (text : Text) → IsSpelled IriRef text → SpellsAll Iri text
unfolding IsToken
iri_spelled text is = record { spelled = is.spelled; meant = is.fits.0; text_is = is.bytes_are; fits = is.fits.1 }

pub label_spelled : (text : Text) → IsSpelled BlankLabel text → SpellsAll (BlankNodeLabel TriG) text
unfolding IsToken
label_spelled text is = record { spelled = is.spelled; meant = is.fits.0; text_is = is.bytes_are; fits = is.fits.1 }

pub tag_spelled : (text : Text) → IsSpelled LangTag text → SpellsAll Tag text
unfolding IsToken
tag_spelled text is = record { spelled = is.spelled; meant = is.fits.0.0; text_is = is.bytes_are; fits = is.fits.0.1 }

-- ---- short strings

pub short_whole : (quote : Quote) (text rest : Text) (spelling : Spelling) → ReadsSpelling (ShortString quote) text spelling rest → rest ≡ [] → IsWhole (ShortString quote) text spelling
short_whole quote text rest spelling x nothing = record {
  value = x.value;
  has_value = value_read (ShortString quote) text x.value rest x.begins (nothing_encoded x.begins.rest_characters (sym x.begins.rest_is ∙ nothing));
  spells = x.spells;
  plain = x.plain;
}

pub no_short : (quote : Quote) (text : Text) → TextBeginsWithNone (ShortString quote) text → (spelled value : Characters) → text ≡ encode_utf8_all spelled → ¬ (ShortString quote spelled value)
no_short quote text none spelled value is fits = not_none (ShortString quote) text (record { spelled = spelled; meant = value; text_is = is; fits = fits }) none

pub short_before_rest : (quote : Quote) (text value rest : Text) → TextBeginsWith (ShortString quote) text value rest → ¬ (rest ≡ []) → (spelled meant : Characters) → text ≡ encode_utf8_all spelled
    → ¬ (ShortString quote spelled meant)
short_before_rest quote text value rest x some spelled meant is fits =
    let nothing = no_rest (ShortString quote) text (record { spelled = spelled; meant = meant; text_is = is; fits = fits }) value rest x in
    some (x.rest_is ∙ ap encode_utf8_all nothing)

abbrev pub IsNotShort : Quote → Text → Type 0
IsNotShort quote text = (spelled value : Characters) → text ≡ encode_utf8_all spelled → ¬ (ShortString quote spelled value)

pub long_left : (text : Text) → IsSpelled Quoted text → IsNotShort Double text → IsNotShort Single text → (quote : Quote) × IsWholeLong quote text
unfolding IsToken
long_left text is not_double not_single = by is.fits
  where
    by : IsQuoted is.spelled → (quote : Quote) × IsWholeLong quote text
    by (quote, inr long) = (quote, record { spelled = is.spelled; text_is = is.bytes_are; is_string = long })
    by (Double, inl short) = absurd (not_double is.spelled short.0 is.bytes_are short.1)
    by (Single, inl short) = absurd (not_single is.spelled short.0 is.bytes_are short.1)

-- ---- names

pub namespace_cut : (text : Text) → IsSpelled PnameNs text → HasParts text []
unfolding IsToken
namespace_cut text is = namespace_parts text is.spelled is.bytes_are is.fits

pub name_cut : (text : Text) → IsSpelled PnameLn text → HasLocal text
unfolding IsToken
name_cut text is = name_parts text is.spelled is.bytes_are is.fits
