-- What is known of the terminals: each has one value and one rest, and begins with its mark.
use Rattle.std.proofs.Common.{◌≡◌, ℕ, ◌+◌, ◌≤◌, ◌<◌, [], ◌∷◌, ◌++◌, length, ap, ◌∙◌, arith, length-append}
use Rattle.std.specs.Prelude.{encode_utf8_all}
use Rattle.std.proofs.lemmas.Str.{encode_ascii, encodes-append, length-le-encodes}
use Rattle.rdf_terms.specs.Lists.{Text}
use Rattle.terminals.specs.Terminal.{Characters, TextBeginsWith}
use Rattle.terminals.specs.Terminals.{IriRef, ShortString, LangTag, BlankNodeLabel}
use Rattle.terminals.specs.declared.bodies.Quote.TheVariants.{Double}
use Rattle.terminals.specs.declared.labels.Grammar.TheVariants.{NQuads}
use Rattle.terminals.proofs.Facts.{same_reading, iri_one_value, string_one_value, label_one_value, tag_one_value}

-- ---- the mark at the front

ascii_front : (c : ℕ) (cs : Characters) → c < 128 → encode_utf8_all (c ∷ cs) ≡ c ∷ encode_utf8_all cs
ascii_front c cs below = ap (λ f. f ++ encode_utf8_all cs) (encode_ascii c below)

mark_first : (T : Characters → Characters → Type 0) (mark : ℕ) → mark < 128 → ((spelled value : Characters) → T spelled value → (more : Characters) × (spelled ≡ mark ∷ more)) → (text v r : Text)
    → TextBeginsWith T text v r → (more : Text) × (text ≡ mark ∷ more)
mark_first T mark below front text v r h =
    let f = front h.begins.spelled h.value_characters h.begins.fits in
    (encode_utf8_all (f.0 ++ h.rest_characters), h.text_is ∙ ap encode_utf8_all (h.begins.splits ∙ ap (λ s. s ++ h.rest_characters) f.1) ∙ ascii_front mark (f.0 ++ h.rest_characters) below)

pub iri_begins : (text v r : Text) → TextBeginsWith IriRef text v r → (more : Text) × (text ≡ 60 ∷ more)
iri_begins text v r h = mark_first IriRef 60 (omega arith) (λ spelled value f. (f.inner ++ 62 ∷ [], f.marks)) text v r h

pub string_begins : (text v r : Text) → TextBeginsWith (ShortString Double) text v r → (more : Text) × (text ≡ 34 ∷ more)
string_begins text v r h = mark_first (ShortString Double) 34 (omega arith) (λ spelled value f. (f.inner ++ 34 ∷ [], f.marks)) text v r h

pub label_begins : (text v r : Text) → TextBeginsWith (BlankNodeLabel NQuads) text v r → (more : Text) × (text ≡ 95 ∷ more)
label_begins text v r h = mark_first (BlankNodeLabel NQuads) 95 (omega arith) (λ spelled value f. (58 ∷ value, f.mark)) text v r h

pub tag_begins : (text v r : Text) → TextBeginsWith LangTag text v r → (more : Text) × (text ≡ 64 ∷ more)
tag_begins text v r h = mark_first LangTag 64 (omega arith) (λ spelled value f. (value, f.mark)) text v r h

-- ---- how much is spelled

spelled_room : (T : Characters → Characters → Type 0) (n : ℕ) → ((spelled value : Characters) → T spelled value → n ≤ length spelled) → (text v r : Text) → TextBeginsWith T text v r
    → n + length r ≤ length text
spelled_room T n least text v r h =
    let whole : text ≡ encode_utf8_all h.begins.spelled ++ encode_utf8_all h.rest_characters = h.text_is ∙ ap encode_utf8_all h.begins.splits ∙ encodes-append h.begins.spelled h.rest_characters in
    omega (
      arith,
      ap length whole,
      length-append (encode_utf8_all h.begins.spelled) (encode_utf8_all h.rest_characters),
      ap length h.rest_is,
      length-le-encodes h.begins.spelled,
      least h.begins.spelled h.value_characters h.begins.fits,
    )

pub iri_room : (text v r : Text) → TextBeginsWith IriRef text v r → 2 + length r ≤ length text
iri_room text v r h = spelled_room IriRef 2 (λ spelled value f. omega (arith, ap length f.marks, length-append f.inner (62 ∷ []))) text v r h

pub string_room : (text v r : Text) → TextBeginsWith (ShortString Double) text v r → 2 + length r ≤ length text
string_room text v r h = spelled_room (ShortString Double) 2 (λ spelled value f. omega (arith, ap length f.marks, length-append f.inner (34 ∷ []))) text v r h

pub label_room : (text v r : Text) → TextBeginsWith (BlankNodeLabel NQuads) text v r → 2 + length r ≤ length text
label_room text v r h = spelled_room (BlankNodeLabel NQuads) 2 (λ spelled value f. omega (arith, ap length f.mark)) text v r h

pub tag_room : (text v r : Text) → TextBeginsWith LangTag text v r → 0 + length r ≤ length text
tag_room text v r h = spelled_room LangTag 0 (λ spelled value f. omega arith) text v r h

-- ---- one value and one rest

pub iri_same : (text v r w s : Text) → TextBeginsWith IriRef text v r → TextBeginsWith IriRef text w s → (v ≡ w) × (r ≡ s)
iri_same text v r w s a b = same_reading IriRef iri_one_value text v r w s a b

pub string_same : (text v r w s : Text) → TextBeginsWith (ShortString Double) text v r → TextBeginsWith (ShortString Double) text w s → (v ≡ w) × (r ≡ s)
string_same text v r w s a b = same_reading (ShortString Double) (string_one_value Double) text v r w s a b

pub label_same : (text v r w s : Text) → TextBeginsWith (BlankNodeLabel NQuads) text v r → TextBeginsWith (BlankNodeLabel NQuads) text w s → (v ≡ w) × (r ≡ s)
label_same text v r w s a b = same_reading (BlankNodeLabel NQuads) (label_one_value NQuads) text v r w s a b

pub tag_same : (text v r w s : Text) → TextBeginsWith LangTag text v r → TextBeginsWith LangTag text w s → (v ≡ w) × (r ≡ s)
tag_same text v r w s a b = same_reading LangTag tag_one_value text v r w s a b
