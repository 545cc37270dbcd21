-- Spelled characters between two marks.
use Rattle.std.proofs.Common.{◌≡◌, ◌≢◌, ℕ, ◌<◌, false, List, [], ◌∷◌, ◌++◌, length, refl, sym, ap, subst, ◌∙◌, arith}
use Rattle.std.specs.Prelude.{encode_utf8_all}
use Rattle.std.proofs.lemmas.List.{append_assoc, length-append}
use Rattle.std.proofs.lemmas.Str.{encode_ascii, encodes_same}
use Rattle.terminals.specs.declared.bodies.Body.{Body}
use Rattle.terminals.specs.declared.runs.Spelling.{Spelling}
use Rattle.terminals.specs.Terminal.{BeginsWith, TextBeginsWithNone}
use Rattle.terminals.specs.Spellings.{stands_for_itself, Spells, SpellsNone, BeginsWithRun}
use Rattle.terminals.specs.Terminals.{IsBetween, ReadsSpelling}
use Rattle.terminals.proofs.Escaping.{same_tail}
use Rattle.terminals.proofs.Unique.{same_run, SameRun, none_at_mark}
use Rattle.terminals.proofs.Running.{front_from_encodes}

pub encodes_ascii_front : (c : ℕ) (cs : List ℕ) → c < 128 → encode_utf8_all (c ∷ cs) ≡ c ∷ encode_utf8_all cs
encodes_ascii_front c cs ascii = ap (λ f. f ++ encode_utf8_all cs) (encode_ascii c ascii)

-- characters whose bytes begin with an ASCII byte begin with that character
pub ascii_front : (cs : List ℕ) (c : ℕ) (rest : List ℕ) → c < 128 → encode_utf8_all cs ≡ c ∷ rest → (back : List ℕ) × (cs ≡ c ∷ back) × (encode_utf8_all back ≡ rest)
ascii_front cs c rest ascii e = front_from_encodes cs (c ∷ []) rest (e ∙ ap (λ f. f ++ rest) (sym (encodes_ascii_front c [] ascii)))

-- another reading of the text has the same run between its marks
same_between : (open_mark close_mark : ℕ) (body : Body) (inner value rest other other_value other_rest : List ℕ)
    → stands_for_itself body close_mark ≡ false → close_mark ≢ 92 → Spells body inner value → SpellsNone body rest
    → open_mark ∷ (inner ++ rest) ≡ other ++ other_rest → (is : IsBetween open_mark close_mark body other other_value)
    → SameRun inner is.inner rest (close_mark ∷ other_rest) value other_value
same_between open_mark close_mark body inner value rest other other_value other_rest stops no_escape spells none e is =
    let whole : open_mark ∷ (inner ++ rest) ≡ open_mark ∷ ((is.inner ++ close_mark ∷ []) ++ other_rest) = e ∙ ap (λ s. s ++ other_rest) is.marks in
    let behind : inner ++ rest ≡ is.inner ++ close_mark ∷ other_rest =
    same_tail open_mark open_mark (inner ++ rest) ((is.inner ++ close_mark ∷ []) ++ other_rest) whole ∙ append_assoc is.inner (close_mark ∷ []) other_rest in
    same_run body value other_value inner is.inner rest (close_mark ∷ other_rest) behind spells is.spells none (none_at_mark body close_mark other_rest stops no_escape)

-- characters that are spelled between the marks are the longest such front
pub BeginsWith-between : (open_mark close_mark : ℕ) (body : Body) → stands_for_itself body close_mark ≡ false → close_mark ≢ 92 → (inner value rest : List ℕ) → Spells body inner value
    → BeginsWith (IsBetween open_mark close_mark body) (open_mark ∷ (inner ++ close_mark ∷ rest)) value rest
BeginsWith-between open_mark close_mark body stops no_escape inner value rest spells = record {
  spelled = open_mark ∷ (inner ++ close_mark ∷ []);
  splits = ap (λ r. open_mark ∷ r) (sym (append_assoc inner (close_mark ∷ []) rest));
  fits = record { inner = inner; marks = refl; spells = spells };
  longest = λ other other_value other_rest e is.
      let same = same_between open_mark close_mark body inner value (close_mark ∷ rest) other other_value other_rest stops no_escape spells (none_at_mark body close_mark rest stops no_escape) e is in
      let lengths = ap length same.spelled in
      omega (arith, ap length is.marks, length-append is.inner (close_mark ∷ []), length-append inner (close_mark ∷ []));
}

module _ (open_mark close_mark : ℕ) (body : Body) (opens : open_mark < 128) (closes : close_mark < 128)
    (stops : stands_for_itself body close_mark ≡ false) (no_escape : close_mark ≢ 92) (text inner rest : List ℕ) (spelling : Spelling)
    (mark : text ≡ open_mark ∷ inner) (run : BeginsWithRun body inner spelling rest) where
  pub between_found : (after : List ℕ) → rest ≡ close_mark ∷ after → ReadsSpelling (IsBetween open_mark close_mark body) text spelling after
  between_found after end =
      let back = ascii_front run.rest_characters close_mark after closes (sym run.rest_is ∙ end) in
      record {
        value = encode_utf8_all run.value_characters;
        begins = record {
          text_characters = open_mark ∷ (run.spelled_characters ++ run.rest_characters);
          value_characters = run.value_characters;
          rest_characters = back.0;
          text_is = mark ∙ ap (λ r. open_mark ∷ r) run.text_is ∙ sym (encodes_ascii_front open_mark (run.spelled_characters ++ run.rest_characters) opens);
          value_is = refl;
          rest_is = sym back.2;
          begins = subst (λ r. BeginsWith (IsBetween open_mark close_mark body) (open_mark ∷ (run.spelled_characters ++ r)) run.value_characters back.0) (sym back.1)
              (BeginsWith-between open_mark close_mark body stops no_escape run.spelled_characters run.value_characters back.0 run.spells);
        };
        spells = record {
          spelled_characters = run.spelled_characters;
          value_characters = run.value_characters;
          spelled_is = run.spelled_is;
          value_is = refl;
          spells = subst (λ b. Spells b run.spelled_characters run.value_characters) (sym run.body_is) run.spells;
        };
        plain = λ h. run.spelled_is ∙ ap encode_utf8_all (run.plain h);
        escaped = run.escaped;
      }

  pub between_unclosed : ((after : List ℕ) → rest ≢ close_mark ∷ after) → TextBeginsWithNone (IsBetween open_mark close_mark body) text
  between_unclosed none characters text_is other other_value other_rest e is =
      let whole : encode_utf8_all (open_mark ∷ (run.spelled_characters ++ run.rest_characters)) ≡ encode_utf8_all characters =
      encodes_ascii_front open_mark (run.spelled_characters ++ run.rest_characters) opens ∙ ap (λ r. open_mark ∷ r) (sym run.text_is) ∙ sym mark ∙ text_is in
      let same = same_between open_mark close_mark body run.spelled_characters run.value_characters run.rest_characters other other_value other_rest stops no_escape run.spells run.ends
      (encodes_same _ _ whole ∙ e) is in
      none (encode_utf8_all other_rest) (run.rest_is ∙ ap encode_utf8_all same.rest ∙ encodes_ascii_front close_mark other_rest closes)

pub between_unopened : (open_mark close_mark : ℕ) (body : Body) (text : List ℕ) → open_mark < 128 → ((inner : List ℕ) → text ≢ open_mark ∷ inner)
    → TextBeginsWithNone (IsBetween open_mark close_mark body) text
between_unopened open_mark close_mark body text opens none characters text_is other other_value other_rest e is =
    none _ (text_is ∙ ap encode_utf8_all (e ∙ ap (λ s. s ++ other_rest) is.marks) ∙ encodes_ascii_front open_mark ((is.inner ++ close_mark ∷ []) ++ other_rest) opens)
