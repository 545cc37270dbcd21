-- A string with canonical escapes is spelled in the grammar.
use Rattle.std.proofs.Common.{◌≡◌, ℕ, ◌+◌, ◌*◌, ◌/◌, ◌%◌, ◌<◌, ◌≤◌, true, false, ◌==◌, [], ◌∷◌, ◌++◌, All, refl, sym, ap, subst, ◌∙◌, arith, ◌⊎◌, inl, inr, append-nil}
use Rattle.std.specs.Prelude.{encode_utf8, encode_utf8_all}
use Rattle.std.specs.Char.{IsScalar, digit_value}
use Rattle.std.specs.List.{flat_map}
use Rattle.std.specs.Str.{IsAscii, all_scalars}
use Rattle.std.specs.Str.Parse.{digits_value}
use Rattle.std.proofs.lemmas.Bool.{and_from, and_parts, cases_lt, cond_both, eqb-true}
use Rattle.std.proofs.lemmas.Bool.Decides.{nat_tests}
use Rattle.std.proofs.lemmas.List.{get_or_default}
use Rattle.std.proofs.lemmas.List.Concat.{flat_map-append, flat_map-cons}
use Rattle.std.proofs.lemmas.List.Elements.{All-nil, All-cons, All-head, All-tail}
use Rattle.std.proofs.lemmas.Str.{encode_ascii, encodes-append, encodes-IsAscii, encodes_same, IsUtf8-from_ascii}
use Rattle.std.proofs.lemmas.Str.Ascii.{IsAscii-cons, IsAscii-nil}
use Rattle.rdf_terms.proofs.Common.{Text, In, escaped, hex_digit, is_written_by_number}
use Rattle.char_tables.specs.Rows.{is_in}
use Rattle.char_tables.specs.Classes.{hex}
use Rattle.terminals.specs.Terminal.{Characters}
use Rattle.terminals.specs.Escapes.{echar_meanings}
use Rattle.terminals.specs.Spellings.{SpellsOne, Spells}
use Rattle.terminals.specs.declared.bodies.Quote.TheVariants.{Double}
use Rattle.terminals.specs.declared.bodies.Body.TheVariants.{Short}
use Rattle.terminals.proofs.Escaping.{AllHex}
use Rattle.terminals.proofs.Facts.{ascii_scalar}
use Rattle.terminals.proofs.Plain.{stands_past_ascii, byte_past_ascii}

abbrev IsOne : Characters → ℕ → Type 0
IsOne spelled c = SpellsOne (Short Double) spelled c

-- ---- one ASCII character

by_letter : (e c : ℕ) → In (e, c) echar_meanings → IsOne (92 ∷ e ∷ []) c
by_letter e c meaning = inr (inr (record { letter = e; spelling = refl; meaning = meaning }))

hex_digit-hex : (d : ℕ) → d < 16 → is_in hex (hex_digit d) ≡ true
hex_digit-hex d h = grind (arith, nat_tests)

hex_digit-value : (d : ℕ) → d < 16 → digit_value (hex_digit d) ≡ d
hex_digit-value d h = grind (arith, nat_tests)

four_digits : (a b high low : ℕ) → digit_value a ≡ high → digit_value b ≡ low → digits_value 16 (48 ∷ 48 ∷ a ∷ b ∷ []) ≡ 16 * high + low
four_digits a b high low e f = omega (arith, e, f)

four_hex : (a b : ℕ) → is_in hex a ≡ true → is_in hex b ≡ true → AllHex (48 ∷ 48 ∷ a ∷ b ∷ [])
four_hex a b h k =
    let hexes = λ (d : ℕ). is_in hex d ≡ true in
    All-cons hexes 48 (48 ∷ a ∷ b ∷ []) refl (All-cons hexes 48 (a ∷ b ∷ []) refl (All-cons hexes a (b ∷ []) h (All-cons hexes b [] k (All-nil hexes))))

by_number : (c : ℕ) → c < 128 → IsOne (92 ∷ 117 ∷ 48 ∷ 48 ∷ hex_digit (c / 16) ∷ hex_digit (c % 16) ∷ []) c
by_number c h =
    let high : c / 16 < 16 = omega arith in
    let low : c % 16 < 16 = omega arith in
    let whole : 16 * (c / 16) + c % 16 ≡ c = omega arith in
    inr (inl (record {
      letter = 117;
      digits = 48 ∷ 48 ∷ hex_digit (c / 16) ∷ hex_digit (c % 16) ∷ [];
      spelling = refl;
      named = inl (
        refl,
        record {
          count_is = refl;
          all_hex = four_hex (hex_digit (c / 16)) (hex_digit (c % 16)) (hex_digit-hex (c / 16) high) (hex_digit-hex (c % 16) low);
          number = sym (four_digits (hex_digit (c / 16)) (hex_digit (c % 16)) (c / 16) (c % 16) (hex_digit-value (c / 16) high) (hex_digit-value (c % 16) low) ∙ whole);
          scalar = ascii_scalar c h;
        },
      );
    }))

as_it_stands : (c : ℕ) → c < 128 → (c == 10) ≡ false → (c == 13) ≡ false → (c == 34) ≡ false → (c == 92) ≡ false → IsOne (c ∷ []) c
as_it_stands c h lf cr quote backslash = inl (refl, rw (quote, backslash, lf, cr) refl, ascii_scalar c h)

abbrev letter_for : ℕ → ℕ → ℕ × ℕ
letter_for e c = (e, c)

meant : (e c d : ℕ) → (c == d) ≡ true → letter_for e c ≡ letter_for e d
meant e c d h = ap (letter_for e) (eqb-true c d h)

escaped-one : (c : ℕ) → c < 128 → IsOne (escaped c) c
unfolding escaped
escaped-one c h =
    cond_both (c == 8) _ _ (λ w. IsOne w c) (λ e. by_letter 98 c (inr (inl (meant 98 c 8 e))))
    (λ _. cond_both (c == 9) _ _ (λ w. IsOne w c) (λ e. by_letter 116 c (inl (meant 116 c 9 e)))
    (λ _. cond_both (c == 10) _ _ (λ w. IsOne w c) (λ e. by_letter 110 c (inr (inr (inl (meant 110 c 10 e)))))
    (λ lf. cond_both (c == 12) _ _ (λ w. IsOne w c) (λ e. by_letter 102 c (inr (inr (inr (inr (inl (meant 102 c 12 e)))))))
    (λ _. cond_both (c == 13) _ _ (λ w. IsOne w c) (λ e. by_letter 114 c (inr (inr (inr (inl (meant 114 c 13 e))))))
    (λ cr. cond_both (c == 34) _ _ (λ w. IsOne w c) (λ e. by_letter 34 c (inr (inr (inr (inr (inr (inl (meant 34 c 34 e))))))))
    (λ quote. cond_both (c == 92) _ _ (λ w. IsOne w c) (λ e. by_letter 92 c (inr (inr (inr (inr (inr (inr (inr (inl (meant 92 c 92 e))))))))))
    (λ backslash. cond_both (is_written_by_number c) _ _ (λ w. IsOne w c) (λ _. by_number c h)
    (λ _. as_it_stands c h lf cr quote backslash))))))))

hex_digit-ascii : (d : ℕ) → d < 16 → hex_digit d < 128
hex_digit-ascii d h = grind (arith, nat_tests)

two_ascii : (c d : ℕ) → c < 128 → d < 128 → IsAscii (c ∷ d ∷ [])
two_ascii c d h k = IsAscii-cons c (d ∷ []) h (IsAscii-cons d [] k IsAscii-nil)

number_ascii : (a b : ℕ) → a < 128 → b < 128 → IsAscii (92 ∷ 117 ∷ 48 ∷ 48 ∷ a ∷ b ∷ [])
number_ascii a b h k =
    IsAscii-cons 92 (117 ∷ 48 ∷ 48 ∷ a ∷ b ∷ []) (omega arith) (IsAscii-cons 117 (48 ∷ 48 ∷ a ∷ b ∷ []) (omega arith)
    (IsAscii-cons 48 (48 ∷ a ∷ b ∷ []) (omega arith) (IsAscii-cons 48 (a ∷ b ∷ []) (omega arith) (two_ascii a b h k))))

escaped-ascii : (c : ℕ) → c < 128 → IsAscii (escaped c)
unfolding escaped
escaped-ascii c h =
    cond_both (c == 8) _ _ IsAscii (λ _. two_ascii 92 98 (omega arith) (omega arith))
    (λ _. cond_both (c == 9) _ _ IsAscii (λ _. two_ascii 92 116 (omega arith) (omega arith))
    (λ _. cond_both (c == 10) _ _ IsAscii (λ _. two_ascii 92 110 (omega arith) (omega arith))
    (λ _. cond_both (c == 12) _ _ IsAscii (λ _. two_ascii 92 102 (omega arith) (omega arith))
    (λ _. cond_both (c == 13) _ _ IsAscii (λ _. two_ascii 92 114 (omega arith) (omega arith))
    (λ _. cond_both (c == 34) _ _ IsAscii (λ _. two_ascii 92 34 (omega arith) (omega arith))
    (λ _. cond_both (c == 92) _ _ IsAscii (λ _. two_ascii 92 92 (omega arith) (omega arith))
    (λ _. cond_both (is_written_by_number c) _ _ IsAscii (λ _. number_ascii (hex_digit (c / 16)) (hex_digit (c % 16)) (hex_digit-ascii (c / 16) (omega arith)) (hex_digit-ascii (c % 16) (omega arith)))
    (λ _. IsAscii-cons c [] h IsAscii-nil))))))))

-- ---- all characters

past_ascii : (b : ℕ) → 128 ≤ b → escaped b ≡ b ∷ []
unfolding escaped
past_ascii b past = grind (arith, nat_tests)

-- bytes past ASCII are written as they are
unescaped : (bs : Text) → All (λ b. 128 ≤ b) bs → flat_map escaped bs ≡ bs
unescaped [] h = refl
unescaped (b ∷ bs) h =
    let past : 128 ≤ b = All-head (λ b. 128 ≤ b) b bs h in
    flat_map-cons escaped b bs ∙ (λ i. past_ascii b past i ++ unescaped bs (All-tail (λ b. 128 ≤ b) b bs h) i)

ascii_scalars : (bs : Text) → IsAscii bs → all_scalars bs ≡ true
ascii_scalars bs h =
    let utf8 = IsUtf8-from_ascii bs h in
    ap all_scalars (sym (encodes_same utf8.0 bs (utf8.1.1 ∙ sym (encodes-IsAscii bs h)))) ∙ utf8.1.0

-- what is written for the character, in characters
record WrittenOne (c : ℕ) : Type 0 where
  spelled : Characters
  is : encode_utf8_all spelled ≡ flat_map escaped (encode_utf8 c)
  scalars : all_scalars spelled ≡ true
  spells : SpellsOne (Short Double) spelled c

written_one : (c : ℕ) → IsScalar c → WrittenOne c
written_one c scalar = by (cases_lt c 128)
  where
    by : (c < 128) ⊎ (128 ≤ c) → WrittenOne c
    by (inl ascii) = record {
      spelled = escaped c;
      is = encodes-IsAscii (escaped c) (escaped-ascii c ascii) ∙ sym (ap (flat_map escaped) (encode_ascii c ascii) ∙ flat_map-cons escaped c [] ∙ append-nil (escaped c));
      scalars = ascii_scalars (escaped c) (escaped-ascii c ascii);
      spells = escaped-one c ascii;
    }
    by (inr past) = record {
      spelled = c ∷ [];
      is = append-nil (encode_utf8 c) ∙ sym (unescaped (encode_utf8 c) (λ k d l. subst (λ b. 128 ≤ b) (get_or_default (encode_utf8 c) k 0 d l) (byte_past_ascii c k past l)));
      scalars = and_from _ true scalar refl;
      spells = inl (refl, stands_past_ascii (Short Double) c past, scalar);
    }

scalars-append : (xs ys : Characters) → all_scalars xs ≡ true → all_scalars ys ≡ true → all_scalars (xs ++ ys) ≡ true
scalars-append [] ys h k = k
scalars-append (x ∷ xs) ys h k =
    let parts = and_parts _ (all_scalars xs) h in
    and_from _ (all_scalars (xs ++ ys)) parts.0 (scalars-append xs ys parts.1 k)

-- what is written for the characters, in characters
pub record WrittenString (value : Characters) : Type 0 where
  pub spelled : Characters
  pub is : encode_utf8_all spelled ≡ flat_map escaped (encode_utf8_all value)
  pub scalars : all_scalars spelled ≡ true
  pub spells : Spells (Short Double) spelled value

pub written_string : (value : Characters) → all_scalars value ≡ true → WrittenString value
written_string [] h = record { spelled = []; is = refl; scalars = refl; spells = refl }
written_string (c ∷ cs) h =
    let parts = and_parts _ (all_scalars cs) h in
    let one = written_one c parts.0 in
    let more = written_string cs parts.1 in
    record {
      spelled = one.spelled ++ more.spelled;
      is = encodes-append one.spelled more.spelled ∙ (λ i. one.is i ++ more.is i) ∙ sym (flat_map-append escaped (encode_utf8 c) (encode_utf8_all cs));
      scalars = scalars-append one.spelled more.spelled one.scalars more.scalars;
      spells = (one.spelled, more.spelled, refl, one.spells, more.spells);
    }
