-- Characters that stand for themselves: the longest front of them is found by its bytes, since all others are ASCII.
use Rattle.std.proofs.Common.{◌≡◌, ℕ, zero, suc, ◌+◌, ◌<◌, ◌≤◌, true, false, List, [], ◌∷◌, ◌++◌, All, length, drop, get_or, refl, sym, ap, subst, ◌∙◌, arith, ◌⊎◌, inl, inr, true≢false}
use Rattle.std.specs.Prelude.{encode_utf8, encode_utf8_all}
use Rattle.std.specs.Char.{IsScalar}
use Rattle.std.specs.List.{prefix_len}
use Rattle.std.specs.Str.{IsUtf8, IsCharBoundary, all_scalars}
use Rattle.std.proofs.lemmas.Bool.{and_parts, cases_Bool, cases_lt}
use Rattle.std.proofs.lemmas.Bool.Decides.{nat_tests}
use Rattle.std.proofs.lemmas.List.{append-nil, length-append, drop_at, get_or_default}
use Rattle.std.proofs.lemmas.Str.{encode_ascii, inside_one, encodes-append, IsCharBoundary-from_drop}
use Rattle.char_tables.proofs.LaneLengths.{prefix_len-append}
use Rattle.terminals.specs.declared.bodies.Quote.TheVariants.{Double, Single}
use Rattle.terminals.specs.declared.bodies.Body.{Body}
use Rattle.terminals.specs.declared.bodies.Body.TheVariants.{Iri, Short, Long}
use Rattle.terminals.specs.Spellings.{stands_for_itself, Spells}

pub stands_past_ascii : (body : Body) (c : ℕ) → 128 ≤ c → stands_for_itself body c ≡ true
stands_past_ascii Iri c past = grind (arith, nat_tests)
stands_past_ascii (Short Double) c past = grind (arith, nat_tests)
stands_past_ascii (Short Single) c past = grind (arith, nat_tests)
stands_past_ascii (Long Double) c past = grind (arith, nat_tests)
stands_past_ascii (Long Single) c past = grind (arith, nat_tests)

-- the bytes of a character past ASCII are past ASCII
pub byte_past_ascii : (c k : ℕ) → 128 ≤ c → k < length (encode_utf8 c) → 128 ≤ get_or (encode_utf8 c) k 0
byte_past_ascii c k past within = by (cases_lt (get_or (encode_utf8 c) k 0) 128)
  where
    by : (get_or (encode_utf8 c) k 0 < 128) ⊎ (128 ≤ get_or (encode_utf8 c) k 0) → 128 ≤ get_or (encode_utf8 c) k 0
    by (inl below) = let same = inside_one c [] (encode_utf8 c) k (sym (append-nil (encode_utf8 c))) within below in omega arith
    by (inr above) = above

pub all_one : (P : ℕ → Type 0) (x : ℕ) → P x → All P (x ∷ [])
all_one P x h zero d l = h
all_one P x h (suc k) d l = absurd (omega arith)

-- each byte of a character that stands for itself does so
pub bytes_stand : (body : Body) (c : ℕ) → stands_for_itself body c ≡ true → All (λ b. stands_for_itself body b ≡ true) (encode_utf8 c)
bytes_stand body c stands = by (cases_lt c 128)
  where
    by : (c < 128) ⊎ (128 ≤ c) → All (λ b. stands_for_itself body b ≡ true) (encode_utf8 c)
    by (inl ascii) = subst (All (λ b. stands_for_itself body b ≡ true)) (sym (encode_ascii c ascii)) (all_one (λ b. stands_for_itself body b ≡ true) c stands)
    by (inr past) = λ k d l.
        stands_past_ascii body _ (subst (λ b. 128 ≤ b) (get_or_default (encode_utf8 c) k 0 d l) (byte_past_ascii c k past l))

-- the longest front of characters that stand for themselves
pub record PlainFront (body : Body) (characters : List ℕ) : Type 0 where
  pub front : List ℕ
  pub back : List ℕ
  pub splits : characters ≡ front ++ back
  pub len : prefix_len (stands_for_itself body) (encode_utf8_all characters) ≡ length (encode_utf8_all front)
  pub spells : Spells body front front
  pub stops : (c : ℕ) (more : List ℕ) → back ≡ c ∷ more → stands_for_itself body c ≡ false
  pub scalars : all_scalars back ≡ true

pub plain_front : (body : Body) (characters : List ℕ) → all_scalars characters ≡ true → PlainFront body characters
plain_front body [] scalars = record { front = []; back = []; splits = refl; len = refl; spells = refl; stops = λ c more e. cc; scalars = refl }
plain_front body (c ∷ cs) scalars = by (plain_front body cs (and_parts _ (all_scalars cs) scalars).1) (cases_Bool (stands_for_itself body c))
  where
    parts : IsScalar c × (all_scalars cs ≡ true)
    parts = and_parts _ (all_scalars cs) scalars

    by : PlainFront body cs → (stands_for_itself body c ≡ true) ⊎ (stands_for_itself body c ≡ false) → PlainFront body (c ∷ cs)
    by rest (inl stands) =
        record {
          front = c ∷ rest.front;
          back = rest.back;
          splits = ap (λ l. c ∷ l) rest.splits;
          len = prefix_len-append (stands_for_itself body) (encode_utf8 c) (encode_utf8_all cs) (bytes_stand body c stands)
              ∙ ap (λ n. length (encode_utf8 c) + n) rest.len ∙ sym (length-append (encode_utf8 c) (encode_utf8_all rest.front));
          spells = (c ∷ [], rest.front, refl, inl (refl, stands, parts.0), rest.spells);
          stops = rest.stops;
          scalars = rest.scalars;
        }
    by rest (inr stops) = record {
      front = [];
      back = c ∷ cs;
      splits = refl;
      len = ap (λ bs. prefix_len (stands_for_itself body) (bs ++ encode_utf8_all cs)) (encode_ascii c ascii) ∙ none;
      spells = refl;
      stops = λ d more e. let same : c ≡ d = cc in subst (λ x. stands_for_itself body x ≡ false) same stops;
      scalars = scalars;
    }
      where
        ascii : c < 128
        ascii = side (cases_lt c 128)
          where
            side : (c < 128) ⊎ (128 ≤ c) → c < 128
            side (inl below) = below
            side (inr past) = absurd (true≢false (sym (stands_past_ascii body c past) ∙ stops))

        none : prefix_len (stands_for_itself body) (c ∷ encode_utf8_all cs) ≡ 0
        none = rw stops refl

-- ---- the same of a text

pub behind_plain : (body : Body) (text : List ℕ) (characters : List ℕ) (plain : PlainFront body characters) → encode_utf8_all characters ≡ text
    → drop (prefix_len (stands_for_itself body) text) text ≡ encode_utf8_all plain.back
behind_plain body text characters plain is =
    let cut : text ≡ encode_utf8_all plain.front ++ encode_utf8_all plain.back = sym is ∙ ap encode_utf8_all plain.splits ∙ encodes-append plain.front plain.back in
    let len : length (encode_utf8_all plain.front) ≡ prefix_len (stands_for_itself body) text = sym plain.len ∙ ap (prefix_len (stands_for_itself body)) is in
    ap (drop (prefix_len (stands_for_itself body) text)) cut ∙ drop_at (encode_utf8_all plain.front) (encode_utf8_all plain.back) (prefix_len (stands_for_itself body) text) len

pub cut_behind_plain : (body : Body) (text : List ℕ) (n : ℕ) → IsUtf8 text → n ≡ prefix_len (stands_for_itself body) text → n ≤ length text → IsCharBoundary text n
cut_behind_plain body text n utf8 is within =
    let plain = plain_front body utf8.0 utf8.1.0 in
    let rest : IsUtf8 (drop n text) = (plain.back, (plain.scalars, sym (ap (λ k. drop k text) is ∙ behind_plain body text utf8.0 plain utf8.1.1))) in
    IsCharBoundary-from_drop text n within rest
