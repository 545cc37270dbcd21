-- What the escapes at the front of a text rest on.
use Rattle.std.proofs.Common.{◌≡◌, ◌≢◌, ℕ, suc, ◌^◌, ◌<◌, ◌≤◌, true, false, List, [], ◌∷◌, ◌++◌, All, length, take, refl, sym, ap, subst, ◌∙◌, arith, ◌⊎◌, inl, inr, lit<, true≢false, Bool, not, ◌&&◌, nat_eq, nat_lt}
use Rattle.std.specs.Prelude.{encode_utf8}
use Rattle.std.specs.Char.{digit_value}
use Rattle.std.specs.Str.{IsAscii, IsUtf8, IsCharBoundary}
use Rattle.std.specs.Str.Parse.{digits_value, AllDigits}
use Rattle.std.specs.List.{list_all}
use Rattle.std.proofs.Math.Nat.{pow-le-pow_right}
use Rattle.std.proofs.lemmas.Bool.{and_parts, ltb-true}
use Rattle.std.proofs.lemmas.Bool.Decides.{nat_tests}
use Rattle.std.proofs.lemmas.Int.Digits.{digits_value-lt}
use Rattle.std.proofs.lemmas.Str.{encode_ascii, encode_same, IsUtf8-from_ascii, IsCharBoundary-from_take}
use Rattle.std.proofs.lemmas.Str.Ascii.{IsAscii-from_all}
use Rattle.rdf_terms.specs.Lists.{In}
use Rattle.char_tables.specs.Rows.{is_in}
use Rattle.char_tables.specs.Classes.{hex, excluded_from_iriref}
use Rattle.terminals.specs.Escapes.{echar_meanings, IsNumberOf, IsUchar, IsEchar, BeginsWithOne, BeginsWithNoOne}

-- ---- lists

pub same_head : {A : Type 0} (x y : A) (xs ys : List A) → x ∷ xs ≡ y ∷ ys → x ≡ y
same_head x y xs ys e = cc

pub same_tail : {A : Type 0} (x y : A) (xs ys : List A) → x ∷ xs ≡ y ∷ ys → xs ≡ ys
same_tail x y xs ys e = cc

-- two fronts of one length are the same
pub same_split : {A : Type 0} (xs ys us vs : List A) → xs ++ us ≡ ys ++ vs → length xs ≡ length ys → (xs ≡ ys) × (us ≡ vs)
same_split [] [] us vs e l = (refl, e)
same_split [] (y ∷ ys) us vs e l = absurd (omega arith)
same_split (x ∷ xs) [] us vs e l = absurd (omega arith)
same_split (x ∷ xs) (y ∷ ys) us vs e l =
    let h = same_head x y (xs ++ us) (ys ++ vs) e in
    let t = same_split xs ys us vs (same_tail x y (xs ++ us) (ys ++ vs) e) (omega arith) in
    (λ i. h i ∷ t.0 i, t.1)

-- a text begins with an ASCII character exactly where it begins with that byte
front_from_byte : (text rest more : List ℕ) (c byte : ℕ) → byte < 128 → text ≡ encode_utf8 c ++ rest → text ≡ byte ∷ more → (c ≡ byte) × (rest ≡ more)
front_from_byte text rest more c byte ascii e f =
    encode_same c byte rest more (sym e ∙ f ∙ ap (λ front. front ++ more) (sym (encode_ascii byte ascii)))

byte_from_front : (text rest : List ℕ) (c : ℕ) → c < 128 → text ≡ encode_utf8 c ++ rest → text ≡ c ∷ rest
byte_from_front text rest c ascii e = e ∙ ap (λ front. front ++ rest) (encode_ascii c ascii)

-- ---- hexadecimal digits

abbrev pub AllHex : List ℕ → Type 0
AllHex digits = All (λ d. is_in hex d ≡ true) digits

hex_digit-lt : (c : ℕ) → is_in hex c ≡ true → digit_value c < 16
hex_digit-lt c h = grind (arith, nat_tests)

hex_ascii : (c : ℕ) → is_in hex c ≡ true → c < 128
hex_ascii c h = grind (arith, nat_tests)

all_digits : (ds : List ℕ) → AllHex ds → AllDigits 16 ds
all_digits [] all = tt
all_digits (d ∷ ds) all = (hex_digit-lt d (all 0 0 (omega arith)), all_digits ds (λ k e l. all (suc k) e (omega arith)))

-- seven digits leave room for an eighth
pub digits_value-room : (ds : List ℕ) → AllHex ds → length ds ≤ 7 → digits_value 16 ds < 268435456
digits_value-room ds all short =
    let below = digits_value-lt 16 ds (all_digits ds all) in
    let most : 16 ^ length ds ≤ 16 ^ 7 = pow-le-pow_right (lit< tt) short in
    omega arith

pub hex_is_ascii : (ds : List ℕ) → AllHex ds → IsAscii ds
hex_is_ascii ds all = IsAscii-from_all ds (λ k d l. hex_ascii _ (all k d l))

-- the text may be cut behind digits
pub cut_behind_digits : (text : List ℕ) (n : ℕ) → IsUtf8 text → n ≤ length text → AllHex (take n text) → IsCharBoundary text n
cut_behind_digits text n utf8 within all =
    IsCharBoundary-from_take text n utf8 within (IsUtf8-from_ascii (take n text) (IsAscii-from_all (take n text) (λ k d l. hex_ascii _ (all k d l))))

-- ---- UCHAR

pub uchar_found : (text behind digits rest : List ℕ) (letter count c : ℕ) → text ≡ 92 ∷ behind → letter < 128 → behind ≡ encode_utf8 letter ++ digits
    → ((letter ≡ 117) × (count ≡ 4)) ⊎ ((letter ≡ 85) × (count ≡ 8)) → BeginsWithOne (IsNumberOf count) digits c rest → BeginsWithOne IsUchar text c rest
uchar_found text behind digits rest letter count c mark ascii front counts one = record {
  spelled = 92 ∷ letter ∷ one.spelled;
  splits = mark ∙ ap (λ bs. 92 ∷ bs) (byte_from_front behind digits letter ascii front) ∙ ap (λ ds. 92 ∷ letter ∷ ds) one.splits;
  fits = record { letter = letter; digits = one.spelled; spelling = refl; named = named counts };
}
  where
    named : ((letter ≡ 117) × (count ≡ 4)) ⊎ ((letter ≡ 85) × (count ≡ 8)) → ((letter ≡ 117) × IsNumberOf 4 one.spelled c) ⊎ ((letter ≡ 85) × IsNumberOf 8 one.spelled c)
    named (inl (l, n)) = inl (l, subst (λ k. IsNumberOf k one.spelled c) n one.fits)
    named (inr (l, n)) = inr (l, subst (λ k. IsNumberOf k one.spelled c) n one.fits)

-- the letter and the digits of a UCHAR at the front
pub uchar_front : (text behind digits : List ℕ) (letter : ℕ) → text ≡ 92 ∷ behind → behind ≡ encode_utf8 letter ++ digits
    → (spelled : List ℕ) (c : ℕ) (rest : List ℕ) → text ≡ spelled ++ rest → IsUchar spelled c
    → ((letter ≡ 117) × BeginsWithOne (IsNumberOf 4) digits c rest) ⊎ ((letter ≡ 85) × BeginsWithOne (IsNumberOf 8) digits c rest)
uchar_front text behind digits letter mark front spelled c rest splits is = by is.named
  where
    behind_is : behind ≡ is.letter ∷ (is.digits ++ rest)
    behind_is = same_tail 92 92 behind (is.letter ∷ (is.digits ++ rest)) (sym mark ∙ splits ∙ ap (λ s. s ++ rest) is.spelling)

    cut : is.letter < 128 → (letter ≡ is.letter) × (digits ≡ is.digits ++ rest)
    cut ascii = front_from_byte behind digits (is.digits ++ rest) letter is.letter ascii front behind_is

    by : ((is.letter ≡ 117) × IsNumberOf 4 is.digits c) ⊎ ((is.letter ≡ 85) × IsNumberOf 8 is.digits c)
        → ((letter ≡ 117) × BeginsWithOne (IsNumberOf 4) digits c rest) ⊎ ((letter ≡ 85) × BeginsWithOne (IsNumberOf 8) digits c rest)
    by (inl (l, n)) = let p = cut (omega arith) in inl (p.0 ∙ l, record { spelled = is.digits; splits = p.1; fits = n })
    by (inr (l, n)) = let p = cut (omega arith) in inr (p.0 ∙ l, record { spelled = is.digits; splits = p.1; fits = n })

pub uchar_none : (text behind digits : List ℕ) (letter : ℕ) → text ≡ 92 ∷ behind → behind ≡ encode_utf8 letter ++ digits → letter ≢ 117 → letter ≢ 85 → BeginsWithNoOne IsUchar text
uchar_none text behind digits letter mark front not_u not_U spelled c rest splits is = by (uchar_front text behind digits letter mark front spelled c rest splits is)
  where
    by : ((letter ≡ 117) × BeginsWithOne (IsNumberOf 4) digits c rest) ⊎ ((letter ≡ 85) × BeginsWithOne (IsNumberOf 8) digits c rest) → ⊥
    by (inl (l, one)) = not_u l
    by (inr (l, one)) = not_U l

-- ---- ECHAR

of_each : (p : ℕ × ℕ → Bool) (pairs : List (ℕ × ℕ)) (x : ℕ × ℕ) → list_all p pairs ≡ true → In x pairs → p x ≡ true
of_each p [] x all there = absurd there
of_each p (y ∷ ys) x all (inl e) = rw e (and_parts (p y) (list_all p ys) all).0
of_each p (y ∷ ys) x all (inr there) = of_each p ys x (and_parts (p y) (list_all p ys) all).1 there

-- what a test says of each pair of the table, it says of a letter and its meaning
pub of_meaning : (p : ℕ × ℕ → Bool) (letter c : ℕ) → list_all p echar_meanings ≡ true → In (letter, c) echar_meanings → p (letter, c) ≡ true
of_meaning p letter c all there = of_each p echar_meanings (letter, c) all there

pub meaning_ascii : (letter c : ℕ) → In (letter, c) echar_meanings → letter < 128
meaning_ascii letter c there = ltb-true letter 128 (of_meaning (λ m. nat_lt m.0 128) letter c refl there)

-- such a letter is neither `u` nor `U`
pub meaning_letter : (letter c : ℕ) → In (letter, c) echar_meanings → (letter ≢ 117) × (letter ≢ 85)
meaning_letter letter c there =
    let t = of_meaning (λ m. not (nat_eq m.0 117) && not (nat_eq m.0 85)) letter c refl there in
    (λ e. true≢false (sym t ∙ rw e refl), λ e. true≢false (sym t ∙ rw e refl))

pub echar_found : (text behind rest : List ℕ) (letter c : ℕ) → text ≡ 92 ∷ behind → behind ≡ encode_utf8 letter ++ rest → In (letter, c) echar_meanings
    → BeginsWithOne IsEchar text c rest
echar_found text behind rest letter c mark front meaning = record {
  spelled = 92 ∷ letter ∷ [];
  splits = mark ∙ ap (λ bs. 92 ∷ bs) (byte_from_front behind rest letter (meaning_ascii letter c meaning) front);
  fits = record { letter = letter; spelling = refl; meaning = meaning };
}

pub echar_none : (text behind rest : List ℕ) (letter : ℕ) → text ≡ 92 ∷ behind → behind ≡ encode_utf8 letter ++ rest → ((c : ℕ) → ¬ (In (letter, c) echar_meanings))
    → BeginsWithNoOne IsEchar text
echar_none text behind rest letter mark front none spelled c after splits is =
    let behind_is = same_tail 92 92 behind (is.letter ∷ after) (sym mark ∙ splits ∙ ap (λ s. s ++ after) is.spelling) in
    let p = front_from_byte behind rest after letter is.letter (meaning_ascii is.letter c is.meaning) front behind_is in
    none c (subst (λ l. In (l, c) echar_meanings) (sym p.0) is.meaning)

-- ---- one spelling, one character

pub same_uchar : (xs ys us vs : List ℕ) (c d : ℕ) → xs ++ us ≡ ys ++ vs → IsUchar xs c → IsUchar ys d → (xs ≡ ys) × (c ≡ d)
same_uchar xs ys us vs c d e x y = by x.named y.named
  where
    whole : 92 ∷ (x.letter ∷ (x.digits ++ us)) ≡ 92 ∷ (y.letter ∷ (y.digits ++ vs))
    whole = sym (ap (λ s. s ++ us) x.spelling) ∙ e ∙ ap (λ s. s ++ vs) y.spelling

    behind : x.letter ∷ (x.digits ++ us) ≡ y.letter ∷ (y.digits ++ vs)
    behind = same_tail 92 92 (x.letter ∷ (x.digits ++ us)) (y.letter ∷ (y.digits ++ vs)) whole

    letters : x.letter ≡ y.letter
    letters = same_head x.letter y.letter (x.digits ++ us) (y.digits ++ vs) behind

    numbers : (n : ℕ) → IsNumberOf n x.digits c → IsNumberOf n y.digits d → (xs ≡ ys) × (c ≡ d)
    numbers n p q =
        let digits = same_split x.digits y.digits us vs (same_tail x.letter y.letter (x.digits ++ us) (y.digits ++ vs) behind) (p.count_is ∙ sym q.count_is) in
        (x.spelling ∙ (λ i. 92 ∷ letters i ∷ digits.0 i) ∙ sym y.spelling, p.number ∙ ap (digits_value 16) digits.0 ∙ sym q.number)

    by : ((x.letter ≡ 117) × IsNumberOf 4 x.digits c) ⊎ ((x.letter ≡ 85) × IsNumberOf 8 x.digits c) → ((y.letter ≡ 117) × IsNumberOf 4 y.digits d) ⊎ ((y.letter ≡ 85) × IsNumberOf 8 y.digits d)
        → (xs ≡ ys) × (c ≡ d)
    by (inl (l, p)) (inl (m, q)) = numbers 4 p q
    by (inl (l, p)) (inr (m, q)) = absurd (omega (arith, letters))
    by (inr (l, p)) (inl (m, q)) = absurd (omega (arith, letters))
    by (inr (l, p)) (inr (m, q)) = numbers 8 p q

-- an escape of an excluded character is none of an IRI
pub iri_escape_none : (text rest : List ℕ) (c : ℕ) → BeginsWithOne IsUchar text c rest → is_in excluded_from_iriref c ≡ true
    → (spelled : List ℕ) (d : ℕ) (after : List ℕ) → text ≡ spelled ++ after → IsUchar spelled d → is_in excluded_from_iriref d ≡ false → ⊥
iri_escape_none text rest c one excluded spelled d after splits is allowed =
    let same = same_uchar one.spelled spelled rest after c d (sym one.splits ∙ splits) one.fits is in
    true≢false (sym excluded ∙ ap (is_in excluded_from_iriref) same.1 ∙ allowed)
