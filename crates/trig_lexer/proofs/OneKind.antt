-- What spells a token tells its kind: no two kinds have a spelling in common.
use Rattle.std.proofs.Common.{◌≡◌, ◌≢◌, ℕ, suc, ◌+◌, ◌<◌, Bool, true, false, ◌&&◌, ◌||◌, ◌==◌, nat_lt, nat_le, List, [], ◌∷◌, ◌++◌, length, map, if◌then◌else◌, refl, sym, ap, subst, ◌∙◌, arith, inl, inr, ◌⊎◌}
use Rattle.std.specs.Prelude.{codes}
use Rattle.std.specs.Char.{is_ascii_digit, to_ascii_lowercase}
use Rattle.std.specs.List.{concat, list_any}
use Rattle.std.specs.Str.{bytes_eq}
use Rattle.std.proofs.Math.Bool.{or-true}
use Rattle.std.proofs.lemmas.Bool.{cases_Bool, and_parts}
use Rattle.std.proofs.lemmas.Bool.Decides.{nat_tests}
use Rattle.std.proofs.lemmas.List.{append_assoc, append-nil, length-append}
use Rattle.std.proofs.lemmas.List.Folds.{list_any-append, list_any_none}
use Rattle.std.proofs.lemmas.Slice.Eq.{bytes_eq-Decides}
use Rattle.char_tables.specs.Rows.{Rows, row_holds, is_in}
use Rattle.char_tables.specs.Classes.{pn_chars_base}
use Rattle.terminals.specs.Terminal.{Characters}
use Rattle.terminals.specs.Spellings.{quote_mark}
use Rattle.terminals.specs.declared.bodies.Quote.{Quote}
use Rattle.terminals.specs.declared.bodies.Quote.TheVariants.{Double as DoubleQuote, Single}
use Rattle.terminals.proofs.Escaping.{same_head}
use Rattle.trig_lexer.specs.declared.kind.Kind.{Kind}
use Rattle.trig_lexer.specs.declared.kind.Kind.TheVariants.{AtPrefix, AtBase, WordPrefix, WordBase, WordGraph, WordA, WordTrue, WordFalse, Dot, Semicolon, Comma, Carets, LeftBrace, RightBrace, LeftBracket, RightBracket, LeftParen, RightParen, IriRef, PnameNs, PnameLn, BlankLabel, Anon, Integer, Decimal, Double, Quoted, LangTag, End}
use Rattle.trig_lexer.specs.declared.parts.Part.TheVariants.{Prefix, Local}
use Rattle.trig_lexer.specs.declared.parts.Place.TheVariants.{First}
use Rattle.trig_lexer.specs.WhiteSpace.{AreGapsThen, IsSkipped}
use Rattle.trig_lexer.specs.WhiteSpace.AreGapsThen.{no_gap, one_gap}
use Rattle.trig_lexer.specs.Words.{IsLangTag}
use Rattle.trig_lexer.specs.Numbers.{AreDigits, AreSomeDigits, IsSign, IsSigned, IsFraction, IsMantissa, HasExponent, IsExponentLetter}
use Rattle.trig_lexer.specs.Strings.{three_marks, IsQuoted}
use Rattle.trig_lexer.specs.Names.{IsPiece, IsPart, IsPnameNs, IsPnameLn}
use Rattle.trig_lexer.specs.Tokens.{IsToken}
use Rattle.trig_lexer.proofs.WhiteSpace.{gap_front}
use Rattle.trig_lexer.proofs.Naming.{HasNoColon, is_no_colon, prefix_no_colon}

-- ---- by the first character

-- what a first character tells
data Class : Type 0 where
  Lettered : Class  -- words and prefixed names
  Marked : Class  -- what begins with `@`
  Numeric : Class  -- numbers and the dot
  Bracketed : Class  -- `[` and ANON
  Only : Kind → Class

-- the characters that do not begin a word or a name, in rows from the first to the last
abbrev fronts : List (ℕ × ℕ × Class)
fronts =
    (48, 57, Numeric) ∷ (46, 46, Numeric) ∷ (43, 43, Numeric) ∷ (45, 45, Numeric) ∷ (64, 64, Marked) ∷ (91, 91, Bracketed) ∷ (59, 59, Only Semicolon) ∷ (44, 44, Only Comma)
    ∷ (94, 94, Only Carets) ∷ (123, 123, Only LeftBrace) ∷ (125, 125, Only RightBrace) ∷ (93, 93, Only RightBracket) ∷ (40, 40, Only LeftParen) ∷ (41, 41, Only RightParen)
    ∷ (60, 60, Only IriRef) ∷ (95, 95, Only BlankLabel) ∷ (34, 34, Only Quoted) ∷ (39, 39, Only Quoted) ∷ []

abbrev class_in : List (ℕ × ℕ × Class) → ℕ → Class
class_in [] c = Lettered
class_in (f ∷ fs) c = if nat_le f.0 c && nat_le c f.1 then f.2 else class_in fs c

abbrev class_of : ℕ → Class
class_of c = class_in fronts c

abbrev class : Characters → Class
class [] = Lettered
class (c ∷ cs) = class_of c

-- ---- by the other characters

abbrev is_colon : ℕ → Bool
is_colon c = c == 58

abbrev is_letter : ℕ → Bool
is_letter c = c == 101 || c == 69

abbrev is_dot : ℕ → Bool
is_dot c = c == 46

abbrev is_empty : Characters → Bool
is_empty [] = true
is_empty (c ∷ cs) = false

-- what stands behind the first `:`
abbrev behind_colon : Characters → Characters
behind_colon [] = []
behind_colon (c ∷ cs) = if is_no_colon c then behind_colon cs else cs

abbrev word_kind : ℕ → Kind
word_kind c =
    if c == 97 then WordA else if c == 116 then WordTrue else if c == 102 then WordFalse else if c == 112 then WordPrefix else if c == 98 then WordBase else WordGraph

abbrev first_letter : Characters → ℕ
first_letter [] = 0
first_letter (c ∷ cs) = to_ascii_lowercase c

abbrev name_kind : Bool → Kind
name_kind nothing = if nothing then PnameNs else PnameLn

abbrev lettered_kind : Bool → Characters → Kind
lettered_kind colon s = if colon then name_kind (is_empty (behind_colon s)) else word_kind (first_letter s)

abbrev tag_kind : Bool → Characters → Kind
tag_kind after_string s = if after_string then LangTag else if bytes_eq s (codes "@prefix") then AtPrefix else if bytes_eq s (codes "@base") then AtBase else LangTag

abbrev dotted_kind : Bool → Kind
dotted_kind digit = if digit then Decimal else Dot

abbrev plain_kind : Bool → Characters → Kind
plain_kind dot s = if dot then dotted_kind (list_any is_ascii_digit s) else Integer

abbrev numeric_kind : Bool → Characters → Kind
numeric_kind letter s = if letter then Double else plain_kind (list_any is_dot s) s

abbrev bracket_kind : Characters → Kind
bracket_kind [] = Anon
bracket_kind (c ∷ cs) = if is_empty cs then LeftBracket else Anon

abbrev told_in : Bool → Class → Characters → Kind
told_in after_string Lettered s = lettered_kind (list_any is_colon s) s
told_in after_string Marked s = tag_kind after_string s
told_in after_string Numeric s = numeric_kind (list_any is_letter s) s
told_in after_string Bracketed s = bracket_kind s
told_in after_string (Only kind) s = kind

abbrev told : Bool → Characters → Kind
told after_string s = told_in after_string (class s) s

told_by : (after_string : Bool) (s : Characters) (c : Class) (kind : Kind) → class s ≡ c → told_in after_string c s ≡ kind → told after_string s ≡ kind
told_by after_string s c kind e is = ap (λ x. told_in after_string x s) e ∙ is

-- ---- words

no_colon_lowercase : (c : ℕ) → is_colon (to_ascii_lowercase c) ≡ is_colon c
no_colon_lowercase c = grind (arith, nat_tests)

colon_lowercase : (s : Characters) → list_any is_colon (map to_ascii_lowercase s) ≡ list_any is_colon s
colon_lowercase [] = refl
colon_lowercase (c ∷ cs) = λ i. no_colon_lowercase c i || colon_lowercase cs i

lowercase_from : (c m : ℕ) → to_ascii_lowercase c ≡ m → (c ≡ m) ⊎ (c + 32 ≡ m)
lowercase_from c m e = grind (arith, nat_tests)

word_class : (c m : ℕ) → to_ascii_lowercase c ≡ m + 32 → class_of (m + 32) ≡ Lettered → class_of m ≡ Lettered → class_of c ≡ Lettered
word_class c m e low up = elim (lowercase_from c (m + 32) e) as (λ _. class_of c ≡ Lettered) [
  | inl same ↦ subst (λ n. class_of n ≡ Lettered) (sym same) low
  | inr other ↦ let same : m ≡ c = omega arith in subst (λ n. class_of n ≡ Lettered) same up
]

-- a word in any case, of which this is the first letter in upper case
any_case_told : (after_string : Bool) (m : ℕ) (rest s : Characters) → map to_ascii_lowercase s ≡ (m + 32) ∷ rest → class_of (m + 32) ≡ Lettered → class_of m ≡ Lettered
    → list_any is_colon ((m + 32) ∷ rest) ≡ false → told after_string s ≡ word_kind (m + 32)
any_case_told after_string m rest [] e low up none = absurd (omega (arith, ap length e))
any_case_told after_string m rest (c ∷ cs) e low up none =
    let head : to_ascii_lowercase c ≡ m + 32 = same_head (to_ascii_lowercase c) (m + 32) (map to_ascii_lowercase cs) rest e in
    told_by after_string (c ∷ cs) Lettered (word_kind (m + 32)) (word_class c m head low up)
    (ap (λ b. lettered_kind b (c ∷ cs)) (sym (colon_lowercase (c ∷ cs)) ∙ ap (list_any is_colon) e ∙ none) ∙ ap word_kind head)

-- ---- names

-- the rows have no number in common with this one
abbrev is_apart : ℕ → ℕ → Rows → Bool
is_apart low high [] = true
is_apart low high (r ∷ rs) = (nat_lt high r.0 || nat_lt r.1 low) && is_apart low high rs

one_apart : (low high first last c : ℕ) → (nat_lt high first || nat_lt last low) ≡ true → (nat_le first c && nat_le c last) ≡ true → (nat_le low c && nat_le c high) ≡ false
one_apart low high first last c h i = grind (arith, nat_tests)

apart : (low high : ℕ) (rows : Rows) (c : ℕ) → is_apart low high rows ≡ true → is_in rows c ≡ true → (nat_le low c && nat_le c high) ≡ false
apart low high [] c h i = cc
apart low high (r ∷ rs) c h i =
    elim (cases_Bool (row_holds r c)) as (λ _. (nat_le low c && nat_le c high) ≡ false) [
      | inl here ↦ one_apart low high r.0 r.1 c ((and_parts (nat_lt high r.0 || nat_lt r.1 low) (is_apart low high rs) h).0) here
      | inr there ↦ apart low high rs c ((and_parts (nat_lt high r.0 || nat_lt r.1 low) (is_apart low high rs) h).1) (sym (ap (λ b. b || is_in rs c) there) ∙ i)
    ]

abbrev are_apart : List (ℕ × ℕ × Class) → Bool
are_apart [] = true
are_apart (f ∷ fs) = is_apart f.0 f.1 pn_chars_base && are_apart fs

base_class_in : (fs : List (ℕ × ℕ × Class)) (c : ℕ) → are_apart fs ≡ true → is_in pn_chars_base c ≡ true → class_in fs c ≡ Lettered
base_class_in [] c h i = refl
base_class_in (f ∷ fs) c h i =
    ap (λ b. if b then f.2 else class_in fs c) (apart f.0 f.1 pn_chars_base c ((and_parts (is_apart f.0 f.1 pn_chars_base) (are_apart fs) h).0) i)
    ∙ base_class_in fs c ((and_parts (is_apart f.0 f.1 pn_chars_base) (are_apart fs) h).1) i

base_class : (c : ℕ) → is_in pn_chars_base c ≡ true → class_of c ≡ Lettered
base_class c i = base_class_in fronts c refl i

piece_class : (first more : Characters) → IsPiece Prefix First first → class (first ++ more) ≡ Lettered
piece_class first more (inl (c, e, i)) = ap (λ f. class (f ++ more)) e ∙ base_class c i
piece_class first more (inr none) = absurd none

prefix_class : (prefix us : Characters) → (prefix ≡ []) ⊎ IsPart Prefix prefix → class (prefix ++ 58 ∷ us) ≡ Lettered
prefix_class prefix us (inl none) = ap (λ p. class (p ++ 58 ∷ us)) none
prefix_class prefix us (inr x) =
    ap (λ p. class (p ++ 58 ∷ us)) x.spelling ∙ ap class (append_assoc x.first x.more (58 ∷ us)) ∙ piece_class x.first (x.more ++ 58 ∷ us) x.begins

behind_is : (xs us : Characters) → HasNoColon xs → behind_colon (xs ++ 58 ∷ us) ≡ us
behind_is [] us none = refl
behind_is (x ∷ xs) us none =
    let first : is_no_colon x ≡ true = none 0 0 (omega arith) in
    ap (λ b. if b then behind_colon (xs ++ 58 ∷ us) else xs ++ 58 ∷ us) first ∙ behind_is xs us (λ k d l. none (suc k) d (omega arith))

name_told : (after_string : Bool) (prefix us s : Characters) (nothing : Bool) → s ≡ prefix ++ 58 ∷ us → (prefix ≡ []) ⊎ IsPart Prefix prefix → is_empty us ≡ nothing
    → told after_string s ≡ name_kind nothing
name_told after_string prefix us s nothing e is same =
    ap (told after_string) e ∙ told_by after_string (prefix ++ 58 ∷ us) Lettered (name_kind nothing) (prefix_class prefix us is)
    (ap (λ b. lettered_kind b (prefix ++ 58 ∷ us)) (list_any-append is_colon prefix (58 ∷ us) ∙ or-true (list_any is_colon prefix))
    ∙ ap (λ t. name_kind (is_empty t)) (behind_is prefix us (prefix_no_colon prefix is)) ∙ ap name_kind same)

some_part : (local : Characters) → IsPart Local local → is_empty local ≡ false
some_part local x = ap is_empty x.spelling ∙ some_piece x.first x.more x.begins
  where
    some_piece : (first more : Characters) → IsPiece Local First first → is_empty (first ++ more) ≡ false
    some_piece first more (inl (c, e, i)) = ap (λ f. is_empty (f ++ more)) e
    some_piece first more (inr (inl p)) = ap (λ f. is_empty (f ++ more)) p.spelling
    some_piece first more (inr (inr p)) = ap (λ f. is_empty (f ++ more)) p.spelling

namespace_told : (after_string : Bool) (s : Characters) → IsPnameNs s → told after_string s ≡ PnameNs
namespace_told after_string s x = name_told after_string x.prefix [] s true x.spelling x.is_prefix refl

local_told : (after_string : Bool) (s : Characters) → IsPnameLn s → told after_string s ≡ PnameLn
local_told after_string s x =
    name_told after_string x.is_namespace.prefix x.local s false
    (x.spelling ∙ ap (λ n. n ++ x.local) x.is_namespace.spelling ∙ append_assoc x.is_namespace.prefix (58 ∷ []) x.local) x.is_namespace.is_prefix (some_part x.local x.is_local)

-- ---- what begins with `@`

other_text : (s word : Characters) → s ≢ word → bytes_eq s word ≡ false
other_text s word other = by (cases_Bool (bytes_eq s word))
  where
    by : (bytes_eq s word ≡ true) ⊎ (bytes_eq s word ≡ false) → bytes_eq s word ≡ false
    by (inl same) = absurd (other ((bytes_eq-Decides s word).0 same))
    by (inr differs) = differs

tag_told : (after_string : Bool) (s : Characters) → IsLangTag after_string s → told after_string s ≡ LangTag
tag_told true s x = told_by true s Marked LangTag (ap class x.0.1.mark) refl
tag_told false s x =
    let others = x.1 refl in
    told_by false s Marked LangTag (ap class x.0.1.mark)
    (ap (λ b. if b then AtPrefix else if bytes_eq s (codes "@base") then AtBase else LangTag) (other_text s (codes "@prefix") others.0)
    ∙ ap (λ b. if b then AtBase else LangTag) (other_text s (codes "@base") others.1))

-- ---- numbers

digit_class : (c : ℕ) → is_ascii_digit c ≡ true → class_of c ≡ Numeric
digit_class c h =
    ap (λ b. if b then Numeric else class_in ((46, 46, Numeric) ∷ (43, 43, Numeric) ∷ (45, 45, Numeric) ∷ (64, 64, Marked) ∷ (91, 91, Bracketed) ∷ (59, 59, Only Semicolon) ∷ (44, 44, Only Comma)
    ∷ (94, 94, Only Carets) ∷ (123, 123, Only LeftBrace) ∷ (125, 125, Only RightBrace) ∷ (93, 93, Only RightBracket) ∷ (40, 40, Only LeftParen) ∷ (41, 41, Only RightParen)
    ∷ (60, 60, Only IriRef) ∷ (95, 95, Only BlankLabel) ∷ (34, 34, Only Quoted) ∷ (39, 39, Only Quoted) ∷ []) c) h

digits_class : (xs ys : Characters) → AreSomeDigits xs → class (xs ++ ys) ≡ Numeric
digits_class [] ys x = absurd (omega (arith, x.1))
digits_class (c ∷ cs) ys x = digit_class c (x.0 0 0 (omega arith))

whole_class : (xs ys : Characters) → AreDigits xs → class (xs ++ 46 ∷ ys) ≡ Numeric
whole_class [] ys x = refl
whole_class (c ∷ cs) ys x = digit_class c (x 0 0 (omega arith))

fraction_class : (s : Characters) → IsFraction s → class s ≡ Numeric
fraction_class s x = ap class x.spelling ∙ whole_class x.whole x.fraction x.are_whole

mantissa_class : (s ys : Characters) → IsMantissa s → class (s ++ ys) ≡ Numeric
mantissa_class s ys (inl (whole, fraction, e, are_whole, are_fraction)) =
    ap (λ t. class (t ++ ys)) e ∙ ap class (append_assoc whole (46 ∷ fraction) ys) ∙ digits_class whole ((46 ∷ fraction) ++ ys) are_whole
mantissa_class s ys (inr (inl (fraction, e, are_fraction))) = ap (λ t. class (t ++ ys)) e
mantissa_class s ys (inr (inr digits)) = digits_class s ys digits

exponent_class : (s : Characters) → HasExponent s → class s ≡ Numeric
exponent_class s x = ap class x.spelling ∙ mantissa_class x.mantissa x.exponent x.is_mantissa

sign_class : (sign unsigned : Characters) → IsSign sign → class unsigned ≡ Numeric → class (sign ++ unsigned) ≡ Numeric
sign_class sign unsigned (inl none) h = ap (λ s. class (s ++ unsigned)) none ∙ h
sign_class sign unsigned (inr (inl plus)) h = ap (λ s. class (s ++ unsigned)) plus
sign_class sign unsigned (inr (inr minus)) h = ap (λ s. class (s ++ unsigned)) minus

module _ (p : ℕ → Bool) where
  no_sign : (sign : Characters) → IsSign sign → p 43 ≡ false → p 45 ≡ false → list_any p sign ≡ false
  no_sign sign (inl none) plus minus = ap (list_any p) none
  no_sign sign (inr (inl e)) plus minus = ap (list_any p) e ∙ ap (λ b. b || false) plus
  no_sign sign (inr (inr e)) plus minus = ap (list_any p) e ∙ ap (λ b. b || false) minus

  behind_sign : (sign unsigned : Characters) → IsSign sign → p 43 ≡ false → p 45 ≡ false → list_any p (sign ++ unsigned) ≡ list_any p unsigned
  behind_sign sign unsigned is plus minus = list_any-append p sign unsigned ∙ ap (λ b. b || list_any p unsigned) (no_sign sign is plus minus)

  no_digits : ((c : ℕ) → is_ascii_digit c ≡ true → p c ≡ false) → (xs : Characters) → AreDigits xs → list_any p xs ≡ false
  no_digits none xs are = list_any_none p xs (λ k d l. none _ (are k d l))

  any_back : (xs ys : Characters) → list_any p ys ≡ true → list_any p (xs ++ ys) ≡ true
  any_back xs ys h = list_any-append p xs ys ∙ ap (λ b. list_any p xs || b) h ∙ or-true (list_any p xs)

digit_no_letter : (c : ℕ) → is_ascii_digit c ≡ true → is_letter c ≡ false
digit_no_letter c h = grind (arith, nat_tests)

digit_no_dot : (c : ℕ) → is_ascii_digit c ≡ true → is_dot c ≡ false
digit_no_dot c h = grind (arith, nat_tests)

any_digit : (xs : Characters) → AreSomeDigits xs → list_any is_ascii_digit xs ≡ true
any_digit [] x = absurd (omega (arith, x.1))
any_digit (c ∷ cs) x = let first : is_ascii_digit c ≡ true = x.0 0 0 (omega arith) in ap (λ b. b || list_any is_ascii_digit cs) first

integer_told : (after_string : Bool) (s : Characters) → IsSigned AreSomeDigits s → told after_string s ≡ Integer
integer_told after_string s x =
    let all = x.sign ++ x.unsigned in
    ap (told after_string) x.spelling
    ∙ told_by after_string all Numeric Integer (sign_class x.sign x.unsigned x.is_sign (sym (ap class (append-nil x.unsigned)) ∙ digits_class x.unsigned [] x.fits))
    (ap (λ b. numeric_kind b all) (behind_sign is_letter x.sign x.unsigned x.is_sign refl refl ∙ no_digits is_letter digit_no_letter x.unsigned x.fits.0)
    ∙ ap (λ b. plain_kind b all) (behind_sign is_dot x.sign x.unsigned x.is_sign refl refl ∙ no_digits is_dot digit_no_dot x.unsigned x.fits.0))

decimal_told : (after_string : Bool) (s : Characters) → IsSigned IsFraction s → told after_string s ≡ Decimal
decimal_told after_string s x =
    let all = x.sign ++ x.unsigned in
    let f = x.fits in
    ap (told after_string) x.spelling
    ∙ told_by after_string all Numeric Decimal (sign_class x.sign x.unsigned x.is_sign (fraction_class x.unsigned f))
    (ap (λ b. numeric_kind b all) (behind_sign is_letter x.sign x.unsigned x.is_sign refl refl ∙ ap (list_any is_letter) f.spelling ∙ list_any-append is_letter f.whole (46 ∷ f.fraction)
    ∙ (λ i. no_digits is_letter digit_no_letter f.whole f.are_whole i || no_digits is_letter digit_no_letter f.fraction f.are_fraction.0 i))
    ∙ ap (λ b. plain_kind b all) (behind_sign is_dot x.sign x.unsigned x.is_sign refl refl ∙ ap (list_any is_dot) f.spelling ∙ any_back is_dot f.whole (46 ∷ f.fraction) refl)
    ∙ ap dotted_kind (behind_sign is_ascii_digit x.sign x.unsigned x.is_sign refl refl ∙ ap (list_any is_ascii_digit) f.spelling
    ∙ any_back is_ascii_digit f.whole (46 ∷ f.fraction) (any_digit f.fraction f.are_fraction)))

letter_is : (c : ℕ) → IsExponentLetter c → is_letter c ≡ true
letter_is c (inl e) = ap is_letter e
letter_is c (inr e) = ap is_letter e

double_told : (after_string : Bool) (s : Characters) → IsSigned HasExponent s → told after_string s ≡ Double
double_told after_string s x =
    let all = x.sign ++ x.unsigned in
    let f = x.fits in
    let letter : list_any is_letter f.exponent ≡ true = ap (list_any is_letter) f.is_exponent.spelling
    ∙ ap (λ b. b || list_any is_letter f.is_exponent.power) (letter_is f.is_exponent.letter f.is_exponent.letter_is) in
    ap (told after_string) x.spelling
    ∙ told_by after_string all Numeric Double (sign_class x.sign x.unsigned x.is_sign (exponent_class x.unsigned f))
    (ap (λ b. numeric_kind b all) (behind_sign is_letter x.sign x.unsigned x.is_sign refl refl ∙ ap (list_any is_letter) f.spelling ∙ any_back is_letter f.mantissa f.exponent letter))

-- ---- strings and ANON

quote_class : (quote : Quote) (more : Characters) → class (quote_mark quote ∷ more) ≡ Only Quoted
quote_class DoubleQuote more = refl
quote_class Single more = refl

quoted_class : (s : Characters) → IsQuoted s → class s ≡ Only Quoted
quoted_class s (quote, inl (value, x)) = ap class x.marks ∙ quote_class quote (x.inner ++ quote_mark quote ∷ [])
quoted_class s (quote, inr x) = ap class x.spelling ∙ quote_class quote (quote_mark quote ∷ quote_mark quote ∷ (concat x.pieces ++ three_marks quote))

never_empty : (text rest : Characters) → AreGapsThen text rest → 0 < length rest → is_empty text ≡ false
never_empty [] rest no_gap some = absurd (omega arith)
never_empty (c ∷ cs) rest no_gap some = refl
never_empty [] rest (one_gap {next = next} first gaps) some = let front = gap_front [] next first in absurd (omega (arith, ap length front.1, length-append front.0 next, front.2))
never_empty (c ∷ cs) rest (one_gap first gaps) some = refl

anon_told : (after_string : Bool) (s inside : Characters) → s ≡ 91 ∷ inside → IsSkipped inside (93 ∷ []) → told after_string s ≡ Anon
anon_told after_string s inside e x =
    told_by after_string s Bracketed Anon (ap class e) (ap bracket_kind e ∙ ap (λ b. if b then LeftBracket else Anon) (never_empty inside (93 ∷ []) x.gaps (omega arith)))

-- ---- all kinds

spelled_told : (after_string : Bool) (kind : Kind) (s word : Characters) → s ≡ word → told after_string word ≡ kind → told after_string s ≡ kind
spelled_told after_string kind s word e h = ap (told after_string) e ∙ h

directive_told : (after_string : Bool) (kind : Kind) (s word : Characters) → after_string ≡ false → s ≡ word → told false word ≡ kind → told after_string s ≡ kind
directive_told after_string kind s word a e h = (λ i. told (a i) (e i)) ∙ h

token_told : (after_string : Bool) (kind : Kind) (s : Characters) → IsToken after_string kind s → told after_string s ≡ kind
unfolding IsToken
token_told after_string AtPrefix s is = directive_told after_string AtPrefix s (codes "@prefix") is.0 is.1 refl
token_told after_string AtBase s is = directive_told after_string AtBase s (codes "@base") is.0 is.1 refl
token_told after_string WordPrefix s is = any_case_told after_string 80 (codes "refix") s is refl refl refl
token_told after_string WordBase s is = any_case_told after_string 66 (codes "ase") s is refl refl refl
token_told after_string WordGraph s is = any_case_told after_string 71 (codes "raph") s is refl refl refl
token_told after_string WordA s is = spelled_told after_string WordA s (codes "a") is refl
token_told after_string WordTrue s is = spelled_told after_string WordTrue s (codes "true") is refl
token_told after_string WordFalse s is = spelled_told after_string WordFalse s (codes "false") is refl
token_told after_string Dot s is = spelled_told after_string Dot s (codes ".") is refl
token_told after_string Semicolon s is = spelled_told after_string Semicolon s (codes ";") is refl
token_told after_string Comma s is = spelled_told after_string Comma s (codes ",") is refl
token_told after_string Carets s is = spelled_told after_string Carets s (codes "^^") is refl
token_told after_string LeftBrace s is = spelled_told after_string LeftBrace s (codes "{") is refl
token_told after_string RightBrace s is = spelled_told after_string RightBrace s (codes "}") is refl
token_told after_string LeftBracket s is = spelled_told after_string LeftBracket s (codes "[") is refl
token_told after_string RightBracket s is = spelled_told after_string RightBracket s (codes "]") is refl
token_told after_string LeftParen s is = spelled_told after_string LeftParen s (codes "(") is refl
token_told after_string RightParen s is = spelled_told after_string RightParen s (codes ")") is refl
token_told after_string IriRef s is = told_by after_string s (Only IriRef) IriRef (ap class is.1.marks) refl
token_told after_string PnameNs s is = namespace_told after_string s is
token_told after_string PnameLn s is = local_told after_string s is
token_told after_string BlankLabel s is = told_by after_string s (Only BlankLabel) BlankLabel (ap class is.1.mark) refl
token_told after_string Anon s is = anon_told after_string s is.0 is.1 is.2
token_told after_string Integer s is = integer_told after_string s is
token_told after_string Decimal s is = decimal_told after_string s is
token_told after_string Double s is = double_told after_string s is
token_told after_string Quoted s is = told_by after_string s (Only Quoted) Quoted (quoted_class s is) refl
token_told after_string LangTag s is = tag_told after_string s is
token_told after_string End s is = absurd is

pub one_kind : (after_string : Bool) (one other : Kind) (spelled : Characters) → IsToken after_string one spelled → IsToken after_string other spelled → one ≡ other
one_kind after_string one other spelled x y = sym (token_told after_string one spelled x) ∙ token_told after_string other spelled y
