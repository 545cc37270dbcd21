-- A string is known by its text with escapes, up to the quote that ends it, and no control character stands in this text.
use Rattle.std.proofs.Common.{◌≡◌, ◌≢◌, ℕ, ◌+◌, ◌-◌, ◌*◌, ◌/◌, ◌%◌, ◌<◌, ◌≤◌, Bool, true, false, ◌==◌, nat_lt, if◌then◌else◌, [], ◌∷◌, ◌++◌, Option, Some, None, All, refl, sym, ap, ◌∙◌, arith, append_assoc, true≢false}
use Rattle.std.specs.List.{flat_map}
use Rattle.std.proofs.lemmas.Bool.{eqb-true, eqb-false, ne_eqb}
use Rattle.std.proofs.lemmas.Bool.Decides.{nat_tests}
use Rattle.std.proofs.lemmas.List.Concat.{flat_map-cons}
use Rattle.std.proofs.lemmas.List.Elements.{All-cons, All-append, All-nil}
use Rattle.rdf_terms.proofs.Common.{Text, escaped, hex_digit, is_written_by_number}
use Rattle.canonical_writer.proofs.Splitting.{head_of, tail_of}

-- ---- the three ways in which a byte is written

abbrev pub letter_value : ℕ → ℕ
letter_value e = if e == 98 then 8 else if e == 116 then 9 else if e == 110 then 10 else if e == 102 then 12 else if e == 114 then 13 else e

pub data Written (c : ℕ) : Text → Type 0 where
  by_letter : (e : ℕ) → (e == 117) ≡ false → 32 ≤ e → letter_value e ≡ c → Written c (92 ∷ e ∷ [])
  by_number : c < 256 → Written c (92 ∷ 117 ∷ 48 ∷ 48 ∷ hex_digit (c / 16) ∷ hex_digit (c % 16) ∷ [])
  as_it_stands : c ≢ 92 → c ≢ 34 → 32 ≤ c → Written c (c ∷ [])

pick : (c : ℕ) (x y : Text) (b : Bool) → (b ≡ true → Written c x) → (b ≡ false → Written c y) → Written c (if b then x else y)
pick c x y true p q = p refl
pick c x y false p q = q refl

number-small : (c : ℕ) → is_written_by_number c ≡ true → c < 256
number-small c h = grind (arith, nat_tests)

unescaped-printable : (c : ℕ) → (c == 8) ≡ false → (c == 9) ≡ false → (c == 10) ≡ false → (c == 12) ≡ false → (c == 13) ≡ false → is_written_by_number c ≡ false → 32 ≤ c
unescaped-printable c bs ht lf ff cr h = grind (arith, nat_tests)

pub written : (c : ℕ) → Written c (escaped c)
unfolding escaped
written c =
    pick c _ _ (c == 8) (λ e. by_letter 98 refl (omega arith) (sym (eqb-true c 8 e)))
    (λ bs. pick c _ _ (c == 9) (λ e. by_letter 116 refl (omega arith) (sym (eqb-true c 9 e)))
    (λ ht. pick c _ _ (c == 10) (λ e. by_letter 110 refl (omega arith) (sym (eqb-true c 10 e)))
    (λ lf. pick c _ _ (c == 12) (λ e. by_letter 102 refl (omega arith) (sym (eqb-true c 12 e)))
    (λ ff. pick c _ _ (c == 13) (λ e. by_letter 114 refl (omega arith) (sym (eqb-true c 13 e)))
    (λ cr. pick c _ _ (c == 34) (λ e. by_letter 34 refl (omega arith) (sym (eqb-true c 34 e)))
    (λ q. pick c _ _ (c == 92) (λ e. by_letter 92 refl (omega arith) (sym (eqb-true c 92 e)))
    (λ b. pick c _ _ (is_written_by_number c) (λ e. by_number (number-small c e))
    (λ n. as_it_stands (eqb-false c 92 b) (eqb-false c 34 q) (unescaped-printable c bs ht lf ff cr n)))))))))

-- ---- reading one byte back

abbrev hex_value : ℕ → ℕ
hex_value d = if nat_lt d 58 then d - 48 else d - 55

abbrev number_read : Text → Option (ℕ × Text)
number_read (a ∷ (b ∷ (h ∷ (l ∷ rest)))) = Some (16 * hex_value h + hex_value l, rest)
number_read _ = None

abbrev behind_backslash : Text → Option (ℕ × Text)
behind_backslash [] = None
behind_backslash (e ∷ rest) = if e == 117 then number_read rest else Some (letter_value e, rest)

abbrev first_read : Text → Option (ℕ × Text)
first_read [] = None
first_read (c ∷ rest) = if c == 92 then behind_backslash rest else Some (c, rest)

hex-value : (d : ℕ) → d < 16 → hex_value (hex_digit d) ≡ d
hex-value d h = grind (arith, nat_tests)

if_false : {A : Type 0} (b : Bool) (x y : A) → b ≡ false → (if b then x else y) ≡ y
if_false true x y e = absurd (true≢false e)
if_false false x y e = refl

read_back : (c : ℕ) (w r : Text) → Written c w → first_read (w ++ r) ≡ Some (c, r)
read_back c w r (by_letter e n m v) = if_false (e == 117) _ _ n ∙ ap (λ k. Some (k, r)) v
read_back c w r (by_number h) =
    let high : hex_value (hex_digit (c / 16)) ≡ c / 16 = hex-value (c / 16) (omega arith) in
    let low : hex_value (hex_digit (c % 16)) ≡ c % 16 = hex-value (c % 16) (omega arith) in
    let both : 16 * hex_value (hex_digit (c / 16)) + hex_value (hex_digit (c % 16)) ≡ c = rw (high, low) (omega arith) in
    ap (λ k. Some (k, r)) both
read_back c w r (as_it_stands b q n) = if_false (c == 92) _ _ (ne_eqb c 92 b)

first-escaped : (c : ℕ) (r : Text) → first_read (escaped c ++ r) ≡ Some (c, r)
first-escaped c r = read_back c (escaped c) r (written c)

no_quote : (c : ℕ) (w r : Text) → Written c w → head_of (w ++ r) ≢ 34
no_quote c w r (by_letter e n m v) h = absurd (omega (arith, h))
no_quote c w r (by_number k) h = absurd (omega (arith, h))
no_quote c w r (as_it_stands b q n) h = q h

abbrev value_read : Option (ℕ × Text) → ℕ
value_read None = 0
value_read (Some p) = p.0

abbrev rest_read : Option (ℕ × Text) → Text
rest_read None = []
rest_read (Some p) = p.1

first_of_string : (y : ℕ) (ys s : Text) → flat_map escaped (y ∷ ys) ++ 34 ∷ s ≡ escaped y ++ (flat_map escaped ys ++ 34 ∷ s)
first_of_string y ys s = ap (λ t. t ++ 34 ∷ s) (flat_map-cons escaped y ys) ∙ append_assoc (escaped y) (flat_map escaped ys) (34 ∷ s)

not_the_end : (y : ℕ) (ys r s : Text) → 34 ∷ r ≡ flat_map escaped (y ∷ ys) ++ 34 ∷ s → ⊥
not_the_end y ys r s e = no_quote y (escaped y) (flat_map escaped ys ++ 34 ∷ s) (written y) (sym (ap head_of (e ∙ first_of_string y ys s)))

same_first : (x y : ℕ) (a b : Text) → escaped x ++ a ≡ escaped y ++ b → (x ≡ y) × (a ≡ b)
same_first x y a b e =
    let k : Some (x, a) ≡ Some (y, b) = sym (first-escaped x a) ∙ (ap first_read e ∙ first-escaped y b) in
    (ap value_read k, ap rest_read k)

pub same_string : (xs ys r s : Text) → flat_map escaped xs ++ 34 ∷ r ≡ flat_map escaped ys ++ 34 ∷ s → (xs ≡ ys) × (r ≡ s)
same_string [] [] r s e = (refl, ap tail_of e)
same_string [] (y ∷ ys) r s e = absurd (not_the_end y ys r s e)
same_string (x ∷ xs) [] r s e = absurd (not_the_end x xs s r (sym e))
same_string (x ∷ xs) (y ∷ ys) r s e =
    let f = same_first x y _ _ (sym (first_of_string x xs r) ∙ (e ∙ first_of_string y ys s)) in
    let g = same_string xs ys r s f.1 in
    (λ i. f.0 i ∷ g.0 i, g.1)

-- ---- no control character

hex-printable : (d : ℕ) → 32 ≤ hex_digit d
hex-printable d = grind (arith, nat_tests)

pub printable_byte : (c : ℕ) → 32 ≤ c → (t : Text) → All (λ c. 32 ≤ c) t → All (λ c. 32 ≤ c) (c ∷ t)
printable_byte c e t h = All-cons (λ c. 32 ≤ c) c t e h

printable : (c : ℕ) (w : Text) → Written c w → All (λ c. 32 ≤ c) w
printable c w (by_letter e n m v) = printable_byte 92 (omega arith) (e ∷ []) (printable_byte e m [] (All-nil _))
printable c w (by_number k) =
    let low : Text = hex_digit (c % 16) ∷ [] in
    let high : Text = hex_digit (c / 16) ∷ low in
    let lows : All (λ c. 32 ≤ c) low = printable_byte (hex_digit (c % 16)) (hex-printable (c % 16)) [] (All-nil _) in
    let highs : All (λ c. 32 ≤ c) high = printable_byte (hex_digit (c / 16)) (hex-printable (c / 16)) low lows in
    printable_byte 92 (omega arith) (117 ∷ 48 ∷ 48 ∷ high) (printable_byte 117 (omega arith) (48 ∷ 48 ∷ high)
    (printable_byte 48 (omega arith) (48 ∷ high) (printable_byte 48 (omega arith) high highs)))
printable c w (as_it_stands b q n) = printable_byte c n [] (All-nil _)

pub string-printable : (xs : Text) → All (λ c. 32 ≤ c) (flat_map escaped xs)
string-printable [] = All-nil _
string-printable (x ∷ xs) = rw (flat_map-cons escaped x xs) (All-append (λ c. 32 ≤ c) (escaped x) (flat_map escaped xs) (printable x (escaped x) (written x)) (string-printable xs))
