-- Spelled characters are read in one way only.
use Rattle.std.proofs.Common.{◌≡◌, ◌≢◌, ℕ, true, false, List, [], ◌∷◌, ◌++◌, refl, sym, ap, subst, ◌∙◌, arith, ◌⊎◌, inl, inr, true≢false, ◌==◌, if◌then◌else◌}
use Rattle.std.specs.Str.{IsAscii}
use Rattle.std.proofs.lemmas.Bool.{eqb-true}
use Rattle.std.proofs.lemmas.List.{append_assoc, append-nil, append_cancel_left}
use Rattle.std.proofs.lemmas.Str.Ascii.{IsAscii-cons, IsAscii-nil}
use Rattle.rdf_terms.specs.Lists.{In}
use Rattle.terminals.specs.declared.bodies.Quote.TheVariants.{Double, Single}
use Rattle.terminals.specs.declared.bodies.Body.{Body}
use Rattle.terminals.specs.declared.bodies.Body.TheVariants.{Iri, Short, Long}
use Rattle.terminals.specs.Escapes.{echar_meanings, IsNumberOf, IsUchar, IsEchar, BeginsWithNoOne}
use Rattle.terminals.specs.Spellings.{stands_for_itself, IsEscape, SpellsOne, Spells, SpellsNone}
use Rattle.terminals.proofs.Escaping.{of_meaning, same_head, same_tail, same_uchar, meaning_ascii, meaning_letter, hex_is_ascii}

-- what a letter means, as a function
meaning_of : ℕ → ℕ
meaning_of letter =
    if letter == 116 then 9 else if letter == 98 then 8 else if letter == 110 then 10 else if letter == 114 then 13 else if letter == 102 then 12 else if letter == 34 then 34 else if letter == 39
    then 39 else 92

meaning_is : (letter c : ℕ) → In (letter, c) echar_meanings → c ≡ meaning_of letter
unfolding meaning_of
meaning_is letter c there = eqb-true c (meaning_of letter) (of_meaning (λ m. m.1 == meaning_of m.0) letter c refl there)

-- each letter has one meaning
one_meaning : (letter c d : ℕ) → In (letter, c) echar_meanings → In (letter, d) echar_meanings → c ≡ d
one_meaning letter c d p q = meaning_is letter c p ∙ sym (meaning_is letter d q)

same_echar : (xs ys us vs : List ℕ) (c d : ℕ) → xs ++ us ≡ ys ++ vs → IsEchar xs c → IsEchar ys d → (xs ≡ ys) × (c ≡ d)
same_echar xs ys us vs c d e x y =
    let whole : 92 ∷ x.letter ∷ us ≡ 92 ∷ y.letter ∷ vs = sym (ap (λ s. s ++ us) x.spelling) ∙ e ∙ ap (λ s. s ++ vs) y.spelling in
    let letters : x.letter ≡ y.letter = cc in
    (x.spelling ∙ ap (λ l. 92 ∷ l ∷ []) letters ∙ sym y.spelling, one_meaning y.letter c d (subst (λ l. In (l, c) echar_meanings) letters x.meaning) y.meaning)

-- the letter of a UCHAR is none of an ECHAR
uchar_or_echar : (xs ys us vs : List ℕ) (c d : ℕ) → xs ++ us ≡ ys ++ vs → IsUchar xs c → IsEchar ys d → ⊥
uchar_or_echar xs ys us vs c d e x y = by x.named (meaning_letter y.letter d y.meaning)
  where
    whole : 92 ∷ (x.letter ∷ (x.digits ++ us)) ≡ 92 ∷ y.letter ∷ vs
    whole = sym (ap (λ s. s ++ us) x.spelling) ∙ e ∙ ap (λ s. s ++ vs) y.spelling

    letters : x.letter ≡ y.letter
    letters = same_head x.letter y.letter (x.digits ++ us) vs (same_tail 92 92 (x.letter ∷ (x.digits ++ us)) (y.letter ∷ vs) whole)

    by : ((x.letter ≡ 117) × IsNumberOf 4 x.digits c) ⊎ ((x.letter ≡ 85) × IsNumberOf 8 x.digits c) → (y.letter ≢ 117) × (y.letter ≢ 85) → ⊥
    by (inl (l, n)) h = h.0 (sym letters ∙ l)
    by (inr (l, n)) h = h.1 (sym letters ∙ l)

-- an escape begins with `\`
pub escape_front : (body : Body) (spelled : List ℕ) (c : ℕ) → IsEscape body spelled c → (more : List ℕ) × (spelled ≡ 92 ∷ more)
escape_front Iri spelled c (u, h) = (u.letter ∷ u.digits, u.spelling)
escape_front (Short q) spelled c (inl u) = (u.letter ∷ u.digits, u.spelling)
escape_front (Short q) spelled c (inr e) = (e.letter ∷ [], e.spelling)
escape_front (Long q) spelled c (inl u) = (u.letter ∷ u.digits, u.spelling)
escape_front (Long q) spelled c (inr e) = (e.letter ∷ [], e.spelling)

-- where no `\` stands at the front, no escape does
pub no_escape_unmarked : (body : Body) (text : List ℕ) → ((rest : List ℕ) → text ≢ 92 ∷ rest) → BeginsWithNoOne (IsEscape body) text
no_escape_unmarked body text unmarked spelled c rest splits is =
    let front = escape_front body spelled c is in
    unmarked (front.0 ++ rest) (splits ∙ ap (λ s. s ++ rest) front.1)

backslash_stands : (body : Body) → stands_for_itself body 92 ≡ false
backslash_stands Iri = refl
backslash_stands (Short Double) = refl
backslash_stands (Short Single) = refl
backslash_stands (Long Double) = refl
backslash_stands (Long Single) = refl

same_string_escape : (xs ys us vs : List ℕ) (c d : ℕ) → xs ++ us ≡ ys ++ vs → IsUchar xs c ⊎ IsEchar xs c → IsUchar ys d ⊎ IsEchar ys d → (xs ≡ ys) × (c ≡ d)
same_string_escape xs ys us vs c d e (inl x) (inl y) = same_uchar xs ys us vs c d e x y
same_string_escape xs ys us vs c d e (inl x) (inr y) = absurd (uchar_or_echar xs ys us vs c d e x y)
same_string_escape xs ys us vs c d e (inr x) (inl y) = absurd (uchar_or_echar ys xs vs us d c (sym e) y x)
same_string_escape xs ys us vs c d e (inr x) (inr y) = same_echar xs ys us vs c d e x y

same_escape : (body : Body) (xs ys us vs : List ℕ) (c d : ℕ) → xs ++ us ≡ ys ++ vs → IsEscape body xs c → IsEscape body ys d → (xs ≡ ys) × (c ≡ d)
same_escape Iri xs ys us vs c d e x y = same_uchar xs ys us vs c d e x.0 y.0
same_escape (Short q) xs ys us vs c d e x y = same_string_escape xs ys us vs c d e x y
same_escape (Long q) xs ys us vs c d e x y = same_string_escape xs ys us vs c d e x y

-- no escape begins with a character that stands for itself
plain_or_escape : (body : Body) (ys us vs : List ℕ) (c d : ℕ) → c ∷ us ≡ ys ++ vs → stands_for_itself body c ≡ true → IsEscape body ys d → ⊥
plain_or_escape body ys us vs c d e stands escape =
    let front = escape_front body ys d escape in
    let whole : c ∷ us ≡ 92 ∷ (front.0 ++ vs) = e ∙ ap (λ s. s ++ vs) front.1 in
    let mark : c ≡ 92 = same_head c 92 us (front.0 ++ vs) whole in
    true≢false (sym stands ∙ ap (stands_for_itself body) mark ∙ backslash_stands body)

pub same_one : (body : Body) (xs ys us vs : List ℕ) (c d : ℕ) → xs ++ us ≡ ys ++ vs → SpellsOne body xs c → SpellsOne body ys d → (xs ≡ ys) × (c ≡ d)
same_one body xs ys us vs c d e (inl (x, p, s)) (inl (y, q, t)) =
    let whole : c ∷ us ≡ d ∷ vs = sym (ap (λ f. f ++ us) x) ∙ e ∙ ap (λ f. f ++ vs) y in
    let same : c ≡ d = same_head c d us vs whole in
    (x ∙ ap (λ z. z ∷ []) same ∙ sym y, same)
same_one body xs ys us vs c d e (inl (x, p, s)) (inr y) = absurd (plain_or_escape body ys us vs c d (sym (ap (λ f. f ++ us) x) ∙ e) p y)
same_one body xs ys us vs c d e (inr x) (inl (y, q, t)) = absurd (plain_or_escape body xs vs us d c (sym (ap (λ f. f ++ vs) y) ∙ sym e) q x)
same_one body xs ys us vs c d e (inr x) (inr y) = same_escape body xs ys us vs c d e x y

pub record SameRun (xs ys us vs value other : List ℕ) : Type 0 where
  pub spelled : xs ≡ ys
  pub rest : us ≡ vs
  pub values : value ≡ other

-- a text has one longest run of spelled characters at its front, with one value
pub same_run : (body : Body) (value other xs ys us vs : List ℕ) → xs ++ us ≡ ys ++ vs → Spells body xs value → Spells body ys other → SpellsNone body us → SpellsNone body vs
    → SameRun xs ys us vs value other
same_run body [] [] xs ys us vs e x y none_x none_y =
    record { spelled = x ∙ sym y; rest = sym (ap (λ f. f ++ us) x) ∙ e ∙ ap (λ f. f ++ vs) y; values = refl }
same_run body [] (d ∷ ds) xs ys us vs e x (g, n, q, one, ones) none_x none_y =
    absurd (none_x g d (n ++ vs) (sym (ap (λ f. f ++ us) x) ∙ e ∙ ap (λ f. f ++ vs) q ∙ append_assoc g n vs) one)
same_run body (c ∷ cs) [] xs ys us vs e (f, m, p, one, ones) y none_x none_y =
    absurd (none_y f c (m ++ us) (sym (ap (λ z. z ++ vs) y) ∙ sym e ∙ ap (λ z. z ++ us) p ∙ append_assoc f m us) one)
same_run body (c ∷ cs) (d ∷ ds) xs ys us vs e (f, m, p, one, ones) (g, n, q, two, twos) none_x none_y =
    let whole : f ++ (m ++ us) ≡ g ++ (n ++ vs) = sym (append_assoc f m us) ∙ sym (ap (λ z. z ++ us) p) ∙ e ∙ ap (λ z. z ++ vs) q ∙ append_assoc g n vs in
    let first = same_one body f g (m ++ us) (n ++ vs) c d whole one two in
    let behind : m ++ us ≡ n ++ vs = append_cancel_left g (m ++ us) (n ++ vs) (sym (ap (λ z. z ++ (m ++ us)) first.0) ∙ whole) in
    let rest = same_run body cs ds m n us vs behind ones twos none_x none_y in
    record {
      spelled = p ∙ (λ i. first.0 i ++ rest.spelled i) ∙ sym q;
      rest = rest.rest;
      values = λ i. first.1 i ∷ rest.values i;
    }

-- a mark that neither stands for itself nor begins an escape ends a run
pub none_at_mark : (body : Body) (mark : ℕ) (rest : List ℕ) → stands_for_itself body mark ≡ false → mark ≢ 92 → SpellsNone body (mark ∷ rest)
none_at_mark body mark rest stops no_escape one c more e (inl (x, stands, s)) =
    let whole : mark ∷ rest ≡ c ∷ more = e ∙ ap (λ f. f ++ more) x in
    let same : mark ≡ c = same_head mark c rest more whole in
    true≢false (sym stands ∙ ap (stands_for_itself body) (sym same) ∙ stops)
none_at_mark body mark rest stops no_escape one c more e (inr escape) =
    let front = escape_front body one c escape in
    let whole : mark ∷ rest ≡ 92 ∷ (front.0 ++ more) = e ∙ ap (λ f. f ++ more) front.1 in
    no_escape (same_head mark 92 rest (front.0 ++ more) whole)

-- ---- runs that are put together

pub spells-append : (body : Body) (value other xs ys : List ℕ) → Spells body xs value → Spells body ys other → Spells body (xs ++ ys) (value ++ other)
spells-append body [] other xs ys x y = subst (λ f. Spells body (f ++ ys) other) (sym x) y
spells-append body (c ∷ cs) other xs ys (f, m, p, one, ones) y =
    (f, m ++ ys, ap (λ z. z ++ ys) p ∙ append_assoc f m ys, one, spells-append body cs other m ys ones y)

pub spells_escape : (body : Body) (spelled : List ℕ) (c : ℕ) → IsEscape body spelled c → Spells body spelled (c ∷ [])
spells_escape body spelled c escape = (spelled, [], sym (append-nil spelled), inr escape, refl)

-- what spells an escape is ASCII
uchar_ascii : (spelled : List ℕ) (c : ℕ) → IsUchar spelled c → IsAscii spelled
uchar_ascii spelled c u = subst IsAscii (sym u.spelling) (by u.named)
  where
    by : ((u.letter ≡ 117) × IsNumberOf 4 u.digits c) ⊎ ((u.letter ≡ 85) × IsNumberOf 8 u.digits c) → IsAscii (92 ∷ u.letter ∷ u.digits)
    by (inl (l, n)) = IsAscii-cons 92 (u.letter ∷ u.digits) (omega arith) (IsAscii-cons u.letter u.digits (omega arith) (hex_is_ascii u.digits n.all_hex))
    by (inr (l, n)) = IsAscii-cons 92 (u.letter ∷ u.digits) (omega arith) (IsAscii-cons u.letter u.digits (omega arith) (hex_is_ascii u.digits n.all_hex))

echar_ascii : (spelled : List ℕ) (c : ℕ) → IsEchar spelled c → IsAscii spelled
echar_ascii spelled c e = subst IsAscii (sym e.spelling) (IsAscii-cons 92 (e.letter ∷ []) (omega arith) (IsAscii-cons e.letter [] (meaning_ascii e.letter c e.meaning) IsAscii-nil))

pub escape_ascii : (body : Body) (spelled : List ℕ) (c : ℕ) → IsEscape body spelled c → IsAscii spelled
escape_ascii Iri spelled c x = uchar_ascii spelled c x.0
escape_ascii (Short q) spelled c (inl u) = uchar_ascii spelled c u
escape_ascii (Short q) spelled c (inr e) = echar_ascii spelled c e
escape_ascii (Long q) spelled c (inl u) = uchar_ascii spelled c u
escape_ascii (Long q) spelled c (inr e) = echar_ascii spelled c e
