-- A part of a name is cut into its pieces in one way only.
use Rattle.std.proofs.Common.{◌≡◌, ℕ, zero, suc, ◌≤◌, Bool, true, false, ◌||◌, ◌==◌, List, [], ◌∷◌, ◌++◌, All, length, refl, sym, ap, ◌∙◌, arith, ◌⊎◌, inl, inr, true≢false}
use Rattle.std.specs.List.{concat}
use Rattle.std.proofs.lemmas.Bool.{or_left, or_right, or_from}
use Rattle.std.proofs.lemmas.List.{append_assoc, length-append}
use Rattle.terminals.specs.Terminal.{Characters}
use Rattle.terminals.proofs.Escaping.{same_head, same_tail, same_split}
use Rattle.trig_lexer.specs.declared.parts.Part.{Part}
use Rattle.trig_lexer.specs.declared.parts.Part.TheVariants.{Prefix, Local}
use Rattle.trig_lexer.specs.declared.parts.Place.{Place}
use Rattle.trig_lexer.specs.declared.parts.Place.TheVariants.{First, Later}
use Rattle.trig_lexer.specs.Names.{takes, IsEscapeIn, IsPiece}

-- a piece of a part, or a dot
abbrev pub IsInner : Part → Characters → Type 0
IsInner part piece = IsPiece part Later piece ⊎ (piece ≡ 46 ∷ [])

-- one character of the class, or an escape
abbrev OneOr : Part → (ℕ → Bool) → Characters → Type 0
OneOr part p piece = ((c : ℕ) × (piece ≡ c ∷ []) × (p c ≡ true)) ⊎ IsEscapeIn part piece

-- ---- one piece

-- `%` or `\`
abbrev IsEscapeMark : ℕ → Type 0
IsEscapeMark c = (c ≡ 37) ⊎ (c ≡ 92)

takes_no_mark : (part : Part) (place : Place) (c : ℕ) → IsEscapeMark c → takes part place c ≡ false
takes_no_mark Prefix First c (inl e) = ap (takes Prefix First) e
takes_no_mark Prefix First c (inr e) = ap (takes Prefix First) e
takes_no_mark Prefix Later c (inl e) = ap (takes Prefix Later) e
takes_no_mark Prefix Later c (inr e) = ap (takes Prefix Later) e
takes_no_mark Local First c (inl e) = ap (takes Local First) e
takes_no_mark Local First c (inr e) = ap (takes Local First) e
takes_no_mark Local Later c (inl e) = ap (takes Local Later) e
takes_no_mark Local Later c (inr e) = ap (takes Local Later) e

escape_front : (part : Part) (piece : Characters) → IsEscapeIn part piece → (c : ℕ) × (more : Characters) × (piece ≡ c ∷ more) × IsEscapeMark c
escape_front Prefix piece escape = absurd escape
escape_front Local piece (inl percent) = (37, percent.first ∷ percent.second ∷ [], percent.spelling, inl refl)
escape_front Local piece (inr escape) = (92, escape.c ∷ [], escape.spelling, inr refl)

same_escape : (part : Part) (xs ys us vs : Characters) → xs ++ us ≡ ys ++ vs → IsEscapeIn part xs → IsEscapeIn part ys → (xs ≡ ys) × (us ≡ vs)
same_escape Prefix xs ys us vs e x y = absurd x
same_escape Local xs ys us vs e (inl x) (inl y) = same_split xs ys us vs e (ap length x.spelling ∙ sym (ap length y.spelling))
same_escape Local xs ys us vs e (inr x) (inr y) = same_split xs ys us vs e (ap length x.spelling ∙ sym (ap length y.spelling))
same_escape Local xs ys us vs e (inl x) (inr y) =
    let whole : 37 ∷ x.first ∷ x.second ∷ us ≡ 92 ∷ y.c ∷ vs = sym (ap (λ s. s ++ us) x.spelling) ∙ e ∙ ap (λ s. s ++ vs) y.spelling in
    absurd (omega (arith, same_head 37 92 (x.first ∷ x.second ∷ us) (y.c ∷ vs) whole))
same_escape Local xs ys us vs e (inr x) (inl y) =
    let whole : 92 ∷ x.c ∷ us ≡ 37 ∷ y.first ∷ y.second ∷ vs = sym (ap (λ s. s ++ us) x.spelling) ∙ e ∙ ap (λ s. s ++ vs) y.spelling in
    absurd (omega (arith, same_head 92 37 (x.c ∷ us) (y.first ∷ y.second ∷ vs) whole))

module _ (part : Part) (p : ℕ → Bool) (no_mark : (c : ℕ) → IsEscapeMark c → p c ≡ false) where
  one_no_escape : (xs ys us vs : Characters) (c : ℕ) → xs ++ us ≡ ys ++ vs → xs ≡ c ∷ [] → p c ≡ true → IsEscapeIn part ys → ⊥
  one_no_escape xs ys us vs c e x t y =
      let front = escape_front part ys y in
      let whole : c ∷ us ≡ front.0 ∷ (front.1 ++ vs) = sym (ap (λ s. s ++ us) x) ∙ e ∙ ap (λ s. s ++ vs) front.2 in
      true≢false (sym t ∙ ap p (same_head c front.0 us (front.1 ++ vs) whole) ∙ no_mark front.0 front.3)

  same_one : (xs ys us vs : Characters) → xs ++ us ≡ ys ++ vs → OneOr part p xs → OneOr part p ys → (xs ≡ ys) × (us ≡ vs)
  same_one xs ys us vs e (inl (c, x, t)) (inl (d, y, u)) = same_split xs ys us vs e (ap length x ∙ sym (ap length y))
  same_one xs ys us vs e (inl (c, x, t)) (inr y) = absurd (one_no_escape xs ys us vs c e x t y)
  same_one xs ys us vs e (inr x) (inl (d, y, u)) = absurd (one_no_escape ys xs vs us d (sym e) y u x)
  same_one xs ys us vs e (inr x) (inr y) = same_escape part xs ys us vs e x y

pub same_first : (part : Part) (xs ys us vs : Characters) → xs ++ us ≡ ys ++ vs → IsPiece part First xs → IsPiece part First ys → (xs ≡ ys) × (us ≡ vs)
same_first part xs ys us vs e x y = same_one part (takes part First) (takes_no_mark part First) xs ys us vs e x y

abbrev is_inner : Part → ℕ → Bool
is_inner part c = takes part Later c || c == 46

inner_no_mark : (part : Part) (c : ℕ) → IsEscapeMark c → is_inner part c ≡ false
inner_no_mark part c (inl e) = or_from (takes part Later c) (c == 46) (takes_no_mark part Later c (inl e)) (ap (λ d. d == 46) e)
inner_no_mark part c (inr e) = or_from (takes part Later c) (c == 46) (takes_no_mark part Later c (inr e)) (ap (λ d. d == 46) e)

inner_one : (part : Part) (piece : Characters) → IsInner part piece → OneOr part (is_inner part) piece
inner_one part piece (inl (inl (c, e, t))) = inl (c, e, or_left (takes part Later c) (c == 46) t)
inner_one part piece (inl (inr escape)) = inr escape
inner_one part piece (inr dot) = inl (46, dot, or_right (takes part Later 46) true refl)

same_piece : (part : Part) (xs ys us vs : Characters) → xs ++ us ≡ ys ++ vs → IsInner part xs → IsInner part ys → (xs ≡ ys) × (us ≡ vs)
same_piece part xs ys us vs e x y = same_one part (is_inner part) (inner_no_mark part) xs ys us vs e (inner_one part xs x) (inner_one part ys y)

-- a piece that may end a part is no dot, and not empty
pub piece_no_dot : (part : Part) (piece : Characters) → IsPiece part Later piece → piece ≡ 46 ∷ [] → ⊥
piece_no_dot part piece (inl (c, e, t)) dot = true≢false (sym t ∙ ap (takes part Later) (same_head c 46 [] [] (sym e ∙ dot)) ∙ dot_ends_none part)
  where
    dot_ends_none : (part : Part) → takes part Later 46 ≡ false
    dot_ends_none Prefix = refl
    dot_ends_none Local = refl
piece_no_dot part piece (inr escape) dot =
    let front = escape_front part piece escape in
    no_dot front.0 front.3 (same_head front.0 46 front.1 [] (sym front.2 ∙ dot))
  where
    no_dot : (c : ℕ) → IsEscapeMark c → c ≡ 46 → ⊥
    no_dot c (inl e) h = omega arith
    no_dot c (inr e) h = omega arith

-- ---- pieces one behind the other

pub all_parts_left : (P : Characters → Type 0) (xs ys : List Characters) → All P (xs ++ ys) → All P xs
all_parts_left P [] ys h k d l = absurd (omega arith)
all_parts_left P (x ∷ xs) ys h zero d l = h 0 d (omega arith)
all_parts_left P (x ∷ xs) ys h (suc k) d l = all_parts_left P xs ys (λ j e m. h (suc j) e (omega arith)) k d (omega arith)

-- the pieces of another front are the first of those that go as far as they can
pub pieces_front : (part : Part) (ps qs : List Characters) (stop rest : Characters) → concat ps ++ stop ≡ concat qs ++ rest → All (IsInner part) ps → All (IsInner part) qs
    → ((piece more : Characters) → stop ≡ piece ++ more → ¬ (IsInner part piece)) → (rs : List Characters) × (ps ≡ qs ++ rs)
pieces_front part ps [] stop rest e x y none = (ps, refl)
pieces_front part [] (q ∷ qs) stop rest e x y none = absurd (none q (concat qs ++ rest) (e ∙ append_assoc q (concat qs) rest) (y 0 [] (omega arith)))
pieces_front part (p ∷ ps) (q ∷ qs) stop rest e x y none =
    let whole : p ++ (concat ps ++ stop) ≡ q ++ (concat qs ++ rest) = sym (append_assoc p (concat ps) stop) ∙ e ∙ append_assoc q (concat qs) rest in
    let same = same_piece part p q (concat ps ++ stop) (concat qs ++ rest) whole (x 0 [] (omega arith)) (y 0 [] (omega arith)) in
    let more = pieces_front part ps qs stop rest same.1 (λ k d l. x (suc k) d (omega arith)) (λ k d l. y (suc k) d (omega arith)) none in
    (more.0, λ i. same.0 i ∷ more.1 i)

-- no piece that may end a part stands among dots
among_dots : (part : Part) (dots inner rs : List Characters) (last : Characters) → dots ≡ (inner ++ last ∷ []) ++ rs → All (λ p. p ≡ 46 ∷ []) dots → IsPiece part Later last → ⊥
among_dots part [] [] rs last e all ends = cc
among_dots part [] (i ∷ inner) rs last e all ends = cc
among_dots part (d ∷ dots) [] rs last e all ends = piece_no_dot part last ends (sym (same_head d last dots rs e) ∙ all 0 [] (omega arith))
among_dots part (d ∷ dots) (i ∷ inner) rs last e all ends =
    among_dots part dots inner rs last (same_tail d i dots ((inner ++ last ∷ []) ++ rs) e) (λ k f l. all (suc k) f (omega arith)) ends

-- so a front that ends in one ends before them
pub ends_before_dots : (part : Part) (pieces dots inner rs : List Characters) (last : Characters) → pieces ++ dots ≡ (inner ++ last ∷ []) ++ rs → All (λ p. p ≡ 46 ∷ []) dots
    → IsPiece part Later last → length (concat (inner ++ last ∷ [])) ≤ length (concat pieces)
ends_before_dots part [] dots inner rs last e all ends = absurd (among_dots part dots inner rs last e all ends)
ends_before_dots part (p ∷ pieces) dots [] rs last e all ends =
    let head = ap length (same_head p last (pieces ++ dots) rs e) in
    omega (arith, length-append p (concat pieces), length-append last [])
ends_before_dots part (p ∷ pieces) dots (i ∷ inner) rs last e all ends =
    let head = ap length (same_head p i (pieces ++ dots) ((inner ++ last ∷ []) ++ rs) e) in
    let more = ends_before_dots part pieces dots inner rs last (same_tail p i (pieces ++ dots) ((inner ++ last ∷ []) ++ rs) e) all ends in
    omega (arith, length-append p (concat pieces), length-append i (concat (inner ++ last ∷ [])))
