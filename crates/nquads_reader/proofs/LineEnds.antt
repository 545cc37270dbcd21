-- The first line of a document goes up to the first LF or CR.
use Rattle.std.proofs.Common.{◌≡◌, ℕ, zero, suc, ◌+◌, ◌<◌, ◌≤◌, Bool, true, false, ◌||◌, List, [], ◌∷◌, ◌++◌, length, take, drop, slice_index, get_or, refl, sym, ap, ◌∙◌, arith, eqb, ◌==◌, ◌≢◌, append-nil, add-one, drop-cons}
use Rattle.std.proofs.lemmas.List.{take_all, drop_all, get_or-drop}
use Rattle.std.proofs.lemmas.Bool.{eqb-true, or_parts}
use Rattle.std.proofs.lemmas.Bool.Decides.{nat_tests}
use Rattle.std.proofs.lemmas.Bool.{false_from_ne_true}
use Rattle.memchr.specs.Find.{is_byte2, Nowhere, Passes}
use Rattle.nquads_reader.specs.Lines.{lines_of, onto_first, begins_with_lf}

abbrev put : List ℕ → List (List ℕ) → List (List ℕ)
put [] ls = ls
put (c ∷ cs) ls = onto_first c (put cs ls)

put_front : (cs : List ℕ) (l : List ℕ) (ls : List (List ℕ)) → put cs (l ∷ ls) ≡ (cs ++ l) ∷ ls
put_front [] l ls = refl
put_front (c ∷ cs) l ls = ap (onto_first c) (put_front cs l ls)

plain : (c : ℕ) (cs : List ℕ) → is_byte2 10 13 c ≡ false → lines_of (c ∷ cs) ≡ onto_first c (lines_of cs)
plain c cs h = let p = or_parts (c == 10) (c == 13) h in rw (p.0, p.1) refl

pass : (bs : List ℕ) (n : ℕ) → n ≤ length bs → ((k : ℕ) → k < n → is_byte2 10 13 (slice_index bs k) ≡ false) → lines_of bs ≡ put (take n bs) (lines_of (drop n bs))
pass bs zero l h = refl
pass [] (suc n) l h = absurd (omega arith)
pass (c ∷ cs) (suc n) l h =
    let first : is_byte2 10 13 c ≡ false = h 0 (omega arith) in
    plain c cs first ∙ ap (onto_first c) (pass cs n (omega arith) (λ k lt. h (suc k) (omega arith)))

pub before : (bs : List ℕ) (n : ℕ) → Nowhere (Passes (is_byte2 10 13) bs) 0 n → (k : ℕ) → k < n → is_byte2 10 13 (slice_index bs k) ≡ false
before bs n h k l = false_from_ne_true (is_byte2 10 13 (slice_index bs k)) (h k (omega arith) l)

put_end : (c : ℕ) (cs : List ℕ) → put (c ∷ cs) [] ≡ (c ∷ cs) ∷ []
put_end c [] = refl
put_end c (d ∷ ds) = ap (onto_first c) (put_end d ds)

put_all : (bs : List ℕ) → 0 < length bs → put bs [] ≡ bs ∷ []
put_all [] some = absurd (omega arith)
put_all (c ∷ cs) some = put_end c cs

-- no line end
pub one_line : (bs : List ℕ) → 0 < length bs → Nowhere (Passes (is_byte2 10 13) bs) 0 (length bs) → lines_of bs ≡ bs ∷ []
one_line bs some h =
    pass bs (length bs) (omega arith) (before bs (length bs) h)
    ∙ ap (λ l. put l (lines_of (drop (length bs) bs))) (take_all (length bs) bs (omega arith))
    ∙ ap (λ l. put bs (lines_of l)) (drop_all (length bs) bs (omega arith))
    ∙ put_all bs some

module _ (bs : List ℕ) (n : ℕ) (l : n < length bs) (h : Nowhere (Passes (is_byte2 10 13) bs) 0 n) where
  front : (rest : List ℕ) → lines_of (drop n bs) ≡ [] ∷ lines_of rest → lines_of bs ≡ take n bs ∷ lines_of rest
  front rest e =
      pass bs n (omega arith) (before bs n h) ∙ ap (put (take n bs)) e ∙ put_front (take n bs) [] (lines_of rest)
      ∙ ap (λ x. x ∷ lines_of rest) (append-nil (take n bs))

  here : drop n bs ≡ get_or bs n 0 ∷ drop (n + 1) bs
  here = rw add-one (drop-cons bs n 0 l)

  pub ends_lf : get_or bs n 0 ≡ 10 → lines_of bs ≡ take n bs ∷ lines_of (drop (n + 1) bs)
  ends_lf e = front (drop (n + 1) bs) (rw (here, e) refl)

  pub ends_crlf : get_or bs n 0 ≡ 13 → (m : n + 1 < length bs) → get_or bs (n + 1) 0 ≡ 10 → lines_of bs ≡ take n bs ∷ lines_of (drop (n + 2) bs)
  ends_crlf e m f =
      let same : suc (n + 1) ≡ n + 2 = omega arith in
      let next : drop (n + 1) bs ≡ 10 ∷ drop (n + 2) bs = drop-cons bs (n + 1) 0 m ∙ (λ i. f i ∷ drop (same i) bs) in
      front (drop (n + 2) bs) (rw (here, e, next) refl)

  not_lf : (cs : List ℕ) → get_or cs 0 0 ≢ 10 → begins_with_lf cs ≡ false
  not_lf [] d = refl
  not_lf (c ∷ cs) d = grind (arith, nat_tests)

  pub ends_cr : get_or bs n 0 ≡ 13 → get_or bs (n + 1) 0 ≢ 10 → lines_of bs ≡ take n bs ∷ lines_of (drop (n + 1) bs)
  ends_cr e d =
      let same : n + 1 + 0 ≡ n + 1 = omega arith in
      let at : get_or (drop (n + 1) bs) 0 0 ≡ get_or bs (n + 1) 0 = get_or-drop (n + 1) bs 0 0 ∙ ap (λ k. get_or bs k 0) same in
      let no : begins_with_lf (drop (n + 1) bs) ≡ false = not_lf (drop (n + 1) bs) (λ x. d (sym at ∙ x)) in
      front (drop (n + 1) bs) (rw (here, e, no) refl)

  -- a line end that is no CR LF
  pub ends_one : is_byte2 10 13 (get_or bs n 0) ≡ true → (get_or bs n 0 ≡ 13 → get_or bs (n + 1) 0 ≢ 10) → lines_of bs ≡ take n bs ∷ lines_of (drop (n + 1) bs)
  ends_one t d = by (eqb (get_or bs n 0) 10) refl
    where
      by : (b : Bool) → eqb (get_or bs n 0) 10 ≡ b → lines_of bs ≡ take n bs ∷ lines_of (drop (n + 1) bs)
      by true h = ends_lf (eqb-true (get_or bs n 0) 10 h)
      by false h = let e : get_or bs n 0 ≡ 13 = eqb-true (get_or bs n 0) 13 (sym (ap (λ x. x || eqb (get_or bs n 0) 13) h) ∙ t) in ends_cr e (d e)
