-- A text that is made of pieces, and their lengths.
use Rattle.std.proofs.Common.{◌≡◌, ℕ, suc, ◌+◌, ◌-◌, ◌<◌, ◌≤◌, List, [], ◌∷◌, ◌++◌, length, map, sum, take, drop, get_or, refl, sym, ap, ◌∙◌, length-append, length-drop, drop-cons, add-one, arith, Result, Ok, Err, OnOk, true, true≢false}
use Rattle.std.specs.Result.{is_ok}
use Rattle.std.proofs.Math.Seq.{take-append_seam, drop-append_seam}
use Rattle.std.proofs.lemmas.List.{take-append-le, drop-append-le, take-append-drop, take_all, length-take-le}
use Rattle.std.proofs.lemmas.List.Sums.{sum_by-cons, sum_by-drop_more}
use Rattle.rdf_terms.specs.Lists.{Text, joined, sorted}
use Rattle.canonical_writer.specs.Pieces.{pieces}

sum-cons : (n : ℕ) (ns : List ℕ) → sum (n ∷ ns) ≡ n + sum ns
sum-cons n ns = sum_by-cons (λ k. k) n ns

pub length-pieces : (text : Text) (lengths : List ℕ) → length (pieces text lengths) ≡ length lengths
length-pieces text [] = refl
length-pieces text (n ∷ ns) = ap suc (length-pieces (drop n text) ns)

nothing : (text : Text) → 0 ≡ length text → text ≡ []
nothing [] e = refl
nothing (x ∷ xs) e = absurd (omega arith)

-- the rest that the other lengths make up
rest_fits : (n : ℕ) (ns : List ℕ) (text : Text) → sum (n ∷ ns) ≡ length text → (n ≤ length text) × (sum ns ≡ length (drop n text))
rest_fits n ns text e = let s = sum-cons n ns in let l = length-drop n text in (omega arith, omega arith)

-- the pieces make up the text
pub joined-pieces : (text : Text) (lengths : List ℕ) → sum lengths ≡ length text → joined (pieces text lengths) ≡ text
joined-pieces text [] e = sym (nothing text e)
joined-pieces text (n ∷ ns) e =
    let r = rest_fits n ns text e in
    ap (λ t. take n text ++ t) (joined-pieces (drop n text) ns r.1) ∙ take-append-drop n text

-- how long the pieces are
pub lengths-pieces : (text : Text) (lengths : List ℕ) → sum lengths ≡ length text → map length (pieces text lengths) ≡ lengths
lengths-pieces text [] e = refl
lengths-pieces text (n ∷ ns) e =
    let r = rest_fits n ns text e in
    let l : length (take n text) ≡ n = length-take-le n text r.0 in
    ap (λ m. m ∷ map length (pieces (drop n text) ns)) l ∙ ap (λ ms. n ∷ ms) (lengths-pieces (drop n text) ns r.1)

sum-lengths : (ts : List Text) → sum (map length ts) ≡ length (joined ts)
sum-lengths [] = refl
sum-lengths (t ∷ ts) = sum-cons (length t) (map length ts) ∙ (ap (λ n. length t + n) (sum-lengths ts) ∙ sym (length-append t (joined ts)))

-- texts lie one after the other in a text, with these lengths
pub lengths_fit : (ts : List Text) (text : Text) (lengths : List ℕ) → text ≡ joined ts → lengths ≡ map length ts → sum lengths ≤ length text
lengths_fit ts text lengths t l = let full : sum lengths ≡ length text = ap sum l ∙ (sum-lengths ts ∙ sym (ap length t)) in omega arith

-- texts one after the other, cut at their lengths
pub pieces-joined : (ts : List Text) → pieces (joined ts) (map length ts) ≡ ts
pieces-joined [] = refl
pieces-joined (t ∷ ts) =
    rw (take-append_seam t (joined ts), drop-append_seam t (joined ts)) (ap (λ us. t ∷ us) (pieces-joined ts))

-- ---- the pieces from place i on, of which the first is cut off

module _ (rest : Text) (lengths : List ℕ) (i d : ℕ) (bound : i < length lengths) where
  abbrev first : ℕ
  first = get_or lengths i d

  pub pieces-next : (front behind : Text) → front ≡ take first rest → behind ≡ drop first rest → pieces rest (drop i lengths) ≡ front ∷ pieces behind (drop (i + 1) lengths)
  pieces-next front behind f b =
      ap (pieces rest) (drop-cons lengths i d bound)
      ∙ (λ j. sym f j ∷ pieces (sym b j) (drop (sym (add-one i) j) lengths))

  module _ (fits : sum (drop i lengths) ≤ length rest) where
    parts : sum (drop i lengths) ≡ first + sum (drop (i + 1) lengths)
    parts = sum_by-drop_more (λ k. k) lengths i d bound

    pub next_fits : first ≤ length rest
    next_fits = omega (arith, parts)

    pub others_fit : (behind : Text) → behind ≡ drop first rest → sum (drop (i + 1) lengths) ≤ length behind
    others_fit behind b = omega (arith, parts, ap length b, length-drop first rest)

-- one more line and its length
pub pieces-more : (text line : Text) (lengths : List ℕ) → sum lengths ≡ length text → pieces (text ++ line) (lengths ++ length line ∷ []) ≡ pieces text lengths ++ line ∷ []
pieces-more text line [] e = rw (nothing text e) (ap (λ t. t ∷ []) (take_all (length line) line (omega arith)))
pieces-more text line (n ∷ ns) e =
    let r = rest_fits n ns text e in
    rw (take-append-le n text line r.0, drop-append-le n text line r.0) (ap (λ ps. take n text ∷ ps) (pieces-more (drop n text) line ns r.1))

-- a line was written behind the text, and its length is noted
pub line_added : (text line new : Text) (before after : ℕ) (lengths more : List ℕ) → new ≡ text ++ line → before ≡ length text → after ≡ length new → sum lengths ≡ length text
    → more ≡ lengths ++ (after - before) ∷ [] → pieces new more ≡ pieces text lengths ++ line ∷ []
line_added text line new before after lengths more written started ended fits noted =
    let length-line : after - before ≡ length line = omega (arith, ap length written, length-append text line) in
    rw (noted, written, length-line) (pieces-more text line lengths fits)

-- what is told of a success
pub told_ok : {T E P : Type 0} (r : Result T E) → is_ok r ≡ true → OnOk r P → P
told_ok (Ok x) e p = p
told_ok (Err x) e p = absurd (true≢false (sym e))

-- a list of no or one text is sorted
pub sorted_short : (xs : List Text) → length xs ≤ 1 → sorted xs ≡ xs
sorted_short [] h = refl
sorted_short (x ∷ []) h = refl
sorted_short (x ∷ y ∷ xs) h = absurd (omega arith)
