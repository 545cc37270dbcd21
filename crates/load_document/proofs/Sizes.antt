-- How long the document is, and how many statements it has.
use Rattle.std.proofs.Common.{ℕ, zero, suc, ◌+◌, ◌*◌, ◌/◌, ◌%◌, ◌<◌, ◌≤◌, List, [], ◌∷◌, ◌++◌, codes, length, length-append, ap, arith}
use Rattle.std.specs.List.{flat_map}
use Rattle.std.proofs.lemmas.Grind.{flat_map-append}
use Rattle.rdf_terms.proofs.Common.{Text, numbers_below, numeral, length-numeral-le}
use Rattle.load_document.specs.LoadDocument.{number_line, edge_line, ring_lines, pair_lines, load_document}
use Rattle.load_document.proofs.Statements.{ring_statements, pair_statements, statements_of}

-- each part is no longer than this, and there are n of them
parts_below : {A : Type 0} (f : ℕ → List A) (most n k : ℕ) → k ≤ n → ((i : ℕ) → i < n → length (f i) ≤ most) → length (flat_map f (numbers_below k)) ≤ most * k
parts_below f most n zero h all = omega arith
parts_below f most n (suc k) h all =
    let before = parts_below f most n k (omega arith) all in
    let last = all k (omega arith) in
    let whole = ap length (flat_map-append f (numbers_below k) (k ∷ [])) in
    omega (arith, length-append (flat_map f (numbers_below k)) (f k ++ []), length-append (f k) [])

numeral-short : (i : ℕ) → i < 1000000 → length (numeral i) ≤ 6
numeral-short i h = length-numeral-le 6 i (omega arith) h

number_line-short : (i : ℕ) → i < 1000000 → length (number_line i) ≤ 34
number_line-short i h =
    omega (arith, numeral-short i h, length-append (numeral i) (codes " <http://e/n> \"" ++ (numeral i ++ codes "\" .\n")), length-append (numeral i) (codes "\" .\n"))

edge_line-short : (front middle : Text) (i j : ℕ) → i < 1000000 → j < 1000000 → length (edge_line front i middle j) ≤ length front + length middle + 15
edge_line-short front middle i j h k =
    omega (
      arith,
      numeral-short i h,
      numeral-short j k,
      length-append front (numeral i ++ (middle ++ (numeral j ++ codes " .\n"))),
      length-append (numeral i)
          (middle ++ (numeral j ++ codes " .\n")),
      length-append middle (numeral j ++ codes " .\n"),
      length-append (numeral j) (codes " .\n"),
    )

ring_lines-short : (n i : ℕ) → i < n → n ≤ 400000 → length (ring_lines n i) ≤ 72
ring_lines-short n i h bound =
    let below : (i + 1) % n < n = omega arith in
    omega (
      arith,
      number_line-short i (omega arith),
      edge_line-short (codes "_:n") (codes " <http://e/next> _:n") i ((i + 1) % n) (omega arith) (omega arith),
      length-append (number_line i)
          (edge_line (codes "_:n") i (codes " <http://e/next> _:n") ((i + 1) % n)),
    )

pair_lines-short : (j : ℕ) → j < 1000000 → length (pair_lines j) ≤ 76
pair_lines-short j h =
    omega (
      arith,
      edge_line-short (codes "_:a") (codes " <http://e/pair> _:b") j j h h,
      edge_line-short (codes "_:b") (codes " <http://e/pair> _:a") j j h h,
      length-append (edge_line (codes "_:a") j (codes " <http://e/pair> _:b") j) (edge_line (codes "_:b") j (codes " <http://e/pair> _:a") j),
    )

pub document-short : (n : ℕ) → n ≤ 400000 → length (load_document n) ≤ 100 * n
unfolding load_document
document-short n bound =
    omega (
      arith,
      length-append (flat_map (ring_lines n) (numbers_below n)) (flat_map pair_lines (numbers_below (n / 100))),
      parts_below (ring_lines n) 72 n n (omega arith) (λ i h. ring_lines-short n i h bound),
      parts_below pair_lines 76 (n / 100) (n / 100) (omega arith) (λ j h. pair_lines-short j (omega arith)),
    )

two-in_ring : (n i : ℕ) → length (ring_statements n i) ≤ 2
unfolding ring_statements
two-in_ring n i = omega arith

two-in_pair : (j : ℕ) → length (pair_statements j) ≤ 2
unfolding pair_statements
two-in_pair j = omega arith

pub statements-few : (n : ℕ) → length (statements_of n) ≤ 4 * n
unfolding statements_of
statements-few n =
    omega (
      arith,
      length-append (flat_map (ring_statements n) (numbers_below n)) (flat_map pair_statements (numbers_below (n / 100))),
      parts_below (ring_statements n) 2 n n (omega arith) (λ i h. two-in_ring n i),
      parts_below pair_statements 2 (n / 100) (n / 100) (omega arith) (λ j h. two-in_pair j),
    )
