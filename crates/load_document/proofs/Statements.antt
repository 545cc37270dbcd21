-- The document is the canonical lines of valid statements.
use Rattle.std.proofs.Common.{◌≡◌, ℕ, zero, suc, ◌+◌, ◌*◌, ◌/◌, ◌%◌, ◌<◌, ◌≤◌, Bool, true, false, not, ◌==◌, nat_lt, inl, inr, IsUtf8, if◌then◌else◌, List, [], ◌∷◌, ◌++◌, All, None, codes, drop, map, length, refl, sym, ap, subst, ◌∙◌, append_assoc, append-nil, arith}
use Rattle.std.specs.Char.{is_ascii_alphanumeric}
use Rattle.std.specs.List.{flat_map, list_all}
use Rattle.std.proofs.lemmas.Bool.{ltb-true, not-true}
use Rattle.std.proofs.lemmas.Bool.Decides.{nat_tests}
use Rattle.std.proofs.lemmas.Grind.{flat_map-append}
use Rattle.std.proofs.lemmas.List.{map-append}
use Rattle.std.proofs.lemmas.List.Folds.{concat-append}
use Rattle.std.proofs.lemmas.List.Elements.{All-append, All-cons, All-weaker}
use Rattle.std.proofs.lemmas.List.Sums.{AllPass-from_list_all}
use Rattle.std.proofs.lemmas.Str.{IsUtf8-from_ascii}
use Rattle.std.proofs.lemmas.Str.Ascii.{IsAscii-from_all}
use Rattle.rdf_terms.proofs.Common.{Text, In, joined, numbers_below, numeral, Statement, IsAbsoluteIri, IsValidStatement, is_excluded, is_scheme_byte, Naming, canonical_line, escaped, xsd_string, IsDigit, In-numeral, All-numeral}
use Rattle.rdf_terms.specs.declared.term.Term.TheVariants.{Iri, Blank, Literal}
use Rattle.rdf_terms.specs.declared.term.LiteralKind.TheVariants.{Typed}
use Rattle.canonical_writer.specs.Determined.{HasPlainNames}
use Rattle.canonical_writer.specs.Escapes.{is_escaped}
use Rattle.canonical_writer.proofs.Escaping.{escaped-plain}
use Rattle.canonical_writer.proofs.NameTexts.{numeral-plain}
use Rattle.load_document.specs.LoadDocument.{number_line, edge_line, ring_lines, pair_lines, load_document}

-- ---- IRIs

-- an ASCII text without excluded characters that begins with `http:`
http_iri : (text : Text) → text ≡ codes "http:" ++ drop 5 text → list_all (λ c. not (is_excluded c)) text ≡ true → list_all (λ c. nat_lt c 128) text ≡ true → IsAbsoluteIri text
http_iri text begins allowed ascii = record {
  has_scheme = record { letter = 104; more = codes "ttp"; rest = drop 5 text; spelled = begins; begins = refl; goes_on = AllPass-from_list_all is_scheme_byte (codes "ttp") refl };
  allowed = All-weaker (λ c. not (is_excluded c) ≡ true) (λ c. is_excluded c ≡ false) (λ c. not-true (is_excluded c)) text (AllPass-from_list_all (λ c. not (is_excluded c)) text allowed);
  utf8 = IsUtf8-from_ascii text (IsAscii-from_all text (All-weaker (λ c. nat_lt c 128 ≡ true) (λ c. c < 128) (λ c h. ltb-true c 128 h) text (AllPass-from_list_all (λ c. nat_lt c 128) text ascii)));
}

number_iri : IsAbsoluteIri (codes "http://e/n")
number_iri = http_iri (codes "http://e/n") refl refl refl

next_iri : IsAbsoluteIri (codes "http://e/next")
next_iri = http_iri (codes "http://e/next") refl refl refl

pair_iri : IsAbsoluteIri (codes "http://e/pair")
pair_iri = http_iri (codes "http://e/pair") refl refl refl

string_iri : IsAbsoluteIri xsd_string
string_iri = http_iri xsd_string refl refl refl

-- ---- names: node 3 i is n and i, and the two behind it are a and i, and b and i

unfoldable pub letter : ℕ → ℕ
letter kind = if kind == 0 then 110 else if kind == 1 then 97 else 98

unfoldable pub name : Naming
name k = letter (k % 3) ∷ numeral (k / 3)

name-n : (i : ℕ) → name (3 * i) ≡ 110 ∷ numeral i
unfolding name letter
name-n i =
    let kind : (3 * i) % 3 ≡ 0 = omega arith in
    let place : (3 * i) / 3 ≡ i = omega arith in
    rw (kind, place) refl

name-a : (i : ℕ) → name (3 * i + 1) ≡ 97 ∷ numeral i
unfolding name letter
name-a i =
    let kind : (3 * i + 1) % 3 ≡ 1 = omega arith in
    let place : (3 * i + 1) / 3 ≡ i = omega arith in
    rw (kind, place) refl

name-b : (i : ℕ) → name (3 * i + 2) ≡ 98 ∷ numeral i
unfolding name letter
name-b i =
    let kind : (3 * i + 2) % 3 ≡ 2 = omega arith in
    let place : (3 * i + 2) / 3 ≡ i = omega arith in
    rw (kind, place) refl

letter-plain : (kind : ℕ) → is_ascii_alphanumeric (letter kind) ≡ true
unfolding letter
letter-plain kind = by (kind == 0) (kind == 1)
  where
    by : (zeroth first : Bool) → is_ascii_alphanumeric (if zeroth then 110 else if first then 97 else 98) ≡ true
    by true first = refl
    by false true = refl
    by false false = refl

pub plain_names : (nodes : ℕ) → HasPlainNames nodes name
unfolding name
plain_names nodes k h = All-cons (λ c. is_ascii_alphanumeric c ≡ true) (letter (k % 3)) (numeral (k / 3)) (letter-plain (k % 3)) (numeral-plain (k / 3))

pub named : (nodes k : ℕ) → k < nodes → 0 < length (name k)
unfolding name
named nodes k h = omega arith

-- ---- statements

unfoldable pub edge : ℕ → Text → ℕ → Statement
edge from iri to = record { subject = Blank from; predicate = Iri iri; object = Blank to; graph_name = None }

unfoldable pub numbered : ℕ → Statement
numbered i = record { subject = Blank (3 * i); predicate = Iri (codes "http://e/n"); object = Literal (record { lexical = numeral i; kind = Typed xsd_string }); graph_name = None }

unfoldable pub ring_statements : ℕ → ℕ → List Statement
ring_statements n i = numbered i ∷ edge (3 * i) (codes "http://e/next") (3 * ((i + 1) % n)) ∷ []

unfoldable pub pair_statements : ℕ → List Statement
pair_statements j = edge (3 * j + 1) (codes "http://e/pair") (3 * j + 2) ∷ edge (3 * j + 2) (codes "http://e/pair") (3 * j + 1) ∷ []

unfoldable pub statements_of : ℕ → List Statement
statements_of n = flat_map (ring_statements n) (numbers_below n) ++ flat_map pair_statements (numbers_below (n / 100))

-- ---- they are valid

edge-valid : (nodes from to : ℕ) (iri : Text) → IsAbsoluteIri iri → from < nodes → to < nodes → IsValidStatement nodes (edge from iri to)
unfolding edge
edge-valid nodes from to iri v f t = record { subject_kind = tt; predicate_kind = tt; graph_name_kind = tt; subject = f; predicate = v; object = t; graph_name = tt }

numeral-utf8 : (i : ℕ) → IsUtf8 (numeral i)
numeral-utf8 i = IsUtf8-from_ascii (numeral i) (IsAscii-from_all (numeral i) (All-weaker IsDigit (λ c. c < 128) (λ c h. omega arith) (numeral i) (All-numeral i)))

numbered-valid : (nodes i : ℕ) → 3 * i < nodes → IsValidStatement nodes (numbered i)
unfolding numbered
numbered-valid nodes i h = record { subject_kind = tt; predicate_kind = tt; graph_name_kind = tt; subject = h; predicate = number_iri; object = (numeral-utf8 i, string_iri); graph_name = tt }

two : (P : Statement → Type 0) (st su : Statement) → P st → P su → All P (st ∷ su ∷ [])
two P st su p q = All-cons P st (su ∷ []) p (All-cons P su [] q (λ k d l. absurd (omega arith)))

each_below : (P : Statement → Type 0) (f : ℕ → List Statement) (n k : ℕ) → k ≤ n → ((i : ℕ) → i < n → All P (f i)) → All P (flat_map f (numbers_below k))
each_below P f n zero h all = λ k d l. absurd (omega arith)
each_below P f n (suc k) h all =
    subst (All P) (sym (flat_map-append f (numbers_below k) (k ∷ [])))
    (All-append P (flat_map f (numbers_below k)) (f k ++ []) (each_below P f n k (omega arith) all) (subst (All P) (sym (append-nil (f k))) (all k (omega arith))))

pub statements-valid : (n : ℕ) → 1 ≤ n → All (IsValidStatement (3 * n)) (statements_of n)
unfolding statements_of ring_statements pair_statements
statements-valid n some =
    let Valid = IsValidStatement (3 * n) in
    All-append Valid (flat_map (ring_statements n) (numbers_below n)) (flat_map pair_statements (numbers_below (n / 100)))
    (each_below Valid (ring_statements n) n n (omega arith) (λ i h.
    two Valid _ _ (numbered-valid (3 * n) i (omega arith))
    (edge-valid (3 * n) (3 * i) (3 * ((i + 1) % n)) (codes "http://e/next") next_iri (omega arith) (let r : (i + 1) % n < n = omega arith in omega arith))))
    (each_below Valid pair_statements (n / 100) (n / 100) (omega arith) (λ j h.
    two Valid _ _ (edge-valid (3 * n) (3 * j + 1) (3 * j + 2) (codes "http://e/pair") pair_iri (omega arith) (omega arith))
    (edge-valid (3 * n) (3 * j + 2) (3 * j + 1) (codes "http://e/pair") pair_iri (omega arith) (omega arith))))

-- ---- their canonical lines are the document

-- digits stand as they are
unescaped : (bs : Text) → ((c : ℕ) → In c bs → IsDigit c) → flat_map escaped bs ≡ bs
unescaped [] digits = refl
unescaped (b ∷ bs) digits =
    let d = digits b (inl refl) in
    let plain : is_escaped b ≡ false = grind (arith, nat_tests) in
    rw (escaped-plain b plain) (ap (λ t. b ∷ t) (unescaped bs (λ c i. digits c (inr i))))

numbered-line : (i : ℕ) → canonical_line name (numbered i) ≡ number_line i
unfolding canonical_line numbered
numbered-line i =
    rw (name-n i, unescaped (numeral i) (In-numeral i))
    (ap (λ t. 95 ∷ 58 ∷ 110 ∷ t) (ap (λ t. numeral i ++ t) (ap (λ t. codes " <http://e/n> \"" ++ t) (append_assoc (numeral i) (34 ∷ []) (codes " .\n")))))

edge-line : (from to i j : ℕ) (iri : Text) (a b : ℕ) → name from ≡ a ∷ numeral i → name to ≡ b ∷ numeral j
    → canonical_line name (edge from iri to) ≡ edge_line (95 ∷ 58 ∷ a ∷ []) i (32 ∷ 60 ∷ (iri ++ (62 ∷ 32 ∷ 95 ∷ 58 ∷ b ∷ []))) j
unfolding canonical_line edge
edge-line from to i j iri a b e f =
    rw (e, f) (ap (λ t. 95 ∷ 58 ∷ a ∷ t) (ap (λ t. numeral i ++ t) (ap (λ t. 32 ∷ 60 ∷ t) (append_assoc iri (62 ∷ []) _ ∙ sym (append_assoc iri (62 ∷ 32 ∷ 95 ∷ 58 ∷ b ∷ []) _)))))

two_lines : (st su : Statement) (one other : Text) → canonical_line name st ≡ one → canonical_line name su ≡ other → joined (map (canonical_line name) (st ∷ su ∷ [])) ≡ one ++ other
two_lines st su one other e f = λ i. e i ++ (append-nil (f i)) i

lines-flat_map : (f : ℕ → List Statement) (text : ℕ → Text) → ((i : ℕ) → joined (map (canonical_line name) (f i)) ≡ text i) → (ns : List ℕ)
    → joined (map (canonical_line name) (flat_map f ns)) ≡ flat_map text ns
lines-flat_map f text each [] = refl
lines-flat_map f text each (n ∷ ns) =
    ap joined (map-append (canonical_line name) (f n) (flat_map f ns)) ∙ concat-append (map (canonical_line name) (f n)) (map (canonical_line name) (flat_map f ns))
    ∙ (λ i. each n i ++ lines-flat_map f text each ns i)

ring-lines : (n i : ℕ) → joined (map (canonical_line name) (ring_statements n i)) ≡ ring_lines n i
unfolding ring_statements
ring-lines n i = two_lines _ _ _ _ (numbered-line i) (edge-line (3 * i) (3 * ((i + 1) % n)) i ((i + 1) % n) (codes "http://e/next") 110 110 (name-n i) (name-n ((i + 1) % n)))

pair-lines : (j : ℕ) → joined (map (canonical_line name) (pair_statements j)) ≡ pair_lines j
unfolding pair_statements
pair-lines j =
    two_lines _ _ _ _ (edge-line (3 * j + 1) (3 * j + 2) j j (codes "http://e/pair") 97 98 (name-a j) (name-b j))
    (edge-line (3 * j + 2) (3 * j + 1) j j (codes "http://e/pair") 98 97 (name-b j) (name-a j))

pub document-lines : (n : ℕ) → joined (map (canonical_line name) (statements_of n)) ≡ load_document n
unfolding statements_of load_document
document-lines n =
    let ring = flat_map (ring_statements n) (numbers_below n) in
    let pairs = flat_map pair_statements (numbers_below (n / 100)) in
    ap joined (map-append (canonical_line name) ring pairs) ∙ concat-append (map (canonical_line name) ring) (map (canonical_line name) pairs)
    ∙ (λ i. lines-flat_map (ring_statements n) (ring_lines n) (ring-lines n) (numbers_below n) i ++ lines-flat_map pair_statements pair_lines pair-lines (numbers_below (n / 100)) i)
