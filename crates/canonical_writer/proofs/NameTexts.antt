-- Names tell the nodes that they are names of.
use Rattle.std.proofs.Common.{◌≡◌, ℕ, List, ◌∷◌, Option, Some, None, IsSome, All, get_or, refl, sym, ap, ◌∙◌, arith, true, true≢false}
use Rattle.std.specs.Char.{is_ascii_alphanumeric}
use Rattle.std.proofs.lemmas.Bool.Decides.{nat_tests}
use Rattle.std.proofs.lemmas.List.Elements.{All-cons, All-weaker, All-nil}
use Rattle.rdf_terms.proofs.Common.{numeral, place_of, issued_name, issued_names, identifier, identifier_at, name_or_nothing, IsDigit, All-numeral, numeral-injective, identifier-injective}
use Rattle.rdf_terms.specs.declared.term.Prefix.{Prefix}
use Rattle.rdf_terms.specs.declared.term.Prefix.TheVariants.{Canonical, Temporary}
use Rattle.canonical_writer.specs.Names.{numbered_name}
use Rattle.canonical_writer.specs.Determined.{HasPlainNames}
use Rattle.canonical_writer.proofs.Placing.{place-found}
use Rattle.canonical_writer.proofs.Splitting.{tail_of}

-- two nodes of one issued name are one node
same_by_places : (prefix : Prefix) (list : List ℕ) (m n : ℕ) (o p : Option ℕ) → place_of list m ≡ o → place_of list n ≡ p
    → IsSome (identifier_at prefix o) → identifier_at prefix o ≡ identifier_at prefix p → m ≡ n
same_by_places prefix list m n None p a b h e = absurd (true≢false (sym h))
same_by_places prefix list m n (Some j) None a b h e = cc
same_by_places prefix list m n (Some j) (Some k) a b h e =
    let s : j ≡ k = identifier-injective prefix j k (ap name_or_nothing e) in
    let p = place-found list m j a in
    let q = place-found list n k b in
    sym p.1 ∙ (ap (λ i. get_or list i 0) s ∙ q.1)

pub issued_name-injective : (prefix : Prefix) (list : List ℕ) (m n : ℕ) → IsSome (issued_name prefix list m) → issued_name prefix list m ≡ issued_name prefix list n → m ≡ n
issued_name-injective prefix list m n h e = same_by_places prefix list m n (place_of list m) (place_of list n) refl refl h e

pub numbered_name-injective : (m n : ℕ) → numbered_name m ≡ numbered_name n → m ≡ n
numbered_name-injective m n e = numeral-injective m n (ap (λ o. tail_of (name_or_nothing o)) e)

-- ---- letters and digits

digit-plain : (c : ℕ) → IsDigit c → is_ascii_alphanumeric c ≡ true
digit-plain c h = grind (arith, nat_tests)

pub numeral-plain : (k : ℕ) → All (λ c. is_ascii_alphanumeric c ≡ true) (numeral k)
numeral-plain k = All-weaker IsDigit (λ c. is_ascii_alphanumeric c ≡ true) digit-plain (numeral k) (All-numeral k)

pub identifier-plain : (prefix : Prefix) (k : ℕ) → All (λ c. is_ascii_alphanumeric c ≡ true) (identifier prefix k)
identifier-plain Canonical k =
    All-cons (λ c. is_ascii_alphanumeric c ≡ true) 99 (49 ∷ 52 ∷ 110 ∷ numeral k) refl
    (All-cons (λ c. is_ascii_alphanumeric c ≡ true) 49 (52 ∷ 110 ∷ numeral k) refl
    (All-cons (λ c. is_ascii_alphanumeric c ≡ true) 52 (110 ∷ numeral k) refl (All-cons (λ c. is_ascii_alphanumeric c ≡ true) 110 (numeral k) refl (numeral-plain k))))
identifier-plain Temporary k = All-cons (λ c. is_ascii_alphanumeric c ≡ true) 98 (numeral k) refl (numeral-plain k)

pub HasPlainNames-issued : (prefix : Prefix) (list : List ℕ) (nodes : ℕ) → HasPlainNames nodes (issued_names prefix list)
HasPlainNames-issued prefix list nodes n h = by (place_of list n)
  where
    by : (o : Option ℕ) → All (λ c. is_ascii_alphanumeric c ≡ true) (name_or_nothing (identifier_at prefix o))
    by None = All-nil _
    by (Some k) = identifier-plain prefix k
