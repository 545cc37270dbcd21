-- A name is empty, and begins with a kind, as the sets of the table say, exactly where some derivation has it so. For each member the step that leads to it is found by computing.
use Rattle.std.proofs.Common.{◌≡◌, ℕ, zero, suc, ◌<◌, Bool, true, false, ◌&&◌, ◌==◌, nat_lt, inl, inr, List, [], ◌∷◌, ◌++◌, Option, Some, None, refl, sym, ap, subst, ◌∙◌, arith}
use Rattle.std.proofs.lemmas.Bool.{and_from, eqb-true, or_cases}
use Rattle.trig_lexer.specs.declared.kind.Kind.{Kind}
use Rattle.trig_lexer.specs.declared.kind.Kind.TheVariants.{AtPrefix, AtBase, WordPrefix, WordBase, WordGraph, WordA, WordTrue, WordFalse, Dot, Semicolon, Comma, Carets, LeftBrace, RightBrace, LeftBracket, RightBracket, LeftParen, RightParen, IriRef, PnameNs, PnameLn, BlankLabel, Anon, Integer, Decimal, Double, Quoted, LangTag, End}
use Rattle.trig_grammar.specs.declared.symbol.Symbol.{Symbol}
use Rattle.trig_grammar.specs.declared.symbol.Symbol.TheVariants.{Token, Name}
use Rattle.trig_grammar.specs.declared.nonterminal.Nonterminal.{Nonterminal}
use Rattle.trig_grammar.specs.declared.nonterminal.Nonterminal.TheVariants.{Document, Statement, Block, TriplesOrGraph, AfterLabel, Triples2, WrappedGraph, MaybeTriples, TriplesBlock, MoreTriples, LabelOrSubject, Directive, PrefixId, Base, SparqlPrefix, SparqlBase, Triples, MaybePredicates, Predicates, MorePredicates, MaybePredicate, Objects, MoreObjects, Verb, Subject, Object, Literal, RdfLiteral, Suffix, PropertyList, Collection, Items, Iri, BlankNode}
use Rattle.trig_grammar.specs.Grammar.{rule, rules, Derives}
use Rattle.trig_grammar.specs.Grammar.Derives.{nothing, takes, expands}
use Rattle.trig_grammar.specs.Places.{column, columns}
use Rattle.trig_grammar.specs.Beginnings.{may_be_empty, first, holds, are_empty, begin_with}
use Rattle.trig_grammar.specs.Table.{body_at, the_cells, upper_cells, lower_cells, cell}
use Rattle.trig_grammar.proofs.Ranks.{rank}
use Rattle.trig_grammar.specs.Reach.{EmptyIsRight, FirstIsRight}
use Rattle.trig_grammar.proofs.Tests.{implies, every, every_held, modus, and_left, and_right}
use Rattle.trig_grammar.proofs.Computed.{column_held}
use Rattle.trig_grammar.proofs.Replacing.{sound}
use Rattle.trig_grammar.proofs.Predicting.{begins, of_empty}
use Rattle.trig_grammar.proofs.Standing.{stands_empty, derives_some}

-- ---- kinds by column

abbrev all_kinds : List Kind
all_kinds =
    AtPrefix ∷ AtBase ∷ WordPrefix ∷ WordBase ∷ WordGraph ∷ WordA ∷ WordTrue ∷ WordFalse ∷ Dot ∷ Semicolon ∷ Comma ∷ Carets ∷ LeftBrace ∷ RightBrace ∷ LeftBracket ∷ RightBracket ∷ LeftParen
    ∷ RightParen ∷ IriRef ∷ PnameNs ∷ PnameLn ∷ BlankLabel ∷ Anon ∷ Integer ∷ Decimal ∷ Double ∷ Quoted ∷ LangTag ∷ End ∷ []

abbrev kind_at : List Kind → ℕ → Option Kind
kind_at [] k = None
kind_at (kind ∷ kinds) zero = Some kind
kind_at (kind ∷ kinds) (suc k) = kind_at kinds k

kind_column : (kind : Kind) → kind_at all_kinds (column kind) ≡ Some kind
kind_column AtPrefix = refl
kind_column _ = refl

pub same_kind : (one other : Kind) → (column one == column other) ≡ true → one ≡ other
same_kind one other e =
    let found : Some one ≡ Some other = sym (kind_column one) ∙ ap (kind_at all_kinds) (eqb-true (column one) (column other) e) ∙ kind_column other in
    cc

pub less_than : (m n : ℕ) → nat_lt m n ≡ true → m < n
less_than m n e = grind arith

-- ---- nothing

empties : {symbols : List Symbol} {kinds : List Kind} → Derives symbols kinds → kinds ≡ [] → are_empty symbols ≡ true
empties nothing e = refl
empties (takes d) e = cc
empties (expands {head} body {symbols} i d) e =
    let b = both_empty body symbols (empties d e) in
    and_from (may_be_empty head) (are_empty symbols) (of_empty (rule head body) i b.0) b.1
  where
    both_empty : (xs ys : List Symbol) → are_empty (xs ++ ys) ≡ true → (are_empty xs ≡ true) × (are_empty ys ≡ true)
    both_empty [] ys h = (refl, h)
    both_empty (Token kind ∷ xs) ys h = cc
    both_empty (Name n ∷ xs) ys h =
        let more = both_empty xs ys (and_right (may_be_empty n) _ h) in
        (and_from (may_be_empty n) _ (and_left (may_be_empty n) _ h) more.0, more.1)

pub empty_is_right : EmptyIsRight
empty_is_right n = (
  (λ h. stands_empty n h nothing),
  (λ d. and_left (may_be_empty n) true (empties d refl)),
)

-- ---- what a name begins with

leads_to : ℕ → Nonterminal → List Symbol → Bool
leads_to k n [] = false
leads_to k n (Token kind ∷ symbols) = column kind == k
leads_to k n (Name m ∷ symbols) = holds k (first m) && nat_lt (rank m) (rank n)

leads : ℕ → Nonterminal → Option ℕ → Bool
leads k n None = false
leads k n (Some p) = leads_to k n (body_at p)

all_lead : (n : Nonterminal) → every (λ k. implies (holds k (first n)) (leads k n (cell n k))) columns ≡ true
unfolding rules the_cells upper_cells lower_cells leads leads_to
all_lead Document = refl
all_lead Statement = refl
all_lead Block = refl
all_lead TriplesOrGraph = refl
all_lead AfterLabel = refl
all_lead Triples2 = refl
all_lead WrappedGraph = refl
all_lead MaybeTriples = refl
all_lead TriplesBlock = refl
all_lead MoreTriples = refl
all_lead LabelOrSubject = refl
all_lead Directive = refl
all_lead PrefixId = refl
all_lead Base = refl
all_lead SparqlPrefix = refl
all_lead SparqlBase = refl
all_lead Triples = refl
all_lead MaybePredicates = refl
all_lead Predicates = refl
all_lead MorePredicates = refl
all_lead MaybePredicate = refl
all_lead Objects = refl
all_lead MoreObjects = refl
all_lead Verb = refl
all_lead Subject = refl
all_lead Object = refl
all_lead Literal = refl
all_lead RdfLiteral = refl
all_lead Suffix = refl
all_lead PropertyList = refl
all_lead Collection = refl
all_lead Items = refl
all_lead Iri = refl
all_lead BlankNode = refl

abbrev Begins : Nonterminal → Kind → List Symbol → Type 0
Begins n kind symbols = (more : List Kind) × Derives (Name n ∷ symbols) (kind ∷ more)

body_begins : (n : Nonterminal) (kind : Kind) (body symbols : List Symbol) → ((m : Nonterminal) (behind : List Symbol) → rank m < rank n → holds (column kind) (first m) ≡ true → Begins m kind behind)
    → leads_to (column kind) n body ≡ true → (more : List Kind) × Derives (body ++ symbols) (kind ∷ more)
unfolding leads_to
body_begins n kind [] symbols below h = cc
body_begins n kind (Token other ∷ body) symbols below h =
    let some = derives_some (body ++ symbols) in
    (some.0, subst (λ k. Derives (Token k ∷ (body ++ symbols)) (kind ∷ some.0)) (sym (same_kind other kind h)) (takes some.1))
body_begins n kind (Name m ∷ body) symbols below h =
    below m (body ++ symbols) (less_than (rank m) (rank n) (and_right (holds (column kind) (first m)) _ h)) (and_left (holds (column kind) (first m)) _ h)

cell_begins : (n : Nonterminal) (kind : Kind) (symbols : List Symbol) (found : Option ℕ)
    → ((m : Nonterminal) (behind : List Symbol) → rank m < rank n → holds (column kind) (first m) ≡ true → Begins m kind behind)
    → cell n (column kind) ≡ found → leads (column kind) n found ≡ true → Begins n kind symbols
unfolding leads
cell_begins n kind symbols None below e h = cc
cell_begins n kind symbols (Some p) below e h =
    let more = body_begins n kind (body_at p) symbols below h in
    (more.0, expands (body_at p) (sound n kind p e) more.1)

name_begins : (fuel : ℕ) (n : Nonterminal) (kind : Kind) (symbols : List Symbol) → rank n < fuel → holds (column kind) (first n) ≡ true → Begins n kind symbols
name_begins zero n kind symbols less h = absurd (omega (arith, less))
name_begins (suc fuel) n kind symbols less h =
    cell_begins n kind symbols (cell n (column kind)) (λ m behind lower held. name_begins fuel m kind behind (omega (arith, less, lower)) held) refl
    (modus (holds (column kind) (first n)) _ (every_held (λ k. implies (holds k (first n)) (leads k n (cell n k))) columns (column kind) (all_lead n) (column_held kind)) h)

pub first_is_right : FirstIsRight
first_is_right n kind = (
  (λ h. name_begins (suc (rank n)) n kind [] (omega arith) h),
  (λ b. elim (or_cases (holds (column kind) (first n)) _ (begins b.1)) [
    | inl h ↦ h
    | inr h ↦ let no : false ≡ true = and_right (may_be_empty n) false h in cc
  ]),
)

-- what may begin the symbols does so in some derivation
pub symbols_begin : (kind : Kind) (body symbols : List Symbol) → begin_with (column kind) body ≡ true → (more : List Kind) × Derives (body ++ symbols) (kind ∷ more)
symbols_begin kind [] symbols h = cc
symbols_begin kind (Token other ∷ body) symbols h =
    let some = derives_some (body ++ symbols) in
    (some.0, subst (λ k. Derives (Token k ∷ (body ++ symbols)) (kind ∷ some.0)) (sym (same_kind other kind h)) (takes some.1))
symbols_begin kind (Name n ∷ body) symbols h = elim (or_cases (holds (column kind) (first n)) _ h) [
  | inl b ↦ name_begins (suc (rank n)) n kind (body ++ symbols) (omega arith) b
  | inr b ↦
      let more = symbols_begin kind body symbols (and_right (may_be_empty n) _ b) in
      (more.0, stands_empty n (and_left (may_be_empty n) _ b) more.1)
]

pub symbols_empty : (body symbols : List Symbol) (kinds : List Kind) → are_empty body ≡ true → Derives symbols kinds → Derives (body ++ symbols) kinds
symbols_empty [] symbols kinds h d = d
symbols_empty (Token other ∷ body) symbols kinds h d = cc
symbols_empty (Name n ∷ body) symbols kinds h d = stands_empty n (and_left (may_be_empty n) _ h) (symbols_empty body symbols kinds (and_right (may_be_empty n) _ h) d)
