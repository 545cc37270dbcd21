-- Every list of symbols derives something, so what was taken can be gone on with: by their first productions all names come to tokens, and what may be empty is so.
use Rattle.std.proofs.Common.{◌≡◌, ℕ, zero, suc, Bool, true, false, ◌&&◌, ◌==◌, if◌then◌else◌, List, [], ◌∷◌, ◌++◌, inl, inr, refl, sym, ap, subst}
use Rattle.std.proofs.lemmas.Bool.{eqb-true}
use Rattle.rdf_terms.specs.Lists.{In}
use Rattle.trig_lexer.specs.declared.kind.Kind.{Kind}
use Rattle.trig_grammar.specs.declared.symbol.Symbol.{Symbol}
use Rattle.trig_grammar.specs.declared.symbol.Symbol.TheVariants.{Token, Name}
use Rattle.trig_grammar.specs.declared.nonterminal.Nonterminal.{Nonterminal}
use Rattle.trig_grammar.specs.declared.nonterminal.Nonterminal.TheVariants.{Document}
use Rattle.trig_grammar.specs.Beginnings.{may_be_empty}
use Rattle.trig_grammar.specs.Grammar.{Rule, rule, rules, Derives}
use Rattle.trig_grammar.specs.Grammar.Derives.{nothing, takes, expands}
use Rattle.trig_grammar.specs.Places.{row}
use Rattle.trig_grammar.proofs.Tests.{implies, modus, and_left, and_right}
use Rattle.trig_grammar.proofs.Computed.{same_row}

-- ---- the first production of a name

abbrev first_of : List Rule → ℕ → List Symbol
first_of [] k = []
first_of (r ∷ rs) k = if row r.head == k then r.body else first_of rs k

abbrev has_one : List Rule → ℕ → Bool
has_one [] k = false
has_one (r ∷ rs) k = if row r.head == k then true else has_one rs k

abbrev first_body : Nonterminal → List Symbol
first_body n = first_of rules (row n)

first_in : (n : Nonterminal) (rs : List Rule) → has_one rs (row n) ≡ true → In (rule n (first_of rs (row n))) rs
first_in n [] h = cc
first_in n (r ∷ rs) h = by (row r.head == row n) refl h (first_in n rs)
  where
    by : (b : Bool) → (row r.head == row n) ≡ b → (if b then true else has_one rs (row n)) ≡ true → (has_one rs (row n) ≡ true → In (rule n (first_of rs (row n))) rs)
        → In (rule n (if b then r.body else first_of rs (row n))) (r ∷ rs)
    by true e h later = inl (ap (λ m. rule m r.body) (sym (same_row r.head n (eqb-true (row r.head) (row n) e))))
    by false e h later = inr (later h)

all_have_one : (n : Nonterminal) → has_one rules (row n) ≡ true
unfolding rules
all_have_one Document = refl
all_have_one _ = refl

first_is : (n : Nonterminal) → In (rule n (first_body n)) rules
first_is n = first_in n rules (all_have_one n)

-- ---- by first productions, each name comes to tokens

abbrev every_name : (Nonterminal → Bool) → List Symbol → Bool
every_name p [] = true
every_name p (Token kind ∷ symbols) = every_name p symbols
every_name p (Name n ∷ symbols) = p n && every_name p symbols

-- in so many steps
abbrev ends_within : ℕ → Nonterminal → Bool
ends_within zero n = false
ends_within (suc steps) n = every_name (ends_within steps) (first_body n)

all_end : (n : Nonterminal) → ends_within 9 n ≡ true
unfolding rules
all_end Document = refl
all_end _ = refl

abbrev DeriveSome : List Symbol → Type 0
DeriveSome symbols = (kinds : List Kind) × Derives symbols kinds

body_stands : (p : Nonterminal → Bool) → ((n : Nonterminal) (symbols : List Symbol) → p n ≡ true → DeriveSome symbols → DeriveSome (Name n ∷ symbols)) → (body symbols : List Symbol)
    → every_name p body ≡ true → DeriveSome symbols → DeriveSome (body ++ symbols)
body_stands p each [] symbols h d = d
body_stands p each (Token kind ∷ body) symbols h d = let more = body_stands p each body symbols h d in (kind ∷ more.0, takes more.1)
body_stands p each (Name n ∷ body) symbols h d = each n (body ++ symbols) (and_left (p n) _ h) (body_stands p each body symbols (and_right (p n) _ h) d)

name_stands : (steps : ℕ) (n : Nonterminal) (symbols : List Symbol) → ends_within steps n ≡ true → DeriveSome symbols → DeriveSome (Name n ∷ symbols)
name_stands zero n symbols h d = cc
name_stands (suc steps) n symbols h d =
    let more = body_stands (ends_within steps) (name_stands steps) (first_body n) symbols h d in
    (more.0, expands (first_body n) (first_is n) more.1)

pub derives_some : (symbols : List Symbol) → (kinds : List Kind) × Derives symbols kinds
derives_some [] = ([], nothing)
derives_some (Token kind ∷ symbols) = let more = derives_some symbols in (kind ∷ more.0, takes more.1)
derives_some (Name n ∷ symbols) = name_stands 9 n symbols (all_end n) (derives_some symbols)

-- ---- a name that may be empty stands for nothing

abbrev is_nothing : List Symbol → Bool
is_nothing [] = true
is_nothing (x ∷ xs) = false

all_empty_first : (n : Nonterminal) → implies (may_be_empty n) (is_nothing (first_body n)) ≡ true
unfolding rules
all_empty_first Document = refl
all_empty_first _ = refl

nothing_is : (symbols : List Symbol) → is_nothing symbols ≡ true → symbols ≡ []
nothing_is [] h = refl
nothing_is (x ∷ xs) h = cc

pub stands_empty : (n : Nonterminal) {symbols : List Symbol} {kinds : List Kind} → may_be_empty n ≡ true → Derives symbols kinds → Derives (Name n ∷ symbols) kinds
stands_empty n h d =
    expands [] (subst (λ b. In (rule n b) rules) (nothing_is (first_body n) (modus (may_be_empty n) (is_nothing (first_body n)) (all_empty_first n) h)) (first_is n)) d
