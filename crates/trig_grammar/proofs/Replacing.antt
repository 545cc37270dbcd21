-- A name that gives way to the production in its cell gives way to less.
use Rattle.std.proofs.Common.{◌≡◌, ℕ, zero, suc, ◌<◌, Bool, true, false, nat_lt, not, length, List, [], ◌∷◌, ◌++◌, Option, Some, None, if◌then◌else◌, inl, inr, refl, sym, ap, subst, arith}
use Rattle.std.proofs.lemmas.Bool.{eqb-true}
use Rattle.rdf_terms.specs.Lists.{In}
use Rattle.trig_lexer.specs.declared.kind.Kind.{Kind}
use Rattle.trig_grammar.specs.declared.symbol.Symbol.{Symbol}
use Rattle.trig_grammar.specs.declared.symbol.Symbol.TheVariants.{Token, Name}
use Rattle.trig_grammar.specs.declared.nonterminal.Nonterminal.{Nonterminal}
use Rattle.trig_grammar.specs.Grammar.{Rule, rule, rules}
use Rattle.trig_grammar.specs.Places.{column, row, columns}
use Rattle.trig_grammar.specs.Beginnings.{first, holds}
use Rattle.trig_grammar.specs.Table.{rule_at, body_of, body_at, cell}
use Rattle.trig_grammar.proofs.Ranks.{rank, replaced}
use Rattle.trig_grammar.proofs.Tests.{and_left, and_right, every_held}
use Rattle.trig_grammar.proofs.Computed.{column_held, has_head, is_sound, shrinks_to, shrinks, all_sound, all_shrink, same_some, same_row}

-- ---- productions by number

rule_at_in : (rs : List Rule) (p : ℕ) (r : Rule) → rule_at rs p ≡ Some r → In r rs
rule_at_in [] p r e = cc
rule_at_in (x ∷ xs) zero r e = inl (same_some r x (sym e))
rule_at_in (x ∷ xs) (suc p) r e = inr (rule_at_in xs p r e)

pub rule_in : (p : ℕ) (r : Rule) → rule_at rules p ≡ Some r → In r rules
rule_in p r e = rule_at_in rules p r e

headed : (n : Nonterminal) (found : Option Rule) → has_head (row n) found ≡ true → found ≡ Some (rule n (body_of found))
headed n None h = cc
headed n (Some r) h = ap (λ m. Some (rule m r.body)) (same_row r.head n (eqb-true (row r.head) (row n) h))

pub rule_found : (n : Nonterminal) (kind : Kind) (p : ℕ) → cell n (column kind) ≡ Some p → rule_at rules p ≡ Some (rule n (body_of (rule_at rules p)))
rule_found n kind p e =
    let checked : is_sound n (column kind) (cell n (column kind)) ≡ true = every_held (λ k. is_sound n k (cell n k)) columns (column kind) (all_sound n) (column_held kind) in
    headed n (rule_at rules p) (subst (λ c. is_sound n (column kind) c ≡ true) e checked)

-- the production in a cell is one of its row
pub sound : (n : Nonterminal) (kind : Kind) (p : ℕ) → cell n (column kind) ≡ Some p → In (rule n (body_at p)) rules
sound n kind p e = rule_in p (rule n (body_at p)) (rule_found n kind p e)

at_below : (rs : List Rule) (p : ℕ) (r : Rule) → rule_at rs p ≡ Some r → p < length rs
at_below [] p r e = cc
at_below (x ∷ xs) zero r e = omega arith
at_below (x ∷ xs) (suc p) r e = let less = at_below xs p r e in omega (arith, less)

rules_count : length rules ≡ 70
unfolding rules
rules_count = refl

pub number_below : (n : Nonterminal) (kind : Kind) (p : ℕ) → cell n (column kind) ≡ Some p → p < 70
number_below n kind p e =
    let less = at_below rules p (rule n (body_of (rule_at rules p))) (rule_found n kind p e) in
    omega (arith, less, rules_count)

-- ---- the number of replacements decreases

fewer_none : (b : Bool) (some less : ℕ) → not b ≡ true → less < (if b then some else suc less)
fewer_none false some less h = omega arith
fewer_none true some less h = cc

fewer_token : (b : Bool) (rank_of other : ℕ) → b ≡ true → 0 < (if b then suc rank_of else other)
fewer_token false rank_of other h = cc
fewer_token true rank_of other h = omega arith

fewer_name : (b c : Bool) (n m other more : ℕ) → b ≡ true → c ≡ true → nat_lt m n ≡ true → (if c then suc m else more) < (if b then suc n else other)
fewer_name false c n m other more h g l = cc
fewer_name true false n m other more h g l = cc
fewer_name true true n m other more h g l = grind arith

fewer : (n : Nonterminal) (k : ℕ) (body symbols : List Symbol) → shrinks_to n k body ≡ true → replaced k (body ++ symbols) < replaced k (Name n ∷ symbols)
fewer n k [] symbols h = fewer_none (holds k (first n)) (suc (rank n)) (replaced k symbols) h
fewer n k (Token kind ∷ body) symbols h = fewer_token (holds k (first n)) (rank n) (suc (replaced k symbols)) h
fewer n k (Name m ∷ body) symbols h =
    fewer_name (holds k (first n)) (holds k (first m)) (rank n) (rank m) (suc (replaced k symbols)) (suc (replaced k (body ++ symbols)))
    (and_left (holds k (first n)) _ h)
    (and_left (holds k (first m)) _ (and_right (holds k (first n)) _ h))
    (and_right (holds k (first m)) _ (and_right (holds k (first n)) _ h))

pub fewer_replaced : (n : Nonterminal) (kind : Kind) (p : ℕ) (symbols : List Symbol) → cell n (column kind) ≡ Some p
    → replaced (column kind) (body_at p ++ symbols) < replaced (column kind) (Name n ∷ symbols)
fewer_replaced n kind p symbols e =
    let checked : shrinks n (column kind) (cell n (column kind)) ≡ true = every_held (λ k. shrinks n k (cell n k)) columns (column kind) (all_shrink n) (column_held kind) in
    fewer n (column kind) (body_at p) symbols (subst (λ c. shrinks n (column kind) c ≡ true) e checked)
