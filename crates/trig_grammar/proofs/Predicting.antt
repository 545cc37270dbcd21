-- The table predicts right: the grammar is LL(1). What is computed of all productions and cells says so.
use Rattle.std.proofs.Common.{◌≡◌, ℕ, suc, ◌+◌, true, ◌&&◌, ◌||◌, List, [], ◌∷◌, ◌++◌, Option, Some, None, ◌⊎◌, inl, inr, refl, sym, ap, subst, ◌∙◌, arith}
use Rattle.std.proofs.lemmas.Bool.{and_from, eq-eqb, eqb-true, or_cases, or_left, or_right}
use Rattle.rdf_terms.specs.Lists.{In}
use Rattle.trig_lexer.specs.declared.kind.Kind.{Kind}
use Rattle.trig_grammar.specs.declared.symbol.Symbol.{Symbol}
use Rattle.trig_grammar.specs.declared.symbol.Symbol.TheVariants.{Token, Name}
use Rattle.trig_grammar.specs.declared.nonterminal.Nonterminal.{Nonterminal}
use Rattle.trig_grammar.specs.Grammar.{Rule, rule, rules, Derives}
use Rattle.trig_grammar.specs.Grammar.Derives.{takes, expands}
use Rattle.trig_grammar.specs.Places.{column, columns}
use Rattle.trig_grammar.specs.Beginnings.{may_be_empty, first, follow, holds, are_empty, begin_with, predicts}
use Rattle.trig_grammar.specs.Table.{rule_at, body_of, body_at, cell}
use Rattle.trig_grammar.specs.Stack.{MayFollow, Fits}
use Rattle.trig_grammar.proofs.Tests.{implies, every, modus, and_left, and_right, every_in, every_held}
use Rattle.trig_grammar.proofs.Computed.{all_close, all_empty, is_followed, all_followed, is_number, are_tied, all_tied, column_held, same_some}
use Rattle.trig_grammar.proofs.Replacing.{sound}

-- ---- what derives tokens begins with them

split_begin : (k : ℕ) (body symbols : List Symbol) → begin_with k (body ++ symbols) ≡ true → (begin_with k body ≡ true) ⊎ ((are_empty body ≡ true) × (begin_with k symbols ≡ true))
split_begin k [] symbols h = inr (refl, h)
split_begin k (Token kind ∷ body) symbols h = inl h
split_begin k (Name n ∷ body) symbols h = elim (or_cases (holds k (first n)) _ h) [
  | inl e ↦ inl (or_left (holds k (first n)) _ e)
  | inr e ↦ elim (split_begin k body symbols (and_right (may_be_empty n) _ e)) [
    | inl b ↦ inl (or_right (holds k (first n)) _ (and_from (may_be_empty n) _ (and_left (may_be_empty n) _ e) b))
    | inr b ↦ inr (and_from (may_be_empty n) _ (and_left (may_be_empty n) _ e) b.0, b.1)
  ]
]

of_rule : (r : Rule) (kind : Kind) → In r rules → begin_with (column kind) r.body ≡ true → holds (column kind) (first r.head) ≡ true
of_rule r kind i h =
    modus (begin_with (column kind) r.body) _ (every_held (λ k. implies (begin_with k r.body) (holds k (first r.head))) columns (column kind)
    (every_in (λ r. every (λ k. implies (begin_with k r.body) (holds k (first r.head))) columns) rules r all_close i) (column_held kind)) h

pub of_empty : (r : Rule) → In r rules → are_empty r.body ≡ true → may_be_empty r.head ≡ true
of_empty r i h = modus (are_empty r.body) _ (every_in (λ r. implies (are_empty r.body) (may_be_empty r.head)) rules r all_empty i) h

pub begins : {symbols : List Symbol} {kind : Kind} {kinds : List Kind} → Derives symbols (kind ∷ kinds) → begin_with (column kind) symbols ≡ true
begins {kind} (takes d) = eq-eqb (column kind) (column kind) refl
begins {kind} (expands {head} body {symbols} i d) = elim (split_begin (column kind) body symbols (begins d)) [
  | inl b ↦ or_left (holds (column kind) (first head)) _ (of_rule (rule head body) kind i b)
  | inr b ↦ or_right (holds (column kind) (first head)) _ (and_from (may_be_empty head) _ (of_empty (rule head body) i b.0) b.1)
]

-- ---- a stack whose names are followed by what may follow them

fits_behind : (head : Nonterminal) (body symbols : List Symbol) → ((k : ℕ) → holds k columns ≡ true → is_followed head k body ≡ true)
    → MayFollow head symbols → Fits symbols → Fits (body ++ symbols)
fits_behind head [] symbols closed may fits = fits
fits_behind head (Token kind ∷ body) symbols closed may fits = fits_behind head body symbols closed may fits
fits_behind head (Name n ∷ body) symbols closed may fits = (
  (λ k held b. modus (begin_with k body || (are_empty body && holds k (follow head))) _
      (and_left (implies (begin_with k body || (are_empty body && holds k (follow head))) (holds k (follow n))) _ (closed k held))
      (elim (split_begin k body symbols b) [
        | inl e ↦ or_left (begin_with k body) _ e
        | inr e ↦ or_right (begin_with k body) _ (and_from (are_empty body) _ e.0 (may k held e.1))
      ])),
  fits_behind head body symbols (λ k held. and_right (implies (begin_with k body || (are_empty body && holds k (follow head))) (holds k (follow n))) _ (closed k held)) may fits,
)

pub fits_expanded : (n : Nonterminal) (body symbols : List Symbol) → In (rule n body) rules → Fits (Name n ∷ symbols) → Fits (body ++ symbols)
fits_expanded n body symbols i fits =
    fits_behind n body symbols (λ k held. every_held (λ k. is_followed n k body) columns k (every_in (λ r. every (λ k. is_followed r.head k r.body) columns) rules (rule n body) all_followed i) held)
    fits.0 fits.1

-- ---- the table predicts each production that leads on

pub number_is : (p : ℕ) (found : Option ℕ) → is_number p found ≡ true → found ≡ Some p
number_is p None h = cc
number_is p (Some q) h = ap Some (eqb-true q p h)

pub record IsTied (rs : List Rule) (r : Rule) (k base : ℕ) : Type 0 where
  pub place : ℕ
  pub at : rule_at rs place ≡ Some r
  pub tied : cell r.head k ≡ Some (base + place)

tied_in : (base : ℕ) (rs : List Rule) (r : Rule) (k : ℕ) → are_tied base rs ≡ true → In r rs → holds k columns ≡ true → predicts r k ≡ true → IsTied rs r k base
tied_in base [] r k h i held p = absurd i
tied_in base (x ∷ xs) r k h (inl e) held p = record {
  place = 0;
  at = ap Some (sym e);
  tied = subst (λ (n : ℕ). cell r.head k ≡ Some n) (omega arith) (number_is base (cell r.head k) (subst (λ y. is_number base (cell y.head k) ≡ true) (sym e)
      (modus (predicts x k) _ (every_held (λ k. implies (predicts x k) (is_number base (cell x.head k))) columns k
      (and_left (every (λ k. implies (predicts x k) (is_number base (cell x.head k))) columns) _ h) held)
      (subst (λ y. predicts y k ≡ true) e p))));
}
tied_in base (x ∷ xs) r k h (inr i) held p =
    let more = tied_in (suc base) xs r k (and_right (every (λ k. implies (predicts x k) (is_number base (cell x.head k))) columns) _ h) i held p in
    record {
      place = suc more.place;
      at = more.at;
      tied = subst (λ (n : ℕ). cell r.head k ≡ Some n) (omega arith) more.tied;
    }

predicted_by : (r : Rule) (kind : Kind) → In r rules → predicts r (column kind) ≡ true → (p : ℕ) × (rule_at rules p ≡ Some r) × (cell r.head (column kind) ≡ Some p)
predicted_by r kind i h =
    let found = tied_in 0 rules r (column kind) all_tied i (column_held kind) h in
    (found.place, found.at, subst (λ (n : ℕ). cell r.head (column kind) ≡ Some n) (omega arith) found.tied)

-- the production by which the derivation goes on is that in the cell
pub predicted : {n : Nonterminal} {symbols : List Symbol} {kind : Kind} {kinds : List Kind} → Fits (Name n ∷ symbols) → Derives (Name n ∷ symbols) (kind ∷ kinds)
    → (p : ℕ) × (cell n (column kind) ≡ Some p) × Derives (body_at p ++ symbols) (kind ∷ kinds)
predicted {n} {symbols} {kind} {kinds} fits (expands body i d) =
    let may = elim (split_begin (column kind) body symbols (begins d)) as (λ _. predicts (rule n body) (column kind) ≡ true) [
      | inl b ↦ or_left (begin_with (column kind) body) _ b
      | inr b ↦ or_right (begin_with (column kind) body) _ (and_from (are_empty body) _ b.0 (fits.0 (column kind) (column_held kind) b.1))
    ] in
    let by = predicted_by (rule n body) kind i may in
    (by.0, by.2, subst (λ found. Derives (body_of found ++ symbols) (kind ∷ kinds)) (sym by.1) d)

-- ---- what a step of the parser does to the sentences

-- with a cell, the tokens that the name derives are those that its right side does
pub cell_forth : (n : Nonterminal) (symbols : List Symbol) (kind : Kind) (kinds : List Kind) (p : ℕ) → cell n (column kind) ≡ Some p → Fits (Name n ∷ symbols)
    → Derives (Name n ∷ symbols) (kind ∷ kinds) → Derives (body_at p ++ symbols) (kind ∷ kinds)
cell_forth n symbols kind kinds p e fits d =
    let by = predicted fits d in
    subst (λ q. Derives (body_at q ++ symbols) (kind ∷ kinds)) (same_some by.0 p (sym by.1 ∙ e)) by.2

pub cell_back : (n : Nonterminal) (symbols : List Symbol) (kind : Kind) (kinds : List Kind) (p : ℕ) → cell n (column kind) ≡ Some p
    → Derives (body_at p ++ symbols) kinds → Derives (Name n ∷ symbols) kinds
cell_back n symbols kind kinds p e d = expands (body_at p) (sound n kind p e) d

pub no_cell : (n : Nonterminal) (symbols : List Symbol) (kind : Kind) (kinds : List Kind) → cell n (column kind) ≡ None → Fits (Name n ∷ symbols) → ¬ (Derives (Name n ∷ symbols) (kind ∷ kinds))
no_cell n symbols kind kinds e fits d = let by = predicted fits d in let no : None ≡ Some by.0 = sym e ∙ by.1 in cc

pub token_took : {one other : Kind} {symbols : List Symbol} {kinds : List Kind} → Derives (Token one ∷ symbols) (other ∷ kinds) → (one ≡ other) × Derives symbols kinds
token_took (takes d) = (refl, d)

pub nothing_begins : {kind : Kind} {kinds : List Kind} → ¬ (Derives [] (kind ∷ kinds))
nothing_begins d = elim d [ ]
