-- What each step of the parser does to its stack, and to the sentences that go on from there.
use Rattle.std.proofs.Common.{◌≡◌, ◌≢◌, ◌↔◌, ℕ, ◌<◌, List, [], ◌∷◌, ◌++◌, reverse, Some, None, sym, ap, subst, ◌∙◌}
use Rattle.std.proofs.lemmas.List.{reverse-append, reverse-reverse}
use Rattle.trig_lexer.specs.declared.kind.Kind.{Kind}
use Rattle.trig_grammar.specs.declared.symbol.Symbol.{Symbol}
use Rattle.trig_grammar.specs.declared.symbol.Symbol.TheVariants.{Token, Name}
use Rattle.trig_grammar.specs.declared.nonterminal.Nonterminal.{Nonterminal}
use Rattle.trig_grammar.specs.Grammar.{Derives}
use Rattle.trig_grammar.specs.Grammar.Derives.{takes}
use Rattle.trig_grammar.specs.Places.{column}
use Rattle.trig_grammar.specs.Table.{cell, body_at}
use Rattle.trig_grammar.proofs.Ranks.{replaced}
use Rattle.trig_grammar.specs.Stack.{Fits, Takes, TakesNot}
use Rattle.trig_grammar.proofs.Replacing.{sound, fewer_replaced}
use Rattle.trig_grammar.proofs.Predicting.{fits_expanded, cell_forth, cell_back, no_cell, token_took}

-- the same sentences go on with the token from either list
abbrev pub GoAlike : List Symbol → Kind → List Symbol → Type 0
GoAlike old kind new = (more : List Kind) → Derives old (kind ∷ more) ↔ Derives new (kind ∷ more)

-- a name at the top gives way to its right side
pub record GivesWay (old stack : List Symbol) (kind : Kind) (new : List Symbol) : Type 0 where
  pub fits : Fits new
  pub alike : GoAlike old kind new
  pub fewer : replaced (column kind) new < replaced (column kind) stack

-- the symbol is taken off the items
module _ (old items below : List Symbol) (x : Symbol) (kind : Kind) (alike : GoAlike old kind (reverse items)) (pops : items ≡ below ++ x ∷ []) where
  top : (y : Symbol) → x ≡ y → reverse items ≡ y ∷ reverse below
  top y e = ap reverse pops ∙ reverse-append below (x ∷ []) ∙ ap (λ s. s ∷ reverse below) e

  pub taken : (wanted : Kind) → x ≡ Token wanted → wanted ≡ kind → Takes old kind (reverse below)
  taken wanted is same more = (
    (λ d. (token_took (subst (λ s. Derives s (kind ∷ more)) (top (Token wanted) is) ((alike more).0 d))).1),
    (λ d. (alike more).1 (subst (λ s. Derives s (kind ∷ more)) (sym (top (Token wanted) is)) (subst (λ k. Derives (Token k ∷ reverse below) (kind ∷ more)) (sym same) (takes d)))),
  )

  pub not_taken : (wanted : Kind) → x ≡ Token wanted → wanted ≢ kind → TakesNot old kind
  not_taken wanted is other more d = other (token_took (subst (λ s. Derives s (kind ∷ more)) (top (Token wanted) is) ((alike more).0 d))).0

  module _ (n : Nonterminal) (fits : Fits (reverse items)) (is : x ≡ Name n) where
    named : reverse items ≡ Name n ∷ reverse below
    named = top (Name n) is

    pub none_taken : cell n (column kind) ≡ None → TakesNot old kind
    none_taken e more d = no_cell n (reverse below) kind more e (subst Fits named fits) (subst (λ s. Derives s (kind ∷ more)) named ((alike more).0 d))

    pub gives_way : (p : ℕ) (side new : List Symbol) → cell n (column kind) ≡ Some p → new ≡ below ++ side → side ≡ reverse (body_at p) → GivesWay old (reverse items) kind (reverse new)
    gives_way p side new e pushes reversed = record {
      fits = subst Fits (sym pushed) (fits_expanded n (body_at p) (reverse below) (sound n kind p e) (subst Fits named fits));
      alike = λ more. (
        (λ d. subst (λ s. Derives s (kind ∷ more)) (sym pushed)
            (cell_forth n (reverse below) kind more p e (subst Fits named fits) (subst (λ s. Derives s (kind ∷ more)) named ((alike more).0 d)))),
        (λ d. (alike more).1 (subst (λ s. Derives s (kind ∷ more)) (sym named) (cell_back n (reverse below) kind (kind ∷ more) p e (subst (λ s. Derives s (kind ∷ more)) pushed d)))),
      );
      fewer = subst (λ s. replaced (column kind) s < replaced (column kind) (reverse items)) (sym pushed)
          (subst (λ s. replaced (column kind) (body_at p ++ reverse below) < replaced (column kind) s) (sym named) (fewer_replaced n kind p (reverse below) e));
    }
      where
        pushed : reverse new ≡ body_at p ++ reverse below
        pushed = ap reverse pushes ∙ reverse-append below side ∙ ap (λ front. front ++ reverse below) (ap reverse reversed ∙ reverse-reverse (body_at p))
