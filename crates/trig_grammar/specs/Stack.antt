-- The stack of the parser: the symbols that the tokens behind must derive, the next one last.
use Rattle.std.specs.Prelude.{◌≡◌, ℕ, true, ◌↔◌, List, [], ◌∷◌, ◌++◌}
use Rattle.trig_lexer.specs.declared.kind.Kind.{Kind}
use Rattle.trig_grammar.specs.declared.symbol.Symbol.{Symbol}
use Rattle.trig_grammar.specs.declared.symbol.Symbol.TheVariants.{Token, Name}
use Rattle.trig_grammar.specs.declared.nonterminal.Nonterminal.{Nonterminal}
use Rattle.trig_grammar.specs.Grammar.{Derives, start, BeginsSentence}
use Rattle.trig_grammar.specs.Places.{columns}
use Rattle.trig_grammar.specs.Beginnings.{holds, begin_with, follow}

-- the symbols begin with nothing that may not follow the name
abbrev pub MayFollow : Nonterminal → List Symbol → Type 0
MayFollow n symbols = (k : ℕ) → holds k columns ≡ true → begin_with k symbols ≡ true → holds k (follow n) ≡ true

abbrev pub Fits : List Symbol → Type 0
Fits [] = Unit {0}
Fits (Token kind ∷ symbols) = Fits symbols
Fits (Name n ∷ symbols) = MayFollow n symbols × Fits symbols

-- the sentences that go on with the token are those that the new symbols derive behind it
abbrev pub Takes : List Symbol → Kind → List Symbol → Type 0
Takes old kind new = (more : List Kind) → (Derives old (kind ∷ more)) ↔ Derives new more

-- no sentence goes on with the token
abbrev pub TakesNot : List Symbol → Kind → Type 0
TakesNot old kind = (more : List Kind) → ¬ (Derives old (kind ∷ more))

-- The tokens so far were taken: some sentence begins with them, and the symbols are what the rest of one spells.
pub record IsBehind (taken : List Kind) (symbols : List Symbol) : Type 0 where
  pub begins : BeginsSentence taken
  pub goes_on : (more : List Kind) → Derives start (taken ++ more) ↔ Derives symbols more
  pub fits : Fits symbols
