-- What the sets of the table say, by derivations: which names may stand for nothing, which kinds of tokens a name may
-- begin with, and which may follow it in a sentence.
use Rattle.std.specs.Prelude.{◌≡◌, ◌↔◌, true, List, [], ◌∷◌, ◌++◌}
use Rattle.rdf_terms.specs.Lists.{In}
use Rattle.trig_lexer.specs.declared.kind.Kind.{Kind}
use Rattle.trig_grammar.specs.declared.symbol.Symbol.{Symbol}
use Rattle.trig_grammar.specs.declared.symbol.Symbol.TheVariants.{Name}
use Rattle.trig_grammar.specs.declared.nonterminal.Nonterminal.{Nonterminal}
use Rattle.trig_grammar.specs.Grammar.{rule, rules, Derives, start, IsSentence}
use Rattle.trig_grammar.specs.Places.{column}
use Rattle.trig_grammar.specs.Beginnings.{first, follow, may_be_empty, holds}

-- A sentence may begin with these tokens and go on with what stands for these symbols: from the start, what stands for
-- the next symbol is passed over, and a name gives way to one of its right sides.
pub data Comes : List Kind → List Symbol → Type 0 where
  at_start : Comes [] start
  passes : {taken all word : List Kind} (x : Symbol) {symbols : List Symbol} → Derives (x ∷ []) word
      → all ≡ taken ++ word → Comes taken (x ∷ symbols) → Comes all symbols
  gives_way : {taken : List Kind} {head : Nonterminal} (body : List Symbol) {symbols all : List Symbol}
      → In (rule head body) rules → all ≡ body ++ symbols → Comes taken (Name head ∷ symbols) → Comes taken all

-- what goes on so is a sentence
abbrev pub LeadsToSentences : Type 0
LeadsToSentences =
    (taken more : List Kind) (symbols : List Symbol) → Comes taken symbols → Derives symbols more
    → IsSentence (taken ++ more)

abbrev pub CanBeEmpty : Nonterminal → Type 0
CanBeEmpty n = Derives (Name n ∷ []) []

abbrev pub CanBegin : Nonterminal → Kind → Type 0
CanBegin n kind = (more : List Kind) × Derives (Name n ∷ []) (kind ∷ more)

-- in some sentence a token of this kind stands behind what stands for the name
pub record CanFollow (n : Nonterminal) (kind : Kind) : Type 0 where
  pub taken : List Kind
  pub symbols : List Symbol
  pub more : List Kind
  pub comes : Comes taken (Name n ∷ symbols)
  pub follows : Derives symbols (kind ∷ more)

abbrev pub EmptyIsRight : Type 0
EmptyIsRight = (n : Nonterminal) → (may_be_empty n ≡ true) ↔ CanBeEmpty n

abbrev pub FirstIsRight : Type 0
FirstIsRight = (n : Nonterminal) (kind : Kind) → (holds (column kind) (first n) ≡ true) ↔ CanBegin n kind

abbrev pub FollowIsRight : Type 0
FollowIsRight = (n : Nonterminal) (kind : Kind) → (holds (column kind) (follow n) ≡ true) ↔ CanFollow n kind
