-- How many names are replaced before a token is taken.
use Rattle.std.specs.Prelude.{ℕ, suc, List, [], ◌∷◌, if◌then◌else◌}
use Rattle.trig_grammar.specs.declared.symbol.Symbol.{Symbol}
use Rattle.trig_grammar.specs.declared.symbol.Symbol.TheVariants.{Token, Name}
use Rattle.trig_grammar.specs.declared.nonterminal.Nonterminal.{Nonterminal}
use Rattle.trig_grammar.specs.declared.nonterminal.Nonterminal.TheVariants.{Document, Statement, Block, TriplesOrGraph, AfterLabel, Triples2, MaybeTriples, TriplesBlock, LabelOrSubject, Directive, Triples, MaybePredicates, Predicates, MaybePredicate, Objects, Verb, Subject, Object, Literal, Items}
use Rattle.trig_grammar.specs.Beginnings.{first, holds}

-- ---- how many names are replaced before a token is taken

-- what a name begins with is a token or a name of lower rank
abbrev pub rank : Nonterminal → ℕ
rank Document = 5
rank Statement = 4
rank Block = 3
rank TriplesOrGraph = 2
rank AfterLabel = 3
rank Triples2 = 1
rank MaybeTriples = 4
rank TriplesBlock = 3
rank LabelOrSubject = 1
rank Directive = 1
rank Triples = 2
rank MaybePredicates = 3
rank Predicates = 2
rank MaybePredicate = 2
rank Objects = 3
rank Verb = 1
rank Subject = 1
rank Object = 2
rank Literal = 1
rank Items = 3
rank _ = 0

-- before a token of this column: each name that may begin with it gives way to one of lower rank, and any other to
-- nothing
abbrev pub replaced : ℕ → List Symbol → ℕ
replaced k [] = 0
replaced k (Token kind ∷ symbols) = 0
replaced k (Name n ∷ symbols) = if holds k (first n) then suc (rank n) else suc (replaced k symbols)
