-- For each name, which kinds of tokens it may begin with and which may follow it in a sentence, and so which production
-- is the one to take.
use Rattle.std.specs.Prelude.{ℕ, Bool, true, false, ◌&&◌, ◌||◌, ◌==◌, List, [], ◌∷◌}
use Rattle.trig_grammar.specs.declared.symbol.Symbol.{Symbol}
use Rattle.trig_grammar.specs.declared.symbol.Symbol.TheVariants.{Token, Name}
use Rattle.trig_grammar.specs.declared.nonterminal.Nonterminal.{Nonterminal}
use Rattle.trig_grammar.specs.declared.nonterminal.Nonterminal.TheVariants.{Document, Statement, Block, TriplesOrGraph, AfterLabel, Triples2, WrappedGraph, MaybeTriples, TriplesBlock, MoreTriples, LabelOrSubject, Directive, PrefixId, Base, SparqlPrefix, SparqlBase, Triples, MaybePredicates, Predicates, MorePredicates, MaybePredicate, Objects, MoreObjects, Verb, Subject, Object, Literal, RdfLiteral, Suffix, PropertyList, Collection, Items, Iri, BlankNode}
use Rattle.trig_grammar.specs.Grammar.{Rule}
use Rattle.trig_grammar.specs.Places.{column}

-- the name may stand for nothing
abbrev pub may_be_empty : Nonterminal → Bool
may_be_empty Document = true
may_be_empty MaybeTriples = true
may_be_empty MoreTriples = true
may_be_empty MaybePredicates = true
may_be_empty MorePredicates = true
may_be_empty MaybePredicate = true
may_be_empty MoreObjects = true
may_be_empty Suffix = true
may_be_empty Items = true
may_be_empty _ = false

-- the columns of the kinds that what stands for the name may begin with
abbrev pub first : Nonterminal → List ℕ
first Document = 0 ∷ 1 ∷ 2 ∷ 3 ∷ 4 ∷ 12 ∷ 14 ∷ 16 ∷ 18 ∷ 19 ∷ 20 ∷ 21 ∷ 22 ∷ []
first Statement = 0 ∷ 1 ∷ 2 ∷ 3 ∷ 4 ∷ 12 ∷ 14 ∷ 16 ∷ 18 ∷ 19 ∷ 20 ∷ 21 ∷ 22 ∷ []
first Block = 4 ∷ 12 ∷ 14 ∷ 16 ∷ 18 ∷ 19 ∷ 20 ∷ 21 ∷ 22 ∷ []
first TriplesOrGraph = 18 ∷ 19 ∷ 20 ∷ 21 ∷ 22 ∷ []
first AfterLabel = 5 ∷ 12 ∷ 18 ∷ 19 ∷ 20 ∷ []
first Triples2 = 14 ∷ 16 ∷ []
first WrappedGraph = 12 ∷ []
first MaybeTriples = 14 ∷ 16 ∷ 18 ∷ 19 ∷ 20 ∷ 21 ∷ 22 ∷ []
first TriplesBlock = 14 ∷ 16 ∷ 18 ∷ 19 ∷ 20 ∷ 21 ∷ 22 ∷ []
first MoreTriples = 8 ∷ []
first LabelOrSubject = 18 ∷ 19 ∷ 20 ∷ 21 ∷ 22 ∷ []
first Directive = 0 ∷ 1 ∷ 2 ∷ 3 ∷ []
first PrefixId = 0 ∷ []
first Base = 1 ∷ []
first SparqlPrefix = 2 ∷ []
first SparqlBase = 3 ∷ []
first Triples = 14 ∷ 16 ∷ 18 ∷ 19 ∷ 20 ∷ 21 ∷ 22 ∷ []
first MaybePredicates = 5 ∷ 18 ∷ 19 ∷ 20 ∷ []
first Predicates = 5 ∷ 18 ∷ 19 ∷ 20 ∷ []
first MorePredicates = 9 ∷ []
first MaybePredicate = 5 ∷ 18 ∷ 19 ∷ 20 ∷ []
first Objects = 6 ∷ 7 ∷ 14 ∷ 16 ∷ 18 ∷ 19 ∷ 20 ∷ 21 ∷ 22 ∷ 23 ∷ 24 ∷ 25 ∷ 26 ∷ []
first MoreObjects = 10 ∷ []
first Verb = 5 ∷ 18 ∷ 19 ∷ 20 ∷ []
first Subject = 16 ∷ 18 ∷ 19 ∷ 20 ∷ 21 ∷ 22 ∷ []
first Object = 6 ∷ 7 ∷ 14 ∷ 16 ∷ 18 ∷ 19 ∷ 20 ∷ 21 ∷ 22 ∷ 23 ∷ 24 ∷ 25 ∷ 26 ∷ []
first Literal = 6 ∷ 7 ∷ 23 ∷ 24 ∷ 25 ∷ 26 ∷ []
first RdfLiteral = 26 ∷ []
first Suffix = 11 ∷ 27 ∷ []
first PropertyList = 14 ∷ []
first Collection = 16 ∷ []
first Items = 6 ∷ 7 ∷ 14 ∷ 16 ∷ 18 ∷ 19 ∷ 20 ∷ 21 ∷ 22 ∷ 23 ∷ 24 ∷ 25 ∷ 26 ∷ []
first Iri = 18 ∷ 19 ∷ 20 ∷ []
first BlankNode = 21 ∷ 22 ∷ []

-- the columns of the kinds that may follow the name in a sentence
abbrev pub follow : Nonterminal → List ℕ
follow Document = 28 ∷ []
follow Statement = 0 ∷ 1 ∷ 2 ∷ 3 ∷ 4 ∷ 12 ∷ 14 ∷ 16 ∷ 18 ∷ 19 ∷ 20 ∷ 21 ∷ 22 ∷ 28 ∷ []
follow Block = 0 ∷ 1 ∷ 2 ∷ 3 ∷ 4 ∷ 12 ∷ 14 ∷ 16 ∷ 18 ∷ 19 ∷ 20 ∷ 21 ∷ 22 ∷ 28 ∷ []
follow TriplesOrGraph = 0 ∷ 1 ∷ 2 ∷ 3 ∷ 4 ∷ 12 ∷ 14 ∷ 16 ∷ 18 ∷ 19 ∷ 20 ∷ 21 ∷ 22 ∷ 28 ∷ []
follow AfterLabel = 0 ∷ 1 ∷ 2 ∷ 3 ∷ 4 ∷ 12 ∷ 14 ∷ 16 ∷ 18 ∷ 19 ∷ 20 ∷ 21 ∷ 22 ∷ 28 ∷ []
follow Triples2 = 0 ∷ 1 ∷ 2 ∷ 3 ∷ 4 ∷ 12 ∷ 14 ∷ 16 ∷ 18 ∷ 19 ∷ 20 ∷ 21 ∷ 22 ∷ 28 ∷ []
follow WrappedGraph = 0 ∷ 1 ∷ 2 ∷ 3 ∷ 4 ∷ 12 ∷ 14 ∷ 16 ∷ 18 ∷ 19 ∷ 20 ∷ 21 ∷ 22 ∷ 28 ∷ []
follow MaybeTriples = 13 ∷ []
follow TriplesBlock = 13 ∷ []
follow MoreTriples = 13 ∷ []
follow LabelOrSubject = 5 ∷ 12 ∷ 18 ∷ 19 ∷ 20 ∷ []
follow Directive = 0 ∷ 1 ∷ 2 ∷ 3 ∷ 4 ∷ 12 ∷ 14 ∷ 16 ∷ 18 ∷ 19 ∷ 20 ∷ 21 ∷ 22 ∷ 28 ∷ []
follow PrefixId = 0 ∷ 1 ∷ 2 ∷ 3 ∷ 4 ∷ 12 ∷ 14 ∷ 16 ∷ 18 ∷ 19 ∷ 20 ∷ 21 ∷ 22 ∷ 28 ∷ []
follow Base = 0 ∷ 1 ∷ 2 ∷ 3 ∷ 4 ∷ 12 ∷ 14 ∷ 16 ∷ 18 ∷ 19 ∷ 20 ∷ 21 ∷ 22 ∷ 28 ∷ []
follow SparqlPrefix = 0 ∷ 1 ∷ 2 ∷ 3 ∷ 4 ∷ 12 ∷ 14 ∷ 16 ∷ 18 ∷ 19 ∷ 20 ∷ 21 ∷ 22 ∷ 28 ∷ []
follow SparqlBase = 0 ∷ 1 ∷ 2 ∷ 3 ∷ 4 ∷ 12 ∷ 14 ∷ 16 ∷ 18 ∷ 19 ∷ 20 ∷ 21 ∷ 22 ∷ 28 ∷ []
follow Triples = 8 ∷ 13 ∷ []
follow MaybePredicates = 8 ∷ 13 ∷ []
follow Predicates = 8 ∷ 13 ∷ 15 ∷ []
follow MorePredicates = 8 ∷ 13 ∷ 15 ∷ []
follow MaybePredicate = 8 ∷ 9 ∷ 13 ∷ 15 ∷ []
follow Objects = 8 ∷ 9 ∷ 13 ∷ 15 ∷ []
follow MoreObjects = 8 ∷ 9 ∷ 13 ∷ 15 ∷ []
follow Verb = 6 ∷ 7 ∷ 14 ∷ 16 ∷ 18 ∷ 19 ∷ 20 ∷ 21 ∷ 22 ∷ 23 ∷ 24 ∷ 25 ∷ 26 ∷ []
follow Subject = 5 ∷ 18 ∷ 19 ∷ 20 ∷ []
follow Object = 6 ∷ 7 ∷ 8 ∷ 9 ∷ 10 ∷ 13 ∷ 14 ∷ 15 ∷ 16 ∷ 17 ∷ 18 ∷ 19 ∷ 20 ∷ 21 ∷ 22 ∷ 23 ∷ 24 ∷ 25 ∷ 26 ∷ []
follow Literal = 6 ∷ 7 ∷ 8 ∷ 9 ∷ 10 ∷ 13 ∷ 14 ∷ 15 ∷ 16 ∷ 17 ∷ 18 ∷ 19 ∷ 20 ∷ 21 ∷ 22 ∷ 23 ∷ 24 ∷ 25 ∷ 26 ∷ []
follow RdfLiteral = 6 ∷ 7 ∷ 8 ∷ 9 ∷ 10 ∷ 13 ∷ 14 ∷ 15 ∷ 16 ∷ 17 ∷ 18 ∷ 19 ∷ 20 ∷ 21 ∷ 22 ∷ 23 ∷ 24 ∷ 25 ∷ 26 ∷ []
follow Suffix = 6 ∷ 7 ∷ 8 ∷ 9 ∷ 10 ∷ 13 ∷ 14 ∷ 15 ∷ 16 ∷ 17 ∷ 18 ∷ 19 ∷ 20 ∷ 21 ∷ 22 ∷ 23 ∷ 24 ∷ 25 ∷ 26 ∷ []
follow PropertyList = 5 ∷ 6 ∷ 7 ∷ 8 ∷ 9 ∷ 10 ∷ 13 ∷ 14 ∷ 15 ∷ 16 ∷ 17 ∷ 18 ∷ 19 ∷ 20 ∷ 21 ∷ 22 ∷ 23 ∷ 24 ∷ 25 ∷ 26 ∷ []
follow Collection = 5 ∷ 6 ∷ 7 ∷ 8 ∷ 9 ∷ 10 ∷ 13 ∷ 14 ∷ 15 ∷ 16 ∷ 17 ∷ 18 ∷ 19 ∷ 20 ∷ 21 ∷ 22 ∷ 23 ∷ 24 ∷ 25 ∷ 26 ∷ []
follow Items = 17 ∷ []
follow Iri = 5 ∷ 6 ∷ 7 ∷ 8 ∷ 9 ∷ 10 ∷ 12 ∷ 13 ∷ 14 ∷ 15 ∷ 16 ∷ 17 ∷ 18 ∷ 19 ∷ 20 ∷ 21 ∷ 22 ∷ 23 ∷ 24 ∷ 25 ∷ 26 ∷ []
follow BlankNode =
    5 ∷ 6 ∷ 7 ∷ 8 ∷ 9 ∷ 10 ∷ 12 ∷ 13 ∷ 14 ∷ 15 ∷ 16 ∷ 17 ∷ 18 ∷ 19 ∷ 20 ∷ 21 ∷ 22 ∷ 23 ∷ 24 ∷ 25 ∷ 26 ∷ []

abbrev pub holds : ℕ → List ℕ → Bool
holds k [] = false
holds k (j ∷ js) = (j == k) || holds k js

-- the symbols may stand for nothing
abbrev pub are_empty : List Symbol → Bool
are_empty [] = true
are_empty (Token kind ∷ symbols) = false
are_empty (Name n ∷ symbols) = may_be_empty n && are_empty symbols

-- what stands for the symbols may begin with a kind of this column
abbrev pub begin_with : ℕ → List Symbol → Bool
begin_with k [] = false
begin_with k (Token kind ∷ symbols) = column kind == k
begin_with k (Name n ∷ symbols) = holds k (first n) || (may_be_empty n && begin_with k symbols)

-- the production is the one to take before a kind of this column
abbrev pub predicts : Rule → ℕ → Bool
predicts r k = begin_with k r.body || (are_empty r.body && holds k (follow r.head))
