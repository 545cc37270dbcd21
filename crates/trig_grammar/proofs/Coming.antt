-- Each name comes in some sentence.
use Rattle.std.proofs.Common.{◌≡◌, ℕ, zero, suc, ◌<◌, Bool, true, ◌||◌, ◌==◌, nat_lt, inl, inr, List, [], ◌∷◌, ◌++◌, refl, sym, subst, arith, append_assoc}
use Rattle.std.proofs.lemmas.Bool.{eqb-true, or_cases}
use Rattle.rdf_terms.specs.Lists.{In}
use Rattle.trig_lexer.specs.declared.kind.Kind.{Kind}
use Rattle.trig_lexer.specs.declared.kind.Kind.TheVariants.{End}
use Rattle.trig_grammar.specs.declared.symbol.Symbol.{Symbol}
use Rattle.trig_grammar.specs.declared.symbol.Symbol.TheVariants.{Token, Name}
use Rattle.trig_grammar.specs.declared.nonterminal.Nonterminal.{Nonterminal}
use Rattle.trig_grammar.specs.declared.nonterminal.Nonterminal.TheVariants.{Document, Statement, Block, TriplesOrGraph, AfterLabel, Triples2, WrappedGraph, MaybeTriples, TriplesBlock, MoreTriples, LabelOrSubject, Directive, PrefixId, Base, SparqlPrefix, SparqlBase, Triples, MaybePredicates, Predicates, MorePredicates, MaybePredicate, Objects, MoreObjects, Verb, Subject, Object, Literal, RdfLiteral, Suffix, PropertyList, Collection, Items, Iri, BlankNode}
use Rattle.trig_grammar.specs.Grammar.{Rule, rules}
use Rattle.trig_grammar.specs.Places.{row}
use Rattle.trig_grammar.specs.Reach.{Comes}
use Rattle.trig_grammar.specs.Reach.Comes.{at_start, passes, gives_way}
use Rattle.trig_grammar.proofs.Computed.{same_row}
use Rattle.trig_grammar.proofs.Standing.{derives_some}
use Rattle.trig_grammar.proofs.Firsts.{less_than}
use Rattle.trig_grammar.proofs.RightSides.{add, spots_in, spots, some, some_found, spot_of}

-- ---- each name comes in some sentence

abbrev ComesSomewhere : Nonterminal → Type 0
ComesSomewhere n = (taken : List Kind) × (symbols : List Symbol) × Comes taken (Name n ∷ symbols)

pass_all : (front symbols : List Symbol) (taken : List Kind) → Comes taken (front ++ symbols) → (all : List Kind) × Comes all symbols
pass_all [] symbols taken c = (taken, c)
pass_all (x ∷ front) symbols taken c = let word = derives_some (x ∷ []) in pass_all front symbols (taken ++ word.0) (passes x word.1 refl c)

pub comes_at : (n : Nonterminal) (s : Rule) (taken : List Kind) (symbols : List Symbol) → In s (spots n rules) → Comes taken (Name s.head ∷ symbols)
    → (all : List Kind) × Comes all (Name n ∷ (s.body ++ symbols))
comes_at n s taken symbols i c =
    let at = spot_of n rules s i in
    pass_all at.0 (Name n ∷ (s.body ++ symbols)) taken (gives_way (at.0 ++ Name n ∷ s.body) at.1 (sym (append_assoc at.0 (Name n ∷ s.body) symbols)) c)

-- each name but the first stands in a right side of one with a lower number
abbrev pub depth : Nonterminal → ℕ
depth Document = 0
depth Statement = 1
depth Block = 2
depth TriplesOrGraph = 3
depth AfterLabel = 4
depth Triples2 = 3
depth WrappedGraph = 3
depth MaybeTriples = 4
depth TriplesBlock = 5
depth MoreTriples = 6
depth LabelOrSubject = 3
depth Directive = 2
depth PrefixId = 3
depth Base = 3
depth SparqlPrefix = 3
depth SparqlBase = 3
depth Triples = 6
depth MaybePredicates = 4
depth Predicates = 4
depth MorePredicates = 5
depth MaybePredicate = 6
depth Objects = 5
depth MoreObjects = 6
depth Verb = 5
depth Subject = 7
depth Object = 6
depth Literal = 7
depth RdfLiteral = 8
depth Suffix = 9
depth PropertyList = 4
depth Collection = 4
depth Items = 5
depth Iri = 4
depth BlankNode = 4

unfoldable pub is_document : Nonterminal → Bool
is_document n = row n == 0

abbrev is_reached : Nonterminal → List Rule → Bool
is_reached n at = is_document n || some (λ s. nat_lt (depth s.head) (depth n)) at

all_reached : (n : Nonterminal) → is_reached n (spots n rules) ≡ true
unfolding rules is_document some spots spots_in add
all_reached Document = refl
all_reached Statement = refl
all_reached Block = refl
all_reached TriplesOrGraph = refl
all_reached AfterLabel = refl
all_reached Triples2 = refl
all_reached WrappedGraph = refl
all_reached MaybeTriples = refl
all_reached TriplesBlock = refl
all_reached MoreTriples = refl
all_reached LabelOrSubject = refl
all_reached Directive = refl
all_reached PrefixId = refl
all_reached Base = refl
all_reached SparqlPrefix = refl
all_reached SparqlBase = refl
all_reached Triples = refl
all_reached MaybePredicates = refl
all_reached Predicates = refl
all_reached MorePredicates = refl
all_reached MaybePredicate = refl
all_reached Objects = refl
all_reached MoreObjects = refl
all_reached Verb = refl
all_reached Subject = refl
all_reached Object = refl
all_reached Literal = refl
all_reached RdfLiteral = refl
all_reached Suffix = refl
all_reached PropertyList = refl
all_reached Collection = refl
all_reached Items = refl
all_reached Iri = refl
all_reached BlankNode = refl

pub document_is : (n : Nonterminal) → is_document n ≡ true → Document ≡ n
unfolding is_document
document_is n h = sym (same_row n Document (eqb-true (row n) 0 h))

pub comes_somewhere : (fuel : ℕ) (n : Nonterminal) → depth n < fuel → ComesSomewhere n
comes_somewhere zero n less = absurd (omega (arith, less))
comes_somewhere (suc fuel) n less = elim (or_cases (is_document n) _ (all_reached n)) [
  | inl h ↦ subst ComesSomewhere (document_is n h) ([], Token End ∷ [], at_start)
  | inr h ↦
      let found = some_found (λ s. nat_lt (depth s.head) (depth n)) (spots n rules) h in
      let lower : depth found.0.head < depth n = less_than (depth found.0.head) (depth n) found.2 in
      let above = comes_somewhere fuel found.0.head (omega (arith, less, lower)) in
      let here = comes_at n found.0 above.0 above.1 found.1 above.2 in
      (here.0, found.0.body ++ above.1, here.1)
]
