-- What may follow a name is what the sets of the table say.
use Rattle.std.proofs.Common.{◌≡◌, ℕ, zero, suc, ◌<◌, Bool, true, ◌&&◌, ◌||◌, ◌==◌, nat_lt, inl, inr, List, [], ◌∷◌, ◌++◌, refl, sym, subst, arith, append_assoc}
use Rattle.std.proofs.lemmas.Bool.{or_cases}
use Rattle.trig_lexer.specs.declared.kind.Kind.{Kind}
use Rattle.trig_lexer.specs.declared.kind.Kind.TheVariants.{End}
use Rattle.trig_grammar.specs.declared.symbol.Symbol.{Symbol}
use Rattle.trig_grammar.specs.declared.symbol.Symbol.TheVariants.{Token, Name}
use Rattle.trig_grammar.specs.declared.nonterminal.Nonterminal.{Nonterminal}
use Rattle.trig_grammar.specs.declared.nonterminal.Nonterminal.TheVariants.{Document, Statement, Block, TriplesOrGraph, AfterLabel, Triples2, WrappedGraph, MaybeTriples, TriplesBlock, MoreTriples, LabelOrSubject, Directive, PrefixId, Base, SparqlPrefix, SparqlBase, Triples, MaybePredicates, Predicates, MorePredicates, MaybePredicate, Objects, MoreObjects, Verb, Subject, Object, Literal, RdfLiteral, Suffix, PropertyList, Collection, Items, Iri, BlankNode}
use Rattle.trig_grammar.specs.Grammar.{Rule, rules, Derives, IsSentence}
use Rattle.trig_grammar.specs.Grammar.Derives.{nothing, takes, expands}
use Rattle.trig_grammar.specs.Places.{column, columns}
use Rattle.trig_grammar.specs.Beginnings.{follow, holds, are_empty, begin_with}
use Rattle.trig_grammar.specs.Reach.{Comes, CanFollow, LeadsToSentences, FollowIsRight}
use Rattle.trig_grammar.specs.Reach.Comes.{at_start, passes, gives_way}
use Rattle.trig_grammar.specs.Stack.{Fits}
use Rattle.trig_grammar.proofs.Tests.{implies, every, every_held, modus, and_left, and_right}
use Rattle.trig_grammar.proofs.Computed.{column_held}
use Rattle.trig_grammar.proofs.Predicting.{begins, fits_expanded}
use Rattle.trig_grammar.proofs.Progress.{start_fits}
use Rattle.trig_grammar.proofs.Firsts.{same_kind, less_than, symbols_begin, symbols_empty}
use Rattle.trig_grammar.proofs.RightSides.{add, spots_in, spots, some, some_found}
use Rattle.trig_grammar.proofs.Coming.{comes_at, depth, is_document, document_is, comes_somewhere}

-- ---- what follows a name

-- what follows a name begins what stands behind it in a right side, or follows the head of one, which has a lower number
abbrev height : Nonterminal → ℕ
height Document = 0
height Statement = 1
height Block = 2
height TriplesOrGraph = 3
height AfterLabel = 4
height Triples2 = 3
height WrappedGraph = 3
height MaybeTriples = 0
height TriplesBlock = 1
height MoreTriples = 2
height LabelOrSubject = 0
height Directive = 2
height PrefixId = 3
height Base = 3
height SparqlPrefix = 3
height SparqlBase = 3
height Triples = 2
height MaybePredicates = 3
height Predicates = 3
height MorePredicates = 4
height MaybePredicate = 5
height Objects = 4
height MoreObjects = 5
height Verb = 0
height Subject = 0
height Object = 5
height Literal = 6
height RdfLiteral = 7
height Suffix = 8
height PropertyList = 6
height Collection = 6
height Items = 0
height Iri = 6
height BlankNode = 6

abbrev opens : ℕ → Nonterminal → Rule → Bool
opens k n s = begin_with k s.body || (are_empty s.body && (holds k (follow s.head) && nat_lt (height s.head) (height n)))

abbrev is_last : ℕ → Nonterminal → Bool
is_last k n = is_document n && (k == column End)

abbrev is_behind : ℕ → Nonterminal → List Rule → Bool
is_behind k n at = is_last k n || some (opens k n) at

abbrev are_behind : Nonterminal → List Rule → Bool
are_behind n at = every (λ k. implies (holds k (follow n)) (is_behind k n at)) columns

all_behind : (n : Nonterminal) → are_behind n (spots n rules) ≡ true
unfolding rules is_document some spots spots_in add
all_behind Document = refl
all_behind Statement = refl
all_behind Block = refl
all_behind TriplesOrGraph = refl
all_behind AfterLabel = refl
all_behind Triples2 = refl
all_behind WrappedGraph = refl
all_behind MaybeTriples = refl
all_behind TriplesBlock = refl
all_behind MoreTriples = refl
all_behind LabelOrSubject = refl
all_behind Directive = refl
all_behind PrefixId = refl
all_behind Base = refl
all_behind SparqlPrefix = refl
all_behind SparqlBase = refl
all_behind Triples = refl
all_behind MaybePredicates = refl
all_behind Predicates = refl
all_behind MorePredicates = refl
all_behind MaybePredicate = refl
all_behind Objects = refl
all_behind MoreObjects = refl
all_behind Verb = refl
all_behind Subject = refl
all_behind Object = refl
all_behind Literal = refl
all_behind RdfLiteral = refl
all_behind Suffix = refl
all_behind PropertyList = refl
all_behind Collection = refl
all_behind Items = refl
all_behind Iri = refl
all_behind BlankNode = refl

at_end : (n : Nonterminal) (kind : Kind) → is_last (column kind) n ≡ true → CanFollow n kind
at_end n kind h =
    subst (λ m. CanFollow m kind) (document_is n (and_left (is_document n) _ h)) (subst (CanFollow Document) (sym (same_kind kind End (and_right (is_document n) _ h))) (record {
      taken = [];
      symbols = Token End ∷ [];
      more = [];
      comes = at_start;
      follows = takes nothing;
    }))

name_follows : (fuel : ℕ) (n : Nonterminal) (kind : Kind) → height n < fuel → holds (column kind) (follow n) ≡ true → CanFollow n kind
name_follows zero n kind less h = absurd (omega (arith, less))
name_follows (suc fuel) n kind less h = elim (or_cases (is_last (column kind) n) _
    (modus (holds (column kind) (follow n)) _ (every_held (λ k. implies (holds k (follow n)) (is_behind k n (spots n rules))) columns (column kind) (all_behind n) (column_held kind)) h)) [
      | inl e ↦ at_end n kind e
      | inr e ↦
          let found = some_found (opens (column kind) n) (spots n rules) e in
          elim (or_cases (begin_with (column kind) found.0.body) _ found.2) [
            | inl b ↦
                let above = comes_somewhere (suc (depth found.0.head)) found.0.head (omega arith) in
                let here = comes_at n found.0 above.0 above.1 found.1 above.2 in
                let behind = symbols_begin kind found.0.body above.1 b in
                record { taken = here.0; symbols = found.0.body ++ above.1; more = behind.0; comes = here.1; follows = behind.1 }
            | inr b ↦
                let held = and_right (are_empty found.0.body) _ b in
                let lower : height found.0.head < height n = less_than (height found.0.head) (height n) (and_right (holds (column kind) (follow found.0.head)) _ held) in
                let above = name_follows fuel found.0.head kind (omega (arith, less, lower)) (and_left (holds (column kind) (follow found.0.head)) _ held) in
                let here = comes_at n found.0 above.taken above.symbols found.1 above.comes in
                record {
                  taken = here.0;
                  symbols = found.0.body ++ above.symbols;
                  more = above.more;
                  comes = here.1;
                  follows = symbols_empty found.0.body above.symbols (kind ∷ above.more) (and_left (are_empty found.0.body) _ b) above.follows;
                }
          ]
    ]

tail_fits : (x : Symbol) (symbols : List Symbol) → Fits (x ∷ symbols) → Fits symbols
tail_fits (Token kind) symbols f = f
tail_fits (Name n) symbols f = f.1

what_comes_fits : {taken : List Kind} {symbols : List Symbol} → Comes taken symbols → Fits symbols
what_comes_fits at_start = start_fits
what_comes_fits (passes x {symbols} d e c) = tail_fits x symbols (what_comes_fits c)
what_comes_fits (gives_way {head} body {symbols} i e c) = subst Fits (sym e) (fits_expanded head body symbols i (what_comes_fits c))

pub follow_is_right : FollowIsRight
follow_is_right n kind = (
  (λ h. name_follows (suc (height n)) n kind (omega arith) h),
  (λ f. (what_comes_fits f.comes).0 (column kind) (column_held kind) (begins f.follows)),
)

-- ---- what comes is in a sentence

derives_both : {one : List Symbol} {kinds : List Kind} (other : List Symbol) (more : List Kind) → Derives one kinds → Derives other more → Derives (one ++ other) (kinds ++ more)
derives_both other more nothing e = e
derives_both other more (takes d) e = takes (derives_both other more d e)
derives_both other more (expands body {symbols} {kinds} i d) e =
    expands body i (subst (λ xs. Derives xs (kinds ++ more)) (append_assoc body symbols other) (derives_both other more d e))

pub leads_to_sentences : LeadsToSentences
leads_to_sentences taken more symbols c d = go c more d
  where
    go : {taken : List Kind} {symbols : List Symbol} → Comes taken symbols → (more : List Kind) → Derives symbols more → IsSentence (taken ++ more)
    go at_start more d = d
    go (passes {taken} {all} {word} x {symbols} w e c) more d =
        subst (λ ks. IsSentence (ks ++ more)) (sym e) (subst IsSentence (sym (append_assoc taken word more)) (go c (word ++ more) (derives_both symbols more w d)))
    go (gives_way {taken} body i e c) more d = go c more (expands body i (subst (λ xs. Derives xs more) e d))
