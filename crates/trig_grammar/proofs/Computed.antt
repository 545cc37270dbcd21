-- What is computed of all productions and of all cells.
use Rattle.std.proofs.Common.{◌≡◌, ℕ, zero, suc, Bool, true, false, ◌&&◌, ◌||◌, ◌==◌, nat_lt, not, List, [], ◌∷◌, Option, Some, None, refl, sym, ap, ◌∙◌}
use Rattle.trig_lexer.specs.declared.kind.Kind.{Kind}
use Rattle.trig_lexer.specs.declared.kind.Kind.TheVariants.{AtPrefix}
use Rattle.trig_grammar.specs.declared.symbol.Symbol.{Symbol}
use Rattle.trig_grammar.specs.declared.symbol.Symbol.TheVariants.{Token, Name}
use Rattle.trig_grammar.specs.declared.nonterminal.Nonterminal.{Nonterminal}
use Rattle.trig_grammar.specs.declared.nonterminal.Nonterminal.TheVariants.{Document, Statement, Block, TriplesOrGraph, AfterLabel, Triples2, WrappedGraph, MaybeTriples, TriplesBlock, MoreTriples, LabelOrSubject, Directive, PrefixId, Base, SparqlPrefix, SparqlBase, Triples, MaybePredicates, Predicates, MorePredicates, MaybePredicate, Objects, MoreObjects, Verb, Subject, Object, Literal, RdfLiteral, Suffix, PropertyList, Collection, Items, Iri, BlankNode}
use Rattle.trig_grammar.specs.Grammar.{Rule, rules}
use Rattle.trig_grammar.specs.Places.{column, row, columns}
use Rattle.trig_grammar.specs.Beginnings.{may_be_empty, first, follow, holds, are_empty, begin_with, predicts}
use Rattle.trig_grammar.specs.Table.{rule_at, body_at, the_cells, upper_cells, lower_cells, cell}
use Rattle.trig_grammar.proofs.Ranks.{rank}
use Rattle.trig_grammar.proofs.Tests.{implies, every}

-- ---- what is computed of all productions and columns

pub all_close : every (λ r. every (λ k. implies (begin_with k r.body) (holds k (first r.head))) columns) rules ≡ true
unfolding rules
all_close = refl

pub all_empty : every (λ r. implies (are_empty r.body) (may_be_empty r.head)) rules ≡ true
unfolding rules
all_empty = refl

-- each name in the right side may be followed by what begins what stands behind it, or follows the head where that may be empty
abbrev pub is_followed : Nonterminal → ℕ → List Symbol → Bool
is_followed head k [] = true
is_followed head k (Token kind ∷ symbols) = is_followed head k symbols
is_followed head k (Name n ∷ symbols) =
    implies (begin_with k symbols || (are_empty symbols && holds k (follow head))) (holds k (follow n)) && is_followed head k symbols

pub all_followed : every (λ r. every (λ k. is_followed r.head k r.body) columns) rules ≡ true
unfolding rules
all_followed = refl

abbrev pub is_number : ℕ → Option ℕ → Bool
is_number p None = false
is_number p (Some q) = q == p

-- the cell of each kind that predicts a production has its number
abbrev pub are_tied : ℕ → List Rule → Bool
are_tied p [] = true
are_tied p (r ∷ rs) = every (λ k. implies (predicts r k) (is_number p (cell r.head k))) columns && are_tied (suc p) rs

pub all_tied : are_tied 0 rules ≡ true
unfolding rules the_cells upper_cells lower_cells
all_tied = refl

pub column_held : (kind : Kind) → holds (column kind) columns ≡ true
column_held AtPrefix = refl
column_held _ = refl

-- ---- what is computed of all cells

abbrev pub has_head : ℕ → Option Rule → Bool
has_head n None = false
has_head n (Some r) = row r.head == n

-- a cell's number is that of a production of its row, which the kind predicts
abbrev pub is_sound : Nonterminal → ℕ → Option ℕ → Bool
is_sound n k None = true
is_sound n k (Some p) = has_head (row n) (rule_at rules p)

-- before the kind, the right side in the cell begins with the token or with a name of lower rank that may begin with it; or it is empty, and the name may not
abbrev pub shrinks_to : Nonterminal → ℕ → List Symbol → Bool
shrinks_to n k [] = not (holds k (first n))
shrinks_to n k (Token kind ∷ symbols) = holds k (first n)
shrinks_to n k (Name m ∷ symbols) = holds k (first n) && (holds k (first m) && nat_lt (rank m) (rank n))

abbrev pub shrinks : Nonterminal → ℕ → Option ℕ → Bool
shrinks n k None = true
shrinks n k (Some p) = shrinks_to n k (body_at p)

pub all_sound : (n : Nonterminal) → every (λ k. is_sound n k (cell n k)) columns ≡ true
unfolding rules the_cells upper_cells lower_cells
all_sound Document = refl
all_sound _ = refl

pub all_shrink : (n : Nonterminal) → every (λ k. shrinks n k (cell n k)) columns ≡ true
unfolding rules the_cells upper_cells lower_cells
all_shrink Document = refl
all_shrink _ = refl

abbrev pub names : List Nonterminal
names =
    Document ∷ Statement ∷ Block ∷ TriplesOrGraph ∷ AfterLabel ∷ Triples2 ∷ WrappedGraph ∷ MaybeTriples ∷ TriplesBlock ∷ MoreTriples ∷ LabelOrSubject ∷ Directive ∷ PrefixId ∷ Base ∷ SparqlPrefix
    ∷ SparqlBase ∷ Triples ∷ MaybePredicates ∷ Predicates ∷ MorePredicates ∷ MaybePredicate ∷ Objects ∷ MoreObjects ∷ Verb ∷ Subject ∷ Object ∷ Literal ∷ RdfLiteral ∷ Suffix ∷ PropertyList
    ∷ Collection ∷ Items ∷ Iri ∷ BlankNode ∷ []

abbrev name_at : List Nonterminal → ℕ → Option Nonterminal
name_at [] n = None
name_at (x ∷ xs) zero = Some x
name_at (x ∷ xs) (suc n) = name_at xs n

name_row : (n : Nonterminal) → name_at names (row n) ≡ Some n
name_row Document = refl
name_row _ = refl

pub same_some : {A : Type 0} (x y : A) → Some x ≡ Some y → x ≡ y
same_some x y e = cc

pub same_row : (m n : Nonterminal) → row m ≡ row n → m ≡ n
same_row m n e = same_some m n (sym (name_row m) ∙ ap (name_at names) e ∙ name_row n)
