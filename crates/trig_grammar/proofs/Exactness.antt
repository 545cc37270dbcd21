-- Each cell has the number of the production that its kind predicts, and no other.
use Rattle.std.proofs.Common.{◌≡◌, ◌↔◌, ℕ, zero, suc, ◌+◌, Bool, true, false, List, [], ◌∷◌, Option, Some, None, refl, sym, subst, arith}
use Rattle.trig_lexer.specs.declared.kind.Kind.{Kind}
use Rattle.trig_grammar.specs.declared.nonterminal.Nonterminal.{Nonterminal}
use Rattle.trig_grammar.specs.declared.nonterminal.Nonterminal.TheVariants.{Document, Statement, Block, TriplesOrGraph, AfterLabel, Triples2, WrappedGraph, MaybeTriples, TriplesBlock, MoreTriples, LabelOrSubject, Directive, PrefixId, Base, SparqlPrefix, SparqlBase, Triples, MaybePredicates, Predicates, MorePredicates, MaybePredicate, Objects, MoreObjects, Verb, Subject, Object, Literal, RdfLiteral, Suffix, PropertyList, Collection, Items, Iri, BlankNode}
use Rattle.trig_grammar.specs.Grammar.{Rule, rule, rules}
use Rattle.trig_grammar.specs.Places.{column, columns}
use Rattle.trig_grammar.specs.Beginnings.{holds, predicts}
use Rattle.trig_grammar.specs.Table.{rule_at, body_of, the_cells, upper_cells, lower_cells, cell, Predicts}
use Rattle.trig_grammar.proofs.Tests.{implies, every, every_held, modus, and_left, and_right}
use Rattle.trig_grammar.proofs.Computed.{is_number, are_tied, all_tied, column_held}
use Rattle.trig_grammar.proofs.Replacing.{rule_found}
use Rattle.trig_grammar.proofs.Predicting.{number_is}

predicts_found : ℕ → Option Rule → Bool
predicts_found k None = false
predicts_found k (Some r) = predicts r k

abbrev is_exact : ℕ → Option ℕ → Bool
is_exact k None = true
is_exact k (Some p) = predicts_found k (rule_at rules p)

all_exact : (n : Nonterminal) → every (λ k. is_exact k (cell n k)) columns ≡ true
unfolding rules the_cells upper_cells lower_cells predicts_found
all_exact Document = refl
all_exact Statement = refl
all_exact Block = refl
all_exact TriplesOrGraph = refl
all_exact AfterLabel = refl
all_exact Triples2 = refl
all_exact WrappedGraph = refl
all_exact MaybeTriples = refl
all_exact TriplesBlock = refl
all_exact MoreTriples = refl
all_exact LabelOrSubject = refl
all_exact Directive = refl
all_exact PrefixId = refl
all_exact Base = refl
all_exact SparqlPrefix = refl
all_exact SparqlBase = refl
all_exact Triples = refl
all_exact MaybePredicates = refl
all_exact Predicates = refl
all_exact MorePredicates = refl
all_exact MaybePredicate = refl
all_exact Objects = refl
all_exact MoreObjects = refl
all_exact Verb = refl
all_exact Subject = refl
all_exact Object = refl
all_exact Literal = refl
all_exact RdfLiteral = refl
all_exact Suffix = refl
all_exact PropertyList = refl
all_exact Collection = refl
all_exact Items = refl
all_exact Iri = refl
all_exact BlankNode = refl

tied_at : (base : ℕ) (rs : List Rule) (p : ℕ) (r : Rule) (k : ℕ) → are_tied base rs ≡ true → rule_at rs p ≡ Some r → holds k columns ≡ true → predicts r k ≡ true → cell r.head k ≡ Some (base + p)
tied_at base [] p r k h e held b = cc
tied_at base (x ∷ rs) zero r k h e held b =
    let same : x ≡ r = cc in
    subst (λ (n : ℕ). cell r.head k ≡ Some n) (omega arith) (number_is base (cell r.head k) (subst (λ y. is_number base (cell y.head k) ≡ true) same
    (modus (predicts x k) _ (every_held (λ k. implies (predicts x k) (is_number base (cell x.head k))) columns k
    (and_left (every (λ k. implies (predicts x k) (is_number base (cell x.head k))) columns) _ h) held)
    (subst (λ y. predicts y k ≡ true) (sym same) b))))
tied_at base (x ∷ rs) (suc p) r k h e held b =
    subst (λ (n : ℕ). cell r.head k ≡ Some n) (omega arith)
    (tied_at (suc base) rs p r k (and_right (every (λ k. implies (predicts x k) (is_number base (cell x.head k))) columns) _ h) e held b)

found_predicts : (k : ℕ) (found : Option Rule) (r : Rule) → found ≡ Some r → predicts_found k found ≡ true → predicts r k ≡ true
unfolding predicts_found
found_predicts k None r e h = cc
found_predicts k (Some x) r e h = let same : x ≡ r = cc in subst (λ y. predicts y k ≡ true) same h

pub cells_predict : (n : Nonterminal) (kind : Kind) (p : ℕ) → (cell n (column kind) ≡ Some p) ↔ Predicts n kind p
cells_predict n kind p = (
  (λ e.
      let exact : is_exact (column kind) (cell n (column kind)) ≡ true = every_held (λ k. is_exact k (cell n k)) columns (column kind) (all_exact n) (column_held kind) in
      let at : rule_at rules p ≡ Some (rule n (body_of (rule_at rules p))) = rule_found n kind p e in
      (body_of (rule_at rules p), at, found_predicts (column kind) (rule_at rules p) (rule n (body_of (rule_at rules p))) at (subst (λ c. is_exact (column kind) c ≡ true) e exact))),
  (λ f. subst (λ (m : ℕ). cell n (column kind) ≡ Some m) (omega arith) (tied_at 0 rules p (rule n f.0) (column kind) all_tied f.1 (column_held kind) f.2)),
)
