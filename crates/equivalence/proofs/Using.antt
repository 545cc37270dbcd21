-- Which nodes some triples have.
use Rattle.std.proofs.Common.{◌≡◌, ℕ, ◌↔◌, ◌||◌, Bool, true, false, List, Option, Some, None, IsSome, slice_get, refl, sym, ap, ◌∙◌, subst, true≢false}
use Rattle.std.specs.List.{list_any}
use Rattle.rdf_terms.proofs.Common.{In, mentions, is_node, is_named_by, IsUsed, Document, statement, graph_name_at, term_at, In-map, from_In-map, In-at}
use Rattle.rdf_terms.specs.declared.term.Term.{Term}
use Rattle.rdf_terms.specs.declared.term.Term.TheVariants.{Iri, Blank, Literal}
use Rattle.rdf_terms.specs.declared.term.Quad.{Quad}
use Rattle.dataset_index.specs.Mentions.{is_node_some, node_in}
use Rattle.lean_search.specs.Lean.{triples_of}
use Rattle.map_search.proofs.Indexing.{passes_some, some_passes}

-- ---- the ends of a triple

is_node_some-node_in : (k : ℕ) (t : Term) → is_node_some k (node_in t) ≡ is_node k t
is_node_some-node_in k (Iri t) = refl
is_node_some-node_in k (Blank n) = refl
is_node_some-node_in k (Literal l) = refl

or_three : (a s o n : Bool) → n ≡ false → ((a || s) || o) ≡ (a || (s || (o || n)))
or_three true s o n e = refl
or_three false true o n e = refl
or_three false false true n e = refl
or_three false false false n e = sym e

pub marked_ends : (d : Document) (q : Quad) (k : ℕ) (first at_subject now : Bool) (s o : Option ℕ) → q.g ≡ None
    → s ≡ node_in (term_at d.terms q.s) → o ≡ node_in (term_at d.terms q.o) → at_subject ≡ (first || is_node_some k s)
    → now ≡ (at_subject || is_node_some k o) → now ≡ (first || mentions k (statement d.terms q))
marked_ends d q k first at_subject now s o unnamed is_s is_o e f =
    f ∙ (ap (λ b. b || is_node_some k o) e
    ∙ (ap (λ b. (first || b) || is_node_some k o) (ap (is_node_some k) is_s ∙ is_node_some-node_in k (term_at d.terms q.s))
    ∙ (ap (λ b. (first || is_node k (term_at d.terms q.s)) || b) (ap (is_node_some k) is_o ∙ is_node_some-node_in k (term_at d.terms q.o))
    ∙ or_three first (is_node k (term_at d.terms q.s)) (is_node k (term_at d.terms q.o)) (is_named_by k (graph_name_at d.terms q.g))
    (ap (λ g. is_named_by k (graph_name_at d.terms g)) unnamed))))

-- ---- the nodes of some triples

pub mentioned-IsUsed : (d : Document) (qs : List Quad) (k : ℕ) → (list_any (λ q. mentions k (statement d.terms q)) qs ≡ true) ↔ IsUsed (triples_of d qs) k
mentioned-IsUsed d qs k = (there, back)
  where
    there : list_any (λ q. mentions k (statement d.terms q)) qs ≡ true → IsUsed (triples_of d qs) k
    there e = (let p = some_passes (λ q. mentions k (statement d.terms q)) qs e in record { statement = statement d.terms p.0; there = In-map (statement d.terms) qs p.0 p.1; mentioned = p.2 })

    back : IsUsed (triples_of d qs) k → list_any (λ q. mentions k (statement d.terms q)) qs ≡ true
    back u = (let p = from_In-map (statement d.terms) qs u.statement u.there in passes_some (λ q. mentions k (statement d.terms q)) qs p.0 p.1 (ap (mentions k) (sym p.2) ∙ u.mentioned))

-- ---- a quad with a graph name is in no graph

pub not_named : (d : Document) (place : ℕ) (q : Quad) → ((x : Quad) → In x d.quads → x.g ≡ None) → slice_get d.quads place ≡ Some q → IsSome q.g → ⊥
not_named d place q unnamed there named = true≢false (sym (subst IsSome (unnamed q (In-at d.quads place q there)) named))
