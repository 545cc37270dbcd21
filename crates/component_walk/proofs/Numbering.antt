-- The numbers of the terms of a walk's nodes.
use Rattle.std.proofs.Common.{◌≡◌, ℕ, ◌<◌, ◌≤◌, Bool, List, length, Option, Some, None, sym, ap, ◌∙◌, subst, inl, inr, arith}
use Rattle.std.specs.List.{All}
use Rattle.std.specs.Option.{IfNone}
use Rattle.rdf_terms.proofs.Common.{In, AreDistinct, numbers_below, Statement, Document, IsDocument, IsInRange, term_at, In-map, from_In-map, In-numbers_below, length-numbers_below, All-from_each, each-from_All, AreDistinct-map}
use Rattle.rdf_terms.specs.declared.term.Term.TheVariants.{Blank}
use Rattle.rdf_terms.specs.declared.term.Quad.{Quad}
use Rattle.dataset_index.proofs.Building.{AreDistinct-from_map}
use Rattle.graph_model.proofs.Counting.{length-within}
use Rattle.map_search.specs.Index.{quad_at}
use Rattle.map_search.specs.Laws.{IsInTriple}
use Rattle.map_search.specs.Numbers.{AreNumbers}
use Rattle.map_search.proofs.Bridging.{number_is}
use Rattle.map_search.proofs.Indexing.{In-kept, kept-In}
use Rattle.component_walk.specs.Image.{IsOneGraph, AreTermsOf, left, quads_left}
use Rattle.component_walk.specs.Walk.{IsWalk, IsWalkFrom}
use Rattle.component_walk.proofs.AtNodes.{IsLeftAt, left_used, mentioned_end, used_within, In-quad_at}
use Rattle.component_walk.proofs.Walks.{walk_once, walk_used}

-- ---- the numbers of a walk's terms

pub numbers_of : (d : Document) (live : List Bool) (start : ℕ) (walk own : List ℕ) → IsOneGraph d → IsWalkFrom (left d live) start walk → AreTermsOf d walk own
    → ((k : ℕ) → In k own → k < length d.terms) → AreNumbers d.terms (quads_left d live) own walk
numbers_of d live start walk own one w terms_are within = record {
  terms_once = one.terms_once;
  in_range = λ q i. one.in_range q (there q i);
  unnamed = λ q i. one.unnamed q (there q i);
  once = AreDistinct-from_map (term_at d.terms) own (subst AreDistinct (sym terms_are) (AreDistinct-map Blank walk (λ x y i j e. same x y e) (walk_once (left d live) start walk w)));
  nodes_are = terms_are;
  used =
      λ k i. (let p = from_In-map Blank walk (term_at d.terms k) (subst (λ l. In (term_at d.terms k) l) terms_are (In-map (term_at d.terms) own k i))
      in in_triple k p.0 (within k i) p.2 (left_used d live p.0 (walk_used (left d live) start walk w p.0 p.1)));
}
  where
    same : (x y : ℕ) → Blank x ≡ Blank y → x ≡ y
    same x y e = cc

    there : (q : Quad) → In q (quads_left d live) → In q d.quads
    there q i = (let j = In-kept q d.quads live i in subst (λ x. In x d.quads) j.2 (In-quad_at d.quads j.0 j.1))

    in_triple : (k n : ℕ) → k < length d.terms → term_at d.terms k ≡ Blank n → (j : ℕ) × IsLeftAt d live n j → IsInTriple (quads_left d live) k
    in_triple k n l e p =
        let r = one.in_range (quad_at d.quads p.0) (In-quad_at d.quads p.0 p.1.within) in
        record {
          triple = quad_at d.quads p.0;
          there = kept-In d.quads live p.0 p.1.within p.1.is_left;
          end =
              elim (mentioned_end d one p.0 n p.1.within p.1.mentioned) [
                | inl f ↦ inl (number_is d.terms one.terms_once k (quad_at d.quads p.0).s l r.s (e ∙ sym f))
                | inr f ↦ inr (number_is d.terms one.terms_once k (quad_at d.quads p.0).o l r.o (e ∙ sym f))
              ];
        }

pub walk_within : (d : Document) (live : List Bool) (walk : List ℕ) → IsOneGraph d → IsWalk (left d live) walk → All (λ n. n < length d.labels) walk
walk_within d live walk one w = All-from_each (λ n. n < length d.labels) walk (λ n i. used_within d live one n (walk_used (left d live) w.0 walk w.1 n i))

pub walk_some : (G : List Statement) (walk : List ℕ) → IsWalk G walk → 0 < length walk
walk_some G walk w = (let e = ap length w.1.walk_is in omega arith)

-- numbers of terms, each once, are fewer than the places that there may be
pub own_few : (d : Document) (own : List ℕ) → IsOneGraph d → AreDistinct own → ((k : ℕ) → In k own → k < length d.terms) → length own < 4294967295
own_few d own one once within =
    let a : length own ≤ length (numbers_below (length d.terms)) = length-within own (numbers_below (length d.terms)) once (λ k i. In-numbers_below (length d.terms) k (within k i)) in
    let b : length (numbers_below (length d.terms)) ≡ length d.terms = length-numbers_below (length d.terms) in
    let c = one.document.draft.terms_bound in
    let e = one.document.draft.quads_bound in
    omega arith

pub is_one_graph : (d : Document) (named : Option Quad) → IsDocument d → AreDistinct d.terms → AreDistinct d.quads → All (IsInRange d.terms) d.quads → IfNone named (All (λ q. q.g ≡ None) d.quads)
    → IfNone named (IsOneGraph d)
is_one_graph d (Some q) document terms quads range none = tt
is_one_graph d None document terms quads range none = record {
  document = document;
  terms_once = terms;
  quads_once = quads;
  in_range = λ q i. each-from_All (IsInRange d.terms) d.quads q range i;
  unnamed = λ q i. each-from_All (λ q. q.g ≡ None) d.quads q none i;
}
