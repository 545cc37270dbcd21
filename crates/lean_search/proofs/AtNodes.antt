-- The triples that are left at a node, by their places.
use Rattle.std.proofs.Common.{◌≡◌, ℕ, suc, ◌<◌, ◌⊎◌, ◌↔◌, Bool, true, List, [], ◌∷◌, length, Option, Some, None, slice_get, sym, ap, ◌∙◌, inl, inr, arith, true≢false}
use Rattle.std.specs.List.{filter, list_any}
use Rattle.std.specs.Option.{option_map, IfSome}
use Rattle.std.proofs.lemmas.List.{length-map}
use Rattle.std.proofs.lemmas.Option.{slice_get-get_or, slice_get-map}
use Rattle.rdf_terms.proofs.Common.{In, numbers_below, Statement, mentions, is_node, is_named_by, IsUsed, Document, statement, statements, term_at, graph_name_at, In-map, from_In-map, In-at, In-numbers_below, from_In-numbers_below, In-filter, from_In-filter}
use Rattle.rdf_terms.specs.declared.term.Term.{Term}
use Rattle.rdf_terms.specs.declared.term.Term.TheVariants.{Iri, Blank, Literal}
use Rattle.rdf_terms.specs.declared.term.Quad.{Quad}
use Rattle.dataset_index.specs.Mentions.{mentioned_by, node_in, places_of}
use Rattle.dataset_index.proofs.Building.{node_below}
use Rattle.graph_model.specs.Components.{ShareTriple}
use Rattle.graph_model.proofs.Maps.{by_subject, by_object}
use Rattle.std.proofs.lemmas.Bool.{or_cases}
use Rattle.map_search.specs.Index.{quad_at, no_quad}
use Rattle.map_search.specs.Marks.{mark_at}
use Rattle.map_search.proofs.Bridging.{is_node-blank, blank-is_node}
use Rattle.map_search.proofs.Indexing.{In-kept, kept-In, passes_some, some_passes}
use Rattle.lean_search.specs.Image.{IsOneGraph, left, quads_left}
use Rattle.lean_search.specs.Walk.{IsNear}

-- ---- the places of a node

at_place : (d : Document) (k : ℕ) → k < length d.quads → slice_get (statements d) k ≡ Some (statement d.terms (quad_at d.quads k))
at_place d k l = slice_get-map (statement d.terms) d.quads k ∙ ap (option_map (statement d.terms)) (slice_get-get_or d.quads k no_quad l)

-- the triple at the place is left, and mentions the node
pub record IsLeftAt (d : Document) (live : List Bool) (n k : ℕ) : Type 0 where
  pub within : k < length d.quads
  pub is_left : mark_at live k ≡ true
  pub mentioned : mentions n (statement d.terms (quad_at d.quads k)) ≡ true

pub place_left : (d : Document) (live : List Bool) (n k : ℕ) → In k (filter (mark_at live) (places_of (statements d) n)) → IsLeftAt d live n k
place_left d live n k i =
    let p = from_In-filter (mark_at live) k (places_of (statements d) n) i in
    let q = from_In-filter (λ k. mentioned_by n (slice_get (statements d) k)) k (numbers_below (length (statements d))) p.0 in
    let l : k < length (statements d) = from_In-numbers_below (length (statements d)) k q.0 in
    let m : length (statements d) ≡ length d.quads = length-map d.quads (statement d.terms) in
    let w : k < length d.quads = omega arith in
    record { within = w; is_left = p.1; mentioned = ap (mentioned_by n) (sym (at_place d k w)) ∙ q.1 }

pub left_place : (d : Document) (live : List Bool) (n k : ℕ) → IsLeftAt d live n k → In k (filter (mark_at live) (places_of (statements d) n))
left_place d live n k at =
    let m : length (statements d) ≡ length d.quads = length-map d.quads (statement d.terms) in
    let l : k < length (statements d) = (let w = at.within in omega arith) in
    let e : mentioned_by n (slice_get (statements d) k) ≡ true = ap (mentioned_by n) (at_place d k at.within) ∙ at.mentioned in
    In-filter (mark_at live) k (places_of (statements d) n)
    (In-filter (λ k. mentioned_by n (slice_get (statements d) k)) k (numbers_below (length (statements d))) (In-numbers_below (length (statements d)) k l) e) at.is_left

pub place_of_node : (d : Document) (n k : ℕ) → In k (places_of (statements d) n) → (k < length d.quads) × (mentions n (statement d.terms (quad_at d.quads k)) ≡ true)
place_of_node d n k i =
    let q = from_In-filter (λ k. mentioned_by n (slice_get (statements d) k)) k (numbers_below (length (statements d))) i in
    let l : k < length (statements d) = from_In-numbers_below (length (statements d)) k q.0 in
    let m : length (statements d) ≡ length d.quads = length-map d.quads (statement d.terms) in
    let w : k < length d.quads = omega arith in
    (w, ap (mentioned_by n) (sym (at_place d k w)) ∙ q.1)

-- ---- the triples that are left

pub In-left : (d : Document) (live : List Bool) (k : ℕ) → k < length d.quads → mark_at live k ≡ true → In (statement d.terms (quad_at d.quads k)) (left d live)
In-left d live k l e = In-map (statement d.terms) (quads_left d live) (quad_at d.quads k) (kept-In d.quads live k l e)

-- a triple that is left has a place
pub record HasPlace (d : Document) (live : List Bool) (st : Statement) : Type 0 where
  pub place : ℕ
  pub within : place < length d.quads
  pub is_left : mark_at live place ≡ true
  pub is : st ≡ statement d.terms (quad_at d.quads place)

pub has_place : (d : Document) (live : List Bool) (st : Statement) → In st (left d live) → HasPlace d live st
has_place d live st i =
    let p = from_In-map (statement d.terms) (quads_left d live) st i in
    let k = In-kept p.0 d.quads live p.1 in
    record { place = k.0; within = k.1; is_left = k.3; is = p.2 ∙ ap (statement d.terms) (sym k.2) }

pub used_left : (d : Document) (live : List Bool) (n k : ℕ) → IsLeftAt d live n k → IsUsed (left d live) n
used_left d live n k at = record { statement = statement d.terms (quad_at d.quads k); there = In-left d live k at.within at.is_left; mentioned = at.mentioned }

pub left_used : (d : Document) (live : List Bool) (n : ℕ) → IsUsed (left d live) n → (k : ℕ) × IsLeftAt d live n k
left_used d live n u =
    let p = has_place d live u.statement u.there in
    (p.place, record { within = p.within; is_left = p.is_left; mentioned = ap (mentions n) (sym p.is) ∙ u.mentioned })

-- ---- the ends of a triple

node_in-blank : (t : Term) (n : ℕ) → node_in t ≡ Some n → t ≡ Blank n
node_in-blank (Iri t) n e = cc
node_in-blank (Blank m) n e = ap Blank (same e)
  where
    same : Some m ≡ Some n → m ≡ n
    same f = cc
node_in-blank (Literal l) n e = cc

pub In-quad_at : (quads : List Quad) (k : ℕ) → k < length quads → In (quad_at quads k) quads
In-quad_at quads k l = In-at quads k (quad_at quads k) (slice_get-get_or quads k no_quad l)

-- a node that a triple without a graph name mentions is one of its ends
pub mentioned_end : (d : Document) → IsOneGraph d → (k n : ℕ) → k < length d.quads → mentions n (statement d.terms (quad_at d.quads k)) ≡ true
    → (term_at d.terms (quad_at d.quads k).s ≡ Blank n) ⊎ (term_at d.terms (quad_at d.quads k).o ≡ Blank n)
mentioned_end d one k n l m =
    elim (or_cases (is_node n (term_at d.terms (quad_at d.quads k).s)) _ m) [
      | inl s ↦ inl
          (is_node-blank n (term_at d.terms (quad_at d.quads k).s) s)
      | inr r ↦ elim (or_cases (is_node n (term_at d.terms (quad_at d.quads k).o))
          (is_named_by n (graph_name_at d.terms (quad_at d.quads k).g)) r) [
            | inl o ↦ inr (is_node-blank n (term_at d.terms (quad_at d.quads k).o) o)
            | inr g ↦ absurd
                (true≢false (sym g ∙ ap (λ w. is_named_by n (graph_name_at d.terms w)) (one.unnamed (quad_at d.quads k) (In-quad_at d.quads k l))))
          ]
    ]

-- a node that is mentioned is one of the document
pub node_within : (d : Document) → IsOneGraph d → (k n : ℕ) → k < length d.quads → mentions n (statement d.terms (quad_at d.quads k)) ≡ true → n < length d.labels
node_within d one k n l m =
    let r = one.in_range (quad_at d.quads k) (In-quad_at d.quads k l) in
    elim (mentioned_end d one k n l m) [
      | inl e ↦ node_below d one.document n (quad_at d.quads k).s
          (slice_get-get_or d.terms (quad_at d.quads k).s (Blank 0) r.s ∙ ap Some e)
      | inr e ↦ node_below d one.document n (quad_at d.quads k).o
          (slice_get-get_or d.terms (quad_at d.quads k).o (Blank 0) r.o ∙ ap Some e)
    ]

pub used_within : (d : Document) (live : List Bool) → IsOneGraph d → (n : ℕ) → IsUsed (left d live) n → n < length d.labels
used_within d live one n u = (let p = left_used d live n u in node_within d one p.0 n p.1.within p.1.mentioned)

-- a node that a triple of the document mentions is one of the document
pub statement_within : (d : Document) → IsOneGraph d → (st : Statement) → In st (statements d) → (n : ℕ) → mentions n st ≡ true → n < length d.labels
statement_within d one st i n m =
    let p = from_In-map (statement d.terms) d.quads st i in
    let k = quad_place d.quads p.0 p.1 in
    node_within d one k.0 n k.1 (ap (mentions n) (ap (statement d.terms) k.2 ∙ sym p.2) ∙ m)
  where
    quad_place : (quads : List Quad) (q : Quad) → In q quads → (k : ℕ) × (k < length quads) × (quad_at quads k ≡ q)
    quad_place [] q h = absurd h
    quad_place (x ∷ xs) q (inl e) = (0, omega arith, sym e)
    quad_place (x ∷ xs) q (inr h) = (let r = quad_place xs q h in (suc r.0, (let l = r.1 in omega arith), r.2))

-- ---- ends near a node are those that share a triple with it

pub near_shares : (d : Document) (live : List Bool) (node n : ℕ) → IsNear d (filter (mark_at live) (places_of (statements d) node)) n → ShareTriple (left d live) node n
near_shares d live node n near =
    let at = place_left d live node near.place near.there in
    record {
      triple = statement d.terms (quad_at d.quads near.place);
      there = In-left d live near.place at.within at.is_left;
      mentions_first = at.mentioned;
      mentions_second = elim near.end [
        | inl e ↦ by_subject (statement d.terms (quad_at d.quads near.place)) n
            (blank-is_node n (term_at d.terms (quad_at d.quads near.place).s) (node_in-blank (term_at d.terms (quad_at d.quads near.place).s) n e))
        | inr e ↦ by_object
            (statement d.terms (quad_at d.quads near.place)) n (blank-is_node n (term_at d.terms (quad_at d.quads near.place).o) (node_in-blank (term_at d.terms (quad_at d.quads near.place).o) n e))
      ];
    }

pub shares_near : (d : Document) (live : List Bool) → IsOneGraph d → (node n : ℕ) → ShareTriple (left d live) node n → IsNear d (filter (mark_at live) (places_of (statements d) node)) n
shares_near d live one node n share =
    let p = has_place d live share.triple share.there in
    record {
      place = p.place;
      there = left_place d live node p.place (record { within = p.within; is_left = p.is_left; mentioned = ap (mentions node) (sym p.is) ∙ share.mentions_first });
      end = elim (mentioned_end d one p.place n p.within (ap (mentions n) (sym p.is) ∙ share.mentions_second)) [ inl e ↦ inl (ap node_in e) | inr e ↦ inr (ap node_in e) ];
    }

-- ---- whether a triple of a node is left

pub any_left : (d : Document) (live : List Bool) (n : ℕ) → (list_any (mark_at live) (places_of (statements d) n) ≡ true) ↔ IsUsed (left d live) n
any_left d live n = (to, from)
  where
    to : list_any (mark_at live) (places_of (statements d) n) ≡ true → IsUsed (left d live) n
    to e =
        let p = some_passes (mark_at live) (places_of (statements d) n) e in
        let m = place_of_node d n p.0 p.1 in
        used_left d live n p.0 (record { within = m.0; is_left = p.2; mentioned = m.1 })

    from : IsUsed (left d live) n → list_any (mark_at live) (places_of (statements d) n) ≡ true
    from u =
        let p = left_used d live n u in
        let i = from_In-filter (mark_at live) p.0 (places_of (statements d) n) (left_place d live n p.0 p.1) in
        passes_some (mark_at live) (places_of (statements d) n) p.0 i.0 i.1

-- a node of a term is one of the document
pub node_in_within : (d : Document) → IsOneGraph d → (k : ℕ) → k < length d.terms → (r : Option ℕ) → r ≡ node_in (term_at d.terms k) → IfSome r (λ n. n < length d.labels)
node_in_within d one k l None e = tt
node_in_within d one k l (Some n) e = node_below d one.document n k (slice_get-get_or d.terms k (Blank 0) l ∙ ap Some (node_in-blank (term_at d.terms k) n (sym e)))
