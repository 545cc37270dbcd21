-- The images of the nodes, from component to component.
use Rattle.std.proofs.Common.{◌≡◌, ℕ, ◌+◌, ◌<◌, ◌≤◌, ◌⊎◌, true, List, length, get_or, None, refl, sym, ap, ◌∙◌, subst, inl, inr, arith}
use Rattle.std.specs.List.{All}
use Rattle.std.proofs.lemmas.List.Elements.{All-from_get_or}
use Rattle.rdf_terms.proofs.Common.{In, Statement, mentions, IsUsed, Document, statement, statements, term_at, graph_name_at, from_In-map, decide_in, All-from_each}
use Rattle.rdf_terms.specs.declared.term.Term.{Term}
use Rattle.graph_model.specs.Graphs.{IsGraph, mapped_triple}
use Rattle.graph_model.specs.Components.{Touches}
use Rattle.graph_model.specs.Counts.{HasMoreMaps}
use Rattle.graph_model.proofs.Maps.{mapped_triple-kept, mapped_triple-same}
use Rattle.graph_model.proofs.Restricting.{in_triple, touches}
use Rattle.component_walk.specs.Image.{IsOneGraph}
use Rattle.component_walk.specs.Walk.{IsWalkFrom}
use Rattle.component_walk.proofs.AtNodes.{statement_within}
use Rattle.component_walk.proofs.Walks.{walk_began_where, walk_closed, walk_start, walk_used}
use Rattle.entail.specs.Answers.{IsMapFound, map_by}
use Rattle.entail.specs.Entailment.{Entails, IsInstanceMap, IsPastInto}
use Rattle.entail.specs.Searched.{AreMapped, IsGroundKept, IsImaged, IsUnmapped, IsWalkMapped}
use Rattle.entail.specs.declared.form.InstanceMap.{InstanceMap}

below_or_at : (n start : ℕ) → n < start + 1 → (n < start) ⊎ (n ≡ start)
below_or_at n start l = grind arith

before_or_not : (n start : ℕ) → (n < start) ⊎ (start ≤ n)
before_or_not n start = grind arith

pub unmapped : (E G : List Statement) (walk : List ℕ) → IsUnmapped E G walk → ¬ (Entails G E)
unmapped E G walk none a = none a.0 (λ st t. a.1 st t.0)

pub ground_is_kept : (E G : List Statement) → Entails G E → IsGroundKept E G
ground_is_kept E G a st i ground = subst (λ x. In x G) (mapped_triple-kept a.0 st (λ n e. absurd (ground n e))) (a.1 st i)

module _ (E G : List Statement) (terms : List Term) where
  pub mapping_begins : (images : List ℕ) (count : ℕ) → length images ≡ count → ((n : ℕ) → n < count → get_or images n 0 ≡ length terms) → AreMapped E G terms images 0
  mapping_begins images count c none = record {
    maps = λ st n i m imaged. absurd (not_imaged n imaged);
    closed = λ st n k i a b imaged. absurd (not_imaged n imaged);
    behind = λ n l m. absurd (omega arith);
  }
    where
      not_imaged : (n : ℕ) → ¬ (IsImaged terms images n)
      not_imaged n h = (let a = h.within in let b = h.image in let e = none n (omega arith) in omega arith)

  module _ (before : List ℕ) (start : ℕ) (mapped : AreMapped E G terms before start) (walk : List ℕ) (w : IsWalkFrom E start walk) where
    module _ (after : List ℕ) (now : IsWalkMapped E G terms walk before after) where
      imaged_before : (n : ℕ) → (¬ (In n walk)) → IsImaged terms after n → IsImaged terms before n
      imaged_before n out h = record { within = (let a = h.within in let b = now.count in omega arith); image = subst (λ k. k < length terms) (now.others n out) h.image }

      imaged_after : (n : ℕ) → IsImaged terms before n → IsImaged terms after n
      imaged_after n h = elim (decide_in n walk) [
        | inl i ↦ now.imaged n i
        | inr out ↦ record { within = (let a = h.within in let b = now.count in omega arith); image = subst (λ k. k < length terms) (sym (now.others n out)) h.image }
      ]

      maps_after : (st : Statement) (n : ℕ) → In st E → mentions n st ≡ true → IsImaged terms after n → In (mapped_triple (map_by terms after) st) G
      maps_after st n i m h = by (touches walk st)
        where
          by : Touches walk st ⊎ ((x : ℕ) → mentions x st ≡ true → ¬ (In x walk)) → In (mapped_triple (map_by terms after) st) G
          by (inl t) = now.maps st (i, t)
          by (inr none) =
              subst (λ x. In x G) (mapped_triple-same (map_by terms before) (map_by terms after) st (λ x e. ap (term_at terms) (sym (now.others x (none x e)))))
              (mapped.maps st n i m (imaged_before n (none n m) h))

      closed_after : (st : Statement) (n k : ℕ) → In st E → mentions n st ≡ true → mentions k st ≡ true → IsImaged terms after n → IsImaged terms after k
      closed_after st n k i a b h = elim (decide_in k walk) [
        | inl j ↦ now.imaged k j
        | inr out ↦ imaged_after k (mapped.closed st n k i a b (imaged_before n (λ j. out (walk_closed E start walk w st i n k a b j)) h))
      ]

      pub mapping_goes_on : AreMapped E G terms after (start + 1)
      mapping_goes_on = record {
        maps = maps_after;
        closed = closed_after;
        behind = λ n l m. elim (below_or_at n start m) [
          | inl b ↦ imaged_after n (mapped.behind n (let e = now.count in omega arith) b)
          | inr e ↦ now.imaged n (subst (λ k. In k walk) (sym e) (walk_start E start walk w))
        ];
      }

    -- a component with a node before `start` has an image of `start`
    pub mapping_past : ((n : ℕ) → IsUsed E n → n < length before) → (¬ (IsImaged terms before start)) → (limit : ℕ) → HasMoreMaps E G walk limit → IsPastInto E G limit start
    mapping_past within none limit more = record {
      walk = walk;
      is_walk = record {
        first = start;
        rest = w.rest;
        walk_is = w.walk_is;
        used = w.used;
        least = All-from_each (λ n. start ≤ n) w.rest (λ n i. least n (subst (λ l. In n l) (sym w.walk_is) (inr i)) (before_or_not n start));
        goes_on = w.goes_on;
      };
      first_is = refl;
      past = more;
    }
      where
        least : (n : ℕ) → In n walk → (n < start) ⊎ (start ≤ n) → start ≤ n
        least n i (inr l) = l
        least n i (inl l) =
            absurd (none (walk_began_where E (IsImaged terms before) (λ st there x y a b h. mapped.closed st x y there a b h) start walk w n i
            (mapped.behind n (within n (walk_used E start walk w n i)) l)))

  pub mapping_passed : (images : List ℕ) (start : ℕ) → AreMapped E G terms images start → IsImaged terms images start → AreMapped E G terms images (start + 1)
  mapping_passed images start mapped h = record {
    maps = mapped.maps;
    closed = mapped.closed;
    behind = λ n l m. elim (below_or_at n start m) [ inl b ↦ mapped.behind n l b | inr e ↦ subst (IsImaged terms images) (sym e) h ];
  }

pub is_graph : (d : Document) → IsOneGraph d → IsGraph (statements d)
is_graph d one = All-from_each (λ st. st.graph_name ≡ None) (statements d)
    (λ st i. (let p = from_In-map (statement d.terms) d.quads st i in ap (λ (x : Statement). x.graph_name) p.2 ∙ ap (graph_name_at d.terms) (one.unnamed p.0 p.1)))

-- when all nodes have images, these are an instance map
pub mapping_ends : (g e : Document) → IsOneGraph g → IsOneGraph e → (images : List ℕ) → length images ≡ length e.labels → IsGroundKept (statements e) (statements g)
    → AreMapped (statements e) (statements g) g.terms images (length e.labels) → (map : InstanceMap) → map.terms ≡ images → IsMapFound g e map
mapping_ends g e one other images count kept mapped map same = record {
  graphs = (is_graph g one, is_graph e other);
  count = ap length same ∙ count;
  in_range = subst (All (λ t. t < length g.terms)) (sym same) (All-from_get_or (λ t. t < length g.terms) images 0 (λ k l. (mapped.behind k l (omega arith)).image));
  is_map = subst (λ xs. IsInstanceMap (statements g) (statements e) (map_by g.terms xs)) (sym same) carried;
}
  where
    carried : IsInstanceMap (statements g) (statements e) (map_by g.terms images)
    carried st i = by (in_triple (λ n. Unit {0}) (λ n. inl tt) st)
      where
        by : ((x : ℕ) × Unit {0} × (mentions x st ≡ true)) ⊎ ((x : ℕ) → mentions x st ≡ true → ¬ (Unit {0})) → In (mapped_triple (map_by g.terms images) st) (statements g)
        by (inl p) = (let l = statement_within e other st i p.0 p.2 in mapped.maps st p.0 i p.2 (mapped.behind p.0 (omega arith) l))
        by (inr none) = subst (λ x. In x (statements g)) (sym (mapped_triple-kept (map_by g.terms images) st (λ n m. absurd (none n m tt)))) (kept st i (λ n m. none n m tt))
