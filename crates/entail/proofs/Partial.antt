-- Maps of the first nodes by the other graph's numbers are partial maps into it.
use Rattle.std.proofs.Common.{◌≡◌, ℕ, ◌+◌, ◌<◌, ◌≤◌, ◌==◌, if◌then◌else◌, List, [], ◌∷◌, length, map, take, refl, sym, ap, ◌∙◌, subst, true, inl, inr, arith}
use Rattle.std.proofs.lemmas.List.{length-map, length-take-le, take-map}
use Rattle.rdf_terms.proofs.Common.{In, AreDistinct, mentions, statement, term_at, In-map, from_In-map, All-from_each, each-from_All, AreDistinct-map, AreDistinct-take, map-agree, map-map}
use Rattle.rdf_terms.specs.declared.term.Term.{Term}
use Rattle.rdf_terms.specs.declared.term.Term.TheVariants.{Blank}
use Rattle.rdf_terms.specs.declared.term.Quad.{Quad}
use Rattle.graph_model.specs.Graphs.{mapped_triple}
use Rattle.graph_model.specs.Components.{Touches}
use Rattle.graph_model.specs.Counts.{IsEnd, MentionsOnly, IsPartialMap, HasMoreMaps}
use Rattle.map_search.specs.Pattern.{map_of, IsEndIn, EndsAmong, IsPartialNodeMap, HasMoreNodeMaps}
use Rattle.map_search.proofs.Bridging.{number_is}
use Rattle.map_search.proofs.Images.{map_of-kept, map_of-same}
use Rattle.entail.specs.Laws.{IsCrossing}
use Rattle.entail.specs.Numbers.{quad_by, renumbered}
use Rattle.entail.proofs.Ends.{end_mentioned}
use Rattle.entail.proofs.Landing.{lands, own_end, touches}

-- ---- lists of numbers

map_of-front : (nodes images : List ℕ) (n : ℕ) → map_of (take (length images) nodes) images n ≡ map_of nodes images n
map_of-front [] [] n = refl
map_of-front [] (t ∷ ts) n = refl
map_of-front (x ∷ xs) [] n = refl
map_of-front (x ∷ xs) (t ∷ ts) n = ap (λ w. if x == n then t else w) (map_of-front xs ts n)

images_are_front : (nodes images : List ℕ) → AreDistinct nodes → length images ≤ length nodes → images ≡ map (map_of nodes images) (take (length images) nodes)
images_are_front nodes images once front =
    sym (map_of-same (take (length images) nodes) images (AreDistinct-take (length images) nodes once) (sym (length-take-le (length images) nodes front)))
    ∙ map-agree (map_of (take (length images) nodes) images) (map_of nodes images) (take (length images) nodes) (λ k i. map_of-front nodes images k)

same_numbers : (terms : List Term) → AreDistinct terms → (xs ys : List ℕ) → ((k : ℕ) → In k xs → k < length terms) → ((k : ℕ) → In k ys → k < length terms)
    → map (term_at terms) xs ≡ map (term_at terms) ys → xs ≡ ys
same_numbers terms once [] [] a b e = refl
same_numbers terms once [] (y ∷ ys) a b e = cc
same_numbers terms once (x ∷ xs) [] a b e = cc
same_numbers terms once (x ∷ xs) (y ∷ ys) a b e =
    let h : term_at terms x ≡ term_at terms y = cc in
    let t : map (term_at terms) xs ≡ map (term_at terms) ys = cc in
    let s : x ≡ y = number_is terms once x y (a x (inl refl)) (b y (inl refl)) h in
    let r : xs ≡ ys = same_numbers terms once xs ys (λ k i. a k (inr i)) (λ k i. b k (inr i)) t in
    cc

-- ---- maps of the first nodes

module _ (terms others : List Term) (to : List ℕ) (E H : List Quad) (cross : IsCrossing terms others to E H) (once : AreDistinct others) (walk : List ℕ)
    (numbers_once : AreDistinct (map (λ n. length others + 1 + n) walk)) where
  abbrev f : ℕ → ℕ
  f = renumbered terms others to

  abbrev node_number : ℕ → ℕ
  node_number n = length others + 1 + n

  abbrev nodes : List ℕ
  nodes = map node_number walk

  module _ (images : List ℕ) (partial : IsPartialNodeMap (map (quad_by f) E) H nodes images) where
    pub image_within : (k : ℕ) → In k images → k < length others
    image_within k i = by (each-from_All (IsEndIn H) images k partial.ends i)
      where
        by : IsEndIn H k → k < length others
        by e = elim e.end [
          | inl s ↦ subst (λ w. w < length others) (sym s) (cross.others_in_range e.triple e.there).s
          | inr o ↦ subst (λ w. w < length others) (sym o)
              (cross.others_in_range e.triple e.there).o
        ]

    abbrev μ : ℕ → Term
    μ n = term_at others (map_of nodes images (node_number n))

    images_are : map (term_at others) images ≡ map μ (take (length images) walk)
    images_are = ap (map (term_at others)) (images_are_front nodes images numbers_once partial.within)
        ∙ map-map (term_at others) (map_of nodes images) (take (length images) nodes)
        ∙ ap (map (λ k. term_at others (map_of nodes images k))) (take-map node_number (length images) walk)
        ∙ map-map (λ k. term_at others (map_of nodes images k)) node_number (take (length images) walk)

    among : (q : Quad) → In q E → MentionsOnly (take (length images) walk) (statement terms q) → EndsAmong nodes (length images) (quad_by f q)
    among q there only x e i =
        let p = from_In-map node_number walk x i in
        let at : (y : ℕ) → y < length terms → x ≡ f y → term_at terms y ≡ Blank p.0 = λ y l h. own_end terms others to E H cross walk y p.0 l (sym h ∙ p.2) (term_at terms y) refl in
        let m : mentions p.0 (statement terms q) ≡ true = end_mentioned terms q p.0 (elim e [
          | inl s ↦ inl (at q.s (cross.in_range q there).s s)
          | inr o ↦ inr
              (at q.o (cross.in_range q there).o o)
        ]) in
        subst (λ l. In x l) (sym (take-map node_number (length images) walk)) (subst (λ w. In w (map node_number (take (length images) walk))) (sym p.2)
        (In-map node_number (take (length images) walk) p.0 (only p.0 m)))

    same_count : length (map (term_at others) images) ≡ length images
    same_count = length-map images (term_at others)

    pub partial_by_terms : IsPartialMap (map (statement terms) E) (map (statement others) H) walk (map (term_at others) images)
    partial_by_terms = record {
      within = (let a = same_count in let b = partial.within in let c = length-map walk node_number in omega arith);
      ends = All-from_each (IsEnd (map (statement others) H)) (map (term_at others) images)
          (λ t i. (let p = from_In-map (term_at others) images t i in end_of t p.0 p.2 (each-from_All (IsEndIn H) images p.0 partial.ends p.1)));
      μ = μ;
      images_are = images_are ∙ ap (λ n. map μ (take n walk)) (sym same_count);
      carried = λ st t only. (let p = from_In-map (statement terms) E st t.0 in subst (λ w. In (mapped_triple μ w) (map (statement others) H)) (sym p.2)
          (lands terms others to E H cross walk (map_of nodes images) (λ k. map_of-kept nodes images k) p.0 p.1
          (partial.carries (quad_by f p.0) (In-map (quad_by f) E p.0 p.1) (touches terms others to E H cross walk p.0 p.1 (subst (Touches walk) p.2 t.1))
          (among p.0 p.1 (subst (λ w. MentionsOnly (take (length images) walk) w) p.2 (subst (λ n. MentionsOnly (take n walk) st) same_count only))))));
    }
      where
        end_of : (t : Term) (k : ℕ) → t ≡ term_at others k → IsEndIn H k → IsEnd (map (statement others) H) t
        end_of t k e x = record {
          triple = statement others x.triple;
          there = In-map (statement others) H x.triple x.there;
          end = elim x.end [ inl s ↦ inl (e ∙ ap (term_at others) s) | inr o ↦ inr (e ∙ ap (term_at others) o) ];
        }

  pub more_maps : (limit : ℕ) → HasMoreNodeMaps (map (quad_by f) E) H nodes limit → HasMoreMaps (map (statement terms) E) (map (statement others) H) walk limit
  more_maps limit more = record {
    maps = map (map (term_at others)) more.maps;
    distinct = AreDistinct-map (map (term_at others)) more.maps (λ a b i j e. same_numbers others once a b (image_within a (each a i)) (image_within b (each b j)) e) more.distinct;
    are_maps = All-from_each (IsPartialMap (map (statement terms) E) (map (statement others) H) walk) (map (map (term_at others)) more.maps)
        (λ x i. (let p = from_In-map (map (term_at others)) more.maps x i in subst (IsPartialMap (map (statement terms) E) (map (statement others) H) walk) (sym p.2)
        (partial_by_terms p.0 (each p.0 p.1))));
    more = (let a = length-map more.maps (map (term_at others)) in let b = more.more in omega arith);
  }
    where
      each : (a : List ℕ) → In a more.maps → IsPartialNodeMap (map (quad_by f) E) H nodes a
      each a i = each-from_All (IsPartialNodeMap (map (quad_by f) E) H nodes) more.maps a more.are_maps i
