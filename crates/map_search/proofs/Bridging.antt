-- From maps of term numbers to maps of nodes to terms, and back.
use Rattle.std.proofs.Common.{◌≡◌, ℕ, zero, suc, ◌<◌, ◌≤◌, ◌⊎◌, ◌↔◌, ◌==◌, Bool, true, false, if◌then◌else◌, List, [], ◌∷◌, length, map, take, get_or, Some, refl, sym, ap, ◌∙◌, subst, inl, inr, arith, true≢false}
use Rattle.std.specs.List.{All}
use Rattle.std.proofs.lemmas.Bool.{eqb-true}
use Rattle.std.proofs.lemmas.List.{length-map, length-take-le, get_or_default, get_or_past, take-map}
use Rattle.std.proofs.lemmas.Option.{slice_get-get_or, slice_get_within, get_or_from_slice_get}
use Rattle.rdf_terms.proofs.Common.{In, AreDistinct, Statement, mentions, is_node, is_named_by, statement, term_at, graph_name_at, IsInRange, In-map, from_In-map, In-at, In-take, AreDistinct-take, place_in, one_place, decide_in, All-from_each, each-from_All, AreDistinct-map, map-agree, map-map}
use Rattle.rdf_terms.specs.declared.term.Term.{Term}
use Rattle.rdf_terms.specs.declared.term.Term.TheVariants.{Iri, Blank, Literal}
use Rattle.rdf_terms.specs.declared.term.Quad.{Quad}
use Rattle.rdf_terms.proofs.Adding.{statement_injective}
use Rattle.graph_model.specs.Graphs.{mapped, mapped_triple, IsReached}
use Rattle.graph_model.specs.Components.{IsMapOf, IsTight, Touches}
use Rattle.graph_model.specs.Counts.{IsEnd, MentionsOnly, IsPartialMap, HasMoreMaps, IsBeginning, HasMoreBeginnings}
use Rattle.graph_model.proofs.Maps.{by_subject, by_object, eqb-itself}
use Rattle.map_search.specs.Pattern.{carried, map_of, IsNodeMap, TouchesOneOf, IsReachedBy, ReachesAll, IsEndIn, EndsAmong, IsPartialNodeMap, HasMoreNodeMaps, IsNodeBeginning, HasMoreNodeBeginnings}
use Rattle.map_search.specs.Laws.{IsInTriple, MeansOfEnding}
use Rattle.map_search.specs.Numbers.{AreNumbers, Agrees, IsSaidBy, MeansByTerms}
use Rattle.map_search.specs.declared.search.Ending.{Ending}
use Rattle.map_search.specs.declared.search.Ending.TheVariants.{Found, Nothing, PastLimit}
use Rattle.map_search.proofs.Images.{map_of-kept, map_of-same}
use Rattle.map_search.proofs.Telling.{into_graph}
use Rattle.std.proofs.lemmas.Bool.{or_cases}

-- ---- the number of a node

number_of_node : List Term → ℕ → ℕ
number_of_node [] n = 0
number_of_node (t ∷ ts) n = if is_node n t then 0 else suc (number_of_node ts n)

pub is_node-blank : (n : ℕ) (t : Term) → is_node n t ≡ true → t ≡ Blank n
is_node-blank n (Iri t) e = absurd (true≢false (sym e))
is_node-blank n (Blank m) e = ap Blank (eqb-true m n e)
is_node-blank n (Literal l) e = absurd (true≢false (sym e))

pub blank-is_node : (n : ℕ) (t : Term) → t ≡ Blank n → is_node n t ≡ true
blank-is_node n t e = ap (is_node n) e ∙ eqb-itself n

at_or_past : (ts : List Term) (n : ℕ) → ((number_of_node ts n < length ts) × (term_at ts (number_of_node ts n) ≡ Blank n)) ⊎ (length ts ≤ number_of_node ts n)
unfolding number_of_node
at_or_past [] n = inr (omega arith)
at_or_past (t ∷ ts) n = by (is_node n t) refl (at_or_past ts n)
  where
    by : (b : Bool) → is_node n t ≡ b → ((number_of_node ts n < length ts) × (term_at ts (number_of_node ts n) ≡ Blank n)) ⊎ (length ts ≤ number_of_node ts n)
        → (((if b then 0 else suc (number_of_node ts n)) < suc (length ts)) × (term_at (t ∷ ts) (if b then 0 else suc (number_of_node ts n)) ≡ Blank n))
        ⊎ (suc (length ts) ≤ (if b then 0 else suc (number_of_node ts n)))
    by true e r = inl (omega arith, is_node-blank n t e)
    by false e (inl p) = inl ((let l = p.0 in omega arith), p.1)
    by false e (inr l) = inr (omega arith)

past_none : (ts : List Term) (n k : ℕ) → length ts ≤ number_of_node ts n → k < length ts → ¬ (term_at ts k ≡ Blank n)
unfolding number_of_node
past_none [] n k p l e = absurd (omega arith)
past_none (t ∷ ts) n k p l e = by (past_none ts n) (is_node n t) refl p
  where
    later : ((i : ℕ) → length ts ≤ number_of_node ts n → i < length ts → ¬ (term_at ts i ≡ Blank n)) → (j : ℕ) → k ≡ j → length ts ≤ number_of_node ts n → is_node n t ≡ false → ⊥
    later ih zero f q g = true≢false (sym (blank-is_node n t (subst (λ w. term_at (t ∷ ts) w ≡ Blank n) f e)) ∙ g)
    later ih (suc j) f q g = ih j q (omega arith) (subst (λ w. term_at (t ∷ ts) w ≡ Blank n) f e)

    by : ((i : ℕ) → length ts ≤ number_of_node ts n → i < length ts → ¬ (term_at ts i ≡ Blank n)) → (b : Bool) → is_node n t ≡ b → suc (length ts) ≤ (if b then 0 else suc (number_of_node ts n)) → ⊥
    by ih true f q = absurd (omega arith)
    by ih false f q = later ih k refl (omega arith) f

module _ (terms : List Term) (terms_once : AreDistinct terms) where
  pub number_is : (m n : ℕ) → m < length terms → n < length terms → term_at terms m ≡ term_at terms n → m ≡ n
  number_is m n l k e = one_place terms m n (term_at terms m) terms_once (slice_get-get_or terms m (Blank 0) l) (slice_get-get_or terms n (Blank 0) k ∙ ap Some (sym e))

  -- the map of nodes that a map of numbers is
  pub by_numbers : (ℕ → ℕ) → ℕ → Term
  by_numbers m n = get_or terms (m (number_of_node terms n)) (Blank n)

  said : (m : ℕ → ℕ) (k : ℕ) (t : Term) → k < length terms → m k < length terms → ((n : ℕ) → t ≡ Blank n → term_at terms k ≡ t) → (((n : ℕ) → ¬ (t ≡ Blank n)) → m k ≡ k) → term_at terms k ≡ t
      → term_at terms (m k) ≡ mapped (by_numbers m) t
  unfolding by_numbers
  said m k (Iri t) l i b o e = ap (term_at terms) (o (λ n f. cc)) ∙ e
  said m k (Literal t) l i b o e = ap (term_at terms) (o (λ n f. cc)) ∙ e
  said m k (Blank n) l i b o e =
      elim (at_or_past terms n) [
        | inl p ↦ (let s : number_of_node terms n ≡ k = number_is (number_of_node terms n) k p.0 l (p.1 ∙ sym e) in ap (term_at terms) (ap m (sym s))
            ∙ get_or_default terms (m (number_of_node terms n)) (Blank 0) (Blank n) (subst (λ w. m w < length terms) (sym s) i))
        | inr p ↦ absurd (past_none terms n k p l e)
      ]

  -- a map of numbers that keeps what is no node
  pub agrees_by_numbers : (m : ℕ → ℕ) → ((k : ℕ) → k < length terms → m k < length terms) → ((k : ℕ) → k < length terms → ((n : ℕ) → ¬ (term_at terms k ≡ Blank n)) → m k ≡ k)
      → Agrees terms (by_numbers m) m
  agrees_by_numbers m within other = record { within = within; same = λ k l. said m k (term_at terms k) l (within k l) (λ n e. refl) (λ none. other k l none) refl }

  pub kept_by_numbers : (m : ℕ → ℕ) (n : ℕ) → ((k : ℕ) → length terms ≤ k → m k ≡ k) → ((k : ℕ) → term_at terms k ≡ Blank n → k < length terms → m k ≡ k) → by_numbers m n ≡ Blank n
  unfolding by_numbers
  kept_by_numbers m n past other =
      elim (at_or_past terms n) [
        | inl p ↦ ap (λ w. get_or terms w (Blank n)) (other (number_of_node terms n) p.1 p.0) ∙ get_or_default terms (number_of_node terms n) (Blank n) (Blank 0) p.0
            ∙ p.1
        | inr p ↦ ap (λ w. get_or terms w (Blank n)) (past (number_of_node terms n) p) ∙ get_or_past terms (number_of_node terms n) (Blank n) p
      ]

  -- ---- a triple and its image, by either

  module _ (μ : ℕ → Term) (m : ℕ → ℕ) (agrees : Agrees terms μ m) where
    pub statement_carried : (q : Quad) → IsInRange terms q → statement terms (carried m q) ≡ mapped_triple μ (statement terms q)
    statement_carried q r =
        let s : term_at terms (m q.s) ≡ mapped μ (term_at terms q.s) = agrees.same q.s r.s in
        let o : term_at terms (m q.o) ≡ mapped μ (term_at terms q.o) = agrees.same q.o r.o in
        λ i. record { subject = s i; predicate = term_at terms q.p; object = o i; graph_name = graph_name_at terms q.g }

    pub in_range_carried : (q : Quad) → IsInRange terms q → IsInRange terms (carried m q)
    in_range_carried q r = record { s = agrees.within q.s r.s; p = r.p; o = agrees.within q.o r.o; g = r.g }

    pub reaches : (H : List Quad) → ((q : Quad) → In q H → IsInRange terms q) → (q : Quad) → In q H → IsReachedBy m H q ↔ IsReached μ (map (statement terms) H) (statement terms q)
    reaches H range q there = (to, from)
      where
        to : IsReachedBy m H q → IsReached μ (map (statement terms) H) (statement terms q)
        to r =
            let p = from_In-map (carried m) H q r in
            let e : statement terms q ≡ mapped_triple μ (statement terms p.0) = ap (statement terms) p.2 ∙ statement_carried p.0 (range p.0 p.1) in
            subst (IsReached μ (map (statement terms) H)) (sym e) (In-map (mapped_triple μ) (map (statement terms) H) (statement terms p.0) (In-map (statement terms) H p.0 p.1))

        from : IsReached μ (map (statement terms) H) (statement terms q) → IsReachedBy m H q
        from r =
            let p = from_In-map (mapped_triple μ) (map (statement terms) H) (statement terms q) r in
            let x = from_In-map (statement terms) H p.0 p.1 in
            let e : statement terms q ≡ statement terms (carried m x.0) = p.2 ∙ ap (mapped_triple μ) x.2 ∙ sym (statement_carried x.0 (range x.0 x.1)) in
            let same : q ≡ carried m x.0 = statement_injective terms terms_once q (carried m x.0) (range q there) (in_range_carried x.0 (range x.0 x.1)) e in
            subst (IsReachedBy m H) (sym same) (In-map (carried m) H x.0 x.1)

    pub carried_there : (H : List Quad) → ((q : Quad) → In q H → IsInRange terms q) → (q : Quad) → In q H → In (carried m q) H ↔ In (mapped_triple μ (statement terms q)) (map (statement terms) H)
    carried_there H range q there = (to, from)
      where
        to : In (carried m q) H → In (mapped_triple μ (statement terms q)) (map (statement terms) H)
        to i = subst (λ x. In x (map (statement terms) H)) (statement_carried q (range q there)) (In-map (statement terms) H (carried m q) i)

        from : In (mapped_triple μ (statement terms q)) (map (statement terms) H) → In (carried m q) H
        from i =
            let x = from_In-map (statement terms) H (mapped_triple μ (statement terms q)) i in
            let same : carried m q ≡ x.0 = statement_injective terms terms_once (carried m q) x.0 (in_range_carried q (range q there)) (range x.0 x.1) (statement_carried q (range q there) ∙ x.2) in
            subst (λ w. In w H) (sym same) x.1

  -- ---- nodes and their numbers

  pub node_of : (xs ws : List ℕ) → map (term_at terms) xs ≡ map Blank ws → (k : ℕ) → In k xs → (n : ℕ) × In n ws × (term_at terms k ≡ Blank n)
  node_of xs ws e k i = from_In-map Blank ws (term_at terms k) (subst (λ l. In (term_at terms k) l) e (In-map (term_at terms) xs k i))

  pub number_of : (xs ws : List ℕ) → map (term_at terms) xs ≡ map Blank ws → (n : ℕ) → In n ws → (k : ℕ) × In k xs × (Blank n ≡ term_at terms k)
  number_of xs ws e n i = from_In-map (term_at terms) xs (Blank n) (subst (λ l. In (Blank n) l) (sym e) (In-map Blank ws n i))

-- ---- the first images of a map

map_of-cases : (nodes images : List ℕ) (n : ℕ) → In (map_of nodes images n) images ⊎ (map_of nodes images n ≡ n)
map_of-cases [] images n = inr refl
map_of-cases (x ∷ xs) [] n = inr refl
map_of-cases (x ∷ xs) (t ∷ ts) n = by (x == n) (map_of-cases xs ts n)
  where
    by : (b : Bool) → In (map_of xs ts n) ts ⊎ (map_of xs ts n ≡ n) → In (if b then t else map_of xs ts n) (t ∷ ts) ⊎ ((if b then t else map_of xs ts n) ≡ n)
    by true r = inl (inl refl)
    by false (inl i) = inl (inr i)
    by false (inr e) = inr e

map_of-front : (nodes images : List ℕ) (n : ℕ) → map_of (take (length images) nodes) images n ≡ map_of nodes images n
map_of-front [] [] n = refl
map_of-front [] (t ∷ ts) n = refl
map_of-front (x ∷ xs) [] n = refl
map_of-front (x ∷ xs) (t ∷ ts) n = ap (λ w. if x == n then t else w) (map_of-front xs ts n)

images_are_front : (nodes images : List ℕ) → AreDistinct nodes → length images ≤ length nodes → images ≡ map (map_of nodes images) (take (length images) nodes)
images_are_front nodes images once front =
    sym (map_of-same (take (length images) nodes) images (AreDistinct-take (length images) nodes once) (sym (length-take-le (length images) nodes front)))
    ∙ map-agree (map_of (take (length images) nodes) images) (map_of nodes images) (take (length images) nodes) (λ k i. map_of-front nodes images k)

same_numbers : (terms : List Term) → AreDistinct terms → (xs ys : List ℕ) → ((k : ℕ) → In k xs → k < length terms) → ((k : ℕ) → In k ys → k < length terms)
    → map (term_at terms) xs ≡ map (term_at terms) ys → xs ≡ ys
same_numbers terms once [] [] a b e = refl
same_numbers terms once [] (y ∷ ys) a b e = cc
same_numbers terms once (x ∷ xs) [] a b e = cc
same_numbers terms once (x ∷ xs) (y ∷ ys) a b e =
    let h : term_at terms x ≡ term_at terms y = cc in
    let t : map (term_at terms) xs ≡ map (term_at terms) ys = cc in
    let s : x ≡ y = number_is terms once x y (a x (inl refl)) (b y (inl refl)) h in
    let r : xs ≡ ys = same_numbers terms once xs ys (λ k i. a k (inr i)) (λ k i. b k (inr i)) t in
    cc

-- what differs when it is mapped differs
AreDistinct-unmapped : {A B : Type 0} (f : A → B) (xs : List A) → AreDistinct (map f xs) → AreDistinct xs
AreDistinct-unmapped f [] d = tt
AreDistinct-unmapped f (x ∷ xs) d = (λ i. d.0 (In-map f xs x i), AreDistinct-unmapped f xs d.1)

-- ---- maps of the nodes of a walk

module _ (terms : List Term) (H : List Quad) (nodes walk : List ℕ) (are : AreNumbers terms H nodes walk) where
  abbrev triples : List Statement
  triples = map (statement terms) H

  end_within : (k : ℕ) → IsInTriple H k → k < length terms
  end_within k t = elim t.end [ inl e ↦ subst (λ w. w < length terms) (sym e) (are.in_range t.triple t.there).s | inr e ↦ subst (λ w. w < length terms) (sym e) (are.in_range t.triple t.there).o ]

  pub node_within : (k : ℕ) → In k nodes → k < length terms
  node_within k i = end_within k (are.used k i)

  same_node : (k x n : ℕ) → In k nodes → x < length terms → Blank n ≡ term_at terms k → term_at terms x ≡ Blank n → In x nodes
  same_node k x n i l e f = subst (λ w. In w nodes) (number_is terms are.terms_once k x (node_within k i) l (sym e ∙ sym f)) i

  by_node : (x n : ℕ) → x < length terms → term_at terms x ≡ Blank n → In n walk → In x nodes
  by_node x n l f i = (let p = number_of terms are.terms_once nodes walk are.nodes_are n i in same_node p.0 x n p.1 l p.2 f)

  -- a node of the walk by its number
  to_walk : (k n : ℕ) → In k nodes → term_at terms k ≡ Blank n → In n walk
  to_walk k n i e = (let p = node_of terms are.terms_once nodes walk are.nodes_are k i in let s : n ≡ p.0 = cc (p.2, e) in subst (λ w. In w walk) (sym s) p.1)

  pub touches_walk : (q : Quad) → In q H → TouchesOneOf nodes q → Touches walk (statement terms q)
  touches_walk q there t =
      let p = node_of terms are.terms_once nodes walk are.nodes_are t.node t.there in
      record {
        node = p.0;
        there = p.1;
        mentioned = elim t.end [
          | inl e ↦ by_subject (statement terms q) p.0
              (blank-is_node p.0 (term_at terms q.s) (ap (term_at terms) (sym e) ∙ p.2))
          | inr e ↦ by_object (statement terms q) p.0
              (blank-is_node p.0 (term_at terms q.o) (ap (term_at terms) (sym e) ∙ p.2))
        ];
      }

  -- a node that a triple mentions is one of its ends
  pub mentioned_end : (q : Quad) → In q H → (n : ℕ) → mentions n (statement terms q) ≡ true → (term_at terms q.s ≡ Blank n) ⊎ (term_at terms q.o ≡ Blank n)
  mentioned_end q there n m =
      elim (or_cases (is_node n (term_at terms q.s)) _ m) [
        | inl s ↦ inl
            (is_node-blank n (term_at terms q.s) s)
        | inr r ↦ elim (or_cases (is_node n (term_at terms q.o)) (is_named_by n (graph_name_at terms q.g)) r) [
          | inl o ↦ inr
              (is_node-blank n (term_at terms q.o) o)
          | inr g ↦ absurd (true≢false (sym g ∙ ap (λ w. is_named_by n (graph_name_at terms w)) (are.unnamed q there)))
        ]
      ]

  pub touches_nodes : (q : Quad) → In q H → Touches walk (statement terms q) → TouchesOneOf nodes q
  touches_nodes q there t =
      elim (mentioned_end q there t.node t.mentioned) [
        | inl e ↦ record {
          node = q.s;
          there = by_node q.s t.node
              (are.in_range q there).s e t.there;
          end = inl refl;
        }
        | inr e ↦ record { node = q.o; there = by_node q.o t.node (are.in_range q there).o e t.there; end = inr refl }
      ]

  -- ---- from numbers to terms

  module _ (m : ℕ → ℕ) (is_map : IsNodeMap H H nodes m) where
    within : (k : ℕ) → k < length terms → m k < length terms
    within k l = elim (decide_in k nodes) [ inl i ↦ image_within (are.used k i) i | inr n ↦ subst (λ w. w < length terms) (sym (is_map.kept k n)) l ]
      where
        image_within : IsInTriple H k → In k nodes → m k < length terms
        image_within t i =
            let r : IsInRange terms (carried m t.triple) = are.in_range (carried m t.triple) (is_map.carries t.triple t.there (record { node = k; there = i; end = t.end })) in
            elim t.end [ inl e ↦ subst (λ w. m w < length terms) (sym e) r.s | inr e ↦ subst (λ w. m w < length terms) (sym e) r.o ]

    not_node : (k : ℕ) → ((n : ℕ) → ¬ (term_at terms k ≡ Blank n)) → ¬ (In k nodes)
    not_node k none i = (let p = node_of terms are.terms_once nodes walk are.nodes_are k i in none p.0 p.2)

    pub agrees : Agrees terms (by_numbers terms are.terms_once m) m
    agrees = agrees_by_numbers terms are.terms_once m within (λ k l none. is_map.kept k (not_node k none))

    pub is_map_of : IsMapOf triples walk (by_numbers terms are.terms_once m)
    is_map_of = record {
      endomorphism = λ st there. (let p = from_In-map (statement terms) H st there in subst (λ w. In (mapped_triple (by_numbers terms are.terms_once m) w) triples) (sym p.2)
          ((carried_there terms are.terms_once (by_numbers terms are.terms_once m) m agrees H are.in_range p.0 p.1).0 (into_graph H nodes m is_map p.0 p.1)));
      kept = λ n out. kept_by_numbers terms are.terms_once m n (λ k l. is_map.kept k (λ i. (let w = node_within k i in omega arith))) (λ k e l. is_map.kept k (λ i. out (to_walk k n i e)));
    }

    pub said_by : IsSaidBy terms H walk m
    said_by = record { μ = by_numbers terms are.terms_once m; is_map = is_map_of; agrees = agrees }

  -- ---- from terms to numbers

  module _ (μ : ℕ → Term) (is_map : IsMapOf triples walk μ) where
    image_there : (k : ℕ) → In k nodes → In (mapped μ (term_at terms k)) terms
    image_there k i =
        let t : IsInTriple H k = are.used k i in
        let p = from_In-map (statement terms) H (mapped_triple μ (statement terms t.triple)) (is_map.endomorphism (statement terms t.triple) (In-map (statement terms) H t.triple t.there)) in
        elim t.end [
          | inl e ↦ here p.0.s (are.in_range p.0 p.1).s (ap (λ w. mapped μ (term_at terms w)) e ∙ ap (λ (st : Statement). st.subject) p.2)
          | inr e ↦ here p.0.o (are.in_range p.0 p.1).o
              (ap (λ w. mapped μ (term_at terms w)) e ∙ ap (λ (st : Statement). st.object) p.2)
        ]
      where
        here : (x : ℕ) → x < length terms → mapped μ (term_at terms k) ≡ term_at terms x → In (mapped μ (term_at terms k)) terms
        here x l e = In-at terms x (mapped μ (term_at terms k)) (slice_get-get_or terms x (Blank 0) l ∙ ap Some (sym e))

    chosen : (k : ℕ) → In k nodes ⊎ (¬ (In k nodes)) → ℕ
    chosen k (inl i) = (place_in terms (mapped μ (term_at terms k)) (image_there k i)).0
    chosen k (inr n) = k

    pub numbers : ℕ → ℕ
    numbers k = chosen k (decide_in k nodes)

    chosen_says : (k : ℕ) → k < length terms → (d : In k nodes ⊎ (¬ (In k nodes))) → (chosen k d < length terms) × (term_at terms (chosen k d) ≡ mapped μ (term_at terms k))
    unfolding chosen
    chosen_says k l (inl i) =
        let p = place_in terms (mapped μ (term_at terms k)) (image_there k i) in
        (slice_get_within terms p.0 (mapped μ (term_at terms k)) p.1, get_or_from_slice_get terms p.0 (mapped μ (term_at terms k)) (Blank 0) p.1)
    chosen_says k l (inr n) = (l, by (term_at terms k) refl)
      where
        by : (t : Term) → term_at terms k ≡ t → term_at terms k ≡ mapped μ t
        by (Iri t) e = e
        by (Literal t) e = e
        by (Blank b) e = e ∙ sym (is_map.kept b (λ i. n (by_node k b l e i)))

    pub numbers_agree : Agrees terms μ numbers
    unfolding numbers
    numbers_agree = record { within = λ k l. (chosen_says k l (decide_in k nodes)).0; same = λ k l. (chosen_says k l (decide_in k nodes)).1 }

    pub is_node_map : IsNodeMap H H nodes numbers
    unfolding numbers chosen
    is_node_map = record {
      kept = λ k n. kept k n (decide_in k nodes);
      carries = λ q there t. (carried_there terms are.terms_once μ numbers numbers_agree H are.in_range q there).1
          (is_map.endomorphism (statement terms q) (In-map (statement terms) H q there));
    }
      where
        kept : (k : ℕ) → (¬ (In k nodes)) → (d : In k nodes ⊎ (¬ (In k nodes))) → chosen k d ≡ k
        kept k n (inl i) = absurd (n i)
        kept k n (inr m) = refl

  pub tight : ((m : ℕ → ℕ) → IsNodeMap H H nodes m → ReachesAll H nodes m) → IsTight triples walk
  tight all μ is_map st t =
      let p = from_In-map (statement terms) H st t.0 in
      let u : TouchesOneOf nodes p.0 = touches_nodes p.0 p.1 (subst (Touches walk) p.2 t.1) in
      let r : IsReachedBy (numbers μ is_map) H p.0 = all (numbers μ is_map) (is_node_map μ is_map) p.0 p.1 u in
      subst (IsReached μ triples) (sym p.2) ((reaches terms are.terms_once μ (numbers μ is_map) (numbers_agree μ is_map) H are.in_range p.0 p.1).0 r)

  -- ---- maps of the first nodes

  module _ (images : List ℕ) (partial : IsPartialNodeMap H H nodes images) where
    image_within : (k : ℕ) → In k images → k < length terms
    image_within k i = (let e : IsEndIn H k = each-from_All (IsEndIn H) images k partial.ends i in end_within k (record { triple = e.triple; there = e.there; end = e.end }))

    first_within : (k : ℕ) → k < length terms → map_of nodes images k < length terms
    first_within k l = elim (map_of-cases nodes images k) [ inl i ↦ image_within (map_of nodes images k) i | inr e ↦ subst (λ w. w < length terms) (sym e) l ]

    abbrev first_map : ℕ → Term
    first_map = by_numbers terms are.terms_once (map_of nodes images)

    first_agrees : Agrees terms first_map (map_of nodes images)
    first_agrees = agrees_by_numbers terms are.terms_once (map_of nodes images) first_within
        (λ k l none. map_of-kept nodes images k (λ i. (let p = node_of terms are.terms_once nodes walk are.nodes_are k i in none p.0 p.2)))

    front_are : (n : ℕ) → map (term_at terms) (take n nodes) ≡ map Blank (take n walk)
    front_are n = sym (take-map (term_at terms) n nodes) ∙ ap (take n) are.nodes_are ∙ take-map Blank n walk

    images_are : map (term_at terms) images ≡ map first_map (take (length images) walk)
    images_are = ap (map (term_at terms)) (images_are_front nodes images are.once partial.within)
        ∙ map-map (term_at terms) (map_of nodes images) (take (length images) nodes)
        ∙ map-agree (λ k. term_at terms (map_of nodes images k)) (λ k. mapped first_map (term_at terms k)) (take (length images) nodes)
        (λ k i. first_agrees.same k (node_within k (In-take (length images) nodes k i)))
        ∙ sym (map-map (mapped first_map) (term_at terms) (take (length images) nodes))
        ∙ ap (map (mapped first_map)) (front_are (length images))
        ∙ map-map (mapped first_map) Blank (take (length images) walk)

    ends_among : (q : Quad) → In q H → MentionsOnly (take (length images) walk) (statement terms q) → EndsAmong nodes (length images) q
    ends_among q there only x e i =
        let p = node_of terms are.terms_once nodes walk are.nodes_are x i in
        let m : mentions p.0 (statement terms q)
        ≡ true = elim e [
          | inl s ↦ by_subject (statement terms q) p.0 (blank-is_node p.0 (term_at terms q.s) (ap (term_at terms) (sym s) ∙ p.2))
          | inr o ↦ by_object (statement terms q) p.0
              (blank-is_node p.0 (term_at terms q.o) (ap (term_at terms) (sym o) ∙ p.2))
        ] in
        let k = number_of terms are.terms_once (take (length images) nodes) (take (length images) walk) (front_are (length images)) p.0 (only p.0 m) in
        subst (λ w. In w (take (length images) nodes)) (number_is terms are.terms_once k.0 x (node_within k.0 (In-take (length images) nodes k.0 k.1)) (node_within x i) (sym k.2 ∙ sym p.2)) k.1

    same_count : length (map (term_at terms) images) ≡ length images
    same_count = length-map images (term_at terms)

    pub partial_by_terms : IsPartialMap triples triples walk (map (term_at terms) images)
    partial_by_terms = record {
      within = (let a = same_count in let b = partial.within in let c : length nodes ≡ length walk = sym (length-map nodes (term_at terms)) ∙ ap length are.nodes_are
          ∙ length-map walk Blank in omega arith);
      ends = All-from_each (IsEnd triples) (map (term_at terms) images)
          (λ t i. (let p = from_In-map (term_at terms) images t i in end_of t p.0 p.2 (each-from_All (IsEndIn H) images p.0 partial.ends p.1)));
      μ = first_map;
      images_are = images_are ∙ ap (λ n. map first_map (take n walk)) (sym same_count);
      carried = λ st t only. (let p = from_In-map (statement terms) H st t.0 in subst (λ w. In (mapped_triple first_map w) triples) (sym p.2)
          ((carried_there terms are.terms_once first_map (map_of nodes images) first_agrees H are.in_range p.0 p.1).0
          (partial.carries p.0 p.1 (touches_nodes p.0 p.1 (subst (Touches walk) p.2 t.1))
          (ends_among p.0 p.1 (subst (λ w. MentionsOnly (take (length images) walk) w) p.2 (subst (λ n. MentionsOnly (take n walk) st) same_count only))))));
    }
      where
        end_of : (t : Term) (k : ℕ) → t ≡ term_at terms k → IsEndIn H k → IsEnd triples t
        end_of t k e x =
            record {
              triple = statement terms x.triple;
              there = In-map
                  (statement terms) H x.triple x.there;
              end = elim x.end [ inl s ↦ inl (e ∙ ap (term_at terms) s) | inr o ↦ inr (e ∙ ap (term_at terms) o) ];
            }

  pub more_maps : (limit : ℕ) → HasMoreNodeMaps H H nodes limit → HasMoreMaps triples triples walk limit
  more_maps limit more = record {
    maps = map (map (term_at terms)) more.maps;
    distinct = AreDistinct-map (map (term_at terms)) more.maps (λ a b i j e. same_numbers terms are.terms_once a b (image_within a (each a i)) (image_within b (each b j)) e) more.distinct;
    are_maps = All-from_each (IsPartialMap triples triples walk) (map (map (term_at terms)) more.maps)
        (λ x i. (let p = from_In-map (map (term_at terms)) more.maps x i in subst (IsPartialMap triples triples walk) (sym p.2) (partial_by_terms p.0 (each p.0 p.1))));
    more = (let a = length-map more.maps (map (term_at terms)) in let b = more.more in omega arith);
  }
    where
      each : (a : List ℕ) → In a more.maps → IsPartialNodeMap H H nodes a
      each a i = each-from_All (IsPartialNodeMap H H nodes) more.maps a more.are_maps i

  -- ---- beginnings of maps of all nodes

  -- the numbers of a list of terms are a beginning by numbers
  record IsBegunBy (terms_of : List Term) : Type 0 where
    begun : List ℕ
    is_beginning : IsNodeBeginning H nodes begun
    terms_are : map (term_at terms) begun ≡ terms_of

  begun_by : (images : List Term) → IsBeginning triples walk images → IsBegunBy images
  begun_by images b =
      let m = numbers b.μ b.is_map in
      let n = length images in
      let k : length nodes ≡ length walk = sym (length-map nodes (term_at terms)) ∙ ap length are.nodes_are ∙ length-map walk Blank in
      let w : n ≤ length walk = b.within in
      let c : length (map m (take n nodes)) ≡ n = length-map (take n nodes) m ∙ length-take-le n nodes (omega arith) in
      let e : map (term_at terms) (map m (take n nodes)) ≡ map b.μ (take n walk) =
      map-map (term_at terms) m (take n nodes)
      ∙ map-agree (λ x. term_at terms (m x)) (λ x. mapped b.μ (term_at terms x)) (take n nodes) (λ x i. (numbers_agree b.μ b.is_map).same x (node_within x (In-take n nodes x i)))
      ∙ sym (map-map (mapped b.μ) (term_at terms) (take n nodes))
      ∙ ap (map (mapped b.μ)) (sym (take-map (term_at terms) n nodes) ∙ ap (take n) are.nodes_are ∙ take-map Blank n walk)
      ∙ map-map (mapped b.μ) Blank (take n walk) in
      record {
        begun = map m (take n nodes);
        is_beginning = record { within = omega arith; m = m; is_map = is_node_map b.μ b.is_map; images_are = ap (λ j. map m (take j nodes)) (sym c) };
        terms_are = e ∙ sym b.images_are;
      }

  -- each of some lists by its numbers
  record AreBegunBy (all : List (List Term)) : Type 0 where
    lists : List (List ℕ)
    are_beginnings : All (IsNodeBeginning H nodes) lists
    terms_are : map (map (term_at terms)) lists ≡ all

  all_begun : (all : List (List Term)) → ((images : List Term) → In images all → IsBeginning triples walk images) → AreBegunBy all
  all_begun [] each = record { lists = []; are_beginnings = All-from_each (IsNodeBeginning H nodes) [] (λ x i. absurd i); terms_are = refl }
  all_begun (x ∷ xs) each =
      let b = begun_by x (each x (inl refl)) in
      let r = all_begun xs (λ y i. each y (inr i)) in
      record {
        lists = b.begun ∷ r.lists;
        are_beginnings =
            All-from_each (IsNodeBeginning H nodes) (b.begun ∷ r.lists) (λ y. elim [
              | inl e ↦ subst (IsNodeBeginning H nodes) (sym e) b.is_beginning
              | inr i ↦ each-from_All (IsNodeBeginning H nodes) r.lists y r.are_beginnings i
            ]);
        terms_are = λ i. b.terms_are i ∷ r.terms_are i;
      }

  more_beginnings : (limit : ℕ) → HasMoreBeginnings triples walk limit → HasMoreNodeBeginnings H nodes limit
  more_beginnings limit more =
      let r = all_begun more.beginnings (λ x i. each-from_All (IsBeginning triples walk) more.beginnings x more.are_beginnings i) in
      record {
        beginnings = r.lists;
        distinct = AreDistinct-unmapped (map (term_at terms)) r.lists (subst AreDistinct (sym r.terms_are) more.distinct);
        are_beginnings = r.are_beginnings;
        more = (let c : length r.lists ≡ length more.beginnings = sym (length-map r.lists (map (term_at terms))) ∙ ap length r.terms_are in let l = more.more in omega arith);
      }

pub endings_mean_by_terms : (terms : List Term) (H : List Quad) (nodes walk : List ℕ) (limit : ℕ) (ending : Ending) → AreNumbers terms H nodes walk → MeansOfEnding H nodes limit ending
    → MeansByTerms terms H nodes walk limit ending
endings_mean_by_terms terms H nodes walk limit (Found images) are m = (said_by terms H nodes walk are (map_of nodes images.items) m.0, m.1)
endings_mean_by_terms terms H nodes walk limit Nothing are m = (tight terms H nodes walk are m.0, λ more. m.1 (more_beginnings terms H nodes walk are limit more))
endings_mean_by_terms terms H nodes walk limit PastLimit are m = more_maps terms H nodes walk are limit m

pub agreeing_maps_reach : (terms : List Term) (H : List Quad) (nodes walk : List ℕ) (μ : ℕ → Term) (m : ℕ → ℕ) → AreNumbers terms H nodes walk → Agrees terms μ m → (q : Quad) → In q H
    → IsReachedBy m H q ↔ IsReached μ (map (statement terms) H) (statement terms q)
agreeing_maps_reach terms H nodes walk μ m are agrees = reaches terms are.terms_once μ m agrees H are.in_range
