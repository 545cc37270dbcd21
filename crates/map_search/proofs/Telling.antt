-- A map of a component into its graph that has each node as an image reaches each triple.
use Rattle.std.proofs.Common.{◌≡◌, ℕ, ◌≤◌, ◌⊎◌, ◌==◌, true, false, not, List, [], ◌∷◌, length, map, refl, sym, ap, ◌∙◌, subst, inl, inr, arith, true≢false}
use Rattle.std.specs.List.{list_all, list_any}
use Rattle.std.proofs.lemmas.Bool.{eqb-true}
use Rattle.std.proofs.lemmas.List.{length-map}
use Rattle.rdf_terms.proofs.Common.{In, AreDistinct, In-map, from_In-map, AreDistinct-map, decide_in}
use Rattle.std.proofs.lemmas.Bool.{and_parts, not-false}
use Rattle.std.specs.Cmp.Derive.{both_true}
use Rattle.rdf_terms.specs.declared.term.Quad.{Quad}
use Rattle.map_search.specs.Pattern.{carried, IsNodeMap, Misses, ReachesAll, TellsMisses, misses_node}
use Rattle.map_search.specs.Laws.{IsInTriple}
use Rattle.graph_model.proofs.Counting.{without, length-without}
use Rattle.graph_model.proofs.Maps.{eqb-itself}
use Rattle.map_search.proofs.Indexing.{some_passes, passes_some}

-- ---- lists that are no longer than a part of theirs

module _ {A : Type 0} where
  in_without : (x z : A) (ys : List A) (h : In x ys) → In z ys → (z ≡ x) ⊎ In z (without x ys h)
  unfolding without
  in_without x z [] h i = absurd h
  in_without x z (y ∷ ys) (inl e) (inl f) = inl (f ∙ sym e)
  in_without x z (y ∷ ys) (inl e) (inr i) = inr i
  in_without x z (y ∷ ys) (inr h) (inl f) = inr (inl f)
  in_without x z (y ∷ ys) (inr h) (inr i) = elim (in_without x z ys h i) [ inl e ↦ inl e | inr j ↦ inr (inr j) ]

  from_without : (x z : A) (ys : List A) (h : In x ys) → In z (without x ys h) → In z ys
  unfolding without
  from_without x z [] h i = absurd h
  from_without x z (y ∷ ys) (inl e) i = inr i
  from_without x z (y ∷ ys) (inr h) (inl f) = inl f
  from_without x z (y ∷ ys) (inr h) (inr i) = inr (from_without x z ys h i)

  distinct-without : (x : A) (ys : List A) (h : In x ys) → AreDistinct (without x ys h) → (¬ (In x (without x ys h))) → AreDistinct ys
  unfolding without
  distinct-without x [] h d n = absurd h
  distinct-without x (y ∷ ys) (inl e) d n = (λ i. n (subst (λ z. In z ys) (sym e) i), d)
  distinct-without x (y ∷ ys) (inr h) d n = (λ i. elim (in_without x y ys h i) [ inl e ↦ n (inl (sym e)) | inr j ↦ d.0 j ], distinct-without x ys h d.1 (λ i. n (inr i)))

  rest_within : (x : A) (xs ys : List A) (d : AreDistinct (x ∷ xs)) (h : (z : A) → In z (x ∷ xs) → In z ys) → (z : A) → In z xs → In z (without x ys (h x (inl refl)))
  rest_within x xs ys d h z i = elim (in_without x z ys (h x (inl refl)) (h z (inr i))) [ inl e ↦ absurd (d.0 (subst (λ w. In w xs) e i)) | inr j ↦ j ]

  all_within : (xs ys : List A) → AreDistinct xs → ((z : A) → In z xs → In z ys) → length ys ≤ length xs → (y : A) → In y ys → In y xs
  all_within [] [] d h l y i = i
  all_within [] (z ∷ ys) d h l y i = absurd (omega arith)
  all_within (x ∷ xs) ys d h l y i =
      let there : In x ys = h x (inl refl) in
      let k = length-without x ys there in
      elim (in_without x y ys there i) [ inl e ↦ inl e | inr j ↦ inr (all_within xs (without x ys there) d.1 (rest_within x xs ys d h) (omega arith) y j) ]

  all_distinct : (xs ys : List A) → AreDistinct xs → ((z : A) → In z xs → In z ys) → length ys ≤ length xs → AreDistinct ys
  all_distinct [] [] d h l = tt
  all_distinct [] (z ∷ ys) d h l = absurd (omega arith)
  all_distinct (x ∷ xs) ys d h l =
      let there : In x ys = h x (inl refl) in
      let k = length-without x ys there in
      let rest : length (without x ys there) ≤ length xs = omega arith in
      distinct-without x ys there (all_distinct xs (without x ys there) d.1 (rest_within x xs ys d h) rest) (λ i. d.0 (all_within xs (without x ys there) d.1 (rest_within x xs ys d h) rest x i))

injective_on : (m : ℕ → ℕ) (xs : List ℕ) → AreDistinct (map m xs) → (a b : ℕ) → In a xs → In b xs → m a ≡ m b → a ≡ b
injective_on m [] d a b i j e = absurd i
injective_on m (x ∷ xs) d a b (inl f) (inl g) e = f ∙ sym g
injective_on m (x ∷ xs) d a b (inl f) (inr j) e = absurd (d.0 (subst (λ z. In z (map m xs)) (sym e ∙ ap m f) (In-map m xs b j)))
injective_on m (x ∷ xs) d a b (inr i) (inl g) e = absurd (d.0 (subst (λ z. In z (map m xs)) (e ∙ ap m g) (In-map m xs a i)))
injective_on m (x ∷ xs) d a b (inr i) (inr j) e = injective_on m xs d.1 a b i j e

-- ---- tests of membership

pub is_in-true : (x : ℕ) (xs : List ℕ) → list_any (λ i. i == x) xs ≡ true → In x xs
is_in-true x xs h = (let p = some_passes (λ i. i == x) xs h in subst (λ z. In z xs) (eqb-true p.0 x p.2) p.1)

pub is_in-from : (x : ℕ) (xs : List ℕ) → In x xs → list_any (λ i. i == x) xs ≡ true
is_in-from x xs i = passes_some (λ i. i == x) xs x i (eqb-itself x)

-- some node is no image, or each is one
found_missing : (images nodes : List ℕ) → ((x : ℕ) × In x nodes × (¬ (In x images))) ⊎ ((x : ℕ) → In x nodes → In x images)
found_missing images [] = inr (λ x i. absurd i)
found_missing images (y ∷ ys) = by (decide_in y images) (found_missing images ys)
  where
    by : In y images ⊎ (¬ (In y images)) → ((x : ℕ) × In x ys × (¬ (In x images))) ⊎ ((x : ℕ) → In x ys → In x images)
        → ((x : ℕ) × In x (y ∷ ys) × (¬ (In x images))) ⊎ ((x : ℕ) → In x (y ∷ ys) → In x images)
    by (inr n) r = inl (y, inl refl, n)
    by (inl i) (inl p) = inl (p.0, inr p.1, p.2)
    by (inl i) (inr a) = inr (λ x h. elim h [ inl e ↦ subst (λ z. In z images) (sym e) i | inr j ↦ a x j ])

pub all_images : (images nodes : List ℕ) → ((x : ℕ) → In x nodes → In x images) → list_all (λ x. list_any (λ i. i == x) images) nodes ≡ true
all_images images [] h = refl
all_images images (y ∷ ys) h = both_true (is_in-from y images (h y (inl refl))) (all_images images ys (λ x i. h x (inr i)))

pub each_image : (images nodes : List ℕ) → list_all (λ x. list_any (λ i. i == x) images) nodes ≡ true → (x : ℕ) → In x nodes → In x images
each_image images [] h x i = absurd i
each_image images (y ∷ ys) h x (inl e) = subst (λ z. In z images) (sym e) (is_in-true y images (and_parts (list_any (λ i. i == y) images) (list_all (λ x. list_any (λ i. i == x) images) ys) h).0)
each_image images (y ∷ ys) h x (inr i) = each_image images ys (and_parts (list_any (λ i. i == y) images) (list_all (λ x. list_any (λ i. i == x) images) ys) h).1 x i

module _ (H : List Quad) (nodes : List ℕ) (m : ℕ → ℕ) (is_map : IsNodeMap H H nodes m) where
  -- a node that is an image of something is the image of a node
  from_node : (x y : ℕ) → In x nodes → x ≡ m y → In x (map m nodes)
  from_node x y i e = elim (decide_in y nodes) [ inl j ↦ subst (λ z. In z (map m nodes)) (sym e) (In-map m nodes y j) | inr n ↦ absurd (n (subst (λ z. In z nodes) (e ∙ is_map.kept y n) i)) ]

  pub misses_by_node : (x : ℕ) → In x nodes → (¬ (In x (map m nodes))) → IsInTriple H x → Misses H nodes m
  misses_by_node x i n t = record { triple = t.triple; there = t.there; touches = record { node = x; there = i; end = t.end }; missed = λ r. unreached (from_In-map (carried m) H t.triple r) }
    where
      unreached : ((q : Quad) × In q H × (t.triple ≡ carried m q)) → ⊥
      unreached p = elim t.end [ inl e ↦ n (from_node x p.0.s i (e ∙ ap (λ q. q.s) p.2)) | inr e ↦ n (from_node x p.0.o i (e ∙ ap (λ q. q.o) p.2)) ]

  -- all triples are carried into the graph: those that touch no node are kept
  pub into_graph : (q : Quad) → In q H → In (carried m q) H
  into_graph q there = by (decide_in q.s nodes) (decide_in q.o nodes)
    where
      by : In q.s nodes ⊎ (¬ (In q.s nodes)) → In q.o nodes ⊎ (¬ (In q.o nodes)) → In (carried m q) H
      by (inl i) d = is_map.carries q there (record { node = q.s; there = i; end = inl refl })
      by (inr n) (inl i) = is_map.carries q there (record { node = q.o; there = i; end = inr refl })
      by (inr n) (inr k) =
          let s : m q.s ≡ q.s = is_map.kept q.s n in
          let o : m q.o ≡ q.o = is_map.kept q.o k in
          let e : carried m q ≡ q = λ i. record { s = s i; p = q.p; o = o i; g = q.g } in
          subst (λ x. In x H) (sym e) there

  module _ (distinct : AreDistinct H) (once : AreDistinct nodes) (all : (x : ℕ) → In x nodes → In x (map m nodes)) where
    same_length : length (map m nodes) ≤ length nodes
    same_length = let e = length-map nodes m in omega arith

    into_nodes : (x : ℕ) → In x nodes → In (m x) nodes
    into_nodes x i = all_within nodes (map m nodes) once all same_length (m x) (In-map m nodes x i)

    injective : (a b : ℕ) → m a ≡ m b → a ≡ b
    injective a b e = by (decide_in a nodes) (decide_in b nodes)
      where
        by : In a nodes ⊎ (¬ (In a nodes)) → In b nodes ⊎ (¬ (In b nodes)) → a ≡ b
        by (inl i) (inl j) = injective_on m nodes (all_distinct nodes (map m nodes) once all same_length) a b i j e
        by (inl i) (inr n) = absurd (n (subst (λ z. In z nodes) (e ∙ is_map.kept b n) (into_nodes a i)))
        by (inr n) (inl j) = absurd (n (subst (λ z. In z nodes) (sym e ∙ is_map.kept a n) (into_nodes b j)))
        by (inr n) (inr k) = sym (is_map.kept a n) ∙ e ∙ is_map.kept b k

    injective_quads : (a b : Quad) → carried m a ≡ carried m b → a ≡ b
    injective_quads a b e =
        let s : a.s ≡ b.s = injective a.s b.s (ap (λ q. q.s) e) in
        let p : a.p ≡ b.p = ap (λ q. q.p) e in
        let o : a.o ≡ b.o = injective a.o b.o (ap (λ q. q.o) e) in
        let g : a.g ≡ b.g = ap (λ q. q.g) e in
        λ i. record { s = s i; p = p i; o = o i; g = g i }

    pub reaches_all : ReachesAll H nodes m
    reaches_all q there t =
        all_within (map (carried m) H) H
        (AreDistinct-map (carried m) H (λ a b i j e. injective_quads a b e) distinct)
        (λ z i. (let p = from_In-map (carried m) H z i in subst (λ x. In x H) (sym p.2) (into_graph p.0 p.1)))
        (let e = length-map H (carried m) in omega arith) q there

pub nodes_tell : (H : List Quad) (nodes : List ℕ) → AreDistinct H → AreDistinct nodes → ((n : ℕ) → In n nodes → IsInTriple H n) → TellsMisses H nodes (misses_node nodes)
nodes_tell H nodes distinct once used = record { misses = misses; reaches = reaches }
  where
    misses : (m : ℕ → ℕ) → IsNodeMap H H nodes m → misses_node nodes (map m nodes) ≡ true → Misses H nodes m
    misses m n e =
        elim (found_missing (map m nodes) nodes) [ inl p ↦ misses_by_node H nodes m n p.0 p.1 p.2 (used p.0 p.1) | inr a ↦ absurd (true≢false (sym e ∙ ap not (all_images (map m nodes) nodes a))) ]

    reaches : (m : ℕ → ℕ) → IsNodeMap H H nodes m → misses_node nodes (map m nodes) ≡ false → ReachesAll H nodes m
    reaches m n e = reaches_all H nodes m n distinct once (each_image (map m nodes) nodes (not-false (list_all (λ x. list_any (λ i. i == x) (map m nodes)) nodes) e))
