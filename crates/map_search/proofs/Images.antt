-- The images of a map of all places, as a map of the nodes.
use Rattle.std.proofs.Common.{◌≡◌, ℕ, zero, suc, ◌<◌, ◌≤◌, ◌⊎◌, ◌==◌, Bool, true, false, if◌then◌else◌, List, [], ◌∷◌, ◌++◌, length, take, drop, map, reverse, get_or, refl, sym, ap, ◌∙◌, subst, inl, inr, arith, eq-eqb}
use Rattle.std.specs.List.{list_all}
use Rattle.std.proofs.lemmas.Bool.{eqb-true}
use Rattle.std.proofs.lemmas.List.{get_or-take, length-map, length-take-le, reverse-append, reverse-reverse, take-append-drop, take-map}
use Rattle.std.proofs.Math.Seq.{take-suc, take-length}
use Rattle.rdf_terms.proofs.Common.{In, AreDistinct, All-from_each, each-from_All, In-get_or, place_within}
use Rattle.std.proofs.lemmas.Bool.{and_parts}
use Rattle.rdf_terms.specs.declared.term.Quad.{Quad}
use Rattle.map_search.specs.declared.rows.End.{End}
use Rattle.map_search.specs.declared.rows.End.TheVariants.{Fixed, Place}
use Rattle.map_search.specs.declared.rows.Condition.{Condition}
use Rattle.map_search.specs.declared.rows.Condition.TheVariants.{Subject, Object, Both, SomeSubject, SomeObject}
use Rattle.map_search.specs.declared.search.Ending.{Ending}
use Rattle.map_search.specs.declared.search.Ending.TheVariants.{Found, Nothing, PastLimit}
use Rattle.map_search.specs.Maps.{FitBackwards, IsMap}
use Rattle.map_search.specs.Ends.{IsEnding, IsMet, HasMore, IsNothing}
use Rattle.map_search.specs.Rows.{meets_all}
use Rattle.map_search.specs.Pattern.{carried, map_of, IsNodeMap, TouchesOneOf, end_at, Stands, Meets, IsOtherEnd, IsAsked, IsAskedWhole, IsWhole, row_at, TellsMisses, fits_rows, ReachesAll, IsEndIn, EndsAmong, IsPartialNodeMap, HasMoreNodeMaps, IsNodeBeginning, HasMoreNodeBeginnings}
use Rattle.map_search.specs.Laws.{IsSearch, MeansOfEnding}
use Rattle.map_search.proofs.Linking.{node_map_is_map}

-- ---- each image of a map fits behind those before it

module _ (bound : ℕ) (fits : List ℕ → ℕ → Bool) where
  behind : (later path : List ℕ) → FitBackwards bound fits (later ++ path) → FitBackwards bound fits path
  behind [] path f = f
  behind (t ∷ later) path f = behind later path f.0

  pub front_is_map : (images : List ℕ) (n : ℕ) → IsMap bound fits images → IsMap bound fits (take n images)
  front_is_map images n f =
      let e : reverse images ≡ reverse (drop n images) ++ reverse (take n images) = ap reverse (sym (take-append-drop n images)) ∙ reverse-append (take n images) (drop n images) in
      behind (reverse (drop n images)) (reverse (take n images)) (subst (FitBackwards bound fits) e f)

  pub each_from_is_map : (images : List ℕ) → IsMap bound fits images → (k : ℕ) → k < length images → (get_or images k 0 < bound) × (fits (take k images) (get_or images k 0) ≡ true)
  each_from_is_map images f k l =
      let whole : images ≡ take (suc k) images ++ drop (suc k) images = sym (take-append-drop (suc k) images) in
      let r : reverse images ≡ reverse (drop (suc k) images) ++ reverse (take (suc k) images) = ap reverse whole ∙ reverse-append (take (suc k) images) (drop (suc k) images) in
      let e : reverse (take (suc k) images) ≡ get_or images k 0 ∷ reverse (take k images) = ap reverse (take-suc images k 0 l) ∙ reverse-append (take k images) (get_or images k 0 ∷ []) in
      let g : FitBackwards bound fits (get_or images k 0 ∷ reverse (take k images)) = subst (FitBackwards bound fits) e
      (behind (reverse (drop (suc k) images)) (reverse (take (suc k) images)) (subst (FitBackwards bound fits) r f)) in
      (g.1, ap (λ w. fits w (get_or images k 0)) (sym (reverse-reverse (take k images))) ∙ g.2)

-- ---- the map

pub map_of-at : (nodes images : List ℕ) (k : ℕ) → AreDistinct nodes → length images ≤ length nodes → k < length images → map_of nodes images (get_or nodes k 0) ≡ get_or images k 0
map_of-at [] [] k d e l = absurd (omega arith)
map_of-at [] (t ∷ ts) k d e l = absurd (omega arith)
map_of-at (x ∷ xs) [] k d e l = absurd (omega arith)
map_of-at (x ∷ xs) (t ∷ ts) zero d e l = rw (eq-eqb x x refl) refl
map_of-at (x ∷ xs) (t ∷ ts) (suc k) d e l = by (map_of-at xs ts k d.1 (omega arith) (omega arith)) (x == get_or xs k 0) refl
  where
    by : map_of xs ts (get_or xs k 0) ≡ get_or ts k 0 → (b : Bool) → (x == get_or xs k 0) ≡ b → (if x == get_or xs k 0 then t else map_of xs ts (get_or xs k 0)) ≡ get_or ts k 0
    by ih true f = absurd (d.0 (subst (λ z. In z xs) (sym (eqb-true x (get_or xs k 0) f)) (In-get_or xs k 0 (omega arith))))
    by ih false f = rw f ih

-- a node that is among the first ones has a place below their number
place_below : (xs : List ℕ) (p n : ℕ) → AreDistinct xs → p < length xs → In (get_or xs p 0) (take n xs) → p < n
place_below [] p n d l h = absurd (omega arith)
place_below (x ∷ xs) p zero d l h = absurd h
place_below (x ∷ xs) zero (suc n) d l h = omega arith
place_below (x ∷ xs) (suc p) (suc n) d l (inl e) = absurd (d.0 (subst (λ z. In z xs) e (In-get_or xs p 0 (omega arith))))
place_below (x ∷ xs) (suc p) (suc n) d l (inr h) = let r = place_below xs p n d.1 (omega arith) h in omega arith

pub map_of-kept : (nodes images : List ℕ) (n : ℕ) → (¬ (In n nodes)) → map_of nodes images n ≡ n
map_of-kept [] images n h = refl
map_of-kept (x ∷ xs) [] n h = refl
map_of-kept (x ∷ xs) (t ∷ ts) n h = by (map_of-kept xs ts n (λ i. h (inr i))) (x == n) refl
  where
    by : map_of xs ts n ≡ n → (b : Bool) → (x == n) ≡ b → (if x == n then t else map_of xs ts n) ≡ n
    by ih true f = absurd (h (inl (sym (eqb-true x n f))))
    by ih false f = rw f ih

pub map_of-same : (nodes images : List ℕ) → AreDistinct nodes → length images ≡ length nodes → map (map_of nodes images) nodes ≡ images
map_of-same [] [] d e = refl
map_of-same [] (t ∷ ts) d e = absurd (omega arith)
map_of-same (x ∷ xs) [] d e = absurd (omega arith)
map_of-same (x ∷ xs) (t ∷ ts) d e = first (map_of-same xs ts d.1 (omega arith))
  where
    later : (ys : List ℕ) → (¬ (In x ys)) → map (map_of (x ∷ xs) (t ∷ ts)) ys ≡ map (map_of xs ts) ys
    later [] n = refl
    later (y ∷ ys) n = by (later ys (λ i. n (inr i))) (x == y) refl
      where
        by : map (map_of (x ∷ xs) (t ∷ ts)) ys ≡ map (map_of xs ts) ys → (b : Bool) → (x == y) ≡ b
            → (if x == y then t else map_of xs ts y) ∷ map (map_of (x ∷ xs) (t ∷ ts)) ys ≡ map_of xs ts y ∷ map (map_of xs ts) ys
        by ih true f = absurd (n (inl (eqb-true x y f)))
        by ih false f = rw f (ap (λ w. map_of xs ts y ∷ w) ih)

    first : map (map_of xs ts) xs ≡ ts → map (map_of (x ∷ xs) (t ∷ ts)) (x ∷ xs) ≡ t ∷ ts
    first ih = rw (eq-eqb x x refl) (ap (λ w. t ∷ w) (later xs d.0 ∙ ih))

each_from_all : {X : Type 0} (p : X → Bool) (xs : List X) (x : X) → In x xs → list_all p xs ≡ true → p x ≡ true
each_from_all p [] x i h = absurd i
each_from_all p (y ∷ ys) x (inl e) h = ap p e ∙ (and_parts (p y) (list_all p ys) h).0
each_from_all p (y ∷ ys) x (inr i) h = each_from_all p ys x i (and_parts (p y) (list_all p ys) h).1

module _ (G H : List Quad) (nodes : List ℕ) (rows : List (List Condition)) (bound : ℕ) (meets : List ℕ → Condition → ℕ → Bool) (search : IsSearch G H nodes rows bound meets) (images : List ℕ)
    (is_map : IsMap bound (fits_rows meets rows) images) (front : length images ≤ length nodes) where
  other_end : (k : ℕ) → k < length images → (e : End) (x : ℕ) → IsOtherEnd nodes k e x → end_at (take k images) e ≡ map_of nodes images x
  other_end k l (Fixed n) x o = sym (map_of-kept nodes images x o.1 ∙ o.0)
  other_end k l (Place j) x o = get_or-take k images j 0 o.0 ∙ sym (map_of-at nodes images j search.rows_are.distinct front (let b = o.0 in omega arith)) ∙ ap (map_of nodes images) (sym o.1)

  node : (k : ℕ) → k < length images → (x : ℕ) → x ≡ get_or nodes k 0 → get_or images k 0 ≡ map_of nodes images x
  node k l x e = sym (map_of-at nodes images k search.rows_are.distinct front l) ∙ ap (map_of nodes images) (sym e)

  -- a triple that stands in H with the numbers of the carried one is the carried one
  standing : (q : Quad) → In q G → Stands H (map_of nodes images q.s) q.p (map_of nodes images q.o) → In (carried (map_of nodes images) q) H
  standing q there s =
      let a : s.triple.s ≡ map_of nodes images q.s = s.s_is in
      let b : s.triple.p ≡ q.p = s.p_is in
      let c : s.triple.o ≡ map_of nodes images q.o = s.o_is in
      let g : s.triple.g ≡ q.g = search.tells.unnamed s.triple s.there ∙ sym (search.rows_are.unnamed q there) in
      let e : s.triple ≡ carried (map_of nodes images) q = λ i. record { s = a i; p = b i; o = c i; g = g i } in
      subst (λ x. In x H) e s.there

  stands_asked : (k : ℕ) → k < length images → (q : Quad) (c : Condition) → IsWhole c → IsAsked nodes k q c → Meets H (take k images) c (get_or images k 0)
      → Stands H (map_of nodes images q.s) q.p (map_of nodes images q.o)
  stands_asked k l q (Subject p o) w a m = record { triple = m.triple; there = m.there; s_is = m.s_is ∙ node k l q.s a.0; p_is = m.p_is ∙ sym a.1; o_is = m.o_is ∙ other_end k l o q.o a.2 }
  stands_asked k l q (Object s p) w a m = record { triple = m.triple; there = m.there; s_is = m.s_is ∙ other_end k l s q.s a.2; p_is = m.p_is ∙ sym a.1; o_is = m.o_is ∙ node k l q.o a.0 }
  stands_asked k l q (Both p) w a m = record { triple = m.triple; there = m.there; s_is = m.s_is ∙ node k l q.s a.0; p_is = m.p_is ∙ sym a.1; o_is = m.o_is ∙ node k l q.o a.2 }
  stands_asked k l q (SomeSubject p) w a m = absurd w
  stands_asked k l q (SomeObject p) w a m = absurd w

  asked_end : (k : ℕ) (q : Quad) (c : Condition) → IsWhole c → IsAsked nodes k q c → (get_or nodes k 0 ≡ q.s) ⊎ (get_or nodes k 0 ≡ q.o)
  asked_end k q (Subject p o) w a = inl (sym a.0)
  asked_end k q (Object s p) w a = inr (sym a.0)
  asked_end k q (Both p) w a = inl (sym a.0)
  asked_end k q (SomeSubject p) w a = absurd w
  asked_end k q (SomeObject p) w a = absurd w

  met : (k : ℕ) → k < length images → (c : Condition) → In c (row_at rows k) → Meets H (take k images) c (get_or images k 0)
  met k l c i =
      let f = each_from_is_map bound (fits_rows meets rows) images is_map k l in
      let t : length (take k images) ≡ k = length-take-le k images (omega arith) in
      let all : meets_all (meets (take k images)) (row_at rows k) (get_or images k 0) ≡ true = subst (λ w. meets_all (meets (take k images)) (row_at rows w) (get_or images k 0) ≡ true) t f.1 in
      (search.tells.tells (take k images) c (get_or images k 0)).0 (each_from_all (λ c. meets (take k images) c (get_or images k 0)) (row_at rows k) c i all)

  pub carries_front : (q : Quad) → In q G → TouchesOneOf nodes q → EndsAmong nodes (length images) q → In (carried (map_of nodes images) q) H
  carries_front q there t among = by (search.rows_are.all q there t)
    where
      by : IsAskedWhole nodes rows q → In (carried (map_of nodes images) q) H
      by a =
          let r : length rows ≡ length nodes = search.rows_are.count in
          let in_rows : a.place < length rows = a.within in
          let inside : a.place < length nodes = omega arith in
          let early : a.place < length images = place_below nodes a.place (length images) search.rows_are.distinct inside
          (among (get_or nodes a.place 0) (asked_end a.place q a.condition a.whole a.asked) (In-get_or nodes a.place 0 inside)) in
          standing q there (stands_asked a.place early q a.condition a.whole a.asked (met a.place early a.condition a.there))

  end_of_met : (k : ℕ) (c : Condition) (t : ℕ) → Meets H (take k images) c t → IsEndIn H t
  end_of_met k (Subject p o) t m = record { triple = m.triple; there = m.there; end = inl (sym m.s_is) }
  end_of_met k (Object s p) t m = record { triple = m.triple; there = m.there; end = inr (sym m.o_is) }
  end_of_met k (Both p) t m = record { triple = m.triple; there = m.there; end = inl (sym m.s_is) }
  end_of_met k (SomeSubject p) t m = record { triple = m.1.triple; there = m.1.there; end = inl (sym m.1.s_is) }
  end_of_met k (SomeObject p) t m = record { triple = m.1.triple; there = m.1.there; end = inr (sym m.1.o_is) }

  image_is_end : (k : ℕ) → k < length images → IsEndIn H (get_or images k 0)
  image_is_end k l =
      let r : length rows ≡ length nodes = search.rows_are.count in
      let c = search.asked k (omega arith) in
      end_of_met k c.0 (get_or images k 0) (met k l c.0 c.1)

  pub is_partial : IsPartialNodeMap G H nodes images
  is_partial = record {
    within = front;
    ends = All-from_each (IsEndIn H) images (λ t i. (let p = place_within images t 0 i in subst (IsEndIn H) p.2 (image_is_end p.0 p.1)));
    carries = carries_front;
  }

module _ (G H : List Quad) (nodes : List ℕ) (rows : List (List Condition)) (bound : ℕ) (meets : List ℕ → Condition → ℕ → Bool) (search : IsSearch G H nodes rows bound meets) where
  pub map_is_node_map : (images : List ℕ) → IsMap bound (fits_rows meets rows) images → length images ≡ length nodes → IsNodeMap G H nodes (map_of nodes images)
  map_is_node_map images is_map whole =
      let all : take (length images) nodes ≡ nodes = ap (λ n. take n nodes) whole ∙ take-length nodes in
      record {
        kept = map_of-kept nodes images;
        carries = λ q there t. carries_front G H nodes rows bound meets search images is_map (omega arith) q there t (λ x e i. subst (λ l. In x l) (sym all) i);
      }

  pub more_node_maps : (sought : List ℕ → Bool) (limit : ℕ) → HasMore bound (fits_rows meets rows) (length rows) sought limit → HasMoreNodeMaps G H nodes limit
  more_node_maps sought limit h = record {
    maps = h.maps;
    distinct = h.distinct;
    are_maps = All-from_each (IsPartialNodeMap G H nodes) h.maps each;
    more = h.more;
  }
    where
      each : (images : List ℕ) → In images h.maps → IsPartialNodeMap G H nodes images
      each images i =
          let met = each-from_All (IsMet bound (fits_rows meets rows) (length rows) sought) h.maps images h.are_met i in
          let r : length rows ≡ length nodes = search.rows_are.count in
          let l = met.within in
          is_partial G H nodes rows bound meets search images met.is_map (omega arith)

-- where no map is sought, each beginning of a map is met
few_beginnings : (H : List Quad) (nodes : List ℕ) (rows : List (List Condition)) (bound : ℕ) (meets : List ℕ → Condition → ℕ → Bool) (sought : List ℕ → Bool) (limit : ℕ)
    → IsSearch H H nodes rows bound meets → IsNothing bound (fits_rows meets rows) (length rows) sought limit → ¬ (HasMoreNodeBeginnings H nodes limit)
few_beginnings H nodes rows bound meets sought limit s nothing more =
    nothing.few (record {
      maps = more.beginnings;
      distinct = more.distinct;
      are_met =
          All-from_each (IsMet bound (fits_rows meets rows) (length rows) sought) more.beginnings
          (λ images i. met images (each-from_All (IsNodeBeginning H nodes) more.beginnings images more.are_beginnings i));
      more = more.more;
    })
  where
    met : (images : List ℕ) → IsNodeBeginning H nodes images → IsMet bound (fits_rows meets rows) (length rows) sought images
    met images b =
        let e : images ≡ take (length images) (map b.m nodes) = b.images_are ∙ sym (take-map b.m (length images) nodes) in
        record {
          is_map =
              subst (IsMap bound (fits_rows meets rows)) (sym e) (front_is_map bound (fits_rows meets rows) (map b.m nodes) (length images)
              (node_map_is_map H H nodes b.m b.is_map rows s.rows_are s.asked bound meets s.tells));
          within = (let c : length rows ≡ length nodes = s.rows_are.count in let w = b.within in omega arith);
          none_before = λ other o. absurd (nothing.none other o);
        }

pub maps_of_rows : (G H : List Quad) (nodes : List ℕ) (rows : List (List Condition)) (bound : ℕ) (meets : List ℕ → Condition → ℕ → Bool) → IsSearch G H nodes rows bound meets →
    ((m : ℕ → ℕ) → IsNodeMap G H nodes m → IsMap bound (fits_rows meets rows) (map m nodes))
    × ((images : List ℕ) → IsMap bound (fits_rows meets rows) images → length images ≡ length nodes → IsNodeMap G H nodes (map_of nodes images))
maps_of_rows G H nodes rows bound meets s =
    (λ m n. node_map_is_map G H nodes m n rows s.rows_are s.asked bound meets s.tells, map_is_node_map G H nodes rows bound meets s)

pub endings_mean : (H : List Quad) (nodes : List ℕ) (rows : List (List Condition)) (bound : ℕ) (meets : List ℕ → Condition → ℕ → Bool) (sought : List ℕ → Bool) (limit : ℕ) (ending : Ending)
    → IsSearch H H nodes rows bound meets → TellsMisses H nodes sought → IsEnding bound (fits_rows meets rows) (length rows) sought limit ending → MeansOfEnding H nodes limit ending
endings_mean H nodes rows bound meets sought limit (Found images) s t e =
    let w : length images.items ≡ length nodes = e.is_sought.whole ∙ s.rows_are.count in
    let n = map_is_node_map H H nodes rows bound meets s images.items e.is_sought.is_map w in
    (n, t.misses (map_of nodes images.items) n (ap sought (map_of-same nodes images.items s.rows_are.distinct w) ∙ e.is_sought.is_sought))
endings_mean H nodes rows bound meets sought limit Nothing s t e = (λ m n. by m n (sought (map m nodes)) refl, few_beginnings H nodes rows bound meets sought limit s e)
  where
    by : (m : ℕ → ℕ) → IsNodeMap H H nodes m → (b : Bool) → sought (map m nodes) ≡ b → ReachesAll H nodes m
    by m n true f =
        absurd (e.none (map m nodes) (record { is_map = node_map_is_map H H nodes m n rows s.rows_are s.asked bound meets s.tells; whole = length-map nodes m ∙ sym s.rows_are.count; is_sought = f }))
    by m n false f = t.reaches m n f
endings_mean H nodes rows bound meets sought limit PastLimit s t e = more_node_maps H H nodes rows bound meets s sought limit e
