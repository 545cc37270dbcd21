-- A map of the nodes of a pattern, as the list of their images.
use Rattle.std.proofs.Common.{◌≡◌, ℕ, zero, suc, ◌<◌, ◌≤◌, Bool, true, List, [], ◌∷◌, length, take, map, reverse, get_or, refl, sym, ap, ◌∙◌, subst, inl, inr, arith}
use Rattle.std.specs.List.{list_all}
use Rattle.std.proofs.lemmas.List.{get_or-take, get_or-map, length-map, length-take-le, reverse-append, reverse-reverse}
use Rattle.std.proofs.Math.Seq.{take-suc, take-length}
use Rattle.rdf_terms.specs.Lists.{In}
use Rattle.rdf_terms.specs.declared.term.Quad.{Quad}
use Rattle.map_search.specs.declared.rows.End.{End}
use Rattle.map_search.specs.declared.rows.End.TheVariants.{Fixed, Place}
use Rattle.map_search.specs.declared.rows.Condition.{Condition}
use Rattle.map_search.specs.declared.rows.Condition.TheVariants.{Subject, Object, Both, SomeSubject, SomeObject}
use Rattle.map_search.specs.Maps.{FitBackwards, IsMap}
use Rattle.map_search.specs.Rows.{meets_all}
use Rattle.std.specs.Cmp.Derive.{both_true}
use Rattle.map_search.specs.Pattern.{carried, IsNodeMap, end_at, Meets, IsOtherEnd, IsAskedOf, row_at, AreRows, TellsMeets, fits_rows, EachIsAsked}

all_from_each : {X : Type 0} (p : X → Bool) (xs : List X) → ((x : X) → In x xs → p x ≡ true) → list_all p xs ≡ true
all_from_each p [] h = refl
all_from_each p (x ∷ xs) h = both_true (h x (inl refl)) (all_from_each p xs (λ y i. h y (inr i)))

-- images that fit one after the other are a map
module _ (bound : ℕ) (fits : List ℕ → ℕ → Bool) (images : List ℕ) (each : (k : ℕ) → k < length images → (get_or images k 0 < bound) × (fits (take k images) (get_or images k 0) ≡ true)) where
  front_fits : (k : ℕ) → k ≤ length images → FitBackwards bound fits (reverse (take k images))
  front_fits zero l = tt
  front_fits (suc k) l =
      let here = each k (omega arith) in
      let e : reverse (take (suc k) images) ≡ get_or images k 0 ∷ reverse (take k images) = ap reverse (take-suc images k 0 (omega arith)) ∙ reverse-append (take k images) (get_or images k 0 ∷ []) in
      let f : fits (reverse (reverse (take k images))) (get_or images k 0) ≡ true = ap (λ w. fits w (get_or images k 0)) (reverse-reverse (take k images)) ∙ here.1 in
      subst (FitBackwards bound fits) (sym e) (front_fits k (omega arith), here.0, f)

  pub is_map_from_each : IsMap bound fits images
  is_map_from_each = subst (λ w. FitBackwards bound fits (reverse w)) (take-length images) (front_fits (length images) (omega arith))

module _ (G H : List Quad) (nodes : List ℕ) (m : ℕ → ℕ) (is_map : IsNodeMap G H nodes m) where
  -- the image of a place
  image : (k : ℕ) → k < length nodes → get_or (map m nodes) k 0 ≡ m (get_or nodes k 0)
  image k l = get_or-map m nodes k 0 0 l

  earlier : (j k : ℕ) → j < k → k < length nodes → get_or (take k (map m nodes)) j 0 ≡ m (get_or nodes j 0)
  earlier j k l n = get_or-take k (map m nodes) j 0 l ∙ image j (omega arith)

  other_end : (k : ℕ) → k < length nodes → (e : End) (x : ℕ) → IsOtherEnd nodes k e x → m x ≡ end_at (take k (map m nodes)) e
  other_end k l (Fixed n) x o = is_map.kept x o.1 ∙ o.0
  other_end k l (Place j) x o = ap m o.1 ∙ sym (earlier j k o.0 l)

  -- what a triple asks of a node, its image meets
  meets_asked : (k : ℕ) → k < length nodes → (c : Condition) → IsAskedOf G nodes k c → Meets H (take k (map m nodes)) c (get_or (map m nodes) k 0)
  meets_asked k l (Subject p o) a =
      record { triple = carried m a.triple; there = is_map.carries a.triple a.there a.touches; s_is = ap m a.asked.0 ∙ sym (image k l); p_is = a.asked.1; o_is = other_end k l o a.triple.o a.asked.2 }
  meets_asked k l (Object s p) a =
      record { triple = carried m a.triple; there = is_map.carries a.triple a.there a.touches; s_is = other_end k l s a.triple.s a.asked.2; p_is = a.asked.1; o_is = ap m a.asked.0 ∙ sym (image k l) }
  meets_asked k l (Both p) a =
      record { triple = carried m a.triple; there = is_map.carries a.triple a.there a.touches; s_is = ap m a.asked.0 ∙ sym (image k l); p_is = a.asked.1; o_is = ap m a.asked.2 ∙ sym (image k l) }
  meets_asked k l (SomeSubject p) a =
      (m a.triple.o, record { triple = carried m a.triple; there = is_map.carries a.triple a.there a.touches; s_is = ap m a.asked.0 ∙ sym (image k l); p_is = a.asked.1; o_is = refl })
  meets_asked k l (SomeObject p) a =
      (m a.triple.s, record { triple = carried m a.triple; there = is_map.carries a.triple a.there a.touches; s_is = refl; p_is = a.asked.1; o_is = ap m a.asked.0 ∙ sym (image k l) })

  -- a number that meets a condition is one of an end of H
  bounded : (bound : ℕ) (meets : List ℕ → Condition → ℕ → Bool) → TellsMeets H bound meets → (images : List ℕ) (c : Condition) (t : ℕ) → Meets H images c t → t < bound
  bounded bound meets tells images (Subject p o) t h = subst (λ n. n < bound) h.s_is (tells.bounded h.triple h.there).0
  bounded bound meets tells images (Object s p) t h = subst (λ n. n < bound) h.o_is (tells.bounded h.triple h.there).1
  bounded bound meets tells images (Both p) t h = subst (λ n. n < bound) h.s_is (tells.bounded h.triple h.there).0
  bounded bound meets tells images (SomeSubject p) t h = subst (λ n. n < bound) h.1.s_is (tells.bounded h.1.triple h.1.there).0
  bounded bound meets tells images (SomeObject p) t h = subst (λ n. n < bound) h.1.o_is (tells.bounded h.1.triple h.1.there).1

  -- the images of the nodes under a map are a map of all places of the rows
  pub node_map_is_map : (rows : List (List Condition)) → AreRows G nodes rows → EachIsAsked rows → (bound : ℕ) (meets : List ℕ → Condition → ℕ → Bool) → TellsMeets H bound meets
      → IsMap bound (fits_rows meets rows) (map m nodes)
  node_map_is_map rows are asked bound meets tells = is_map_from_each bound (fits_rows meets rows) (map m nodes) each
    where
      each : (k : ℕ) → k < length (map m nodes) → (get_or (map m nodes) k 0 < bound) × (fits_rows meets rows (take k (map m nodes)) (get_or (map m nodes) k 0) ≡ true)
      each k l =
          let n : length (map m nodes) ≡ length nodes = length-map nodes m in
          let r : length rows ≡ length nodes = are.count in
          let inside : k < length nodes = omega arith in
          let in_rows : k < length rows = omega arith in
          let t : length (take k (map m nodes)) ≡ k = length-take-le k (map m nodes) (omega arith) in
          let met : (c : Condition) → In c (row_at rows k) → Meets H (take k (map m nodes)) c (get_or (map m nodes) k 0) = λ c i. meets_asked k inside c (are.only k in_rows c i) in
          let some = asked k in_rows in
          let all : meets_all (meets (take k (map m nodes))) (row_at rows k) (get_or (map m nodes) k 0) ≡ true
          = all_from_each (λ c. meets (take k (map m nodes)) c (get_or (map m nodes) k 0)) (row_at rows k) (λ c i. (tells.tells (take k (map m nodes)) c (get_or (map m nodes) k 0)).1 (met c i)) in (
            bounded bound meets tells (take k (map m nodes)) some.0 (get_or (map m nodes) k 0) (met some.0 some.1),
            subst (λ w. meets_all (meets (take k (map m nodes))) (row_at rows w) (get_or (map m nodes) k 0) ≡ true) (sym t) all,
          )
