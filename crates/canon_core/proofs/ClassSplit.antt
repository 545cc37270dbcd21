-- Nodes in the order of their hashes, cut behind the class at their front.
use Rattle.std.proofs.lemmas.Bool.{false_from_ne_true}
use Rattle.std.proofs.Common.{◌≡◌, ℕ, suc, ◌+◌, ◌<◌, true, false, cond, Bool, List, [], ◌∷◌, ◌⊎◌, map, take, drop, get_or, length, ◌-◌, ◌≤◌, slice_range, length-drop, nat_cmp, inl, inr, refl, sym, ap, ◌∙◌, subst, arith, Ordering, Less, Equal, Greater}
use Rattle.std.specs.Ordering.{is_lt, ordering_reverse, ordering_then}
use Rattle.std.specs.Cmp.Lexicographic.{slice_cmp}
use Rattle.std.specs.List.{prefix_len}
use Rattle.std.specs.Str.{bytes_eq}
use Rattle.std.proofs.lemmas.Cmp.{nat_cmp_total, nat_list_cmp_total, tied_itself}
use Rattle.std.proofs.lemmas.List.Sums.{prefix_len-le-length, take_while-cons}
use Rattle.std.proofs.lemmas.List.{drop-drop}
use Rattle.std.proofs.lemmas.Slice.Eq.{bytes_eq-Decides}
use Rattle.rdf_terms.proofs.Common.{In, Text, is_before, numbers_below, from_In-map, In-map, from_In-numbers_below as below_from_In, In-numbers_below as In_from_below, is_before-irrefl, same_from_neither_before, from_In-filter, In-filter}
use Rattle.canonical_writer.proofs.NumberOrder.{slice_from}
use Rattle.canon_model.proofs.TextsOnce.{different}
use Rattle.canon_model.specs.Groups.{each_text_once}
use Rattle.canon_core.specs.HashOrder.{StrictlyAscends, IsRanked, class_hash, front_class, behind_class, hash_of, node_of, node_cmp, nodes_under}
use Rattle.canon_core.proofs.Ascending.{same_ascending, StrictlyAscends-filter, StrictlyAscends-numbers_below}

abbrev Pair : Type 0
Pair = Text × ℕ

-- ---- what the order of two nodes says

-- nodes of one hash stand in the order of their numbers
number_less : (p q : Pair) → p.0 ≡ q.0 → node_cmp p q ≡ Less → nat_cmp p.1 q.1 ≡ Less
number_less p q e l =
    let same : slice_cmp nat_cmp p.0 q.0 ≡ Equal = subst (λ w. slice_cmp nat_cmp p.0 w ≡ Equal) e (tied_itself nat_list_cmp_total p.0) in
    ap (λ r. ordering_then r (nat_cmp p.1 q.1)) (sym same) ∙ l

pub hash_not_before : (p q : Pair) → node_cmp p q ≡ Less → is_before q.0 p.0 ≡ false
hash_not_before p q l = by (slice_cmp nat_cmp p.0 q.0) refl l
  where
    by : (r : Ordering) → slice_cmp nat_cmp p.0 q.0 ≡ r → ordering_then r (nat_cmp p.1 q.1) ≡ Less → is_before q.0 p.0 ≡ false
    by Less e f = ap is_lt (nat_list_cmp_total.antisymm q.0 p.0 ∙ ap ordering_reverse e)
    by Equal e f = ap is_lt (nat_list_cmp_total.antisymm q.0 p.0 ∙ ap ordering_reverse e)
    by Greater e f = cc

-- ---- the class at the front

module _ (h : Text) where
  In-front : (xs : List Pair) (p : Pair) → In p (front_class h xs) → In p xs × (p.0 ≡ h)
  In-front [] p i = absurd i
  In-front (q ∷ xs) p i = by (bytes_eq q.0 h) refl (In-front xs p) i
    where
      by : (t : Bool) → bytes_eq q.0 h ≡ t → (In p (front_class h xs) → In p xs × (p.0 ≡ h)) → In p (cond t (q ∷ front_class h xs) []) → In p (q ∷ xs) × (p.0 ≡ h)
      by true e r (inl f) = (inl f, ap hash_of f ∙ (bytes_eq-Decides q.0 h).0 e)
      by true e r (inr k) = (inr (r k).0, (r k).1)
      by false e r k = absurd k

  In-behind : (xs : List Pair) (p : Pair) → In p (behind_class h xs) → In p xs
  In-behind [] p i = absurd i
  In-behind (q ∷ xs) p i = by (bytes_eq q.0 h) (In-behind xs p) i
    where
      by : (t : Bool) → (In p (behind_class h xs) → In p xs) → In p (cond t (behind_class h xs) (q ∷ xs)) → In p (q ∷ xs)
      by true r k = inr (r k)
      by false r k = k

  In-either : (xs : List Pair) (p : Pair) → In p xs → In p (front_class h xs) ⊎ In p (behind_class h xs)
  In-either [] p i = absurd i
  In-either (q ∷ xs) p i = by (bytes_eq q.0 h) (In-either xs p) i
    where
      by : (t : Bool) → (In p xs → In p (front_class h xs) ⊎ In p (behind_class h xs)) → In p (q ∷ xs) → In p (cond t (q ∷ front_class h xs) []) ⊎ In p (cond t (behind_class h xs) (q ∷ xs))
      by true r (inl f) = inl (inl f)
      by true r (inr k) = elim (r k) [ inl a ↦ inl (inr a) | inr b ↦ inr b ]
      by false r k = inr k

  ascends-front : (xs : List Pair) → StrictlyAscends node_cmp xs → StrictlyAscends nat_cmp (map node_of (front_class h xs))
  ascends-front [] a = tt
  ascends-front (q ∷ xs) a = by (bytes_eq q.0 h) refl (ascends-front xs a.1)
    where
      by : (t : Bool) → bytes_eq q.0 h ≡ t → StrictlyAscends nat_cmp (map node_of (front_class h xs)) → StrictlyAscends nat_cmp (map node_of (cond t (q ∷ front_class h xs) []))
      by true e r = (
        λ n k.
            let f = from_In-map node_of (front_class h xs) n k in
            let g = In-front xs f.0 f.1 in
            subst (λ m. nat_cmp q.1 m ≡ Less) (sym f.2) (number_less q f.0 ((bytes_eq-Decides q.0 h).0 e ∙ sym g.1) (a.0 f.0 g.0)),
        r,
      )
      by false e r = tt

  ascends-behind : (xs : List Pair) → StrictlyAscends node_cmp xs → StrictlyAscends node_cmp (behind_class h xs)
  ascends-behind [] a = tt
  ascends-behind (q ∷ xs) a = by (bytes_eq q.0 h) (ascends-behind xs a.1)
    where
      by : (t : Bool) → StrictlyAscends node_cmp (behind_class h xs) → StrictlyAscends node_cmp (cond t (behind_class h xs) (q ∷ xs))
      by true r = r
      by false r = a

  -- no hash is before that of the class
  abbrev IsLeast : List Pair → Type 0
  IsLeast xs = (q : Pair) → In q xs → is_before q.0 h ≡ false

  -- from a node of another hash on there is none of the class
  none_behind : (q : Pair) (xs : List Pair) → bytes_eq q.0 h ≡ false → StrictlyAscends node_cmp (q ∷ xs) → IsLeast (q ∷ xs) → (p : Pair) → In p (q ∷ xs) → ¬ (p.0 ≡ h)
  none_behind q xs f a least p (inl e) g = different q.0 h f (sym (ap hash_of e) ∙ g)
  none_behind q xs f a least p (inr k) g =
      let up : is_before h q.0 ≡ false = subst (λ w. is_before w q.0 ≡ false) g (hash_not_before q p (a.0 p k)) in
      different q.0 h f (same_from_neither_before q.0 h (least q (inl refl)) up)

  In-front_from : (xs : List Pair) → StrictlyAscends node_cmp xs → IsLeast xs → (p : Pair) → In p xs → p.0 ≡ h → In p (front_class h xs)
  In-front_from [] a least p i g = absurd i
  In-front_from (q ∷ xs) a least p i g = by (bytes_eq q.0 h) refl i (λ k. In-front_from xs a.1 (λ r j. least r (inr j)) p k g)
    where
      by : (t : Bool) → bytes_eq q.0 h ≡ t → In p (q ∷ xs) → (In p xs → In p (front_class h xs)) → In p (cond t (q ∷ front_class h xs) [])
      by true e (inl f) r = inl f
      by true e (inr k) r = inr (r k)
      by false e k r = absurd (none_behind q xs e a least p k g)

  other_behind : (xs : List Pair) → StrictlyAscends node_cmp xs → IsLeast xs → (p : Pair) → In p (behind_class h xs) → ¬ (p.0 ≡ h)
  other_behind [] a least p i = absurd i
  other_behind (q ∷ xs) a least p i = by (bytes_eq q.0 h) refl (other_behind xs a.1 (λ r j. least r (inr j)) p) i
    where
      by : (t : Bool) → bytes_eq q.0 h ≡ t → (In p (behind_class h xs) → ¬ (p.0 ≡ h)) → In p (cond t (behind_class h xs) (q ∷ xs)) → ¬ (p.0 ≡ h)
      by true e r k = r k
      by false e r k = none_behind q xs e a least p k

  -- ---- the slices that code takes

  pub take-class : (xs : List Pair) → take (prefix_len (λ p. bytes_eq p.0 h) xs) xs ≡ front_class h xs
  take-class [] = refl
  take-class (q ∷ xs) = take_while-cons (λ p. bytes_eq p.0 h) q xs ∙ ap (λ w. cond (bytes_eq q.0 h) (q ∷ w) []) (take-class xs)

  pub drop-class : (xs : List Pair) → drop (prefix_len (λ p. bytes_eq p.0 h) xs) xs ≡ behind_class h xs
  drop-class [] = refl
  drop-class (q ∷ xs) = by (bytes_eq q.0 h) (drop-class xs)
    where
      n : ℕ
      n = prefix_len (λ (p : Pair). bytes_eq p.0 h) xs

      by : (t : Bool) → drop n xs ≡ behind_class h xs → drop (cond t (1 + n) 0) (q ∷ xs) ≡ cond t (behind_class h xs) (q ∷ xs)
      by true r = let s : 1 + n ≡ suc n = omega arith in ap (λ k. drop k (q ∷ xs)) s ∙ r
      by false r = refl

  -- ---- the hashes of the nodes, each once

  pub once-class : (p : Pair) (xs : List Pair) → p.0 ≡ h → each_text_once (map hash_of (p ∷ xs)) ≡ h ∷ each_text_once (map hash_of (behind_class h (p ∷ xs)))
  once-class p [] e = ap (λ w. w ∷ []) e ∙ ap (λ t. h ∷ each_text_once (map hash_of (cond t [] (p ∷ [])))) (sym ((bytes_eq-Decides p.0 h).1 e))
  once-class p (q ∷ ys) e =
      by (bytes_eq p.0 q.0) refl (once-class q ys) ∙ ap (λ t. h ∷ each_text_once (map hash_of (cond t (behind_class h (q ∷ ys)) (p ∷ q ∷ ys)))) (sym ((bytes_eq-Decides p.0 h).1 e))
    where
      by : (t : Bool) → bytes_eq p.0 q.0 ≡ t → (q.0 ≡ h → each_text_once (map hash_of (q ∷ ys)) ≡ h ∷ each_text_once (map hash_of (behind_class h (q ∷ ys))))
          → cond t (each_text_once (map hash_of (q ∷ ys))) (p.0 ∷ each_text_once (map hash_of (q ∷ ys))) ≡ h ∷ each_text_once (map hash_of (behind_class h (q ∷ ys)))
      by true f r = r (sym ((bytes_eq-Decides p.0 q.0).0 f) ∙ e)
      by false f r =
          let other : bytes_eq q.0 h ≡ false = false_from_ne_true (bytes_eq q.0 h) (λ g. different p.0 q.0 f (e ∙ sym ((bytes_eq-Decides q.0 h).0 g))) in
          ap (λ w. w ∷ each_text_once (map hash_of (q ∷ ys))) e ∙ ap (λ t. h ∷ each_text_once (map hash_of (cond t (behind_class h ys) (q ∷ ys)))) (sym other)

-- ---- the classes of all nodes

module _ (hash : ℕ → Text) (count : ℕ) (p : Pair) (xs : List Pair) (r : IsRanked hash count (p ∷ xs)) where
  least : IsLeast p.0 (p ∷ xs)
  least q (inl e) = subst (λ (w : Pair). is_before w.0 p.0 ≡ false) (sym e) (is_before-irrefl p.0)
  least q (inr k) = hash_not_before p q (r.ascends.0 q k)

  class_there : (n : ℕ) → In n (map node_of (front_class p.0 (p ∷ xs))) → In n (nodes_under hash count p.0)
  class_there n i =
      let f = from_In-map node_of (front_class p.0 (p ∷ xs)) n i in
      let g = In-front p.0 (p ∷ xs) f.0 f.1 in
      let at : hash n ≡ p.0 = ap hash f.2 ∙ (sym (r.own_hash f.0 g.0) ∙ g.1) in
      let low : n < count = subst (λ m. m < count) (sym f.2) (r.below f.0 g.0) in
      In-filter (λ m. bytes_eq (hash m) p.0) n (numbers_below count) (In_from_below count n low) ((bytes_eq-Decides (hash n) p.0).1 at)

  there_class : (n : ℕ) → In n (nodes_under hash count p.0) → In n (map node_of (front_class p.0 (p ∷ xs)))
  there_class n i =
      let f = from_In-filter (λ m. bytes_eq (hash m) p.0) n (numbers_below count) i in
      let at : hash n ≡ p.0 = (bytes_eq-Decides (hash n) p.0).0 f.1 in
      In-map node_of (front_class p.0 (p ∷ xs)) (hash n, n) (In-front_from p.0 (p ∷ xs) r.ascends least (hash n, n) (r.whole p (inl refl) n (below_from_In count n f.0) at) at)

  -- the class at the front is that of its hash
  pub class_is : map node_of (front_class p.0 (p ∷ xs)) ≡ nodes_under hash count p.0
  class_is =
      same_ascending nat_cmp nat_cmp_total (map node_of (front_class p.0 (p ∷ xs))) (nodes_under hash count p.0) (ascends-front p.0 (p ∷ xs) r.ascends)
      (StrictlyAscends-filter nat_cmp (λ m. bytes_eq (hash m) p.0) (numbers_below count) (StrictlyAscends-numbers_below count)) class_there there_class

  -- and behind it the classes are whole
  pub ranked-behind : IsRanked hash count (behind_class p.0 (p ∷ xs))
  ranked-behind = record {
    ascends = ascends-behind p.0 (p ∷ xs) r.ascends;
    own_hash = λ q i. r.own_hash q (In-behind p.0 (p ∷ xs) q i);
    below = λ q i. r.below q (In-behind p.0 (p ∷ xs) q i);
    whole = λ q i n low e. by q i n e (In-either p.0 (p ∷ xs) (hash n, n) (r.whole q (In-behind p.0 (p ∷ xs) q i) n low e));
  }
    where
      by : (q : Pair) → In q (behind_class p.0 (p ∷ xs)) → (n : ℕ) → hash n ≡ q.0 → In (hash n, n) (front_class p.0 (p ∷ xs)) ⊎ In (hash n, n) (behind_class p.0 (p ∷ xs))
          → In (hash n, n) (behind_class p.0 (p ∷ xs))
      by q i n e (inl f) = absurd (other_behind p.0 (p ∷ xs) r.ascends least q i (sym e ∙ (In-front p.0 (p ∷ xs) (hash n, n) f).1))
      by q i n e (inr b) = b

-- ---- the same of nodes of which there is one at least

module _ (hash : ℕ → Text) (count : ℕ) where
  pub class-is : (nodes : List Pair) → 0 < length nodes → IsRanked hash count nodes → map node_of (front_class (class_hash nodes) nodes) ≡ nodes_under hash count (class_hash nodes)
  class-is [] l r = absurd (omega arith)
  class-is (p ∷ xs) l r = class_is hash count p xs r

  pub class-behind : (nodes : List Pair) → 0 < length nodes → IsRanked hash count nodes → IsRanked hash count (behind_class (class_hash nodes) nodes)
  class-behind [] l r = absurd (omega arith)
  class-behind (p ∷ xs) l r = ranked-behind hash count p xs r

pub class-once : (nodes : List Pair) → 0 < length nodes → each_text_once (map hash_of nodes) ≡ class_hash nodes ∷ each_text_once (map hash_of (behind_class (class_hash nodes) nodes))
class-once [] l = absurd (omega arith)
class-once (p ∷ xs) l = once-class p.0 p xs refl

pub class_hash-front : (nodes : List Pair) → 0 < length nodes → class_hash (front_class (class_hash nodes) nodes) ≡ class_hash nodes
class_hash-front [] l = absurd (omega arith)
class_hash-front (p ∷ xs) l = ap (λ t. class_hash (cond t (p ∷ front_class p.0 xs) [])) ((bytes_eq-Decides p.0 p.0).1 refl)

some_of_class : (nodes : List Pair) → 0 < length nodes → 0 < prefix_len (λ p. bytes_eq p.0 (class_hash nodes)) nodes
some_of_class [] l = absurd (omega arith)
some_of_class (p ∷ xs) l = subst (λ t. 0 < cond t (1 + prefix_len (λ (q : Pair). bytes_eq q.0 p.0) xs) 0) (sym ((bytes_eq-Decides p.0 p.0).1 refl)) (omega arith)

-- ---- where the class ends that begins at a place

module _ (nodes rest : List Pair) (start n : ℕ) (l : start < length nodes) (is : rest ≡ drop start nodes) (len : n ≡ prefix_len (λ p. bytes_eq p.0 (class_hash rest)) rest) where
  some_left : 0 < length rest
  some_left = let a = ap (λ ps. length ps) is in let b = length-drop start nodes in omega arith

  pub end-after : start < start + n
  end-after = let s = some_of_class rest some_left in omega arith

  pub end-within : start + n ≤ length nodes
  end-within = let a = ap (λ ps. length ps) is in let b = length-drop start nodes in let c = prefix_len-le-length (λ (p : Pair). bytes_eq p.0 (class_hash rest)) rest in omega arith

  pub end-class : slice_range nodes start (start + n) ≡ front_class (class_hash (drop start nodes)) (drop start nodes)
  end-class =
      let e : start + n - start ≡ n = omega arith in
      ap (λ k. take k (drop start nodes)) e ∙ (λ i. take (len i) (sym is i)) ∙ take-class (class_hash rest) rest ∙ ap (λ ps. front_class (class_hash ps) ps) is

  pub end-behind : drop (start + n) nodes ≡ behind_class (class_hash (drop start nodes)) (drop start nodes)
  end-behind = sym (drop-drop n start nodes) ∙ (λ i. drop (len i) (sym is i)) ∙ drop-class (class_hash rest) rest ∙ ap (λ ps. behind_class (class_hash ps) ps) is

-- something is left behind a place before the end
pub some_behind : (nodes : List Pair) (start : ℕ) → start < length nodes → 0 < length (drop start nodes)
some_behind nodes start l = let b = length-drop start nodes in omega arith

-- the first node is in its class
pub class_len-first : (nodes : List Pair) (p : Pair) (m : ℕ) → 0 < length nodes → p ≡ get_or nodes 0 p → m ≡ prefix_len (λ q. bytes_eq q.0 p.0) (take (length nodes - 1) (drop 1 nodes))
    → 1 + m ≡ prefix_len (λ q. bytes_eq q.0 (class_hash nodes)) nodes
class_len-first [] p m l e f = absurd (omega arith)
class_len-first (q ∷ xs) p m l e f =
    let rest : m ≡ prefix_len (λ (r : Pair). bytes_eq r.0 q.0) xs = f ∙ (λ i. prefix_len (λ (r : Pair). bytes_eq r.0 (e i).0) (slice_from 1 (q ∷ xs) i)) in
    ap (λ k. 1 + k) rest ∙ ap (λ t. cond t (1 + prefix_len (λ (r : Pair). bytes_eq r.0 q.0) xs) 0) (sym ((bytes_eq-Decides q.0 q.0).1 refl))

pub class_len-most : (nodes : List Pair) (p : Pair) (m : ℕ) → 0 < length nodes → p ≡ get_or nodes 0 p → m ≡ prefix_len (λ q. bytes_eq q.0 p.0) (take (length nodes - 1) (drop 1 nodes))
    → 1 + m ≤ length nodes
class_len-most nodes p m l e f = let c = class_len-first nodes p m l e f in let b = prefix_len-le-length (λ (q : Pair). bytes_eq q.0 (class_hash nodes)) nodes in omega arith
