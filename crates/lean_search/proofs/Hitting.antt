-- Whether some term is no image.
use Rattle.std.proofs.Common.{◌≡◌, ℕ, ◌==◌, ◌<◌, suc, Bool, true, false, not, List, [], ◌∷◌, length, get_or, refl, sym, ap, subst, inl, inr, arith}
use Rattle.std.specs.List.{list_all, list_any}
use Rattle.rdf_terms.specs.Lists.{In}
use Rattle.map_search.proofs.Telling.{all_images, each_image}
use Rattle.map_search.specs.Pattern.{misses_node}

pub missing_one : (nodes images : List ℕ) (x : ℕ) → In x nodes → (¬ (In x images)) → true ≡ misses_node nodes images
missing_one nodes images x i n = by (list_all (λ x. list_any (λ i. i == x) images) nodes) refl
  where
    by : (b : Bool) → list_all (λ x. list_any (λ i. i == x) images) nodes ≡ b → true ≡ not b
    by true e = absurd (n (each_image images nodes e x i))
    by false e = refl

pub missing_none : (nodes images : List ℕ) → ((x : ℕ) → In x nodes → In x images) → false ≡ misses_node nodes images
missing_none nodes images h = ap not (sym (all_images images nodes h))

pub by_places : (xs images : List ℕ) → ((k : ℕ) → k < length xs → In (get_or xs k 0) images) → (x : ℕ) → In x xs → In x images
by_places [] images h x i = absurd i
by_places (y ∷ ys) images h x (inl e) = subst (λ z. In z images) (sym e) (h 0 (omega arith))
by_places (y ∷ ys) images h x (inr i) = by_places ys images (λ k l. h (suc k) (omega arith)) x i
