-- What a binary search for a quad finds.
use Rattle.std.proofs.Common.{◌≡◌, ℕ, ◌↔◌, Bool, List, length, Option, Some, None, Result, is_ok, refl, sym, ap, IsTrue}
use Rattle.std.specs.Option.{option_cmp}
use Rattle.std.specs.Ordering.{nat_cmp, ordering_then}
use Rattle.std.specs.declared.cmp.Ordering.{Ordering}
use Rattle.std.specs.declared.cmp.Ordering.TheVariants.{Less, Equal, Greater}
use Rattle.std.specs.Cmp.{IsTotalOrder}
use Rattle.std.specs.List.Sorted.{IsSearchInRange, IsBinarySearchResult}
use Rattle.std.specs.Cmp.Lexicographic.{options_total}
use Rattle.std.proofs.lemmas.Cmp.{nat_cmp_total, then_total, on_total, ranked}
use Rattle.rdf_terms.specs.Lists.{In}
use Rattle.rdf_terms.specs.declared.term.Quad.{Quad}
use Rattle.dataset_index.specs.QuadOrder.{quad_cmp, Ascend}
use Rattle.rdf_terms.proofs.Searching.{found_in}

-- quads by number stand in a total order
pub total : IsTotalOrder quad_cmp
total =
    then_total (on_total (λ (q : Quad). q.s) nat_cmp_total) (then_total (on_total (λ (q : Quad). q.p) nat_cmp_total)
    (then_total (on_total (λ (q : Quad). q.o) nat_cmp_total) (on_total (λ (q : Quad). q.g) (options_total nat_cmp_total))))

then_equal : (a b : Ordering) → ordering_then a b ≡ Equal → (a ≡ Equal) × (b ≡ Equal)
then_equal Less b h = (h, cc)
then_equal Equal b h = (refl, h)
then_equal Greater b h = (h, cc)

same_name : (a b : Option ℕ) → option_cmp nat_cmp a b ≡ Equal → a ≡ b
same_name None None h = refl
same_name None (Some n) h = cc
same_name (Some m) None h = cc
same_name (Some m) (Some n) h = ap Some (ranked m n Equal (sym h))

same_quad : (a b : Quad) → quad_cmp a b ≡ Equal → a ≡ b
same_quad a b h =
    let x = then_equal (nat_cmp a.s b.s) (ordering_then (nat_cmp a.p b.p) (ordering_then (nat_cmp a.o b.o) (option_cmp nat_cmp a.g b.g))) h in
    let y = then_equal (nat_cmp a.p b.p) (ordering_then (nat_cmp a.o b.o) (option_cmp nat_cmp a.g b.g)) x.1 in
    let z = then_equal (nat_cmp a.o b.o) (option_cmp nat_cmp a.g b.g) y.1 in
    let s : a.s ≡ b.s = ranked a.s b.s Equal (sym x.0) in
    let p : a.p ≡ b.p = ranked a.p b.p Equal (sym y.0) in
    let o : a.o ≡ b.o = ranked a.o b.o Equal (sym z.0) in
    let g : a.g ≡ b.g = same_name a.g b.g z.1 in
    λ i. record { s = s i; p = p i; o = o i; g = g i }

pub found : (xs : List Quad) (x : Quad) (r : Result ℕ ℕ) → Ascend xs → IsSearchInRange r (length xs) → IsBinarySearchResult (λ y. quad_cmp y x) xs r
    → (b : Bool) → b ≡ is_ok r → IsTrue b ↔ In x xs
found = found_in total same_quad
