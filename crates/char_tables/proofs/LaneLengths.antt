-- How many bytes at the front pass a test, counted by blocks.
use Rattle.std.proofs.Common.{◌≡◌, ℕ, zero, suc, ◌+◌, ◌%◌, ◌^◌, ◌<◌, ◌≤◌, Bool, true, false, not, List, [], ◌∷◌, ◌++◌, All, map, length, take, drop, replicate, get_or, Fits, w8, refl, sym, ap, ap₂, ◌∙◌, arith}
use Rattle.std.proofs.lemmas.Bool.{agree_below, agree_below_at}
use Rattle.std.proofs.lemmas.Simd.{map-map, mask_l-mod, length-chunk, get_or-chunk, first_set_mask_l, zip2_splat}
use Rattle.std.proofs.lemmas.List.{length-map}
use Rattle.std.specs.List.{prefix_len}
use lib.Lanes.{chunk, zip2, mask_l, top}
use Rattle.char_tables.specs.Lanes.{first_set}

zip2-map : (h : ℕ → ℕ → ℕ) (f g : ℕ → ℕ) (xs : List ℕ) → zip2 h (map f xs) (map g xs) ≡ map (λ x. h (f x) (g x)) xs
zip2-map h f g [] = refl
zip2-map h f g (x ∷ xs) = ap (λ r. h (f x) (g x) ∷ r) (zip2-map h f g xs)

-- an operation on two vectors that were computed lane by lane from v
pub zip2-lanes : (h : ℕ → ℕ → ℕ) (f g : ℕ → ℕ) (v : List ℕ) {a b : List ℕ} → a ≡ map f v → b ≡ map g v → zip2 h a b ≡ map (λ x. h (f x) (g x)) v
zip2-lanes h f g v p q = ap₂ (zip2 h) p q ∙ zip2-map h f g v

-- an operation on such a vector and the same number in each lane
pub zip2-splat : (h : ℕ → ℕ → ℕ) (f : ℕ → ℕ) (v : List ℕ) (n y : ℕ) {a : List ℕ} → a ≡ map f v → length v ≡ n → zip2 h a (replicate n y) ≡ map (λ x. h (f x) y) v
zip2-splat h f v n y lanes long = ap (λ l. zip2 h l (replicate n y)) lanes ∙ zip2_splat h (map f v) n y (length-map v f ∙ long) ∙ map-map (λ x. h x y) f v

prefix_len-agree : (p q : ℕ → Bool) (xs : List ℕ) → ((k : ℕ) → k < length xs → p (get_or xs k 0) ≡ q (get_or xs k 0)) → prefix_len p xs ≡ prefix_len q xs
prefix_len-agree p q [] same = refl
prefix_len-agree p q (x ∷ xs) same =
    rw (same 0 (omega arith), prefix_len-agree p q xs (λ k below. same (suc k) (omega (arith, below)))) refl

-- where a lane stops just where q fails, the lowest bit that is set counts the bytes that pass q
pub first_set-prefix_len : (q : ℕ → Bool) (bytes : List ℕ) (at n : ℕ) → at + n ≤ length bytes → n ≤ 64 → ((k : ℕ) → Fits w8 (get_or bytes k 0))
    → (f : ℕ → ℕ) {z : List ℕ} → z ≡ map f (chunk at n bytes) → agree_below (λ x. not (top 7 (f x))) q 256 ≡ true
    → first_set (mask_l (map (top 7) z) % 2 ^ 64) n ≡ prefix_len q (chunk at n bytes)
first_set-prefix_len q bytes at n room few fits f lanes agree =
    let v = chunk at n bytes in
    let stops : ℕ → Bool = λ x. top 7 (f x) in
    let long : length v ≡ n = length-chunk at n bytes room in
    ap (λ m. first_set m n) (ap (λ l. mask_l l % 2 ^ 64) (ap (map (top 7)) lanes ∙ map-map (top 7) f v) ∙ mask_l-mod (map stops v) 64 (omega (arith, length-map v stops, long)))
    ∙ first_set_mask_l stops v n long few
    ∙ prefix_len-agree (λ x. not (stops x)) q v (λ k below.
    ap (λ x. not (stops x)) (get_or-chunk at n bytes k 0 (omega (arith, long, below)))
    ∙ agree_below_at (λ x. not (stops x)) q 256 (get_or bytes (at + k) 0) agree (fits (at + k)).fits
    ∙ sym (ap q (get_or-chunk at n bytes k 0 (omega (arith, long, below)))))

-- all of the first list pass
pub prefix_len-append : (p : ℕ → Bool) (xs ys : List ℕ) → All (λ c. p c ≡ true) xs → prefix_len p (xs ++ ys) ≡ length xs + prefix_len p ys
prefix_len-append p [] ys all = omega arith
prefix_len-append p (x ∷ xs) ys all =
    rw (all 0 0 (omega arith)) (let rest = prefix_len-append p xs ys (λ k d l. all (suc k) d (omega arith)) in omega arith)

-- the first n all pass
pub prefix_len-take_all : (p : ℕ → Bool) (n : ℕ) (xs : List ℕ) → n ≤ length xs → prefix_len p (take n xs) ≡ n → prefix_len p xs ≡ n + prefix_len p (drop n xs)
prefix_len-take_all p zero xs fits all = omega arith
prefix_len-take_all p (suc n) [] fits all = absurd (omega (arith, fits))
prefix_len-take_all p (suc n) (x ∷ xs) fits all = by (p x) refl (prefix_len-take_all p n xs (omega (arith, fits)))
  where
    by : (b : Bool) → p x ≡ b → (prefix_len p (take n xs) ≡ n → prefix_len p xs ≡ n + prefix_len p (drop n xs)) → prefix_len p (x ∷ xs) ≡ suc n + prefix_len p (drop n xs)
    by true e more = rw e (omega (arith, more (omega (arith, rw e at all))))
    by false e more = absurd (omega (arith, rw e at all))

-- one of the first n fails
pub prefix_len-take_some : (p : ℕ → Bool) (n : ℕ) (xs : List ℕ) → prefix_len p (take n xs) < n → n ≤ length xs → prefix_len p xs ≡ prefix_len p (take n xs)
prefix_len-take_some p zero xs less fits = absurd (omega (arith, less))
prefix_len-take_some p (suc n) [] less fits = absurd (omega (arith, fits))
prefix_len-take_some p (suc n) (x ∷ xs) less fits = by (p x) refl (λ fewer. prefix_len-take_some p n xs fewer (omega (arith, fits)))
  where
    by : (b : Bool) → p x ≡ b → (prefix_len p (take n xs) < n → prefix_len p xs ≡ prefix_len p (take n xs)) → prefix_len p (x ∷ xs) ≡ prefix_len p (x ∷ take n xs)
    by true e more = rw e (omega (arith, more (omega (arith, rw e at less))))
    by false e more = rw e refl
