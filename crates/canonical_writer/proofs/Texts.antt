-- Texts that grow at their end, and texts one after the other.
use Rattle.std.proofs.Common.{◌≡◌, ℕ, ◌+◌, ◌<◌, ◌≤◌, List, [], ◌∷◌, ◌++◌, map, length, take, drop, get_or, min, refl, sym, ap, subst, ◌∙◌, append_assoc, append-nil, length-take, arith}
use Rattle.std.specs.Io.{StartsWith}
use Rattle.std.proofs.lemmas.List.{map_more, take-append-le, take-append-drop}
use Rattle.std.proofs.lemmas.List.Folds.{concat-append}
use Rattle.rdf_terms.specs.Lists.{Text, joined}

-- ---- what a text begins with

longer : (a b : List ℕ) → StartsWith b a → length a ≤ length b
longer a b h = let e : min (length a) (length b) ≡ length a = sym (length-take (length a) b) ∙ ap length h in omega arith

starts_append : (a b r : List ℕ) → StartsWith b a → StartsWith (b ++ r) a
starts_append a b r h = take-append-le (length a) b r (longer a b h) ∙ h

pub starts_through : (a b c : List ℕ) → StartsWith b a → StartsWith c b → StartsWith c a
starts_through a b c h k =
    let e : b ++ drop (length b) c ≡ c = ap (λ t. t ++ drop (length b) c) (sym k) ∙ take-append-drop (length b) c in
    subst (λ t. StartsWith t a) e (starts_append a b (drop (length b) c) h)

pub starts_past : (a b r c : List ℕ) → StartsWith b a → StartsWith c (b ++ r) → StartsWith c a
starts_past a b r c h k = starts_through a (b ++ r) c (starts_append a b r h) k

-- ---- one after the other

pub joined_more : {X : Type 0} (f : X → Text) (xs : List X) (i : ℕ) (d : X) (t : Text) → i < length xs → t ≡ joined (map f (take i xs)) → t ++ f (get_or xs i d) ≡ joined (map f (take (i + 1) xs))
joined_more f xs i d t h e =
    ap (λ s. s ++ f (get_or xs i d)) e
    ∙ sym (ap joined (map_more f xs i d h) ∙ (concat-append (map f (take i xs)) (f (get_or xs i d) ∷ []) ∙ ap (λ s. joined (map f (take i xs)) ++ s) (append-nil (f (get_or xs i d)))))

-- one more text behind what was there
pub joined_behind : {X : Type 0} (f : X → Text) (xs : List X) (i : ℕ) (d : X) (before t new : Text) → i < length xs → t ≡ before ++ joined (map f (take i xs)) → new ≡ t ++ f (get_or xs i d)
    → new ≡ before ++ joined (map f (take (i + 1) xs))
joined_behind f xs i d before t new h e n =
    n ∙ (ap (λ s. s ++ f (get_or xs i d)) e ∙ (append_assoc before (joined (map f (take i xs))) (f (get_or xs i d)) ∙ ap (λ s. before ++ s) (joined_more f xs i d _ h refl)))

pub map_behind : {X Y : Type 0} (f : X → Y) (xs : List X) (i : ℕ) (d : X) (before t new : List Y) → i < length xs → t ≡ before ++ map f (take i xs) → new ≡ t ++ f (get_or xs i d) ∷ []
    → new ≡ before ++ map f (take (i + 1) xs)
map_behind f xs i d before t new h e n =
    n ∙ (ap (λ s. s ++ f (get_or xs i d) ∷ []) e ∙ (append_assoc before (map f (take i xs)) (f (get_or xs i d) ∷ []) ∙ ap (λ s. before ++ s) (sym (map_more f xs i d h))))
