-- Texts one after the other.
use Rattle.std.proofs.Common.{◌≡◌, ℕ, zero, suc, ◌+◌, ◌<◌, List, [], ◌∷◌, ◌++◌, map, length, take, get_or, refl, sym, ap, ◌∙◌, append_assoc, append-nil, arith}
use Rattle.std.proofs.lemmas.List.{map_more}
use Rattle.rdf_terms.specs.Lists.{Text, joined}

joined-one_more : (xs : List Text) (t : Text) → joined (xs ++ t ∷ []) ≡ joined xs ++ t
joined-one_more [] t = append-nil t
joined-one_more (x ∷ xs) t = ap (λ s. x ++ s) (joined-one_more xs t) ∙ sym (append_assoc x (joined xs) t)

pub joined-take_more : {X : Type 0} (f : X → Text) (xs : List X) (i : ℕ) (d : X) → i < length xs → joined (map f (take i xs)) ++ f (get_or xs i d) ≡ joined (map f (take (i + 1) xs))
joined-take_more f xs i d h = sym (ap joined (map_more f xs i d h) ∙ joined-one_more (map f (take i xs)) (f (get_or xs i d)))
