-- The order of texts by their bytes is total.
use Rattle.std.proofs.Common.{◌≡◌, Bool, true, false, not, ◌⊎◌, inl, inr, refl, sym, ap, ◌∙◌, Ordering, Less, Equal, Greater, nat_cmp, is_lt, is_gt, [], ◌∷◌, ◌++◌}
use Rattle.std.specs.Ordering.{ordering_reverse, ordering_then, is_eq}
use Rattle.std.specs.Cmp.Lexicographic.{slice_cmp, nat_list_cmp_total, texts_ties, bytes_decides}
use Rattle.std.proofs.lemmas.Cmp.{upto, tied_itself, nat_cmp_total}
use Rattle.std.proofs.lemmas.Bool.{not-true, not_from_false}
use Rattle.rdf_terms.specs.Lists.{Text, is_before, is_at_most}

-- ---- from what one comparison says to what the comparison the other way round says

one_is_not_greater : (o p : Ordering) → o ≡ ordering_reverse p → (not (is_gt o) ≡ true) ⊎ (not (is_gt p) ≡ true)
one_is_not_greater Less p e = inl refl
one_is_not_greater Equal p e = inl refl
one_is_not_greater Greater Less e = inr refl
one_is_not_greater Greater Equal e = inr refl
one_is_not_greater Greater Greater e = cc

both_not_greater : (o p : Ordering) → o ≡ ordering_reverse p → not (is_gt o) ≡ true → not (is_gt p) ≡ true → o ≡ Equal
both_not_greater Equal p e h g = refl
both_not_greater Less Less e h g = cc
both_not_greater Less Equal e h g = cc
both_not_greater Less Greater e h g = cc
both_not_greater Greater p e h g = cc

less_is_not_greater : (o p : Ordering) → o ≡ ordering_reverse p → is_lt p ≡ not (not (is_gt o))
less_is_not_greater Less Greater e = refl
less_is_not_greater Equal Equal e = refl
less_is_not_greater Greater Less e = refl
less_is_not_greater Less Less e = cc
less_is_not_greater Less Equal e = cc
less_is_not_greater Equal Less e = cc
less_is_not_greater Equal Greater e = cc
less_is_not_greater Greater Equal e = cc
less_is_not_greater Greater Greater e = cc

not_not : (b c : Bool) → b ≡ not c → c ≡ not b
not_not true true e = cc
not_not true false e = refl
not_not false true e = refl
not_not false false e = cc

-- ---- at most

pub is_at_most-total : (a b : Text) → (is_at_most a b ≡ true) ⊎ (is_at_most b a ≡ true)
is_at_most-total a b = one_is_not_greater (slice_cmp nat_cmp a b) (slice_cmp nat_cmp b a) (nat_list_cmp_total.antisymm a b)

pub same_text : (a b : Text) → slice_cmp nat_cmp a b ≡ Equal → a ≡ b
same_text a b e = (bytes_decides a b).0 (texts_ties a b ∙ ap is_eq e)

pub is_at_most-antisymm : (a b : Text) → is_at_most a b ≡ true → is_at_most b a ≡ true → a ≡ b
is_at_most-antisymm a b h g = same_text a b (both_not_greater (slice_cmp nat_cmp a b) (slice_cmp nat_cmp b a) (nat_list_cmp_total.antisymm a b) h g)

pub is_at_most-trans : (a b c : Text) → is_at_most a b ≡ true → is_at_most b c ≡ true → is_at_most a c ≡ true
is_at_most-trans a b c h g = not_from_false _ (upto nat_list_cmp_total a b c (not-true _ h) (not-true _ g))

pub is_at_most-refl : (a : Text) → is_at_most a a ≡ true
is_at_most-refl a = ap (λ o. not (is_gt o)) (tied_itself nat_list_cmp_total a)

pub is_at_most-other : (a b : Text) → is_at_most a b ≡ false → is_at_most b a ≡ true
is_at_most-other a b h = by (is_at_most-total a b)
  where
    by : (is_at_most a b ≡ true) ⊎ (is_at_most b a ≡ true) → is_at_most b a ≡ true
    by (inl e) = cc
    by (inr e) = e

-- ---- before

-- one text is before another exactly where the other is not at most it
pub is_before-is_at_most : (a b : Text) → is_before a b ≡ not (is_at_most b a)
is_before-is_at_most a b = less_is_not_greater (slice_cmp nat_cmp b a) (slice_cmp nat_cmp a b) (nat_list_cmp_total.antisymm b a)

pub is_at_most-is_before : (a b : Text) → is_at_most a b ≡ not (is_before b a)
is_at_most-is_before a b = not_not (is_before b a) (is_at_most a b) (is_before-is_at_most b a)

pub is_at_most-from_not_before : (a b : Text) → is_before b a ≡ false → is_at_most a b ≡ true
is_at_most-from_not_before a b h = is_at_most-is_before a b ∙ ap not h

pub not_before-from_is_at_most : (a b : Text) → is_at_most a b ≡ true → is_before b a ≡ false
not_before-from_is_at_most a b h = is_before-is_at_most b a ∙ ap not h

is_less : (o : Ordering) → is_lt o ≡ true → o ≡ Less
is_less Less h = refl
is_less Equal h = cc
is_less Greater h = cc

pub is_before-trans : (a b c : Text) → is_before a b ≡ true → is_before b c ≡ true → is_before a c ≡ true
is_before-trans a b c h g = ap is_lt (nat_list_cmp_total.trans a b c (is_less _ h) (is_less _ g))

pub is_before-irrefl : (a : Text) → is_before a a ≡ false
is_before-irrefl a = ap is_lt (tied_itself nat_list_cmp_total a)

pub is_before-asym : (a b : Text) → is_before a b ≡ true → is_before b a ≡ false
is_before-asym a b h = by (is_before b a) refl
  where
    by : (t : Bool) → is_before b a ≡ t → t ≡ false
    by true e = sym (is_before-trans a b a h e) ∙ is_before-irrefl a
    by false e = refl

-- neither is before the other: they are one
pub same_from_neither_before : (a b : Text) → is_before a b ≡ false → is_before b a ≡ false → a ≡ b
same_from_neither_before a b h g = is_at_most-antisymm a b (is_at_most-from_not_before a b g) (is_at_most-from_not_before b a h)

-- c is not before b, and b not before a: c is not before a
pub not_before-trans : (a b c : Text) → is_before b a ≡ false → is_before c b ≡ false → is_before c a ≡ false
not_before-trans a b c h g = not_before-from_is_at_most a c (is_at_most-trans a b c (is_at_most-from_not_before a b h) (is_at_most-from_not_before b c g))

-- what stands behind one front decides
pub is_before-front : (front a b : Text) → is_before (front ++ a) (front ++ b) ≡ is_before a b
is_before-front [] a b = refl
is_before-front (x ∷ front) a b = ap (λ o. is_lt (ordering_then o (slice_cmp nat_cmp (front ++ a) (front ++ b)))) (tied_itself nat_cmp_total x) ∙ is_before-front front a b
