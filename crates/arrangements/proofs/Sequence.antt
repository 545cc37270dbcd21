-- The steps from one arrangement to the next, up to the last.
use Rattle.std.proofs.Common.{◌≡◌, ℕ, List, inl, inr, refl, sym, subst}
use Rattle.rdf_terms.proofs.Common.{In, Permutes, permutes_trans, Permutes-refl, Permutes-sym, AreStrictlyAscending}
use Rattle.arrangements.specs.Arrangements.{GoesThrough, at_last, goes_on, GoesThroughAll}
use Rattle.arrangements.proofs.Order.{AtMost, is_before-Below, Below-is_before, AtMost-is_at_most, Below-trans, Below-at_most, Below-irreflexive}

both_at_most : (xs ys : List ℕ) → AtMost xs ys → AtMost ys xs → ys ≡ xs
both_at_most xs ys (inl e) h = sym e
both_at_most xs ys (inr b) (inl e) = e
both_at_most xs ys (inr b) (inr g) = absurd (Below-irreflexive xs (Below-trans xs ys xs b g))

-- what one comes by is an arrangement of the same bag, and not before the first
come_by : {xs : List ℕ} {all : List (List ℕ)} → GoesThrough xs all → (ys : List ℕ) → In ys all → Permutes xs ys × AtMost xs ys
come_by (at_last {xs = xs} last) ys (inl e) = subst (λ w. Permutes xs w × AtMost xs w) (sym e) (Permutes-refl xs, inl refl)
come_by (at_last last) ys (inr h) = absurd h
come_by (goes_on {xs = xs} next more) ys (inl e) = subst (λ w. Permutes xs w × AtMost xs w) (sym e) (Permutes-refl xs, inl refl)
come_by (goes_on {xs = xs} {ys = zs} next more) ys (inr h) =
    let r = come_by more ys h in
    (permutes_trans next.permutes r.0, inr (Below-at_most xs zs ys (Below-is_before xs zs next.behind) r.1))

-- and one comes by each such arrangement
comes_by_each : {xs : List ℕ} {all : List (List ℕ)} → GoesThrough xs all → (ys : List ℕ) → Permutes xs ys → AtMost xs ys → In ys all
comes_by_each (at_last {xs = xs} last) ys p h = inl (both_at_most xs ys h (AtMost-is_at_most ys xs (last ys p)))
comes_by_each (goes_on {xs = xs} next more) ys p (inl e) = inl (sym e)
comes_by_each (goes_on {xs = xs} {ys = zs} next more) ys p (inr b) =
    inr (comes_by_each more ys (permutes_trans (Permutes-sym next.permutes) p) (AtMost-is_at_most zs ys (next.least ys p (is_before-Below xs ys b))))

ascends : {xs : List ℕ} {all : List (List ℕ)} → GoesThrough xs all → AreStrictlyAscending all
ascends (at_last last) = (λ ys h. absurd h, tt)
ascends (goes_on {xs = xs} {ys = zs} next more) =
    (λ ys h. is_before-Below xs ys (Below-at_most xs zs ys (Below-is_before xs zs next.behind) (come_by more ys h).1), ascends more)

pub goes_through_all : GoesThroughAll
goes_through_all bag xs all first steps = record {
  each = λ ys. (
    λ h. permutes_trans first.permutes (come_by steps ys h).0,
    λ p. comes_by_each steps ys (permutes_trans (Permutes-sym first.permutes) p) (AtMost-is_at_most xs ys (first.least ys p)),
  );
  ascend = ascends steps;
}
