-- From the first arrangement the steps to the next come to a last.
use Rattle.std.proofs.Common.{◌≡◌, ℕ, true, ◌⊎◌, List, [], ◌∷◌, inl, inr, refl, sym, subst}
use Rattle.rdf_terms.proofs.Common.{In, Permutes, permutes_trans, is_at_most, Permutes-refl, Permutes-sym, is_at_most-total, AreStrictlyAscending, arrangements, In-arrangements, from_In-arrangements, arrangements-ascending}
use Rattle.arrangements.specs.Arrangements.{IsFirst, IsNext, GoesThrough, at_last, goes_on, ComesToALast}
use Rattle.arrangements.proofs.Order.{Below, AtMost, Below-is_before, is_at_most-AtMost, AtMost-is_at_most, Below-at_most, Below-irreflexive}

-- xs and the lists behind it are all the arrangements of its bag from xs on
record AreTheRest (xs : List ℕ) (more : List (List ℕ)) : Type 0 where
  ascend : AreStrictlyAscending (xs ∷ more)
  permutes : (ys : List ℕ) → In ys more → Permutes xs ys
  all : (ys : List ℕ) → Permutes xs ys → AtMost xs ys → In ys (xs ∷ more)

at_least : (xs ys : List ℕ) (more : List (List ℕ)) → AreStrictlyAscending (xs ∷ more) → In ys (xs ∷ more) → AtMost xs ys
at_least xs ys more a (inl e) = inl (sym e)
at_least xs ys more a (inr h) = inr (Below-is_before xs ys (a.0 ys h))

behind : (xs ys : List ℕ) (more : List (List ℕ)) → Below xs ys → In ys (xs ∷ more) → In ys more
behind xs ys more b (inl e) = absurd (Below-irreflexive xs (subst (Below xs) e b))
behind xs ys more b (inr h) = h

goes : (xs : List ℕ) (more : List (List ℕ)) → AreTheRest xs more → GoesThrough xs (xs ∷ more)
goes xs [] r = at_last (λ ys p. by ys p (is_at_most-total xs ys))
  where
    by : (ys : List ℕ) → Permutes xs ys → (is_at_most xs ys ≡ true) ⊎ (is_at_most ys xs ≡ true) → is_at_most ys xs ≡ true
    by ys p (inr h) = h
    by ys p (inl h) = only (r.all ys p (AtMost-is_at_most xs ys h))
      where
        only : In ys (xs ∷ []) → is_at_most ys xs ≡ true
        only (inl e) = is_at_most-AtMost ys xs (inl e)
        only (inr n) = absurd n
goes xs (ys ∷ rest) r = goes_on next (goes ys rest later)
  where
    first_below : Below xs ys
    first_below = Below-is_before xs ys (r.ascend.0 ys (inl refl))

    next : IsNext xs ys
    next = record {
      permutes = r.permutes ys (inl refl);
      behind = r.ascend.0 ys (inl refl);
      least = λ zs p h. is_at_most-AtMost ys zs (at_least ys zs rest r.ascend.1 (behind xs zs (ys ∷ rest) (Below-is_before xs zs h) (r.all zs p (inr (Below-is_before xs zs h)))));
    }

    later : AreTheRest ys rest
    later = record {
      ascend = r.ascend.1;
      permutes = λ zs h. permutes_trans (Permutes-sym (r.permutes ys (inl refl))) (r.permutes zs (inr h));
      all = λ zs p h. let b = Below-at_most xs ys zs first_below h in behind xs zs (ys ∷ rest) b (r.all zs (permutes_trans (r.permutes ys (inl refl)) p) (inr b));
    }

pub comes_to_a_last : ComesToALast
comes_to_a_last bag = from (arrangements bag) refl
  where
    from : (all : List (List ℕ)) → arrangements bag ≡ all → (xs : List ℕ) × (all : List (List ℕ)) × IsFirst bag xs × GoesThrough xs all
    from [] e = absurd (subst (In bag) e (In-arrangements bag bag (Permutes-refl bag)))
    from (xs ∷ more) e = (xs, xs ∷ more, first, goes xs more rest)
      where
        ascend : AreStrictlyAscending (xs ∷ more)
        ascend = subst AreStrictlyAscending e (arrangements-ascending bag)

        one : (ys : List ℕ) → In ys (xs ∷ more) → Permutes bag ys
        one ys h = from_In-arrangements bag ys (subst (In ys) (sym e) h)

        there : (ys : List ℕ) → Permutes bag ys → In ys (xs ∷ more)
        there ys p = subst (In ys) e (In-arrangements bag ys p)

        first : IsFirst bag xs
        first = record { permutes = one xs (inl refl); least = λ ys p. is_at_most-AtMost xs ys (at_least xs ys more ascend (there ys p)) }

        rest : AreTheRest xs more
        rest = record {
          ascend = ascend;
          permutes = λ ys h. permutes_trans (Permutes-sym (one xs (inl refl))) (one ys (inr h));
          all = λ ys p h. there ys (permutes_trans (one xs (inl refl)) p);
        }
