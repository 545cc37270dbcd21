-- What was issued stays in front.
use Rattle.std.proofs.Common.{Bool, List, [], ap, cond, false, inl, inr, refl, subst, suc, sym, true, ℕ, ◌++◌, ◌∙◌, ◌∷◌, ◌≡◌, length}
use Rattle.rdf_terms.proofs.Common.{AreDistinct-Permutes, In-Permutes, Permutes-sym, length-Permutes, AreDistinct, Dataset, In, Text}
use Rattle.canon_model.specs.Allowed.{HashPathResult, IssuesForHashes, issue_results}
use Rattle.canon_model.specs.CountedRun.{counted_hashes, counted_results}
use Rattle.canon_model.specs.Coverage.{BeginsWith}
use Rattle.canon_model.specs.Hashing.{Hashing}
use Rattle.canon_model.specs.Issuer.{is_issued, issue_each}
use Rattle.canon_model.proofs.IssuedLists.{issue_results-keeps}
use Rattle.canon_model.proofs.Issuers.{begins_refl, begins_trans}
use Rattle.canon_model.proofs.LocalSymmetry.{in_split}

pub issue_each-begins : (c ms : List ℕ) → BeginsWith c (issue_each c ms)
issue_each-begins c [] = begins_refl c
issue_each-begins c (m ∷ ms) =
    begins_trans c (cond (is_issued m c) c (c ++ m ∷ [])) (issue_each (cond (is_issued m c) c (c ++ m ∷ [])) ms)
    (by (is_issued m c)) (issue_each-begins (cond (is_issued m c) c (c ++ m ∷ [])) ms)
  where
    by : (t : Bool) → BeginsWith c (cond t c (c ++ m ∷ []))
    by true = begins_refl c
    by false = record { tail = m ∷ []; is = refl }

pub issue_results-begins : (c : List ℕ) (rs : List HashPathResult) → BeginsWith c (issue_results c rs)
issue_results-begins c [] = begins_refl c
issue_results-begins c (r ∷ rs) = begins_trans c (issue_each c r.issuer) (issue_results (issue_each c r.issuer) rs) (issue_each-begins c r.issuer) (issue_results-begins (issue_each c r.issuer) rs)

module _ (ρ : Hashing) (D : Dataset) where
  pub counted_hashes-begins : (hs : List Text) (c : List ℕ) → BeginsWith c (counted_hashes ρ D hs c).value
  counted_hashes-begins [] c = begins_refl c
  counted_hashes-begins (h ∷ hs) c =
      begins_trans c (issue_results c (counted_results ρ D c h)) (counted_hashes ρ D hs (issue_results c (counted_results ρ D c h))).value
      (issue_results-begins c (counted_results ρ D c h)) (counted_hashes-begins hs (issue_results c (counted_results ρ D c h)))

  -- some classes, and then the others
  pub counted_hashes-append : (hs gs : List Text) (c : List ℕ) → (counted_hashes ρ D (hs ++ gs) c).value ≡ (counted_hashes ρ D gs (counted_hashes ρ D hs c).value).value
  counted_hashes-append [] gs c = refl
  counted_hashes-append (h ∷ hs) gs c = counted_hashes-append hs gs (issue_results c (counted_results ρ D c h))

  pub issues_for_hashes-keeps : (hs : List Text) (c d : List ℕ) → IssuesForHashes ρ D hs c d → (x : ℕ) → is_issued x c ≡ true → is_issued x d ≡ true
  issues_for_hashes-keeps [] c d w x e = ap (is_issued x) w ∙ e
  issues_for_hashes-keeps (h ∷ hs) c d w x e = issues_for_hashes-keeps hs (issue_results c w.results) d w.following x (issue_results-keeps c w.results x e)

-- ---- lists with the same nodes

-- they are as long
pub same_length : (xs ys : List ℕ) → AreDistinct xs → AreDistinct ys → ((x : ℕ) → In x xs → In x ys) → ((x : ℕ) → In x ys → In x xs) → length xs ≡ length ys
same_length [] [] d f to from = refl
same_length [] (y ∷ ys) d f to from = absurd (from y (inl refl))
same_length (x ∷ xs) ys d f to from =
    let r = in_split x ys (to x (inl refl)) in
    let g : AreDistinct (x ∷ r.0) = AreDistinct-Permutes r.1 f in
    ap suc (same_length xs r.0 d.1 g.1
    (λ z h. elim (In-Permutes z r.1 (to z (inr h))) [ inl q ↦ absurd (d.0 (subst (λ w. In w xs) q h)) | inr q ↦ q ])
    (λ z h. elim (from z (In-Permutes z (Permutes-sym r.1) (inr h))) [ inl q ↦ absurd (g.0 (subst (λ w. In w r.0) q h)) | inr q ↦ q ]))
    ∙ sym (length-Permutes r.1)

-- and where both are fronts of one list, they are equal
pub same_front : (xs ys us vs : List ℕ) → xs ++ us ≡ ys ++ vs → AreDistinct xs → AreDistinct ys → ((x : ℕ) → In x xs → In x ys) → ((x : ℕ) → In x ys → In x xs) → xs ≡ ys
same_front [] [] us vs e d f to from = refl
same_front [] (y ∷ ys) us vs e d f to from = absurd (from y (inl refl))
same_front (x ∷ xs) [] us vs e d f to from = absurd (to x (inl refl))
same_front (x ∷ xs) (y ∷ ys) us vs e d f to from =
    λ i. head i ∷ same_front xs ys us vs tail d.1 f.1
    (λ z h. elim (to z (inr h)) [ inl q ↦ absurd (d.0 (subst (λ w. In w xs) (q ∙ sym head) h)) | inr q ↦ q ])
    (λ z h. elim (from z (inr h)) [ inl q ↦ absurd (f.0 (subst (λ w. In w ys) (q ∙ head) h)) | inr q ↦ q ]) i
  where
    head : x ≡ y
    head = cc

    tail : xs ++ us ≡ ys ++ vs
    tail = cc
