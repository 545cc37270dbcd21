-- Texts compare by the numbers of their first eight bytes, and by the texts where these are equal, as they do by the texts alone.
use Rattle.std.proofs.Common.{◌≡◌, ℕ, ◌<◌, [], Ordering, Less, Equal, Greater, nat_cmp, not, refl, sym, ap, ◌∙◌, true≢false, arith}
use Rattle.std.specs.Ordering.{ordering_then, is_gt, is_lt}
use Rattle.std.specs.Cmp.Lexicographic.{slice_cmp}
use Rattle.std.proofs.lemmas.Cmp.{ranked}
use Rattle.rdf_terms.proofs.Common.{Text, same_text, not_before-from_is_at_most}
use Rattle.canonical_writer.specs.KeyNumbers.{AreEightBytes, number_of}
use Rattle.canonical_writer.proofs.NumberOrder.{is_at_most-by_eight_bytes}

module _ (x y : Text) (m n : ℕ) (number_x : AreEightBytes [] x m) (number_y : AreEightBytes [] y n) where
  same_number : slice_cmp nat_cmp x y ≡ Equal → m ≡ n
  same_number e = number_x.is ∙ ap (number_of 8) (same_text x y e) ∙ sym number_y.is

  pub slice_cmp-by_number : ordering_then (nat_cmp m n) (slice_cmp nat_cmp x y) ≡ slice_cmp nat_cmp x y
  slice_cmp-by_number = by (nat_cmp m n) refl (slice_cmp nat_cmp x y) refl
    where
      by : (o : Ordering) → nat_cmp m n ≡ o → (p : Ordering) → slice_cmp nat_cmp x y ≡ p → ordering_then o p ≡ p
      by Equal e p f = refl
      by Less e Less f = refl
      by Less e Equal f = let l : m < n = ranked m n Less (sym e) in let s : m ≡ n = same_number f in absurd (omega arith)
      by Less e Greater f =
          let most = is_at_most-by_eight_bytes [] x y m n number_x number_y (ranked m n Less (sym e)) in
          absurd (true≢false (sym most ∙ ap (λ o. not (is_gt o)) f))
      by Greater e Less f =
          let most = is_at_most-by_eight_bytes [] y x n m number_y number_x (ranked m n Greater (sym e)) in
          absurd (true≢false (ap is_lt (sym f) ∙ not_before-from_is_at_most y x most))
      by Greater e Equal f = let l : n < m = ranked m n Greater (sym e) in let s : m ≡ n = same_number f in absurd (omega arith)
      by Greater e Greater f = refl
