-- The right list of a tie is what both lists begin with, and its tail.
use Rattle.std.proofs.Common.{List, ap, arith, drop, length, length-drop, subst, sym, take, ℕ, ◌++◌, ◌-◌, ◌∙◌, ◌≡◌, ◌≤◌}
use Rattle.std.proofs.lemmas.List.{length-take-le, take-append-drop, take-append-le, take_all}
use Rattle.rdf_terms.specs.Dataset.{Dataset}
use Rattle.canon_model.specs.Ties.{MayBeExchanged}
use Rattle.tie_witness.specs.Witness.{MayBeChecked, TailMayBeChecked, right_of}

module _ (D : Dataset) (c : List ℕ) (passed : ℕ) (left right : List ℕ) (w : MayBeChecked D c passed left right) where
  same_front : take passed right ≡ take passed left
  same_front =
      let i : List ℕ = take passed left in
      let rest : List ℕ = w.exchanged.right_tail in
      let long : length i ≡ passed = length-take-le passed left w.within_left in
      let within : passed ≤ length i = omega arith in
      ap (take passed) w.exchanged.right_is ∙ take-append-le passed i rest within ∙ take_all passed i (omega arith)

  -- the part of the right list that is at hand
  abbrev tail : List ℕ
  tail = take (length right - passed) (drop passed right)

  tail-is : tail ≡ drop passed right
  tail-is = take_all (length right - passed) (drop passed right) (let e = length-drop passed right in omega arith)

  pub right_of-tail : right_of passed left (take (length right - passed) (drop passed right)) ≡ right
  right_of-tail = ap (λ rest. take passed left ++ rest) tail-is ∙ ap (λ i. i ++ drop passed right) (sym same_front) ∙ take-append-drop passed right

  pub tail-may_be_checked : TailMayBeChecked D c passed left (take (length right - passed) (drop passed right))
  tail-may_be_checked = record { within = w.within_left; exchanged = subst (MayBeExchanged D c (take passed left) left) (sym right_of-tail) w.exchanged }
