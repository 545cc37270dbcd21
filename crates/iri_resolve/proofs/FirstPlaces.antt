-- Where a byte stands first in a text.
use Rattle.std.proofs.Common.{◌≡◌, ◌≢◌, ℕ, ◌<◌, ◌≤◌, false, length, get_or, sym, ◌∙◌, arith, nat_eq, MatchOption, Option, Some, None, unwrap_or}
use Rattle.std.specs.List.{position_or_len, list_any}
use Rattle.std.proofs.lemmas.List.Sums.{position_or_len_is, fails_before_first}
use Rattle.std.proofs.lemmas.List.Folds.{list_any_none}
use Rattle.std.proofs.lemmas.Bool.{eq-eqb, ne_eqb, false≢true}
use Rattle.std.specs.Str.{IsCharBoundary}
use Rattle.std.proofs.lemmas.Str.{IsCharBoundary-end}
use Rattle.rdf_terms.specs.Lists.{Text}

-- no byte is c where the first such place is the end
pub none_before_end : (c : ℕ) (text : Text) → position_or_len (λ b. nat_eq b c) text ≡ length text → list_any (λ b. nat_eq b c) text ≡ false
none_before_end c text e =
    list_any_none (λ b. nat_eq b c) text (λ k d l. fails_before_first (λ b. nat_eq b c) text k d (omega arith))

pub position_of : (c : ℕ) (text : Text) (r : Option ℕ) →
    MatchOption r ((i : ℕ) → i < length text → get_or text i 0 ≢ c) (λ k. (k < length text) × (get_or text k 0 ≡ c) × ((i : ℕ) → i < k → get_or text i 0 ≢ c)) →
    unwrap_or r (length text) ≡ position_or_len (λ b. nat_eq b c) text
position_of c text None h = sym (position_or_len_is (λ b. nat_eq b c) text (length text) 0 (omega arith) (λ k l. ne_eqb (get_or text k 0) c (h k l)) (λ l. absurd (omega arith)))
position_of c text (Some k) h = sym (position_or_len_is (λ b. nat_eq b c) text k 0 (omega (arith, h.0)) (λ i l. ne_eqb (get_or text i 0) c (h.2 i l)) (λ l. eq-eqb (get_or text k 0) c h.1))

-- that place may be cut at
pub boundary_of : (text : Text) (P : Type 0) (F : ℕ → ℕ → Type 0) (r : Option ℕ) →
    MatchOption r P (λ i. (j : ℕ) × F i j × (i ≤ j) × IsCharBoundary text i × IsCharBoundary text j) → IsCharBoundary text (unwrap_or r (length text))
boundary_of text P F None h = IsCharBoundary-end text
boundary_of text P F (Some i) h = h.3

-- a text that has a byte has no first place of it at the end
pub first_place-end : (c : ℕ) (text : Text) (k : ℕ) → k < length text → get_or text k 0 ≡ c → position_or_len (λ b. nat_eq b c) text ≡ length text → ⊥
first_place-end c text k within at e =
    false≢true (sym (fails_before_first (λ b. nat_eq b c) text k 0 (omega arith)) ∙ eq-eqb (get_or text k 0) c at)
