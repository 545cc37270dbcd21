-- Where bytes are split behind their last line end, and what their last byte is.
use Rattle.std.proofs.Common.{◌≡◌, ℕ, zero, suc, ◌+◌, ◌-◌, ◌<◌, ◌≤◌, true, false, ◌==◌, [], ◌∷◌, ◌++◌, Some, length, take, drop, get_or, slice_get, sym, ap, subst, ◌∙◌, arith, add-one, length-drop}
use Rattle.std.proofs.lemmas.List.{get_or-drop, take-append-drop}
use Rattle.std.proofs.lemmas.List.Elements.{All-from_get_or}
use Rattle.std.proofs.lemmas.Bool.{false_from_ne_true}
use Rattle.rdf_terms.proofs.Common.{Text, rest_all}
use Rattle.nquads_reader.specs.Pieces.{is_line_end, IsEnded, ends_with_cr, IsCut}
use Rattle.nquads_reader.proofs.Cuts.{ends_with_cr-append}

-- ---- the last line end

ended_at : (bytes : Text) (n : ℕ) → n < length bytes → is_line_end (get_or bytes n 0) ≡ true → IsEnded (take (suc n) bytes)
ended_at [] n less h = absurd (omega arith)
ended_at (c ∷ cs) zero less h = h
ended_at (c ∷ []) (suc n) less h = absurd (omega arith)
ended_at (c ∷ (d ∷ ds)) (suc n) less h = ended_at (d ∷ ds) n (omega arith) h

pub cut_at : (bytes : Text) (n : ℕ) → n < length bytes → is_line_end (get_or bytes n 0) ≡ true → ((k : ℕ) → n + 1 ≤ k → k < length bytes → ¬ (is_line_end (get_or bytes k 0) ≡ true))
    → IsCut bytes (take (n + 1) bytes) (take (length bytes - (n + 1)) (drop (n + 1) bytes))
cut_at bytes n less here after =
    let behind : (k : ℕ) → k < length (drop (n + 1) bytes) → is_line_end (get_or (drop (n + 1) bytes) k 0) ≡ false =
    λ k within. subst (λ c. is_line_end c ≡ false) (sym (get_or-drop (n + 1) bytes k 0))
    (false_from_ne_true (is_line_end (get_or bytes (n + 1 + k) 0)) (after (n + 1 + k) (omega arith) (omega (arith, length-drop (n + 1) bytes)))) in
    subst (IsCut bytes (take (n + 1) bytes)) (sym (rest_all (n + 1) bytes)) (record {
      whole = sym (take-append-drop (n + 1) bytes);
      ends = subst (λ m. IsEnded (take m bytes)) (sym (add-one n)) (ended_at bytes n less here);
      no_end = All-from_get_or (λ c. is_line_end c ≡ false) (drop (n + 1) bytes) 0 behind;
    })

-- ---- the last byte

last_byte : (c : ℕ) (cs : Text) (x : ℕ) → slice_get (c ∷ cs) (length cs) ≡ Some x → (x == 13) ≡ ends_with_cr (c ∷ cs)
last_byte c [] x at = let same : c ≡ x = cc in ap (λ d. d == 13) (sym same)
last_byte c (d ∷ ds) x at = last_byte d ds x at

pub last_cr : (before piece : Text) (x : ℕ) → slice_get piece (length piece - 1) ≡ Some x → (x == 13) ≡ ends_with_cr (before ++ piece)
last_cr before [] x at = let e : slice_get [] 0 ≡ Some x = at in cc
last_cr before (c ∷ cs) x at =
    let place : length (c ∷ cs) - 1 ≡ length cs = omega arith in
    last_byte c cs x (ap (slice_get (c ∷ cs)) (sym place) ∙ at) ∙ sym (ends_with_cr-append before (c ∷ cs) (omega arith))
