-- Texts that agree in their first places, and the path while it is written.
use Rattle.std.proofs.Common.{◌+◌, Bool, List, Some, ap, arith, drop, le-leb, length, length-drop, sym, take, true, ℕ, ◌++◌, ◌-◌, ◌&&◌, ◌∙◌, ◌≡◌, ◌≤◌, append_assoc, take-append-drop}
use Rattle.std.proofs.lemmas.List.{take_all}
use Rattle.std.specs.Prelude.{nat_le}
use Rattle.std.proofs.Math.Seq.{take-add}
use Rattle.rdf_terms.proofs.Common.{is_before-front, Text, is_before}
use Rattle.canon_model.specs.CountedRun.{skips}
use Rattle.ndegree_hash.specs.Agreement.{Agree}
use Rattle.ndegree_hash.specs.PathChoice.{IsSameChoice, PathChoice, chosen_if}

-- ---- what stands behind places that agree decides

pub is_before-behind : (k : ℕ) (a b : Text) → Agree k a b → is_before (drop k b) (drop k a) ≡ is_before b a
is_before-behind k a b e =
    sym (is_before-front (take k b) (drop k b) (drop k a))
    ∙ ap (λ t. is_before t (take k b ++ drop k a)) (take-append-drop k b)
    ∙ ap (λ s. is_before b (s ++ drop k a)) (sym e.same)
    ∙ ap (is_before b) (take-append-drop k a)

-- the test of what stands behind them is that of the texts
pub past-behind : (k : ℕ) (path chosen : Text) (past : Bool) → Agree k path chosen → length chosen ≤ length path
    → past ≡ is_before (take (length chosen - k) (drop k chosen)) (take (length path - k) (drop k path)) → past ≡ skips (Some chosen) path
past-behind k path chosen past e long is =
    let whole : is_before (take (length chosen - k) (drop k chosen)) (take (length path - k) (drop k path)) ≡ is_before chosen path =
    ap (λ a. is_before a (take (length path - k) (drop k path))) (take_all (length chosen - k) (drop k chosen) (let l = length-drop k chosen in omega arith))
    ∙ ap (λ b. is_before (drop k chosen) b) (take_all (length path - k) (drop k path) (let l = length-drop k path in omega arith))
    ∙ is_before-behind k path chosen e in
    let fits : nat_le (length chosen) (length path) ≡ true = le-leb (length chosen) (length path) long in
    is ∙ whole ∙ ap (λ b. b && is_before chosen path) (sym fits)

-- ---- texts that agree further

take-split : (k n : ℕ) (a : List ℕ) → k ≤ n → take n a ≡ take k a ++ take (n - k) (drop k a)
take-split k n a h = ap (λ m. take m a) (let z : n ≡ k + (n - k) = omega arith in z) ∙ take-add k (n - k) a

pub agree-further : (k n : ℕ) (a b : Text) → Agree k a b → k ≤ n → n ≤ length a → n ≤ length b → take (n - k) (drop k a) ≡ take (n - k) (drop k b) → Agree n a b
agree-further k n a b e h la lb s = record {
  within_left = la;
  within_right = lb;
  same = take-split k n a h ∙ ap (λ l. l ++ take (n - k) (drop k a)) e.same ∙ ap (λ r. take k b ++ r) s ∙ sym (take-split k n b h);
}

-- ---- the path while it is written

-- behind this text the path goes on with that one, nothing else is chosen, and this says whether it is past what is chosen
pub record HasWritten (start : PathChoice) (before written : Text) (past : Bool) (now : PathChoice) : Type 0 where
  pub path : now.path ≡ before ++ written
  pub choice : IsSameChoice start now
  pub skips : skips (chosen_if start.has_choice start.chosen) now.path ≡ past

pub has_written : (start old mid new : PathChoice) (written : Text) (past : Bool) → IsSameChoice start old
    → mid ≡ record { path = old.path ++ written; has_choice = old.has_choice; chosen = old.chosen }
    → past ≡ skips (chosen_if mid.has_choice mid.chosen) mid.path → new ≡ mid → HasWritten start old.path written past new
has_written start old mid new written past same writes test unchanged =
    let all : new ≡ record { path = old.path ++ written; has_choice = old.has_choice; chosen = old.chosen } = unchanged ∙ writes in
    let has_choice : new.has_choice ≡ start.has_choice = ap (λ (p : PathChoice). p.has_choice) all ∙ same.has_choice in
    let chosen : new.chosen ≡ start.chosen = ap (λ (p : PathChoice). p.chosen) all ∙ same.chosen in
    record {
      path = ap (λ (p : PathChoice). p.path) all;
      choice = record { has_choice = has_choice; chosen = chosen };
      skips =
          ap (λ b. skips (chosen_if b start.chosen) new.path) (sym has_choice)
          ∙ ap (λ t. skips (chosen_if new.has_choice t) new.path) (sym chosen)
          ∙ ap (λ (p : PathChoice). skips (chosen_if p.has_choice p.chosen) p.path) unchanged
          ∙ sym test;
    }

-- a text was written
pub same_choice-written_first : (old new : PathChoice) (written : Text) → new ≡ record { path = old.path ++ written; has_choice = old.has_choice; chosen = old.chosen } → IsSameChoice old new
same_choice-written_first old new written e = record { has_choice = ap (λ (p : PathChoice). p.has_choice) e; chosen = ap (λ (p : PathChoice). p.chosen) e }

-- two texts were written
pub same_choice-written : (old mid new : PathChoice) (first second : Text) → mid ≡ record { path = old.path ++ first; has_choice = old.has_choice; chosen = old.chosen }
    → new ≡ record { path = mid.path ++ second; has_choice = mid.has_choice; chosen = mid.chosen } → IsSameChoice old new
same_choice-written old mid new first second e f = record {
  has_choice = ap (λ (p : PathChoice). p.has_choice) f ∙ ap (λ (p : PathChoice). p.has_choice) e;
  chosen = ap (λ (p : PathChoice). p.chosen) f ∙ ap (λ (p : PathChoice). p.chosen) e;
}

pub path-written : (old mid : PathChoice) (path first first' second : Text) → mid ≡ record { path = old.path ++ first; has_choice = old.has_choice; chosen = old.chosen } → first ≡ first'
    → path ≡ mid.path ++ second
    → path ≡ old.path ++ (first' ++ second)
path-written old mid path first first' second e same is =
    is ∙ ap (λ (p : PathChoice). p.path ++ second) e ∙ ap (λ t. (old.path ++ t) ++ second) same ∙ append_assoc old.path first' second
