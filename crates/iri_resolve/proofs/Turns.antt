-- The first segment of a path, the last of the output, and what a turn does by them.
use Rattle.std.proofs.Common.{◌≡◌, ◌≢◌, ℕ, zero, suc, ◌+◌, ◌-◌, ◌<◌, ◌≤◌, Bool, true, false, not, [], ◌∷◌, ◌++◌, length, take, drop, get_or, refl, sym, ap, ◌∙◌, arith, nat_eq, codes, inl, inr, ◌⊎◌, if◌then◌else◌, ◌==◌, length-drop, length-append}
use Rattle.std.specs.List.{suffix_len, position_or_len}
use Rattle.std.specs.Str.{bytes_eq}
use Rattle.std.proofs.lemmas.List.{take-append-drop}
use Rattle.std.proofs.lemmas.List.Sums.{suffix_len_is}
use Rattle.std.proofs.lemmas.Slice.Eq.{starts_is, bytes_eq-Decides}
use Rattle.std.proofs.lemmas.Bool.Decides.{Decides-eqb}
use Rattle.std.proofs.lemmas.Bool.{eq-eqb, ne_eqb, eqb-true, cond_both, false_from_ne_true}
use Rattle.rdf_terms.specs.Lists.{Text}
use Rattle.iri_resolve.specs.DotSegments.{first_segment_len, without_slash, without_last_segment, Buffers, turn, turns, without_dot_segments, begins}

-- ---- the last segment of the output

-- up to the place of the last `/`
pub last_place : (text : Text) (k : ℕ) → k < length text → get_or text k 0 ≡ 47 → ((i : ℕ) → k < i → i < length text → get_or text i 0 ≢ 47) → take k text ≡ without_last_segment text
last_place text k within at after =
    let same : k + 1 - 1 ≡ k = omega arith in
    let stops : not (nat_eq (get_or text (k + 1 - 1) 0) 47) ≡ false = rw same (ap not (eq-eqb (get_or text k 0) 47 at)) in
    let n : suffix_len (λ x. not (nat_eq x 47)) text ≡ length text - (k + 1) =
    suffix_len_is (λ x. not (nat_eq x 47)) text (k + 1) 0 (omega arith) (λ i l m. ap not (ne_eqb (get_or text i 0) 47 (after i (omega arith) m))) (λ _. stops) in
    let len : k ≡ length text - suffix_len (λ x. not (nat_eq x 47)) text - 1 = omega arith in
    ap (λ m. take m text) len

pub no_last_place : (text : Text) → ((i : ℕ) → i < length text → get_or text i 0 ≢ 47) → [] ≡ without_last_segment text
no_last_place text none =
    let n : suffix_len (λ x. not (nat_eq x 47)) text ≡ length text - 0 =
    suffix_len_is (λ x. not (nat_eq x 47)) text 0 0 (omega arith) (λ i l m. ap not (ne_eqb (get_or text i 0) 47 (none i m))) (λ l. absurd (omega arith)) in
    let len : 0 ≡ length text - suffix_len (λ x. not (nat_eq x 47)) text - 1 = omega arith in
    ap (λ m. take m text) len

-- ---- what follows the first segment

abbrev pub EmptyOrSlash : Text → Type 0
EmptyOrSlash after = (after ≡ []) ⊎ ((rest : Text) × (after ≡ 47 ∷ rest))

drop_to_slash : (c : ℕ) (cs : Text) → EmptyOrSlash (drop (position_or_len (λ b. nat_eq b 47) cs) cs) → (b : Bool) → nat_eq c 47 ≡ b
    → EmptyOrSlash (drop (position_or_len (λ b. nat_eq b 47) (c ∷ cs)) (c ∷ cs))
drop_to_slash c cs rest true e = inr (cs, rw (e, eqb-true c 47 e) refl)
drop_to_slash c cs rest false e =
    let n : 1 + position_or_len (λ b. nat_eq b 47) cs ≡ suc (position_or_len (λ b. nat_eq b 47) cs) = omega arith in rw (e, n) rest

pub at_slash : (text : Text) → EmptyOrSlash (drop (position_or_len (λ b. nat_eq b 47) text) text)
at_slash [] = inl refl
at_slash (c ∷ cs) = drop_to_slash c cs (at_slash cs) (nat_eq c 47) refl

after_segment : (input : Text) → EmptyOrSlash (drop (first_segment_len input) input)
after_segment [] = inl refl
after_segment (c ∷ cs) = let n : 1 + position_or_len (λ b. nat_eq b 47) cs ≡ suc (position_or_len (λ b. nat_eq b 47) cs) = omega arith in rw n (at_slash cs)

abbrev buffers : Text → Text → Buffers
buffers input output = record { input = input; output = output }

-- ---- a turn where the first segment is `.`, `..`, `/.` or `/..`

dot : (after output : Text) → EmptyOrSlash after → buffers (without_slash after) output ≡ turn (buffers (46 ∷ after) output)
unfolding turn
dot after output (inl e) = rw e refl
dot after output (inr (rest, e)) = rw e refl

dot_dot : (after output : Text) → EmptyOrSlash after → buffers (without_slash after) output ≡ turn (buffers (46 ∷ 46 ∷ after) output)
unfolding turn
dot_dot after output (inl e) = rw e refl
dot_dot after output (inr (rest, e)) = rw e refl

not_zero : (n : ℕ) → nat_eq (suc n) 0 ≡ false
not_zero n = ne_eqb (suc n) 0 (λ e. omega arith)

abbrev or_slash : Text → Text
or_slash after = if length after == 0 then codes "/" else after

slash_dot : (after output : Text) → EmptyOrSlash after → buffers (or_slash after) output ≡ turn (buffers (47 ∷ 46 ∷ after) output)
unfolding turn
slash_dot after output (inl e) = rw e refl
slash_dot after output (inr (rest, e)) = rw (e, not_zero (length rest)) refl

slash_dot_dot : (after output : Text) → EmptyOrSlash after → buffers (or_slash after) (without_last_segment output) ≡ turn (buffers (47 ∷ 46 ∷ 46 ∷ after) output)
unfolding turn
slash_dot_dot after output (inl e) = rw e refl
slash_dot_dot after output (inr (rest, e)) = rw (e, not_zero (length rest)) refl

module _ (input segment after output : Text) (s : segment ≡ take (first_segment_len input) input) (a : after ≡ drop (first_segment_len input) input) where
  whole : segment ++ after ≡ input
  whole = rw (s, a) (take-append-drop (first_segment_len input) input)

  ends : EmptyOrSlash after
  ends = rw a (after_segment input)

  pub turn_dot : (segment ≡ 46 ∷ []) ⊎ (segment ≡ 46 ∷ 46 ∷ []) → buffers (without_slash after) output ≡ turn (buffers input output)
  turn_dot (inl e) = dot after output ends ∙ ap (λ t. turn (buffers t output)) (ap (λ t. t ++ after) (sym e) ∙ whole)
  turn_dot (inr e) = dot_dot after output ends ∙ ap (λ t. turn (buffers t output)) (ap (λ t. t ++ after) (sym e) ∙ whole)

  pub turn_slash_dot : segment ≡ 47 ∷ 46 ∷ [] → buffers (or_slash after) output ≡ turn (buffers input output)
  turn_slash_dot e = slash_dot after output ends ∙ ap (λ t. turn (buffers t output)) (ap (λ t. t ++ after) (sym e) ∙ whole)

  pub turn_slash_dot_dot : segment ≡ 47 ∷ 46 ∷ 46 ∷ [] → buffers (or_slash after) (without_last_segment output) ≡ turn (buffers input output)
  turn_slash_dot_dot e = slash_dot_dot after output ends ∙ ap (λ t. turn (buffers t output)) (ap (λ t. t ++ after) (sym e) ∙ whole)

  -- ---- and where it is none of these

  abbrev front : Text → Text
  front text = take (first_segment_len text) text

  -- the input does not begin with a text whose first segment is another
  not_front : (text other : Text) → ((rest : Text) → front (text ++ rest) ≡ other) → segment ≢ other → begins input text ≡ false
  not_front text other front_is none =
      false_from_ne_true (begins input text)
      (λ t. none (s ∙ ap front ((starts_is Decides-eqb input text (begins input text) refl).0 t) ∙ front_is (drop (length text) input)))

  not_all : (text other : Text) → front text ≡ other → segment ≢ other → bytes_eq input text ≡ false
  not_all text other front_is none = false_from_ne_true (bytes_eq input text) (λ t. none (s ∙ ap front ((bytes_eq-Decides input text).0 t) ∙ front_is))

  pub turn_other : segment ≢ 46 ∷ [] → segment ≢ 46 ∷ 46 ∷ [] → segment ≢ 47 ∷ 46 ∷ [] → segment ≢ 47 ∷ 46 ∷ 46 ∷ [] → buffers after (output ++ segment) ≡ turn (buffers input output)
  unfolding turn
  turn_other one two three four =
      let t1 = not_front (codes "../") (46 ∷ 46 ∷ []) (λ rest. refl) two in
      let t2 = not_front (codes "./") (46 ∷ []) (λ rest. refl) one in
      let t3 = not_front (codes "/./") (47 ∷ 46 ∷ []) (λ rest. refl) three in
      let t4 = not_all (codes "/.") (47 ∷ 46 ∷ []) refl three in
      let t5 = not_front (codes "/../") (47 ∷ 46 ∷ 46 ∷ []) (λ rest. refl) four in
      let t6 = not_all (codes "/..") (47 ∷ 46 ∷ 46 ∷ []) refl four in
      let t7 = not_all (codes ".") (46 ∷ []) refl one in
      let t8 = not_all (codes "..") (46 ∷ 46 ∷ []) refl two in
      rw (t1, t2, t3, t4, t5, t6, t7, t8, s, a) refl

  -- ---- what is left of the input is shorter

  pub after-shorter : 0 < length input → length after < length input
  after-shorter some = rw a (drop-shorter input some)
    where
      drop-shorter : (text : Text) → 0 < length text → length (drop (first_segment_len text) text) < length text
      drop-shorter [] some = absurd (omega arith)
      drop-shorter (c ∷ cs) some = omega (arith, length-drop (first_segment_len (c ∷ cs)) (c ∷ cs))

  without_slash-le : (text : Text) → length (without_slash text) ≤ length text
  without_slash-le [] = omega arith
  without_slash-le (c ∷ cs) = cond_both (nat_eq c 47) cs (c ∷ cs) (λ t. length t ≤ suc (length cs)) (λ _. omega arith) (λ _. omega arith)

  pub without_slash-shorter : 0 < length input → length (without_slash after) < length input
  without_slash-shorter some = omega (arith, after-shorter some, without_slash-le after)

  pub or_slash-shorter : 1 < length segment → length (or_slash after) < length input
  or_slash-shorter two =
      let l : length segment + length after ≡ length input = sym (length-append segment after) ∙ ap length whole in
      cond_both (nat_eq (length after) 0) (codes "/") after (λ t. length t < length input) (λ _. omega arith) (λ _. omega arith)

-- ---- turns

-- one turn more, where there is input
pub turns-more : (n : ℕ) (b : Buffers) → 0 < length b.input → turns (suc n) b ≡ turns n (turn b)
turns-more n b some = rw (ne_eqb (length b.input) 0 (λ e. omega arith)) refl

-- none, where there is none
pub turns-done : (n : ℕ) (input output : Text) → length input ≡ 0 → (turns n (buffers input output)).output ≡ output
turns-done zero input output none = refl
turns-done (suc n) input output none = rw none refl

pub record LeadsTo (path input output : Text) : Type 0 where
  pub count : ℕ
  pub enough : length input ≤ count
  pub same : (turns count (buffers input output)).output ≡ without_dot_segments path

pub LeadsTo-start : (path : Text) → LeadsTo path path []
unfolding without_dot_segments
LeadsTo-start path = record { count = length path; enough = omega arith; same = refl }

pub LeadsTo-turn : (path input output next output' : Text) → 0 < length input → length next < length input → buffers next output' ≡ turn (buffers input output) → LeadsTo path input output
    → LeadsTo path next output'
LeadsTo-turn path input output next output' some shorter is h = by h.count h.enough h.same
  where
    by : (n : ℕ) → length input ≤ n → (turns n (buffers input output)).output ≡ without_dot_segments path → LeadsTo path next output'
    by zero enough same = absurd (omega arith)
    by (suc n) enough same = record {
      count = n;
      enough = omega arith;
      same = ap (λ b. (turns n b).output) is ∙ sym (ap (λ b. b.output) (turns-more n (buffers input output) some)) ∙ same;
    }

pub LeadsTo-end : (path input output : Text) → length input ≡ 0 → LeadsTo path input output → output ≡ without_dot_segments path
LeadsTo-end path input output none h = sym (turns-done h.count input output none) ∙ h.same
