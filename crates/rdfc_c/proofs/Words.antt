-- Words that are ended by a byte 0 each are read one by one, in one way.
use Rattle.std.proofs.Common.{◌≡◌, ℕ, suc, ◌+◌, ◌<◌, Bool, true, false, true≢false, List, [], ◌∷◌, ◌++◌, length, take, get_or, inl, inr, refl, sym, ap, subst, ◌∙◌, cond, arith, flat_map, append_assoc, append-nil, ◌==◌, not, eqb-true}
use Rattle.std.specs.List.{before_first, after_first, position_or_len}
use Rattle.std.proofs.lemmas.List.Sums.{split_at_first, passes_at_first}
use Rattle.std.proofs.lemmas.Grind.{flat_map-append}
use Rattle.rdf_terms.proofs.Common.{Text, In, In-append, In-append_left, In-append_right}
use Rattle.rdfc_cli.proofs.OptionWords.{head_same, tail_same}
use Rattle.rdfc_c.specs.Blocks.{AreWords, ended}

abbrev pub AreWhole : List Text → Type 0
AreWhole words = (word : Text) → In word words → ¬ (In 0 word)

abbrev pub is_end : ℕ → Bool
is_end b = b == 0

-- the block is these words, and then the rest
pub record HasRest (block : Text) (words : List Text) (rest : Text) : Type 0 where
  pub spelled : block ≡ flat_map ended words ++ rest
  pub whole : AreWhole words

-- the words go on behind these with those of the rest
pub record IsRestOf (all words : List Text) (rest : Text) : Type 0 where
  pub tail : List Text
  pub all_is : all ≡ words ++ tail
  pub rest_is : rest ≡ flat_map ended tail
  pub whole : AreWhole tail

-- ---- the first end

one_more : (n : ℕ) → 1 + n ≡ suc n
one_more n = omega arith

bare_before : (s : Text) → ¬ (In 0 (before_first is_end s))
bare_before [] h = absurd h
bare_before (x ∷ xs) h = by (x == 0) refl (bare_before xs) h
  where
    by : (t : Bool) → (x == 0) ≡ t → ¬ (In 0 (before_first is_end xs)) → In 0 (take (cond (not t) (1 + position_or_len is_end xs) 0) (x ∷ xs)) → ⊥
    by true is more h = absurd h
    by false is more h =
        let there : In 0 (x ∷ take (position_or_len is_end xs) xs) = subst (λ k. In 0 (take k (x ∷ xs))) (one_more (position_or_len is_end xs)) h in
        elim there [ inl e ↦ true≢false (ap (λ y. y == 0) e ∙ is) | inr later ↦ more later ]

ends_within : (s : Text) → In 0 s → position_or_len is_end s < length s
ends_within [] h = absurd h
ends_within (x ∷ xs) h = by (x == 0) refl (ends_within xs) h
  where
    by : (t : Bool) → (x == 0) ≡ t → (In 0 xs → position_or_len is_end xs < length xs) → In 0 (x ∷ xs) → cond (not t) (1 + position_or_len is_end xs) 0 < length (x ∷ xs)
    by true is more h = omega arith
    by false is more (inl e) = absurd (true≢false (ap (λ y. y == 0) e ∙ is))
    by false is more (inr there) = omega (arith, more there)

first_word : (s : Text) → position_or_len is_end s < length s → s ≡ before_first is_end s ++ (0 ∷ after_first is_end s)
first_word s within =
    split_at_first is_end s 0 within
    ∙ ap (λ b. before_first is_end s ++ (b ∷ after_first is_end s)) (eqb-true (get_or s (position_or_len is_end s) 0) 0 (passes_at_first is_end s 0 within))

-- ---- words in one way

same_words : (a b x y : Text) → ¬ (In 0 a) → ¬ (In 0 b) → a ++ (0 ∷ x) ≡ b ++ (0 ∷ y) → (a ≡ b) × (x ≡ y)
same_words [] [] x y p q e = (refl, tail_same 0 0 x y e)
same_words [] (b ∷ bs) x y p q e = absurd (q (inl (head_same 0 b x (bs ++ (0 ∷ y)) e)))
same_words (a ∷ more) [] x y p q e = absurd (p (inl (sym (head_same a 0 (more ++ (0 ∷ x)) y e))))
same_words (a ∷ more) (b ∷ bs) x y p q e =
    let same : a ≡ b = head_same a b (more ++ (0 ∷ x)) (bs ++ (0 ∷ y)) e in
    let rest = same_words more bs x y (λ h. p (inr h)) (λ h. q (inr h)) (tail_same a b (more ++ (0 ∷ x)) (bs ++ (0 ∷ y)) e) in
    (cc (same, rest.0), rest.1)

ended_first : (w : Text) (rest : Text) → ended w ++ rest ≡ w ++ (0 ∷ rest)
ended_first w rest = append_assoc w (0 ∷ []) rest

-- the words of a text go on behind its first word
next_words : (rest : Text) (tail : List Text) → position_or_len is_end rest < length rest → rest ≡ flat_map ended tail → AreWhole tail
    → (more : List Text) × (tail ≡ before_first is_end rest ∷ more) × (after_first is_end rest ≡ flat_map ended more) × AreWhole more
next_words rest [] within e whole = absurd (omega (arith, within, ap length e))
next_words rest (w ∷ ws) within e whole =
    let s = same_words w (before_first is_end rest) (flat_map ended ws) (after_first is_end rest) (whole w (inl refl)) (bare_before rest)
    (sym (ended_first w (flat_map ended ws)) ∙ sym e ∙ first_word rest within) in
    (ws, ap (λ v. v ∷ ws) s.0, sym s.1, λ v h. whole v (inr h))

ends : (w : Text) (ws : List Text) → In 0 (flat_map ended (w ∷ ws))
ends w ws = In-append_left (ended w) (flat_map ended ws) 0 (In-append_right w (0 ∷ []) 0 (inl refl))

-- ---- what a loop over the words keeps

-- a text that is not empty and has no end is none of words
pub no_words : (all words : List Text) (rest : Text) → 0 < length rest → position_or_len is_end rest ≡ length rest → IsRestOf all words rest → ⊥
no_words all words rest some none r = by r.tail r.rest_is
  where
    by : (tail : List Text) → rest ≡ flat_map ended tail → ⊥
    by [] e = omega (arith, some, ap length e)
    by (w ∷ ws) e = omega (arith, none, ends_within rest (subst (In 0) (sym e) (ends w ws)))

pub no_more : (all words : List Text) (rest : Text) → length rest ≡ 0 → IsRestOf all words rest → all ≡ words
no_more all words rest none r = by r.tail r.rest_is r.all_is
  where
    by : (tail : List Text) → rest ≡ flat_map ended tail → all ≡ words ++ tail → all ≡ words
    by [] e is = is ∙ append-nil words
    by (w ∷ ws) e is = absurd (omega (arith, none, ends_within rest (subst (In 0) (sym e) (ends w ws))))

pub first_rest : (block : Text) → HasRest block [] block
first_rest block = record { spelled = refl; whole = λ word h. absurd h }

pub all_rest : (block : Text) (all : List Text) → AreWords block all → IsRestOf all [] block
all_rest block all w = record { tail = all; all_is = refl; rest_is = w.spelled; whole = w.whole }

pub pushed_rest : (block : Text) (words : List Text) (rest word more : Text) → HasRest block words rest
    → word ≡ before_first is_end rest → more ≡ after_first is_end rest → position_or_len is_end rest < length rest
    → HasRest block (words ++ word ∷ []) more
pushed_rest block words rest word more h is then within = rw (is, then) (record {
  spelled =
      h.spelled ∙ ap (λ r. flat_map ended words ++ r) (first_word rest within ∙ sym (ended_first first behind))
      ∙ sym (append_assoc (flat_map ended words) (ended first) behind)
      ∙ ap (λ f. f ++ behind) (sym (flat_map-append ended words (first ∷ []) ∙ ap (λ l. flat_map ended words ++ l) (append-nil (ended first))));
  whole = λ v there. elim (In-append words (first ∷ []) v there) [
    | inl early ↦ h.whole v early
    | inr last ↦ elim last [ inl e ↦ subst (λ w. ¬ (In 0 w)) (sym e) (bare_before rest) | inr never ↦ absurd never ]
  ];
})
  where
    first : Text
    first = before_first is_end rest

    behind : Text
    behind = after_first is_end rest

pub pushed_all : (all words : List Text) (rest word more : Text) → IsRestOf all words rest
    → word ≡ before_first is_end rest → more ≡ after_first is_end rest → position_or_len is_end rest < length rest
    → IsRestOf all (words ++ word ∷ []) more
pushed_all all words rest word more r is then within =
    let n = next_words rest r.tail within r.rest_is r.whole in
    record {
      tail = n.0;
      all_is = r.all_is ∙ ap (λ l. words ++ l) (n.1 ∙ ap (λ w. w ∷ n.0) (sym is)) ∙ sym (append_assoc words (word ∷ []) n.0);
      rest_is = then ∙ n.2;
      whole = n.3;
    }
