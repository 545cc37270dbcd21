-- White space at the front of a text: where it ends, and that a text may be cut there.
use Rattle.std.proofs.Common.{◌≡◌, ℕ, zero, suc, ◌+◌, ◌<◌, Bool, true, false, ◌||◌, [], ◌∷◌, ◌++◌, All, length, take, drop, get_or, refl, sym, ap, subst, ◌∙◌, arith, eqb, cond, length-take}
use Rattle.std.specs.List.{prefix_len}
use Rattle.std.specs.Str.{IsUtf8, IsCharBoundary}
use Rattle.std.proofs.lemmas.Bool.{eqb-true}
use Rattle.std.proofs.lemmas.Str.{IsCharBoundary-start, IsCharBoundary-after_ascii}
use Rattle.std.proofs.lemmas.List.{take-append-drop, get_or-take}
use Rattle.std.proofs.lemmas.List.Sums.{prefix_len_passes, prefix_len-le-length}
use Rattle.std.proofs.lemmas.List.Elements.{All-head, All-tail}
use Rattle.rdf_terms.specs.Lists.{Text}
use Rattle.nquads_reader.specs.Grammar.{is_space_or_tab, BeginsWithNoWhite, IsWhiteThen}

white_below : (c : ℕ) → is_space_or_tab c ≡ true → c < 128
white_below c h = by (eqb c 32) (eqb-true c 32) h
  where
    by : (b : Bool) → (b ≡ true → c ≡ 32) → (b || eqb c 9) ≡ true → c < 128
    by true space h' = omega (arith, space)
    by false space h' = omega (arith, eqb-true c 9 h')

-- a text may be cut behind white space
pub white_boundary : (text bytes : Text) (n : ℕ) → IsUtf8 text → bytes ≡ text → n ≡ prefix_len is_space_or_tab bytes → IsCharBoundary text n
white_boundary text bytes zero utf8 same is = IsCharBoundary-start text utf8
white_boundary text bytes (suc n) utf8 same is =
    let whole : suc n ≡ prefix_len is_space_or_tab text = is ∙ ap (prefix_len is_space_or_tab) same in
    let before : n < prefix_len is_space_or_tab text = omega arith in
    let within : n < length text = omega (arith, prefix_len-le-length is_space_or_tab text) in
    let next : n + 1 ≡ suc n = omega arith in
    subst (IsCharBoundary text) next (IsCharBoundary-after_ascii text n utf8 within (white_below (get_or text n 0) (prefix_len_passes is_space_or_tab text n 0 before)))

passes : (text : Text) (n : ℕ) → n ≡ prefix_len is_space_or_tab text → All (λ c. is_space_or_tab c ≡ true) (take n text)
passes text n is = λ k d l.
    let m : k < n = omega (arith, length-take {A = ℕ}) in
    let m' : k < prefix_len is_space_or_tab text = omega arith in
    rw (get_or-take n text k d m) (prefix_len_passes is_space_or_tab text k d m')

drop_more : (c n : ℕ) (cs : Text) → drop (1 + n) (c ∷ cs) ≡ drop n cs
drop_more c n cs = let e : 1 + n ≡ suc n = omega arith in ap (λ m. drop m (c ∷ cs)) e

-- the rest behind all white space begins with none
stops_at : (text : Text) → BeginsWithNoWhite (drop (prefix_len is_space_or_tab text) text)
stops_at [] = tt
stops_at (c ∷ cs) = by (stops_at cs) (is_space_or_tab c) refl
  where
    by : BeginsWithNoWhite (drop (prefix_len is_space_or_tab cs) cs) → (b : Bool) → is_space_or_tab c ≡ b → BeginsWithNoWhite (drop (cond b (1 + prefix_len is_space_or_tab cs) 0) (c ∷ cs))
    by rest true h = subst BeginsWithNoWhite (sym (drop_more c (prefix_len is_space_or_tab cs) cs)) rest
    by rest false h = h

abbrev skipped : Text → Text
skipped text = drop (prefix_len is_space_or_tab text) text

pub white_skipped : (text : Text) → IsWhiteThen text (skipped text)
white_skipped text = record {
  white = take (prefix_len is_space_or_tab text) text;
  spelled = sym (take-append-drop (prefix_len is_space_or_tab text) text);
  allowed = passes text (prefix_len is_space_or_tab text) refl;
  stops = stops_at text;
}

-- what is cut off behind the white space
pub white_cut : (text bytes rest : Text) (n : ℕ) → bytes ≡ text → n ≡ prefix_len is_space_or_tab bytes → rest ≡ drop n text → IsWhiteThen text rest
white_cut text bytes rest n same is cut =
    let all : n ≡ prefix_len is_space_or_tab text = is ∙ ap (prefix_len is_space_or_tab) same in
    subst (IsWhiteThen text) (sym (cut ∙ ap (λ m. drop m text) all)) (white_skipped text)

skip_front : (white rest : Text) → All (λ c. is_space_or_tab c ≡ true) white → BeginsWithNoWhite rest → skipped (white ++ rest) ≡ rest
skip_front [] [] all stops = refl
skip_front [] (c ∷ cs) all stops = rw stops refl
skip_front (d ∷ ds) rest all stops =
    rw (All-head (λ e. is_space_or_tab e ≡ true) d ds all)
    (drop_more d (prefix_len is_space_or_tab (ds ++ rest)) (ds ++ rest) ∙ skip_front ds rest (All-tail (λ e. is_space_or_tab e ≡ true) d ds all) stops)

skipped_is : (text rest : Text) → IsWhiteThen text rest → skipped text ≡ rest
skipped_is text rest w = ap skipped w.spelled ∙ skip_front w.white rest w.allowed w.stops

-- white space ends in one place
pub white_same : (text r s : Text) → IsWhiteThen text r → IsWhiteThen text s → r ≡ s
white_same text r s a b = sym (skipped_is text r a) ∙ skipped_is text s b
