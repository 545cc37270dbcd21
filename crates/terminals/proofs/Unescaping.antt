-- How the value of spelled characters is written.
use Rattle.std.proofs.Common.{◌≡◌, ℕ, ◌-◌, false, List, [], ◌∷◌, ◌++◌, length, drop, refl, sym, ap, subst, ◌∙◌, inl, inr, Result, Ok, Err, OnErr}
use Rattle.std.specs.Prelude.{encode_utf8, encode_utf8_all, slice_range}
use Rattle.std.specs.List.{prefix_len}
use Rattle.std.specs.Str.{IsUtf8}
use Rattle.std.proofs.lemmas.List.{append_assoc, append-nil, append_cancel_left}
use Rattle.std.proofs.lemmas.Str.{encodes-append, encodes_same}
use Rattle.terminals.specs.declared.bodies.Body.{Body}
use Rattle.terminals.specs.Escapes.{BeginsWithOne, BeginsWithNoOne}
use Rattle.terminals.specs.Spellings.{stands_for_itself, IsEscape, SpellsOne, Spells, TextSpells, IsFrontOf}
use Rattle.terminals.proofs.Unique.{same_one, spells-append, spells_escape, escape_front}
use Rattle.terminals.proofs.Running.{Ran, ran_start, ran_front, escape_behind, ran_ends}

-- no character is spelled by nothing
pub one_is_some : (body : Body) (spelled more : List ℕ) (c : ℕ) → SpellsOne body spelled c → [] ≡ spelled ++ more → ⊥
one_is_some body spelled more c (inl (x, p, s)) e = let whole : [] ≡ c ∷ more = e ∙ ap (λ f. f ++ more) x in cc
one_is_some body spelled more c (inr escape) e =
    let front = escape_front body spelled c escape in
    let whole : [] ≡ 92 ∷ (front.0 ++ more) = e ∙ ap (λ f. f ++ more) front.1 in
    cc

-- what a front spells, the value begins with
pub spells_behind : (body : Body) (front value xs ys zs : List ℕ) → zs ≡ xs ++ ys → Spells body xs front → Spells body zs value
    → (more : List ℕ) × (value ≡ front ++ more) × Spells body ys more
spells_behind body [] value xs ys zs e x z = (value, refl, subst (λ s. Spells body s value) (e ∙ ap (λ s. s ++ ys) x) z)
spells_behind body (c ∷ front) [] xs ys zs e (f, m, p, one, ones) z =
    absurd (one_is_some body f (m ++ ys) c one (sym z ∙ e ∙ ap (λ s. s ++ ys) p ∙ append_assoc f m ys))
spells_behind body (c ∷ front) (d ∷ ds) xs ys zs e (f, m, p, one, ones) (g, n, q, two, twos) =
    let whole : f ++ (m ++ ys) ≡ g ++ n = sym (append_assoc f m ys) ∙ sym (ap (λ s. s ++ ys) p) ∙ sym e ∙ q in
    let same = same_one body f g (m ++ ys) n c d whole one two in
    let behind : n ≡ m ++ ys = sym (append_cancel_left g (m ++ ys) n (sym (ap (λ s. s ++ (m ++ ys)) same.0) ∙ whole)) in
    let rest = spells_behind body front ds m ys n behind ones twos in
    (rest.0, (λ i. sym same.1 i ∷ rest.1 i), rest.2)

-- for each value that is read from the whole, what is written is its front, and what is left is read from the rest
abbrev pub Left : (List ℕ → List ℕ → Type 0) → List ℕ → List ℕ → List ℕ → Type 0
Left reads whole rest written = (value : List ℕ) → reads whole value → (left : List ℕ) × (value ≡ written ++ left) × reads rest left

-- after an error in mid-way
pub left_err : {T E : Type 0} (r : Result T E) (reads : List ℕ → List ℕ → Type 0) (whole rest written now : List ℕ) → now ≡ written → Left reads whole rest written
    → (value : List ℕ) → reads whole value → OnErr r (IsFrontOf now value)
left_err (Ok t) reads whole rest written now same left value is = tt
left_err (Err e) reads whole rest written now same left value is = let before = left value is in (before.0, before.1 ∙ ap (λ w. w ++ before.0) (sym same))

-- ---- a run without escapes, and what is written of it

module _ (body : Body) (whole rest stop written front : List ℕ) (utf8 : IsUtf8 rest) (cut : stop ≡ drop (prefix_len (stands_for_itself body) rest) rest)
    (is : front ≡ slice_range rest 0 (length rest - length stop)) (left : Left (TextSpells body) whole rest written) where
  ran : Ran body rest stop false
  ran = ran_start body rest stop utf8 cut

  front_is : front ≡ encode_utf8_all ran.value
  front_is = is ∙ ran_front body rest stop false ran ∙ ap encode_utf8_all (ran.plain refl)

  characters_are : (value : List ℕ) (text : TextSpells body rest value) → text.spelled_characters ≡ ran.spelled ++ ran.behind
  characters_are value text =
      encodes_same _ _ (sym text.spelled_is ∙ ran.text_is ∙ ap (λ r. encode_utf8_all ran.spelled ++ r) ran.rest_is ∙ sym (encodes-append ran.spelled ran.behind))

  pub left_step : (after next : List ℕ) (c : ℕ) → BeginsWithOne (IsEscape body) stop c after → next ≡ (written ++ front) ++ encode_utf8 c → Left (TextSpells body) whole after next
  left_step after next c one now value spells =
      let before = left value spells in
      let text = before.2 in
      let back = escape_behind body rest stop after c false ran one in
      let split : text.spelled_characters ≡ (ran.spelled ++ one.spelled) ++ back.0 =
      characters_are before.0 text ∙ ap (λ r. ran.spelled ++ r) back.1 ∙ sym (append_assoc ran.spelled one.spelled back.0) in
      let more = spells_behind body (ran.value ++ c ∷ []) text.value_characters (ran.spelled ++ one.spelled) back.0 text.spelled_characters split
      (spells-append body ran.value (c ∷ []) ran.spelled one.spelled ran.spells (spells_escape body one.spelled c one.fits)) text.spells in
      let value_front : front ++ encode_utf8 c ≡ encode_utf8_all (ran.value ++ c ∷ []) =
      (λ i. front_is i ++ sym (append-nil (encode_utf8 c)) i) ∙ sym (encodes-append ran.value (c ∷ [])) in (
        encode_utf8_all more.0,
        before.1 ∙ ap (λ r. written ++ r) (text.value_is ∙ ap encode_utf8_all more.1 ∙ encodes-append (ran.value ++ c ∷ []) more.0 ∙ ap (λ f. f ++ encode_utf8_all more.0) (sym value_front))
            ∙ sym (append_assoc written (front ++ encode_utf8 c) (encode_utf8_all more.0))
            ∙ ap (λ f. f ++ encode_utf8_all more.0) (sym (append_assoc written front (encode_utf8 c)) ∙ sym now),
        record { spelled_characters = back.0; value_characters = more.0; spelled_is = sym back.2; value_is = refl; spells = more.2 },
      )

  -- where no escape follows the run, its characters are all that is left
  pub left_end : (next : List ℕ) → BeginsWithNoOne (IsEscape body) stop → next ≡ written ++ front → (value : List ℕ) → TextSpells body whole value → next ≡ value
  left_end next none now value spells =
      let before = left value spells in
      let text = before.2 in
      let more = spells_behind body ran.value text.value_characters ran.spelled ran.behind text.spelled_characters (characters_are before.0 text) ran.spells text.spells in
      let value_is : before.0 ≡ front =
      text.value_is ∙ ap encode_utf8_all (more.1 ∙ ap (λ m. ran.value ++ m) (none_left more.0 more.2) ∙ append-nil ran.value) ∙ sym front_is in
      now ∙ ap (λ f. written ++ f) (sym value_is) ∙ sym before.1
    where
      none_left : (more : List ℕ) → Spells body ran.behind more → more ≡ []
      none_left [] s = refl
      none_left (c ∷ cs) (f, m, p, one, ones) = absurd (ran_ends body rest stop false ran none f c m p one)

  -- where the run is written, and the character of an escape is not
  pub left_err_escape : {T E : Type 0} (r : Result T E) (after now : List ℕ) (c : ℕ) → BeginsWithOne (IsEscape body) stop c after → now ≡ written ++ front
      → (value : List ℕ) → TextSpells body whole value → OnErr r (IsFrontOf now value)
  left_err_escape (Ok t) after now c one same value spells = tt
  left_err_escape (Err e) after now c one same value spells =
      let next = left_step after ((written ++ front) ++ encode_utf8 c) c one refl value spells in
      (encode_utf8 c ++ next.0, next.1 ∙ append_assoc (written ++ front) (encode_utf8 c) next.0 ∙ ap (λ w. w ++ (encode_utf8 c ++ next.0)) (sym same))
