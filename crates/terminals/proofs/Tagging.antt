-- How far a language tag goes.
use Rattle.std.proofs.Common.{◌≡◌, ◌≢◌, ℕ, suc, ◌-◌, ◌<◌, ◌≤◌, Bool, true, false, List, [], ◌∷◌, ◌++◌, All, length, take, drop, get_or, refl, sym, ap, subst, ◌∙◌, arith, ◌⊎◌, inl, inr, true≢false, add-zero}
use Rattle.std.specs.Prelude.{encode_utf8_all, slice_range}
use Rattle.std.specs.Char.{is_ascii_alphabetic, is_ascii_alphanumeric}
use Rattle.std.specs.List.{prefix_len}
use Rattle.std.specs.Str.{IsAscii, IsUtf8, IsCharBoundary, all_scalars}
use Rattle.std.proofs.lemmas.Bool.Decides.{nat_tests}
use Rattle.std.proofs.lemmas.List.{append_assoc, append-nil, length-append, take-append-drop, take_at, get_or-take, get_or-drop, length-drop}
use Rattle.std.proofs.lemmas.List.Elements.{All-push}
use Rattle.std.proofs.lemmas.List.Sums.{prefix_len_passes, prefix_len_stops}
use Rattle.std.proofs.lemmas.List.Folds.{length-prefix_len}
use Rattle.std.proofs.lemmas.Str.{encode_ascii, encodes-append, encodes-IsAscii, IsAscii-append, IsUtf8-past_char, IsUtf8-from_ascii, IsCharBoundary-from_take, IsCharBoundary-at_seam}
use Rattle.std.proofs.lemmas.Str.Ascii.{IsAscii-from_all, IsAscii-nil, IsAscii-cons}
use Rattle.rdf_terms.proofs.Common.{Text, IsLanguageTag, IsSubtag, behind_dashes}
use Rattle.terminals.specs.Terminal.{TextBeginsWith}
use Rattle.terminals.specs.Terminals.{LangTag, BeginsWithSubtag, BeginsWithNoSubtag, BeginsWithSubtags}
use Rattle.terminals.proofs.Escaping.{same_tail}
use Rattle.terminals.proofs.Running.{slice_front, front_from_encodes, all_scalars-append_right}
use Rattle.terminals.proofs.Marks.{encodes_ascii_front}

-- ---- a front that passes a test

abbrev pub Passing : (ℕ → Bool) → List ℕ → Type 0
Passing p xs = All (λ c. p c ≡ true) xs

pub passing_front : (p : ℕ → Bool) (xs : List ℕ) → Passing p (take (prefix_len p xs) xs)
passing_front p xs = λ k d l.
    let below : k < prefix_len p xs = omega (arith, length-prefix_len p xs) in
    subst (λ c. p c ≡ true) (sym (get_or-take (prefix_len p xs) xs k d below)) (prefix_len_passes p xs k d below)

pub passing_stops : (p : ℕ → Bool) (xs : List ℕ) (c : ℕ) (more : List ℕ) → drop (prefix_len p xs) xs ≡ c ∷ more → p c ≡ false
passing_stops p xs c more e =
    let here : get_or xs (prefix_len p xs) 0 ≡ c = ap (λ k. get_or xs k 0) (sym (add-zero (prefix_len p xs))) ∙ sym (get_or-drop (prefix_len p xs) xs 0 0) ∙ ap (λ l. get_or l 0 0) e in
    let within : prefix_len p xs < length xs = omega (arith, ap length e, length-drop (prefix_len p xs) xs) in
    subst (λ d. p d ≡ false) here (prefix_len_stops p xs 0 within)

-- a front that passes, against a shorter one with subtags behind it: `-` does not pass, so none is behind a front that is cut short
against_dashes : (p : ℕ → Bool) → p 45 ≡ false → (xs other after : List ℕ) (subtags : List Text) (rest : List ℕ) → xs ++ after ≡ other ++ (behind_dashes subtags ++ rest)
    → Passing p xs → Passing p other → ((c : ℕ) (more : List ℕ) → after ≡ c ∷ more → p c ≡ false)
    → ((length other < length xs) × (subtags ≡ [])) ⊎ ((other ≡ xs) × (after ≡ behind_dashes subtags ++ rest))
against_dashes p dash [] [] after subtags rest e x y stops = inr (refl, e)
against_dashes p dash [] (c ∷ other) after subtags rest e x y stops =
    absurd (true≢false (sym (y 0 0 (omega arith)) ∙ stops c (other ++ (behind_dashes subtags ++ rest)) e))
against_dashes p dash (z ∷ xs) [] after [] rest e x y stops = inl (omega arith, refl)
against_dashes p dash (z ∷ xs) [] after (t ∷ subtags) rest e x y stops =
    let head : z ≡ 45 = cc in
    absurd (true≢false (sym (x 0 0 (omega arith)) ∙ ap p head ∙ dash))
against_dashes p dash (z ∷ xs) (c ∷ other) after subtags rest e x y stops =
    let head : z ≡ c = cc in
    let tail : xs ++ after ≡ other ++ (behind_dashes subtags ++ rest) = cc in
    elim (against_dashes p dash xs other after subtags rest tail (λ k d l. x (suc k) d (omega arith)) (λ k d l. y (suc k) d (omega arith)) stops)
    [ inl r ↦ inl (omega arith, r.1) | inr r ↦ inr ((λ i. sym head i ∷ r.0 i), r.1) ]

pub alphanumeric_ascii : (c : ℕ) → is_ascii_alphanumeric c ≡ true → c < 128
alphanumeric_ascii c h = grind (arith, nat_tests)

pub alphabetic_ascii : (c : ℕ) → is_ascii_alphabetic c ≡ true → c < 128
alphabetic_ascii c h = grind (arith, nat_tests)

pub utf8_behind_mark : (text rest : List ℕ) (mark : ℕ) → mark < 128 → text ≡ mark ∷ rest → IsUtf8 text → IsUtf8 rest
utf8_behind_mark text rest mark ascii e utf8 = IsUtf8-past_char text rest mark utf8 (e ∙ ap (λ f. f ++ rest) (sym (encode_ascii mark ascii)))

-- a text may be cut behind ASCII
pub cut_behind_ascii : (text : List ℕ) (n : ℕ) → IsUtf8 text → n ≤ length text → IsAscii (take n text) → IsCharBoundary text n
cut_behind_ascii text n utf8 within ascii = IsCharBoundary-from_take text n utf8 within (IsUtf8-from_ascii (take n text) ascii)

pub cut_behind_passing : (p : ℕ → Bool) → ((c : ℕ) → p c ≡ true → c < 128) → (text : List ℕ) (n : ℕ) → IsUtf8 text → n ≡ prefix_len p text → n ≤ length text → IsCharBoundary text n
cut_behind_passing p ascii text n utf8 is within =
    let all = subst (λ k. Passing p (take k text)) (sym is) (passing_front p text) in
    cut_behind_ascii text n utf8 within (IsAscii-from_all (take n text) (λ k d l. ascii _ (all k d l)))

-- ---- subtags

pub subtag_found : (text behind rest : List ℕ) (n : ℕ) → text ≡ 45 ∷ behind → n ≡ prefix_len is_ascii_alphanumeric behind → n ≢ 0 → rest ≡ drop n behind → BeginsWithSubtag text rest
subtag_found text behind rest n mark is some cut = record {
  subtag = take n behind;
  splits = mark ∙ ap (λ b. 45 ∷ b) (sym (take-append-drop n behind) ∙ ap (λ r. take n behind ++ r) (sym cut));
  is_subtag = record {
    some = omega (arith, ap (λ k. length (take k behind)) is, length-prefix_len is_ascii_alphanumeric behind);
    alphanumeric = subst (λ k. Passing is_ascii_alphanumeric (take k behind)) (sym is) (passing_front is_ascii_alphanumeric behind);
  };
  ends = λ c more e. passing_stops is_ascii_alphanumeric behind c more (ap (λ k. drop k behind) (sym is) ∙ sym cut ∙ e);
}

behind_dashes-push : (ts : List Text) (t : Text) → behind_dashes (ts ++ t ∷ []) ≡ behind_dashes ts ++ 45 ∷ t
behind_dashes-push [] t = ap (λ l. 45 ∷ l) (append-nil t)
behind_dashes-push (s ∷ ts) t = ap (λ l. 45 ∷ (s ++ l)) (behind_dashes-push ts t) ∙ ap (λ l. 45 ∷ l) (sym (append_assoc s (behind_dashes ts) (45 ∷ t)))

-- other subtags that the text begins with end within those found, or go through them
abbrev GoesThrough : List ℕ → List ℕ → List Text → Type 0
GoesThrough text rest subtags = (others : List Text) (other_rest : List ℕ) → text ≡ behind_dashes others ++ other_rest → All IsSubtag others
    → (length (behind_dashes others) ≤ length (behind_dashes subtags)) ⊎ ((more : List Text) × (rest ≡ behind_dashes more ++ other_rest) × All IsSubtag more)

pub record Subtagged (text rest : List ℕ) : Type 0 where
  pub subtags : List Text
  pub splits : text ≡ behind_dashes subtags ++ rest
  pub are_subtags : All IsSubtag subtags
  pub through : GoesThrough text rest subtags

pub subtagged_start : (text : List ℕ) → Subtagged text text
subtagged_start text = record {
  subtags = [];
  splits = refl;
  are_subtags = λ k d l. absurd (omega arith);
  through = λ others other_rest e all. inr (others, e, all);
}

pub subtagged_more : (text rest next : List ℕ) → Subtagged text rest → BeginsWithSubtag rest next → Subtagged text next
subtagged_more text rest next so one = record {
  subtags = so.subtags ++ one.subtag ∷ [];
  splits = whole;
  are_subtags = All-push IsSubtag so.subtags one.subtag so.are_subtags one.is_subtag;
  through = through;
}
  where
    whole : text ≡ behind_dashes (so.subtags ++ one.subtag ∷ []) ++ next
    whole = so.splits ∙ ap (λ r. behind_dashes so.subtags ++ r) one.splits ∙ sym (append_assoc (behind_dashes so.subtags) (45 ∷ one.subtag) next)
        ∙ ap (λ f. f ++ next) (sym (behind_dashes-push so.subtags one.subtag))

    -- a reading with a rest no shorter than this one ends within what was found
    within : (others : List Text) (other_rest : List ℕ) → text ≡ behind_dashes others ++ other_rest → length next ≤ length other_rest
        → length (behind_dashes others) ≤ length (behind_dashes (so.subtags ++ one.subtag ∷ []))
    within others other_rest e longer =
        omega (arith, ap length whole, ap length e, length-append (behind_dashes (so.subtags ++ one.subtag ∷ [])) next, length-append (behind_dashes others) other_rest)

    further : (others : List Text) (other_rest : List ℕ) → text ≡ behind_dashes others ++ other_rest → (more : List Text) → rest ≡ behind_dashes more ++ other_rest → All IsSubtag more
        → (length (behind_dashes others) ≤ length (behind_dashes (so.subtags ++ one.subtag ∷ []))) ⊎ ((later : List Text) × (next ≡ behind_dashes later ++ other_rest) × All IsSubtag later)
    further others other_rest e [] f all =
        inl (within others other_rest e (omega (arith, ap length f, ap length one.splits, length-append one.subtag next)))
    further others other_rest e (t ∷ ts) f all =
        let tail : one.subtag ++ next ≡ t ++ (behind_dashes ts ++ other_rest) =
        same_tail 45 45 (one.subtag ++ next) (t ++ (behind_dashes ts ++ other_rest))
        (sym one.splits ∙ f ∙ ap (λ l. 45 ∷ l) (append_assoc t (behind_dashes ts) other_rest)) in
        elim (against_dashes is_ascii_alphanumeric refl one.subtag t next ts other_rest tail one.is_subtag.alphanumeric ((all 0 [] (omega arith)).alphanumeric) one.ends) [
          | inl r ↦ inl (within others other_rest e
              (omega (
                arith,
                r.0,
                ap length tail,
                length-append one.subtag next,
                length-append t (behind_dashes ts ++ other_rest),
                length-append (behind_dashes ts) other_rest,
                ap (λ l. length (behind_dashes l)) r.1,
              )))
          | inr r ↦ inr (ts, r.1, λ k d l. all (suc k) d (omega arith))
        ]

    through : GoesThrough text next (so.subtags ++ one.subtag ∷ [])
    through others other_rest e all =
        elim (so.through others other_rest e all) [
          | inl r ↦ inl (omega (arith, r, ap length (behind_dashes-push so.subtags one.subtag), length-append (behind_dashes so.subtags) (45 ∷ one.subtag)))
          | inr r ↦ further others other_rest e r.0 r.1 r.2
        ]

pub subtagged_end : (text rest : List ℕ) → Subtagged text rest → BeginsWithNoSubtag rest → BeginsWithSubtags text rest
subtagged_end text rest so none = record { subtags = so.subtags; splits = so.splits; are_subtags = so.are_subtags; longest = longest }
  where
    end : (others : List Text) (other_rest : List ℕ) → text ≡ behind_dashes others ++ other_rest → (more : List Text) → rest ≡ behind_dashes more ++ other_rest → All IsSubtag more
        → length (behind_dashes others) ≤ length (behind_dashes so.subtags)
    end others other_rest e [] f all =
        omega (arith, ap length so.splits, ap length e, ap length f, length-append (behind_dashes so.subtags) rest, length-append (behind_dashes others) other_rest)
    end others other_rest e (t ∷ ts) f all =
        absurd (none t (behind_dashes ts ++ other_rest) (all 0 [] (omega arith)) (f ∙ ap (λ l. 45 ∷ l) (append_assoc t (behind_dashes ts) other_rest)))

    longest : (others : List Text) (other_rest : List ℕ) → text ≡ behind_dashes others ++ other_rest → All IsSubtag others → length (behind_dashes others) ≤ length (behind_dashes so.subtags)
    longest others other_rest e all = elim (so.through others other_rest e all) [ inl r ↦ r | inr r ↦ end others other_rest e r.0 r.1 r.2 ]

pub subtag_smaller : (rest next : List ℕ) → BeginsWithSubtag rest next → length next < length rest
subtag_smaller rest next one = omega (arith, ap length one.splits, length-append one.subtag next)

-- ---- tags

passing_is_ascii : (p : ℕ → Bool) → ((c : ℕ) → p c ≡ true → c < 128) → (xs : List ℕ) → Passing p xs → IsAscii xs
passing_is_ascii p ascii xs all = IsAscii-from_all xs (λ k d l. ascii _ (all k d l))

pub utf8_behind_subtag : (rest next : List ℕ) → BeginsWithSubtag rest next → IsUtf8 rest → IsUtf8 next
utf8_behind_subtag rest next one utf8 =
    let ascii : IsAscii (45 ∷ one.subtag) =
    IsAscii-cons 45 one.subtag (omega arith) (passing_is_ascii is_ascii_alphanumeric alphanumeric_ascii one.subtag one.is_subtag.alphanumeric) in
    let back = front_from_encodes utf8.0 (45 ∷ one.subtag) next (utf8.1.1 ∙ one.splits ∙ ap (λ f. f ++ next) (sym (encodes-IsAscii (45 ∷ one.subtag) ascii))) in
    (back.0, (all_scalars-append_right (45 ∷ one.subtag) back.0 (ap all_scalars (sym back.1) ∙ utf8.1.0), back.2))

dashes_ascii : (ts : List Text) → All IsSubtag ts → IsAscii (behind_dashes ts)
dashes_ascii [] all = IsAscii-nil
dashes_ascii (t ∷ ts) all =
    IsAscii-cons 45 (t ++ behind_dashes ts) (omega arith)
    (IsAscii-append t (behind_dashes ts) (passing_is_ascii is_ascii_alphanumeric alphanumeric_ascii t (all 0 [] (omega arith)).alphanumeric) (dashes_ascii ts (λ k d l. all (suc k) d (omega arith))))

pub tag_ascii : (value : List ℕ) → IsLanguageTag value → IsAscii value
tag_ascii value tag =
    subst IsAscii (sym tag.spelled)
    (IsAscii-append tag.primary (behind_dashes tag.subtags) (passing_is_ascii is_ascii_alphabetic alphabetic_ascii tag.primary tag.is_primary.letters) (dashes_ascii tag.subtags tag.are_subtags))

-- the tag of any reading of the text
tag_front : (text tag characters spelled value rest : List ℕ) → text ≡ 64 ∷ tag → text ≡ encode_utf8_all characters → characters ≡ spelled ++ rest → (is : LangTag spelled value)
    → tag ≡ value ++ encode_utf8_all rest
tag_front text tag characters spelled value rest mark text_is splits is =
    let bytes : encode_utf8_all characters ≡ 64 ∷ (value ++ encode_utf8_all rest) =
    ap encode_utf8_all (splits ∙ ap (λ s. s ++ rest) is.mark) ∙ encodes_ascii_front 64 (value ++ rest) (omega arith)
    ∙ ap (λ t. 64 ∷ t) (encodes-append value rest ∙ ap (λ f. f ++ encode_utf8_all rest) (encodes-IsAscii value (tag_ascii value is.tag))) in
    same_tail 64 64 tag (value ++ encode_utf8_all rest) (sym mark ∙ text_is ∙ bytes)

module _ (text tag behind rest : List ℕ) (n : ℕ) (mark : text ≡ 64 ∷ tag) (is : n ≡ prefix_len is_ascii_alphabetic tag) (cut : behind ≡ drop n tag) (subtags : BeginsWithSubtags behind rest) where
  tag_splits : tag ≡ (take n tag ++ behind_dashes subtags.subtags) ++ rest
  tag_splits = sym (take-append-drop n tag) ∙ ap (λ r. take n tag ++ r) (sym cut ∙ subtags.splits) ∙ sym (append_assoc (take n tag) (behind_dashes subtags.subtags) rest)

  tag_len : length (take n tag ++ behind_dashes subtags.subtags) ≡ length tag - length rest
  tag_len = omega (arith, ap length tag_splits, length-append (take n tag ++ behind_dashes subtags.subtags) rest)

  pub cut_behind_tag : IsUtf8 rest → IsCharBoundary tag (length tag - length rest)
  cut_behind_tag utf8 = subst (IsCharBoundary tag) tag_len (IsCharBoundary-at_seam tag (take n tag ++ behind_dashes subtags.subtags) rest tag_splits utf8)

  letters : Passing is_ascii_alphabetic (take n tag)
  letters = subst (λ k. Passing is_ascii_alphabetic (take k tag)) (sym is) (passing_front is_ascii_alphabetic tag)

  pub tag_found : (value : List ℕ) → value ≡ slice_range tag 0 (length tag - length rest) → n ≢ 0 → IsUtf8 rest → TextBeginsWith LangTag text value rest
  tag_found value sliced some utf8 = record {
    text_characters = 64 ∷ ((take n tag ++ behind_dashes subtags.subtags) ++ utf8.0);
    value_characters = take n tag ++ behind_dashes subtags.subtags;
    rest_characters = utf8.0;
    text_is = text_is;
    value_is = sliced ∙ slice_front tag (length tag - length rest) ∙ ap (take (length tag - length rest)) tag_splits
        ∙ take_at (take n tag ++ behind_dashes subtags.subtags) rest (length tag - length rest) tag_len ∙ sym ascii;
    rest_is = sym utf8.1.1;
    begins = record {
      spelled = 64 ∷ (take n tag ++ behind_dashes subtags.subtags);
      splits = refl;
      fits = record { mark = refl; tag = is_tag };
      longest = longest;
    };
  }
    where
      is_tag : IsLanguageTag (take n tag ++ behind_dashes subtags.subtags)
      is_tag = record {
        primary = take n tag;
        subtags = subtags.subtags;
        spelled = refl;
        is_primary = record { some = omega (arith, ap (λ k. length (take k tag)) is, length-prefix_len is_ascii_alphabetic tag); letters = letters };
        are_subtags = subtags.are_subtags;
      }

      ascii : encode_utf8_all (take n tag ++ behind_dashes subtags.subtags) ≡ take n tag ++ behind_dashes subtags.subtags
      ascii = encodes-IsAscii (take n tag ++ behind_dashes subtags.subtags) (tag_ascii (take n tag ++ behind_dashes subtags.subtags) is_tag)

      text_is : text ≡ encode_utf8_all (64 ∷ ((take n tag ++ behind_dashes subtags.subtags) ++ utf8.0))
      text_is = mark ∙ ap (λ t. 64 ∷ t) (tag_splits ∙ (λ i. sym ascii i ++ sym utf8.1.1 i) ∙ sym (encodes-append (take n tag ++ behind_dashes subtags.subtags) utf8.0))
          ∙ sym (encodes_ascii_front 64 ((take n tag ++ behind_dashes subtags.subtags) ++ utf8.0) (omega arith))

      stops : (c : ℕ) (more : List ℕ) → behind ≡ c ∷ more → is_ascii_alphabetic c ≡ false
      stops c more e = passing_stops is_ascii_alphabetic tag c more (ap (λ k. drop k tag) (sym is) ∙ sym cut ∙ e)

      longest : (other other_value other_rest : List ℕ) → 64 ∷ ((take n tag ++ behind_dashes subtags.subtags) ++ utf8.0) ≡ other ++ other_rest → LangTag other other_value
          → length other ≤ length (64 ∷ (take n tag ++ behind_dashes subtags.subtags))
      longest other other_value other_rest e lang =
          let front : tag ≡ other_value ++ encode_utf8_all other_rest =
          tag_front text tag (64 ∷ ((take n tag ++ behind_dashes subtags.subtags) ++ utf8.0)) other other_value other_rest mark text_is e lang in
          let fronts : take n tag ++ behind ≡ lang.tag.primary ++ (behind_dashes lang.tag.subtags ++ encode_utf8_all other_rest) =
          ap (λ r. take n tag ++ r) cut ∙ take-append-drop n tag ∙ front ∙ ap (λ v. v ++ encode_utf8_all other_rest) lang.tag.spelled
          ∙ append_assoc lang.tag.primary (behind_dashes lang.tag.subtags) (encode_utf8_all other_rest) in
          let size = ap length lang.tag.spelled ∙ length-append lang.tag.primary (behind_dashes lang.tag.subtags) in
          let here = length-append (take n tag) (behind_dashes subtags.subtags) in
          elim (against_dashes is_ascii_alphabetic refl (take n tag) lang.tag.primary behind lang.tag.subtags (encode_utf8_all other_rest) fronts letters lang.tag.is_primary.letters stops) [
            | inl r ↦ omega (arith, size, here, ap length lang.mark, r.0, ap (λ l. length (behind_dashes l)) r.1)
            | inr r ↦ omega (arith, size, here, ap length lang.mark, ap length r.0, subtags.longest lang.tag.subtags (encode_utf8_all other_rest) r.1 lang.tag.are_subtags)
          ]
