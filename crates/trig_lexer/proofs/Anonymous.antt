-- ANON: white space and comments go one way only, whatever follows the `]`.
use Rattle.std.proofs.Common.{◌≡◌, ℕ, suc, ◌<◌, ◌≤◌, true, false, [], ◌∷◌, ◌++◌, All, length, refl, sym, ap, subst, ◌∙◌, arith, inl, inr, true≢false}
use Rattle.std.specs.Prelude.{encode_utf8_all}
use Rattle.std.proofs.lemmas.List.{append_assoc, length-append}
use Rattle.std.proofs.lemmas.Str.{encodes_same}
use Rattle.rdf_terms.specs.Lists.{Text}
use Rattle.terminals.specs.Terminal.{Characters}
use Rattle.terminals.proofs.Escaping.{same_head, same_tail}
use Rattle.terminals.proofs.Marks.{ascii_front, encodes_ascii_front}
use Rattle.trig_lexer.specs.declared.kind.Kind.{Kind}
use Rattle.trig_lexer.specs.declared.kind.Kind.TheVariants.{Anon}
use Rattle.trig_lexer.specs.Fronts.{TextReads}
use Rattle.trig_lexer.specs.Longest.{TextBeginsWithLongest, TextBeginsWithNoToken}
use Rattle.trig_lexer.specs.WhiteSpace.{ends_line, is_white_space, IsAtLineEnd, IsGapThen, BeginsWithNoGap, AreGapsThen, IsSkipped}
use Rattle.trig_lexer.specs.WhiteSpace.AreGapsThen.{no_gap, one_gap}
use Rattle.trig_lexer.specs.Words.{IsAnon}
use Rattle.trig_lexer.specs.Groups.{AnonShapes}

-- ---- one way only

abbrev EndsNone : Characters → Type 0
EndsNone line = All (λ c. ends_line c ≡ false) line

same_line : (xs ys us vs : Characters) → xs ++ us ≡ ys ++ vs → EndsNone xs → EndsNone ys → IsAtLineEnd us → IsAtLineEnd vs → us ≡ vs
same_line [] [] us vs e x y ends_us ends_vs = e
same_line [] (c ∷ ys) us vs e x y ends_us ends_vs =
    let ends : ends_line c ≡ true = subst IsAtLineEnd e ends_us in
    absurd (true≢false (sym ends ∙ y 0 0 (omega arith)))
same_line (c ∷ xs) [] us vs e x y ends_us ends_vs =
    let ends : ends_line c ≡ true = subst IsAtLineEnd (sym e) ends_vs in
    absurd (true≢false (sym ends ∙ x 0 0 (omega arith)))
same_line (c ∷ xs) (d ∷ ys) us vs e x y ends_us ends_vs =
    same_line xs ys us vs (same_tail c d (xs ++ us) (ys ++ vs) e) (λ k n l. x (suc k) n (omega arith)) (λ k n l. y (suc k) n (omega arith)) ends_us ends_vs

white_or_comment : (c : ℕ) (rest more : Characters) → c ∷ rest ≡ 35 ∷ more → is_white_space c ≡ true → ⊥
white_or_comment c rest more e white = true≢false (sym white ∙ ap is_white_space (same_head c 35 rest more e))

same_gap : (text one other : Characters) → IsGapThen text one → IsGapThen text other → one ≡ other
same_gap text one other (inl (c, e, white)) (inl (d, f, also)) = same_tail c d one other (sym e ∙ f)
same_gap text one other (inl (c, e, white)) (inr (more, f, line)) = absurd (white_or_comment c one more (sym e ∙ f) white)
same_gap text one other (inr (more, e, line)) (inl (d, f, white)) = absurd (white_or_comment d other more (sym f ∙ e) white)
same_gap text one other (inr (more, e, x)) (inr (also, f, y)) =
    let same : more ≡ also = same_tail 35 35 more also (sym e ∙ f) in
    same_line x.line y.line one other (sym x.splits ∙ same ∙ y.splits) x.within y.within x.ends y.ends

same_gaps : (text one other : Characters) → AreGapsThen text one → AreGapsThen text other → BeginsWithNoGap one → BeginsWithNoGap other → one ≡ other
same_gaps text one other no_gap no_gap none_one none_other = refl
same_gaps text one other no_gap (one_gap {next = next} first gaps) none_one none_other = absurd (none_one next first)
same_gaps text one other (one_gap {next = next} first gaps) no_gap none_one none_other = absurd (none_other next first)
same_gaps text one other (one_gap {next = next} first gaps) (one_gap {next = after} also more) none_one none_other =
    same_gaps next one other gaps (subst (λ t. AreGapsThen t other) (sym (same_gap text next after first also)) more) none_one none_other

-- what follows white space and comments is one text
pub same_skipped : (text one other : Characters) → IsSkipped text one → IsSkipped text other → one ≡ other
same_skipped text one other x y = same_gaps text one other x.gaps y.gaps x.ends y.ends

-- ---- what stands behind

line_end_longer : (rest back : Characters) → 0 < length rest → IsAtLineEnd rest → IsAtLineEnd (rest ++ back)
line_end_longer [] back some ends = absurd (omega arith)
line_end_longer (c ∷ rest) back some ends = ends

line_end_shorter : (rest back : Characters) → 0 < length rest → IsAtLineEnd (rest ++ back) → IsAtLineEnd rest
line_end_shorter [] back some ends = absurd (omega arith)
line_end_shorter (c ∷ rest) back some ends = ends

gap_longer : (text rest back : Characters) → IsGapThen text rest → 0 < length rest → IsGapThen (text ++ back) (rest ++ back)
gap_longer text rest back (inl (c, e, white)) some = inl (c, ap (λ t. t ++ back) e, white)
gap_longer text rest back (inr (more, e, line)) some = inr (
  more ++ back,
  ap (λ t. t ++ back) e,
  record {
    line = line.line;
    splits = ap (λ m. m ++ back) line.splits ∙ append_assoc line.line rest back;
    within = line.within;
    ends = line_end_longer rest back some line.ends;
  },
)

gap_leaves : (text rest : Characters) → IsGapThen text rest → length rest ≤ length text
gap_leaves text rest (inl (c, e, white)) = omega (arith, ap length e)
gap_leaves text rest (inr (more, e, line)) = omega (arith, ap length e, ap length line.splits, length-append line.line rest)

gaps_leave : (text rest : Characters) → AreGapsThen text rest → length rest ≤ length text
gaps_leave text rest no_gap = omega arith
gaps_leave text rest (one_gap {next = next} first gaps) = let one = gap_leaves text next first in let more = gaps_leave next rest gaps in omega arith

gaps_longer : (text rest back : Characters) → AreGapsThen text rest → 0 < length rest → AreGapsThen (text ++ back) (rest ++ back)
gaps_longer text rest back no_gap some = no_gap
gaps_longer text rest back (one_gap {next = next} first gaps) some =
    let within = gaps_leave next rest gaps in
    one_gap (gap_longer text next back first (omega arith)) (gaps_longer next rest back gaps some)

-- the front of a text that ends within what follows its white space
pub record CutGaps (text kept back : Characters) : Type 0 where
  pub front : Characters
  pub splits : text ≡ front ++ back
  pub gaps : AreGapsThen front kept
  pub some : 0 < length front

gap_shorter : (text next kept back : Characters) → IsGapThen text next → CutGaps next kept back → CutGaps text kept back
gap_shorter text next kept back (inl (c, e, white)) cut = record {
  front = c ∷ cut.front;
  splits = e ∙ ap (λ t. c ∷ t) cut.splits;
  gaps = one_gap (inl (c, refl, white)) cut.gaps;
  some = omega arith;
}
gap_shorter text next kept back (inr (more, e, line)) cut = record {
  front = 35 ∷ (line.line ++ cut.front);
  splits = e ∙ ap (λ m. 35 ∷ m) (line.splits ∙ ap (λ n. line.line ++ n) cut.splits ∙ sym (append_assoc line.line cut.front back));
  gaps = one_gap (inr (
    line.line ++ cut.front,
    refl,
    record {
      line = line.line;
      splits = refl;
      within = line.within;
      ends = line_end_shorter cut.front back cut.some (subst IsAtLineEnd cut.splits line.ends);
    },
  )) cut.gaps;
  some = omega arith;
}

cut_gaps : (text rest kept back : Characters) → AreGapsThen text rest → rest ≡ kept ++ back → 0 < length kept → CutGaps text kept back
cut_gaps text rest kept back no_gap e some = record { front = kept; splits = e; gaps = no_gap; some = some }
cut_gaps text rest kept back (one_gap {next = next} first gaps) e some = gap_shorter text next kept back first (cut_gaps next rest kept back gaps e some)

-- ---- ANON

bracket_is_no_hash : (bracket hash : ℕ) → bracket ≡ hash → bracket ≡ 93 → hash ≡ 35 → ⊥
bracket_is_no_hash bracket hash e is_bracket is_hash = omega arith

no_gap_at_bracket : (more : Characters) → BeginsWithNoGap (93 ∷ more)
no_gap_at_bracket more rest (inl (c, e, white)) = true≢false (sym white ∙ ap is_white_space (sym (same_head 93 c more rest e)))
no_gap_at_bracket more rest (inr (line, e, is)) = bracket_is_no_hash 93 35 (same_head 93 35 more line e) refl refl

-- what follows the `[` of any ANON goes on to its `]`
anon_skips : (spelled rest : Characters) (is : IsAnon spelled) → IsSkipped (is.0 ++ rest) (93 ∷ rest)
anon_skips spelled rest is = record { gaps = gaps_longer is.0 (93 ∷ []) rest is.2.gaps (omega arith); ends = no_gap_at_bracket rest }

module _ (text inside behind : Text) (mark : text ≡ 91 ∷ inside) (skipped : TextReads IsSkipped inside behind) where
  -- any ANON at the front ends there too
  anon_ends : (characters spelled rest : Characters) → text ≡ encode_utf8_all characters → characters ≡ spelled ++ rest → IsAnon spelled → skipped.rest_characters ≡ 93 ∷ rest
  anon_ends characters spelled rest text_is splits is =
      let whole : characters ≡ 91 ∷ (is.0 ++ rest) = splits ∙ ap (λ s. s ++ rest) is.1 in
      let bytes : inside ≡ encode_utf8_all (is.0 ++ rest) =
      same_tail 91 91 inside (encode_utf8_all (is.0 ++ rest)) (sym mark ∙ text_is ∙ ap encode_utf8_all whole ∙ encodes_ascii_front 91 (is.0 ++ rest) (omega arith)) in
      let same : skipped.text_characters ≡ is.0 ++ rest = encodes_same skipped.text_characters (is.0 ++ rest) (sym skipped.text_is ∙ bytes) in
      same_skipped skipped.text_characters skipped.rest_characters (93 ∷ rest) skipped.reads (subst (λ t. IsSkipped t (93 ∷ rest)) (sym same) (anon_skips spelled rest is))

  pub anon_unclosed : ((rest : Text) → ¬ (behind ≡ 93 ∷ rest)) → TextBeginsWithNoToken AnonShapes text
  anon_unclosed none characters text_is kind spelled rest splits (same, is) =
      none (encode_utf8_all rest)
      (skipped.rest_is ∙ ap encode_utf8_all (anon_ends characters spelled rest text_is splits is) ∙ encodes_ascii_front 93 rest (omega arith))

  pub anon_found : (rest : Text) → behind ≡ 93 ∷ rest → TextBeginsWithLongest AnonShapes text Anon rest
  anon_found rest close = record {
    text_characters = 91 ∷ skipped.text_characters;
    rest_characters = back.0;
    text_is = whole;
    rest_is = sym back.2;
    reads = record {
      spelled = 91 ∷ cut.front;
      splits = ap (λ t. 91 ∷ t) cut.splits;
      fits = (refl, (cut.front, refl, record { gaps = cut.gaps; ends = no_gap_at_bracket [] }));
      longest = longest;
    };
  }
    where
      back : (more : Characters) × (skipped.rest_characters ≡ 93 ∷ more) × (encode_utf8_all more ≡ rest)
      back = ascii_front skipped.rest_characters 93 rest (omega arith) (sym skipped.rest_is ∙ close)

      cut : CutGaps skipped.text_characters (93 ∷ []) back.0
      cut = cut_gaps skipped.text_characters skipped.rest_characters (93 ∷ []) back.0 skipped.reads.gaps back.1 (omega arith)

      whole : text ≡ encode_utf8_all (91 ∷ skipped.text_characters)
      whole = mark ∙ ap (λ t. 91 ∷ t) skipped.text_is ∙ sym (encodes_ascii_front 91 skipped.text_characters (omega arith))

      longest : (kind : Kind) (others other_rest : Characters) → 91 ∷ skipped.text_characters ≡ others ++ other_rest → AnonShapes kind others → length others ≤ length (91 ∷ cut.front)
      longest kind others other_rest e (same, is) =
          let end : skipped.rest_characters ≡ 93 ∷ other_rest = anon_ends (91 ∷ skipped.text_characters) others other_rest whole e is in
          let rests : back.0 ≡ other_rest = same_tail 93 93 back.0 other_rest (sym back.1 ∙ end) in
          omega (arith, ap length e, length-append others other_rest, ap length cut.splits, length-append cut.front back.0, ap length rests)
