-- White space and comments at the front of a text: how they are found, and that they go one way only.
use Rattle.std.proofs.Common.{◌≡◌, ℕ, ◌<◌, true, false, [], ◌∷◌, ◌++◌, All, length, refl, sym, ap, subst, ◌∙◌, arith, inl, inr, true≢false}
use Rattle.std.specs.Prelude.{encode_utf8, encode_utf8_all}
use Rattle.std.specs.Str.{IsUtf8, all_scalars}
use Rattle.std.proofs.lemmas.List.{append_assoc, length-append}
use Rattle.std.proofs.lemmas.List.Elements.{All-push}
use Rattle.std.proofs.lemmas.Str.{encodes-append, encodes_same, cons_from_encodes, length-le-encodes}
use Rattle.rdf_terms.specs.Lists.{Text}
use Rattle.terminals.specs.Terminal.{Characters}
use Rattle.terminals.proofs.Escaping.{same_head}
use Rattle.terminals.proofs.Running.{all_scalars-append_right}
use Rattle.trig_lexer.specs.WhiteSpace.{ends_line, is_white_space, IsAtLineEnd, IsLineThen, IsGapThen, BeginsWithNoGap, AreGapsThen, IsSkipped}
use Rattle.trig_lexer.proofs.Texts.{step_char, step_end, reads_then}
use Rattle.trig_lexer.specs.Fronts.{TextReads, TextReadsNone}
use Rattle.trig_lexer.specs.WhiteSpace.AreGapsThen.{no_gap, one_gap}

-- ---- a line, character by character

-- characters that end no line, and then the rest
pub record InLine (text rest : Text) : Type 0 where
  pub line : Characters
  pub behind : Characters
  pub text_is : text ≡ encode_utf8_all (line ++ behind)
  pub rest_is : rest ≡ encode_utf8_all behind
  pub within : All (λ c. ends_line c ≡ false) line

pub line_start : (text : Text) → IsUtf8 text → InLine text text
line_start text utf8 = record { line = []; behind = utf8.0; text_is = sym utf8.1.1; rest_is = sym utf8.1.1; within = λ k d l. absurd (omega arith) }

pub line_more : (text rest next : Text) (c : ℕ) → InLine text rest → rest ≡ encode_utf8 c ++ next → ends_line c ≡ false → InLine text next
line_more text rest next c so first inner =
    let back = cons_from_encodes so.behind next c (sym so.rest_is ∙ first) in
    record {
      line = so.line ++ c ∷ [];
      behind = back.0;
      text_is = so.text_is ∙ ap encode_utf8_all (ap (λ b. so.line ++ b) back.1 ∙ sym (append_assoc so.line (c ∷ []) back.0));
      rest_is = sym back.2;
      within = All-push (λ x. ends_line x ≡ false) so.line c so.within inner;
    }

line_done : (text rest : Text) (so : InLine text rest) → IsAtLineEnd so.behind → TextReads IsLineThen text rest
line_done text rest so ends = record {
  text_characters = so.line ++ so.behind;
  rest_characters = so.behind;
  text_is = so.text_is;
  rest_is = so.rest_is;
  reads = record { line = so.line; splits = refl; within = so.within; ends = ends };
}

pub line_ends : (text rest next : Text) (c : ℕ) → InLine text rest → rest ≡ encode_utf8 c ++ next → ends_line c ≡ true → TextReads IsLineThen text rest
line_ends text rest next c so first ends =
    let back = cons_from_encodes so.behind next c (sym so.rest_is ∙ first) in
    line_done text rest so (subst IsAtLineEnd (sym back.1) ends)

pub line_ends_text : (text rest : Text) → InLine text rest → rest ≡ [] → TextReads IsLineThen text rest
line_ends_text text rest so nothing = line_done text rest so (subst IsAtLineEnd (sym (step_end so.behind rest so.rest_is nothing)) tt)

-- ---- one gap

pub white_gap : (text rest : Text) (c : ℕ) → text ≡ encode_utf8 c ++ rest → is_white_space c ≡ true → IsUtf8 rest → TextReads IsGapThen text rest
white_gap text rest c first white utf8 = record {
  text_characters = c ∷ utf8.0;
  rest_characters = utf8.0;
  text_is = first ∙ ap (λ r. encode_utf8 c ++ r) (sym utf8.1.1);
  rest_is = sym utf8.1.1;
  reads = inl (c, refl, white);
}

pub comment_gap : (text line rest : Text) (c : ℕ) → text ≡ encode_utf8 c ++ line → c ≡ 35 → TextReads IsLineThen line rest → TextReads IsGapThen text rest
comment_gap text line rest c first mark x = record {
  text_characters = c ∷ x.text_characters;
  rest_characters = x.rest_characters;
  text_is = first ∙ ap (λ r. encode_utf8 c ++ r) x.text_is;
  rest_is = x.rest_is;
  reads = inr (x.text_characters, ap (λ m. m ∷ x.text_characters) mark, x.reads);
}

pub no_gap_empty : (text : Text) → text ≡ [] → TextReadsNone BeginsWithNoGap text
no_gap_empty text nothing characters e rest (inl (c, splits, white)) =
    let none = step_end characters text e nothing in
    let whole : [] ≡ c ∷ rest = sym none ∙ splits in
    cc
no_gap_empty text nothing characters e rest (inr (more, splits, line)) =
    let none = step_end characters text e nothing in
    let whole : [] ≡ 35 ∷ more = sym none ∙ splits in
    cc

pub no_gap_other : (text next : Text) (c : ℕ) → text ≡ encode_utf8 c ++ next → is_white_space c ≡ false → ¬ (c ≡ 35) → TextReadsNone BeginsWithNoGap text
no_gap_other text next c first dark no_mark characters e rest (inl (d, splits, white)) =
    let back = step_char characters text next c e first in
    let same : c ≡ d = same_head c d back.0 rest (sym back.1 ∙ splits) in
    true≢false (sym white ∙ ap is_white_space (sym same) ∙ dark)
no_gap_other text next c first dark no_mark characters e rest (inr (more, splits, line)) =
    let back = step_char characters text next c e first in
    no_mark (same_head c 35 back.0 more (sym back.1 ∙ splits))

-- ---- all gaps

pub gaps_push : (text rest next : Characters) → AreGapsThen text rest → IsGapThen rest next → AreGapsThen text next
gaps_push text rest next no_gap one = one_gap one no_gap
gaps_push text rest next (one_gap {next = after} first gaps) one = one_gap first (gaps_push after rest next gaps one)

pub gaps_start : (text : Text) → IsUtf8 text → TextReads AreGapsThen text text
gaps_start text utf8 = record { text_characters = utf8.0; rest_characters = utf8.0; text_is = sym utf8.1.1; rest_is = sym utf8.1.1; reads = no_gap }

pub gaps_more : (text rest next : Text) → TextReads AreGapsThen text rest → TextReads IsGapThen rest next → TextReads AreGapsThen text next
gaps_more text rest next so one = record {
  text_characters = so.text_characters;
  rest_characters = one.rest_characters;
  text_is = so.text_is;
  rest_is = one.rest_is;
  reads = gaps_push so.text_characters so.rest_characters one.rest_characters so.reads (subst (λ t. IsGapThen t one.rest_characters) same one.reads);
}
  where
    same : one.text_characters ≡ so.rest_characters
    same = encodes_same one.text_characters so.rest_characters (sym one.text_is ∙ so.rest_is)

pub gaps_end : (text rest : Text) → TextReads AreGapsThen text rest → TextReadsNone BeginsWithNoGap rest → TextReads IsSkipped text rest
gaps_end text rest so none = reads_then so (record { gaps = so.reads; ends = none so.rest_characters so.rest_is })

-- ---- a gap leaves less, and UTF-8

-- a gap is a front of some characters
pub gap_front : (text rest : Characters) → IsGapThen text rest → (front : Characters) × (text ≡ front ++ rest) × (0 < length front)
gap_front text rest (inl (c, e, white)) = (c ∷ [], e, omega arith)
gap_front text rest (inr (more, e, line)) = (35 ∷ line.line, e ∙ ap (λ m. 35 ∷ m) line.splits, omega arith)

pub gap_smaller : (text rest : Text) → TextReads IsGapThen text rest → length rest < length text
gap_smaller text rest x =
    let front = gap_front x.text_characters x.rest_characters x.reads in
    let bytes = ap length x.text_is ∙ ap (λ t. length (encode_utf8_all t)) front.1 ∙ ap length (encodes-append front.0 x.rest_characters)
    ∙ length-append (encode_utf8_all front.0) (encode_utf8_all x.rest_characters) in
    omega (arith, ap length x.rest_is, length-le-encodes front.0)

pub gap_utf8 : (text rest : Text) → TextReads IsGapThen text rest → IsUtf8 text → IsUtf8 rest
gap_utf8 text rest x utf8 =
    let front = gap_front x.text_characters x.rest_characters x.reads in
    let same : x.text_characters ≡ utf8.0 = encodes_same x.text_characters utf8.0 (sym x.text_is ∙ sym utf8.1.1) in (
      x.rest_characters,
      (all_scalars-append_right front.0 x.rest_characters (ap all_scalars (sym front.1 ∙ same) ∙ utf8.1.0), sym x.rest_is),
    )
