-- Where the next token of a text stands.
use Rattle.std.proofs.Common.{◌≡◌, ◌≢◌, ℕ, ◌-◌, ◌<◌, ◌≤◌, Bool, [], ◌∷◌, ◌++◌, Option, Some, None, length, take, drop, refl, sym, ap, subst, ◌∙◌, arith}
use Rattle.std.specs.Prelude.{encode_utf8_all}
use Rattle.std.specs.Option.{IfSome, IfNone}
use Rattle.std.specs.Str.{IsUtf8, IsCharBoundary, all_scalars}
use Rattle.std.proofs.lemmas.List.{append_assoc, length-append, length-drop, take-append-drop, drop_at}
use Rattle.std.proofs.lemmas.Str.{encodes-append, encodes_same, IsCharBoundary-at_seam}
use Rattle.rdf_terms.specs.Lists.{Text}
use Rattle.terminals.specs.Terminal.{Characters}
use Rattle.terminals.proofs.Running.{all_scalars-append_right}
use Rattle.trig_lexer.specs.declared.kind.Kind.{Kind}
use Rattle.trig_lexer.specs.declared.found.Found.{Found}
use Rattle.trig_lexer.specs.Fronts.{TextReads}
use Rattle.trig_lexer.specs.Longest.{BeginsWithLongest, TextBeginsWithNoToken}
use Rattle.trig_lexer.specs.Longer.{Finds}
use Rattle.trig_lexer.specs.WhiteSpace.{AreGapsThen, IsSkipped}
use Rattle.trig_lexer.specs.WhiteSpace.AreGapsThen.{no_gap, one_gap}
use Rattle.trig_lexer.specs.Tokens.{IsToken, IsNext, IsTokenStart, IsTokenAt, HasNoTokenAt}
use Rattle.trig_lexer.specs.Groups.{GroupShapes}
use Rattle.trig_lexer.proofs.Texts.{reads_then}
use Rattle.trig_lexer.proofs.WhiteSpace.{gap_front}
use Rattle.trig_lexer.proofs.AllKinds.{finds_token}

-- ---- the next token of a text without white space

longest_is_next : (after_string : Bool) (kind : Kind) (characters rest : Characters) → characters ≢ [] → BeginsWithLongest (IsToken after_string) characters kind rest
    → IsNext after_string kind characters rest
longest_is_next after_string kind [] rest some x = absurd (some refl)
longest_is_next after_string kind (c ∷ more) rest some x = x

next_from : (after_string : Bool) (text : Text) (found : Option Found) → text ≢ [] → Finds (IsToken after_string) text found
    → IfSome found (λ x. TextReads (IsNext after_string x.kind) text x.rest.now)
next_from after_string text None some p = tt
next_from after_string text (Some x) some p =
    reads_then p (longest_is_next after_string x.kind p.text_characters p.rest_characters (λ e. some (p.text_is ∙ ap encode_utf8_all e)) p.reads)

none_from : (after_string : Bool) (text : Text) (found : Option Found) → Finds (IsToken after_string) text found → IfNone found (TextBeginsWithNoToken (IsToken after_string) text)
none_from after_string text None p = p
none_from after_string text (Some x) p = tt

pub next_found : (after_string : Bool) (text : Text) (found : Option Found) → text ≢ [] → Finds (GroupShapes after_string) text found
    → IfSome found (λ x. TextReads (IsNext after_string x.kind) text x.rest.now)
next_found after_string text found some p = next_from after_string text found some (finds_token after_string text found p)

pub next_none : (after_string : Bool) (text : Text) (found : Option Found) → Finds (GroupShapes after_string) text found
    → IfNone found (TextBeginsWithNoToken (IsToken after_string) text)
next_none after_string text found p = none_from after_string text found (finds_token after_string text found p)

-- ---- fronts

gaps_front : (text rest : Characters) → AreGapsThen text rest → (front : Characters) × (text ≡ front ++ rest)
gaps_front text rest no_gap = ([], refl)
gaps_front text rest (one_gap {next = next} first gaps) =
    let one = gap_front text next first in
    let more = gaps_front next rest gaps in
    (one.0 ++ more.0, one.1 ∙ ap (λ n. one.0 ++ n) more.1 ∙ sym (append_assoc one.0 more.0 rest))

next_front : (after_string : Bool) (kind : Kind) (characters rest : Characters) → IsNext after_string kind characters rest → (front : Characters) × (characters ≡ front ++ rest)
next_front after_string kind [] rest (is, end) = ([], sym end)
next_front after_string kind (c ∷ more) rest x = (x.spelled, x.splits)

-- a text and the rest that is read of it, by a front of its characters
bytes_split : (reads : Characters → Characters → Type 0) (text rest : Text) (x : TextReads reads text rest) (front : Characters) → x.text_characters ≡ front ++ x.rest_characters
    → text ≡ encode_utf8_all front ++ rest
bytes_split reads text rest x front e =
    x.text_is ∙ ap encode_utf8_all e ∙ encodes-append front x.rest_characters ∙ ap (λ r. encode_utf8_all front ++ r) (sym x.rest_is)

split_utf8 : (reads : Characters → Characters → Type 0) (text rest : Text) (x : TextReads reads text rest) (front : Characters) → x.text_characters ≡ front ++ x.rest_characters
    → IsUtf8 text → IsUtf8 rest
split_utf8 reads text rest x front e utf8 =
    let same : x.text_characters ≡ utf8.0 = encodes_same x.text_characters utf8.0 (sym x.text_is ∙ sym utf8.1.1) in
    (x.rest_characters, (all_scalars-append_right front x.rest_characters (ap all_scalars (sym e ∙ same) ∙ utf8.1.0), sym x.rest_is))

-- ---- places

-- the place in the text at which the rest begins
rest_at : (text front rest : Text) → text ≡ front ++ rest → drop (length text - length rest) text ≡ rest
rest_at text front rest e =
    let len : length front ≡ length text - length rest = omega (arith, ap length e, length-append front rest) in
    ap (drop (length text - length rest)) e ∙ drop_at front rest (length text - length rest) len

rest_within : (text front rest : Text) → text ≡ front ++ rest → length rest ≤ length text
rest_within text front rest e = omega (arith, ap length e, length-append front rest)

rest_boundary : (text front rest : Text) → text ≡ front ++ rest → IsUtf8 rest → IsCharBoundary text (length text - length rest)
rest_boundary text front rest e utf8 =
    let len : length front ≡ length text - length rest = omega (arith, ap length e, length-append front rest) in
    subst (IsCharBoundary text) len (IsCharBoundary-at_seam text front rest e utf8)

module _ (after_string : Bool) (text part behind : Text) (place : ℕ) (within : place ≤ length text) (cut : part ≡ drop place text) (skips : TextReads IsSkipped part behind) where
  skipped : (front : Text) × (part ≡ front ++ behind)
  skipped =
      let front = gaps_front skips.text_characters skips.rest_characters skips.reads.gaps in
      (encode_utf8_all front.0, bytes_split IsSkipped part behind skips front.0 front.1)

  whole : text ≡ (take place text ++ skipped.0) ++ behind
  whole = sym (take-append-drop place text) ∙ ap (λ p. take place text ++ p) (sym cut ∙ skipped.1) ∙ sym (append_assoc (take place text) skipped.0 behind)

  begins : place ≤ length text - length behind
  begins = omega (arith, ap length cut, length-drop place text, ap length skipped.1, length-append skipped.0 behind)

  skips_at : TextReads IsSkipped (drop place text) (drop (length text - length behind) text)
  skips_at = subst (λ p. TextReads IsSkipped p (drop (length text - length behind) text)) cut
      (subst (λ b. TextReads IsSkipped part b) (sym (rest_at text (take place text ++ skipped.0) behind whole)) skips)

  pub behind_within : length behind ≤ length text
  behind_within = rest_within text (take place text ++ skipped.0) behind whole

  pub behind_boundary : IsUtf8 behind → IsCharBoundary text (length text - length behind)
  behind_boundary utf8 = rest_boundary text (take place text ++ skipped.0) behind whole utf8

  pub starts_at : IsTokenStart text place (length text - length behind)
  starts_at = record { behind = begins; within = omega arith; skips = skips_at }

  pub no_token_at : behind ≢ [] → TextBeginsWithNoToken (IsToken after_string) behind → HasNoTokenAt after_string text place
  no_token_at some none = record {
    start = length text - length behind;
    behind = begins;
    goes_on = goes_on behind some behind_within;
    skips = skips_at;
    none = subst (TextBeginsWithNoToken (IsToken after_string)) (sym (rest_at text (take place text ++ skipped.0) behind whole)) none;
  }
    where
      goes_on : (rest : Text) → rest ≢ [] → length rest ≤ length text → length text - length rest < length text
      goes_on [] some within = absurd (some refl)
      goes_on (c ∷ rest) some within = omega arith

  module _ (kind : Kind) (rest : Text) (is_next : TextReads (IsNext after_string kind) behind rest) where
    spelled : (front : Characters) × (is_next.text_characters ≡ front ++ is_next.rest_characters)
    spelled = next_front after_string kind is_next.text_characters is_next.rest_characters is_next.reads

    token_front : behind ≡ encode_utf8_all spelled.0 ++ rest
    token_front = bytes_split (IsNext after_string kind) behind rest is_next spelled.0 spelled.1

    to_end : text ≡ ((take place text ++ skipped.0) ++ encode_utf8_all spelled.0) ++ rest
    to_end = whole ∙ ap (λ b. (take place text ++ skipped.0) ++ b) token_front ∙ sym (append_assoc (take place text ++ skipped.0) (encode_utf8_all spelled.0) rest)

    pub rest_of_token_within : length rest ≤ length text
    rest_of_token_within = rest_within text ((take place text ++ skipped.0) ++ encode_utf8_all spelled.0) rest to_end

    pub end_boundary : IsUtf8 behind → IsCharBoundary text (length text - length rest)
    end_boundary utf8 =
        rest_boundary text ((take place text ++ skipped.0) ++ encode_utf8_all spelled.0) rest to_end
        (split_utf8 (IsNext after_string kind) behind rest is_next spelled.0 spelled.1 utf8)

    pub token_at : IsTokenAt after_string text place (record { kind = kind; start = length text - length behind; end = length text - length rest })
    token_at = record {
      behind = begins;
      ordered = let len = rest_within behind (encode_utf8_all spelled.0) rest token_front in omega arith;
      within = omega arith;
      skips = skips_at;
      is_next = subst (λ b. TextReads (IsNext after_string kind) b (drop (length text - length rest) text)) (sym (rest_at text (take place text ++ skipped.0) behind whole))
          (subst (λ r. TextReads (IsNext after_string kind) behind r) (sym (rest_at text ((take place text ++ skipped.0) ++ encode_utf8_all spelled.0) rest to_end)) is_next);
    }
