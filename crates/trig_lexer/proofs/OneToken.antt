-- At a place of a text one token is next, or none fits there.
use Rattle.std.proofs.Common.{◌≡◌, ℕ, ◌<◌, ◌≤◌, Bool, [], ◌∷◌, ◌++◌, length, drop, sym, ap, subst, ◌∙◌, arith}
use Rattle.std.specs.Prelude.{encode_utf8_all}
use Rattle.std.proofs.lemmas.List.{length-drop}
use Rattle.std.proofs.lemmas.Str.{encodes_same}
use Rattle.rdf_terms.specs.Lists.{Text}
use Rattle.terminals.specs.Terminal.{Characters}
use Rattle.terminals.proofs.Escaping.{same_split}
use Rattle.trig_lexer.specs.declared.kind.Kind.{Kind}
use Rattle.trig_lexer.specs.declared.token.Token.{Token}
use Rattle.trig_lexer.specs.Fronts.{TextReads}
use Rattle.trig_lexer.specs.Longest.{BeginsWithLongest, TextBeginsWithNoToken}
use Rattle.trig_lexer.specs.WhiteSpace.{IsSkipped}
use Rattle.trig_lexer.specs.Tokens.{IsToken, IsNext, IsTokenStart, IsTokenAt, HasNoTokenAt}
use Rattle.trig_lexer.proofs.Anonymous.{same_skipped}
use Rattle.trig_lexer.proofs.OneKind.{one_kind}

-- what is read of one text is the same where it is so of its characters
module _ (one other : Characters → Characters → Type 0) (same : (text rest more : Characters) → one text rest → other text more → rest ≡ more) where
  same_read : (text rest more : Text) → TextReads one text rest → TextReads other text more → rest ≡ more
  same_read text rest more x y =
      let characters : x.text_characters ≡ y.text_characters = encodes_same x.text_characters y.text_characters (sym x.text_is ∙ y.text_is) in
      x.rest_is ∙ ap encode_utf8_all (same y.text_characters x.rest_characters y.rest_characters (subst (λ t. one t x.rest_characters) characters x.reads) y.reads) ∙ sym y.rest_is

-- ---- where it begins

same_place : (text : Text) (a b : ℕ) → a ≤ length text → b ≤ length text → drop a text ≡ drop b text → a ≡ b
same_place text a b within also e = omega (arith, ap length e, length-drop a text, length-drop b text)

same_start : (text : Text) (place a b : ℕ) → a ≤ length text → b ≤ length text → TextReads IsSkipped (drop place text) (drop a text) → TextReads IsSkipped (drop place text) (drop b text) → a ≡ b
same_start text place a b within also x y = same_place text a b within also (same_read IsSkipped IsSkipped same_skipped (drop place text) (drop a text) (drop b text) x y)

-- ---- which one it is

same_longest : (after_string : Bool) (text : Characters) (one other : Kind) (rest more : Characters) → BeginsWithLongest (IsToken after_string) text one rest
    → BeginsWithLongest (IsToken after_string) text other more → (one ≡ other) × (rest ≡ more)
same_longest after_string text one other rest more x y =
    let at_most = x.longest other y.spelled more y.splits y.fits in
    let at_least = y.longest one x.spelled rest x.splits x.fits in
    let same = same_split x.spelled y.spelled rest more (sym x.splits ∙ y.splits) (omega arith) in
    (one_kind after_string one other y.spelled (subst (IsToken after_string one) same.0 x.fits) y.fits, same.1)

same_next : (after_string : Bool) (one other : Kind) (text rest more : Characters) → IsNext after_string one text rest → IsNext after_string other text more → (one ≡ other) × (rest ≡ more)
same_next after_string one other [] rest more x y = (x.0 ∙ sym y.0, x.1 ∙ sym y.1)
same_next after_string one other (c ∷ cs) rest more x y = same_longest after_string (c ∷ cs) one other rest more x y

same_kind : (after_string : Bool) (one other : Kind) (text rest more : Text) → TextReads (IsNext after_string one) text rest → TextReads (IsNext after_string other) text more → one ≡ other
same_kind after_string one other text rest more x y =
    let characters : x.text_characters ≡ y.text_characters = encodes_same x.text_characters y.text_characters (sym x.text_is ∙ y.text_is) in
    (same_next after_string one other y.text_characters x.rest_characters y.rest_characters (subst (λ t. IsNext after_string one t x.rest_characters) characters x.reads) y.reads).0

same_rest : (after_string : Bool) (one other : Kind) (text rest more : Text) → TextReads (IsNext after_string one) text rest → TextReads (IsNext after_string other) text more → rest ≡ more
same_rest after_string one other text rest more x y =
    same_read (IsNext after_string one) (IsNext after_string other) (λ t r m a b. (same_next after_string one other t r m a b).1) text rest more x y

pub one_token : (after_string : Bool) (text : Text) (place : ℕ) (one other : Token) → IsTokenAt after_string text place one → IsTokenAt after_string text place other → one ≡ other
one_token after_string text place one other x y =
    let start = same_start text place one.start other.start (omega (arith, x.ordered, x.within)) (omega (arith, y.ordered, y.within)) x.skips y.skips in
    let here = subst (λ a. TextReads (IsNext after_string one.kind) (drop a text) (drop one.end text)) start x.is_next in
    let kind = same_kind after_string one.kind other.kind (drop other.start text) (drop one.end text) (drop other.end text) here y.is_next in
    let end = same_place text one.end other.end x.within y.within (same_rest after_string one.kind other.kind (drop other.start text) (drop one.end text) (drop other.end text) here y.is_next) in
    λ i. record { kind = kind i; start = start i; end = end i }

-- ---- and none fits where none does

next_fits : (after_string : Bool) (kind : Kind) (c : ℕ) (cs rest : Characters) → IsNext after_string kind (c ∷ cs) rest
    → ((kind : Kind) (spelled rest : Characters) → c ∷ cs ≡ spelled ++ rest → ¬ (IsToken after_string kind spelled)) → ⊥
next_fits after_string kind c cs rest x none = none kind x.spelled rest x.splits x.fits

reads_none : (after_string : Bool) (kind : Kind) (text rest : Text) → 0 < length text → TextReads (IsNext after_string kind) text rest → TextBeginsWithNoToken (IsToken after_string) text → ⊥
reads_none after_string kind text rest some x none = by x.text_characters x.text_is x.reads
  where
    by : (characters : Characters) → text ≡ encode_utf8_all characters → IsNext after_string kind characters x.rest_characters → ⊥
    by [] e is = absurd (omega (arith, ap length e))
    by (c ∷ cs) e is = next_fits after_string kind c cs x.rest_characters is (none (c ∷ cs) e)

pub token_or_none : (after_string : Bool) (text : Text) (place : ℕ) (token : Token) → IsTokenAt after_string text place token → HasNoTokenAt after_string text place → ⊥
token_or_none after_string text place token x none =
    let start = same_start text place token.start none.start (omega (arith, x.ordered, x.within)) (omega (arith, none.goes_on)) x.skips none.skips in
    let here = subst (λ a. TextReads (IsNext after_string token.kind) (drop a text) (drop token.end text)) start x.is_next in
    reads_none after_string token.kind (drop none.start text) (drop token.end text) (omega (arith, none.goes_on, length-drop none.start text)) here none.none

pub one_start : (text : Text) (place one other : ℕ) → IsTokenStart text place one → IsTokenStart text place other → one ≡ other
one_start text place one other x y = same_start text place one other x.within y.within x.skips y.skips
