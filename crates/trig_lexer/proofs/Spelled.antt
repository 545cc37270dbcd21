-- Each token but the end of the text is spelled by some characters, so that the place behind it lies further on.
use Rattle.std.proofs.Common.{◌≡◌, ◌≢◌, ℕ, ◌<◌, Bool, [], ◌∷◌, ◌++◌, length, drop, ap, ◌∙◌, arith, inl, inr}
use Rattle.std.specs.Prelude.{codes, encode_utf8_all}
use Rattle.std.specs.Char.{to_ascii_lowercase}
use Rattle.std.proofs.lemmas.List.{length-append, length-map, length-drop}
use Rattle.std.proofs.lemmas.Str.{encodes-append, length-le-encodes}
use Rattle.rdf_terms.specs.Lists.{Text}
use Rattle.terminals.specs.Terminal.{Characters}
use Rattle.trig_lexer.specs.declared.kind.Kind.{Kind}
use Rattle.trig_lexer.specs.declared.kind.Kind.TheVariants.{AtPrefix, AtBase, WordPrefix, WordBase, WordGraph, WordA, WordTrue, WordFalse, Dot, Semicolon, Comma, Carets, LeftBrace, RightBrace, LeftBracket, RightBracket, LeftParen, RightParen, IriRef, PnameNs, PnameLn, BlankLabel, Anon, Integer, Decimal, Double, Quoted, LangTag, End}
use Rattle.trig_lexer.specs.declared.token.Token.{Token}
use Rattle.trig_lexer.specs.Fronts.{TextReads}
use Rattle.trig_lexer.specs.Words.{IsInAnyCase}
use Rattle.trig_lexer.specs.Numbers.{IsSigned}
use Rattle.trig_lexer.specs.Names.{IsPnameNs}
use Rattle.trig_lexer.specs.Strings.{IsQuoted}
use Rattle.trig_lexer.specs.Tokens.{IsToken, IsNext, IsTokenAt}

some_word : (word spelled : Characters) → 0 < length word → IsInAnyCase word spelled → 0 < length spelled
some_word word spelled some e = omega (arith, ap length e, length-map spelled to_ascii_lowercase, length-map word to_ascii_lowercase)

some_front : (spelled one more : Characters) → spelled ≡ one ++ more → 0 < length one → 0 < length spelled
some_front spelled one more e some = omega (arith, ap length e, length-append one more)

some_back : (spelled one more : Characters) → spelled ≡ one ++ more → 0 < length more → 0 < length spelled
some_back spelled one more e some = omega (arith, ap length e, length-append one more)

some_signed : (shape : Characters → Type 0) → ((unsigned : Characters) → shape unsigned → 0 < length unsigned) → (spelled : Characters) → IsSigned shape spelled → 0 < length spelled
some_signed shape some spelled x = some_back spelled x.sign x.unsigned x.spelling (some x.unsigned x.fits)

some_namespace : (spelled : Characters) → IsPnameNs spelled → 0 < length spelled
some_namespace spelled x = some_back spelled x.prefix (58 ∷ []) x.spelling (omega arith)

some_quoted : (spelled : Characters) → IsQuoted spelled → 0 < length spelled
some_quoted spelled (quote, inl (value, x)) = omega (arith, ap length x.marks)
some_quoted spelled (quote, inr x) = omega (arith, ap length x.spelling)

pub some_spelled : (after_string : Bool) (kind : Kind) (spelled : Characters) → IsToken after_string kind spelled → 0 < length spelled
unfolding IsToken
some_spelled after_string AtPrefix spelled is = omega (arith, ap length is.1)
some_spelled after_string AtBase spelled is = omega (arith, ap length is.1)
some_spelled after_string WordPrefix spelled is = some_word (codes "PREFIX") spelled (omega arith) is
some_spelled after_string WordBase spelled is = some_word (codes "BASE") spelled (omega arith) is
some_spelled after_string WordGraph spelled is = some_word (codes "GRAPH") spelled (omega arith) is
some_spelled after_string WordA spelled is = omega (arith, ap length is)
some_spelled after_string WordTrue spelled is = omega (arith, ap length is)
some_spelled after_string WordFalse spelled is = omega (arith, ap length is)
some_spelled after_string Dot spelled is = omega (arith, ap length is)
some_spelled after_string Semicolon spelled is = omega (arith, ap length is)
some_spelled after_string Comma spelled is = omega (arith, ap length is)
some_spelled after_string Carets spelled is = omega (arith, ap length is)
some_spelled after_string LeftBrace spelled is = omega (arith, ap length is)
some_spelled after_string RightBrace spelled is = omega (arith, ap length is)
some_spelled after_string LeftBracket spelled is = omega (arith, ap length is)
some_spelled after_string RightBracket spelled is = omega (arith, ap length is)
some_spelled after_string LeftParen spelled is = omega (arith, ap length is)
some_spelled after_string RightParen spelled is = omega (arith, ap length is)
some_spelled after_string IriRef spelled is = omega (arith, ap length is.1.marks)
some_spelled after_string PnameNs spelled is = some_namespace spelled is
some_spelled after_string PnameLn spelled is = some_front spelled is.namespace is.local is.spelling (some_namespace is.namespace is.is_namespace)
some_spelled after_string BlankLabel spelled is = omega (arith, ap length is.1.mark)
some_spelled after_string Anon spelled is = omega (arith, ap length is.1)
some_spelled after_string Integer spelled is = some_signed _ (λ unsigned x. x.1) spelled is
some_spelled after_string Decimal spelled is = some_signed _ (λ unsigned x. some_back unsigned x.whole (46 ∷ x.fraction) x.spelling (omega arith)) spelled is
some_spelled after_string Double spelled is =
    some_signed _ (λ unsigned x. some_back unsigned x.mantissa x.exponent x.spelling (omega (arith, ap length x.is_exponent.spelling))) spelled is
some_spelled after_string Quoted spelled is = some_quoted spelled is
some_spelled after_string LangTag spelled is = omega (arith, ap length is.0.1.mark)
some_spelled after_string End spelled is = absurd is

some_next : (after_string : Bool) (kind : Kind) (characters rest : Characters) → kind ≢ End → IsNext after_string kind characters rest
    → (spelled : Characters) × (characters ≡ spelled ++ rest) × (0 < length spelled)
some_next after_string kind [] rest some is = absurd (some is.0)
some_next after_string kind (c ∷ more) rest some is = (is.spelled, is.splits, some_spelled after_string kind is.spelled is.fits)

some_read : (after_string : Bool) (kind : Kind) (text rest : Text) → kind ≢ End → TextReads (IsNext after_string kind) text rest → length rest < length text
some_read after_string kind text rest some x =
    let spelled = some_next after_string kind x.text_characters x.rest_characters some x.reads in
    let bytes = ap length x.text_is ∙ ap (λ t. length (encode_utf8_all t)) spelled.1 ∙ ap length (encodes-append spelled.0 x.rest_characters)
    ∙ length-append (encode_utf8_all spelled.0) (encode_utf8_all x.rest_characters) in
    omega (arith, ap length x.rest_is, length-le-encodes spelled.0)

pub ends_behind : (after_string : Bool) (text : Text) (place : ℕ) (token : Token) → IsTokenAt after_string text place token → token.kind ≢ End → place < token.end
ends_behind after_string text place token is some =
    let less = some_read after_string token.kind (drop token.start text) (drop token.end text) some is.is_next in
    let at = is.behind in
    omega (arith, length-drop token.start text, length-drop token.end text)
