-- Tokens that are ASCII are found by bytes as by characters.
use Rattle.std.proofs.Common.{◌≡◌, ℕ, List, ◌++◌, sym, ap, ◌∙◌}
use Rattle.std.specs.Prelude.{encode_utf8_all}
use Rattle.std.specs.Str.{IsAscii, IsUtf8}
use Rattle.std.proofs.lemmas.Str.{encodes-append, encodes-IsAscii}
use Rattle.terminals.specs.Terminal.{Characters}
use Rattle.terminals.proofs.Running.{front_from_encodes}
use Rattle.trig_lexer.specs.declared.kind.Kind.{Kind}
use Rattle.trig_lexer.specs.Longest.{BeginsWithLongest, BeginsWithNoToken, TextBeginsWithLongest, TextBeginsWithNoToken}

-- the bytes of ASCII characters and what follows them
pub ascii_bytes : (text characters spelled rest : List ℕ) → text ≡ encode_utf8_all characters → characters ≡ spelled ++ rest → IsAscii spelled → text ≡ spelled ++ encode_utf8_all rest
ascii_bytes text characters spelled rest is splits ascii =
    is ∙ ap encode_utf8_all splits ∙ encodes-append spelled rest ∙ ap (λ f. f ++ encode_utf8_all rest) (encodes-IsAscii spelled ascii)

module _ (shapes : Kind → Characters → Type 0) (ascii : (kind : Kind) (spelled : Characters) → shapes kind spelled → IsAscii spelled) where
  pub ascii_longest : (text : List ℕ) (kind : Kind) (rest : List ℕ) → IsUtf8 text → BeginsWithLongest shapes text kind rest → TextBeginsWithLongest shapes text kind rest
  ascii_longest text kind rest utf8 begins =
      let same : encode_utf8_all begins.spelled ≡ begins.spelled = encodes-IsAscii begins.spelled (ascii kind begins.spelled begins.fits) in
      let back = front_from_encodes utf8.0 begins.spelled rest (utf8.1.1 ∙ begins.splits ∙ ap (λ f. f ++ rest) (sym same)) in
      record {
        text_characters = utf8.0;
        rest_characters = back.0;
        text_is = sym utf8.1.1;
        rest_is = sym back.2;
        reads = record {
          spelled = begins.spelled;
          splits = back.1;
          fits = begins.fits;
          longest = λ other others other_rest e fits.
              begins.longest other others (encode_utf8_all other_rest) (ascii_bytes text utf8.0 others other_rest (sym utf8.1.1) e (ascii other others fits)) fits;
        };
      }

  pub ascii_no_token : (text : List ℕ) → BeginsWithNoToken shapes text → TextBeginsWithNoToken shapes text
  ascii_no_token text none characters is kind spelled rest splits fits =
      none kind spelled (encode_utf8_all rest) (ascii_bytes text characters spelled rest is splits (ascii kind spelled fits)) fits
