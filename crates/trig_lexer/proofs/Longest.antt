-- A terminal as a kind of token.
use Rattle.std.proofs.Common.{refl}
use Rattle.rdf_terms.specs.Lists.{Text}
use Rattle.terminals.specs.Terminal.{Characters, TextBeginsWith, TextBeginsWithNone}
use Rattle.trig_lexer.specs.declared.kind.Kind.{Kind}
use Rattle.trig_lexer.specs.Longest.{TextBeginsWithLongest, TextBeginsWithNoToken, Only}
use Rattle.trig_lexer.specs.Words.{HasValue}
use Rattle.trig_lexer.proofs.Texts.{terminal_then}

-- where each token of a family is the terminal
module _ (shapes : Kind → Characters → Type 0) (terminal : Characters → Characters → Type 0) (is_one : (kind : Kind) (spelled : Characters) → shapes kind spelled → HasValue terminal spelled)
    (text : Text) where
  pub terminal_found : (kind : Kind) (value rest : Text) (x : TextBeginsWith terminal text value rest) → shapes kind x.begins.spelled → TextBeginsWithLongest shapes text kind rest
  terminal_found kind value rest x fits =
      terminal_then x (record {
        spelled = x.begins.spelled;
        splits = x.begins.splits;
        fits = fits;
        longest = λ other others more e is. let one = is_one other others is in x.begins.longest others one.0 more e one.1;
      })

  pub terminal_none : TextBeginsWithNone terminal text → TextBeginsWithNoToken shapes text
  terminal_none none characters e kind spelled rest splits is = let one = is_one kind spelled is in none characters e spelled one.0 rest splits one.1

module _ (kind : Kind) (terminal : Characters → Characters → Type 0) (text : Text) where
  pub only_found : (value rest : Text) → TextBeginsWith terminal text value rest → TextBeginsWithLongest (Only kind (HasValue terminal)) text kind rest
  only_found value rest x = terminal_found (Only kind (HasValue terminal)) terminal (λ k spelled is. is.1) text kind value rest x (refl, (x.value_characters, x.begins.fits))

  pub only_none : TextBeginsWithNone terminal text → TextBeginsWithNoToken (Only kind (HasValue terminal)) text
  only_none = terminal_none (Only kind (HasValue terminal)) terminal (λ k spelled is. is.1) text
