-- The tokens that were taken, and the stack behind them.
use Rattle.std.proofs.Common.{◌≡◌, ℕ, Bool, true, List, [], ◌∷◌, ◌++◌, refl, sym, subst, append_assoc, Result, Ok, Err, IfOk, OnOk}
use Rattle.trig_lexer.specs.declared.kind.Kind.{Kind}
use Rattle.trig_lexer.specs.declared.kind.Kind.TheVariants.{End}
use Rattle.trig_grammar.specs.declared.symbol.Symbol.{Symbol}
use Rattle.trig_grammar.specs.declared.symbol.Symbol.TheVariants.{Token}
use Rattle.trig_grammar.specs.declared.nonterminal.Nonterminal.TheVariants.{Document}
use Rattle.trig_grammar.specs.Grammar.{Derives, start, IsSentence, BeginsSentence}
use Rattle.trig_grammar.specs.Places.{columns}
use Rattle.trig_grammar.specs.Beginnings.{holds, begin_with, follow}
use Rattle.trig_grammar.specs.Stack.{Fits, Takes, TakesNot, IsBehind}
use Rattle.trig_grammar.proofs.Tests.{implies, every, every_held, modus}
use Rattle.trig_grammar.proofs.Standing.{derives_some}
use Rattle.trig_grammar.proofs.Ending.{begun_is_whole}

abbrev follows_start : ℕ → Bool
follows_start k = implies (begin_with k (Token End ∷ [])) (holds k (follow Document))

start_followed : every follows_start columns ≡ true
start_followed = refl

pub start_fits : Fits start
start_fits = (λ k held b. modus (begin_with k (Token End ∷ [])) (holds k (follow Document)) (every_held follows_start columns k start_followed held) b, tt)

-- before the first token
pub begun_behind : (symbols : List Symbol) → symbols ≡ start → IsBehind [] symbols
begun_behind symbols e = subst (IsBehind []) (sym e) (record { begins = derives_some start; goes_on = λ more. ((λ d. d), (λ d. d)); fits = start_fits })

-- the token was taken
pub took : (old new : List Symbol) (kind : Kind) → Takes old kind new → Fits new → (front : List Kind) → IsBehind front old → IsBehind (front ++ kind ∷ []) new
took old new kind takes_it fits front behind = record {
  begins = begins;
  goes_on = λ more. (
    (λ d. (takes_it more).0 ((behind.goes_on (kind ∷ more)).0 (subst (Derives start) (append_assoc front (kind ∷ []) more) d))),
    (λ d. subst (Derives start) (sym (append_assoc front (kind ∷ []) more)) ((behind.goes_on (kind ∷ more)).1 ((takes_it more).1 d))),
  );
  fits = fits;
}
  where
    begins : BeginsSentence (front ++ kind ∷ [])
    begins =
        let some = derives_some new in
        (some.0, subst (Derives start) (sym (append_assoc front (kind ∷ []) some.0)) ((behind.goes_on (kind ∷ some.0)).1 ((takes_it some.0).1 some.1)))

-- with the end of the text the sentence is whole
pub ended : (old new : List Symbol) (kind : Kind) → Takes old kind new → Fits new → kind ≡ End → (front : List Kind) → IsBehind front old → IsSentence (front ++ kind ∷ [])
ended old new kind takes_it fits end front behind =
    let begins = (took old new kind takes_it fits front behind).begins in
    subst (λ k. IsSentence (front ++ k ∷ [])) (sym end) (begun_is_whole front (subst (λ k. BeginsSentence (front ++ k ∷ [])) end begins))

-- no sentence goes on with the token
pub stopped : (old : List Symbol) (kind : Kind) → TakesNot old kind → (front : List Kind) → IsBehind front old → ¬ (BeginsSentence (front ++ kind ∷ []))
stopped old kind not front behind b = not b.0 ((behind.goes_on (kind ∷ b.0)).0 (subst (Derives start) (append_assoc front (kind ∷ []) b.0) b.1))

-- ---- what a call that takes a token answers

pub all_took : {E : Type 0} (result : Result Bool E) (old new : List Symbol) (kind : Kind) → IfOk result (λ taken. taken ≡ true → Takes old kind new) → OnOk result (Fits new)
    → IfOk result (λ taken. taken ≡ true → (front : List Kind) → IsBehind front old → IsBehind (front ++ kind ∷ []) new)
all_took (Ok taken) old new kind takes fits = λ same front behind. took old new kind (takes same) fits front behind
all_took (Err e) old new kind takes fits = tt

pub all_ended : {E : Type 0} (result : Result Bool E) (old new : List Symbol) (kind : Kind) → IfOk result (λ taken. taken ≡ true → Takes old kind new) → OnOk result (Fits new)
    → IfOk result (λ taken. taken ≡ true → kind ≡ End → (front : List Kind) → IsBehind front old → IsSentence (front ++ kind ∷ []))
all_ended (Ok taken) old new kind takes fits = λ same end front behind. ended old new kind (takes same) fits end front behind
all_ended (Err e) old new kind takes fits = tt
