use Rattle.std.proofs.Common.{List, ℕ, ◌≡◌, Option, Bor, subst, sym}
use Rattle.std.specs.Option.{IfSome, IfNone}
use Rattle.terminals.specs.declared.bodies.Quote.{Quote}
use Rattle.terminals.specs.declared.bodies.Quote.TheVariants.{Double, Single}
use Rattle.terminals.specs.declared.bodies.Body.TheVariants.{Short}
use Rattle.terminals.specs.declared.runs.Spelling.{Spelling}
use Rattle.terminals.specs.Terminal.{TextBeginsWithNone}
use Rattle.terminals.specs.Spellings.{quote_mark}
use Rattle.terminals.specs.Terminals.{IsBetween, ShortString, ReadsSpelling}
use Rattle.terminals.proofs.delimited.short_string.Goals as goal

found_at : (q p : Quote) → q ≡ p → (r : Option (Spelling × Bor (List ℕ))) (text : List ℕ)
    → IfSome r (λ x. ReadsSpelling (IsBetween (quote_mark p) (quote_mark p) (Short q)) text x.0 x.1.now) → IfSome r (λ x. ReadsSpelling (ShortString q) text x.0 x.1.now)
found_at q p e r text h = subst (λ p. IfSome r (λ x. ReadsSpelling (IsBetween (quote_mark p) (quote_mark p) (Short q)) text x.0 x.1.now)) (sym e) h

none_at : (q p : Quote) → q ≡ p → (r : Option (Spelling × Bor (List ℕ))) (text : List ℕ)
    → IfNone r (TextBeginsWithNone (IsBetween (quote_mark p) (quote_mark p) (Short q)) text) → IfNone r (TextBeginsWithNone (ShortString q) text)
none_at q p e r text h = subst (λ p. IfNone r (TextBeginsWithNone (IsBetween (quote_mark p) (quote_mark p) (Short q)) text)) (sym e) h

pub returns-in-Double-clause-found : goal.returns-in-Double-clause-found
returns-in-Double-clause-found c = found_at c.args.quote Double c.in-Double.is c.between.result c.args.text.now c.between.ensures.found

pub returns-in-Double-clause-none : goal.returns-in-Double-clause-none
returns-in-Double-clause-none c = none_at c.args.quote Double c.in-Double.is c.between.result c.args.text.now c.between.ensures.none

pub returns-in-Single-clause-found : goal.returns-in-Single-clause-found
returns-in-Single-clause-found c = found_at c.args.quote Single c.in-Single.is c.between-in-Single.result c.args.text.now c.between-in-Single.ensures.found

pub returns-in-Single-clause-none : goal.returns-in-Single-clause-none
returns-in-Single-clause-none c = none_at c.args.quote Single c.in-Single.is c.between-in-Single.result c.args.text.now c.between-in-Single.ensures.none
