-- What it means that a text begins with a token. There are many kinds of tokens, and the longest one that fits, of all
-- of them, is taken (RDF 1.1 TriG, section 4.5).
use Rattle.std.specs.Prelude.{◌≡◌, ◌≤◌, ◌⊎◌, ◌++◌, length}
use Rattle.rdf_terms.specs.Lists.{Text}
use Rattle.terminals.specs.Terminal.{Characters}
use Rattle.trig_lexer.specs.declared.kind.Kind.{Kind}
use Rattle.trig_lexer.specs.Fronts.{TextReads, TextReadsNone}

-- A family of shapes says which characters spell a token of which kind.

-- The text begins with a token of this kind, the rest follows, and no front of the text that is a token of any kind is
-- longer.
pub record BeginsWithLongest (shapes : Kind → Characters → Type 0) (text : Characters) (kind : Kind)
    (rest : Characters) : Type 0 where
  pub spelled : Characters
  pub splits : text ≡ spelled ++ rest
  pub fits : shapes kind spelled
  pub longest : (other : Kind) (others other_rest : Characters) → text ≡ others ++ other_rest → shapes other others
      → length others ≤ length spelled

-- no front of the text is a token of any kind
abbrev pub BeginsWithNoToken : (Kind → Characters → Type 0) → Characters → Type 0
BeginsWithNoToken shapes text =
    (kind : Kind) (spelled rest : Characters) → text ≡ spelled ++ rest → ¬ (shapes kind spelled)

-- the same of texts in UTF-8
abbrev pub TextBeginsWithLongest : (Kind → Characters → Type 0) → Text → Kind → Text → Type 0
TextBeginsWithLongest shapes text kind rest =
    TextReads (λ characters more. BeginsWithLongest shapes characters kind more) text rest

abbrev pub TextBeginsWithNoToken : (Kind → Characters → Type 0) → Text → Type 0
TextBeginsWithNoToken shapes text = TextReadsNone (BeginsWithNoToken shapes) text

-- the family in which one kind alone has a shape
abbrev pub Only : Kind → (Characters → Type 0) → Kind → Characters → Type 0
Only kind shape other spelled = (other ≡ kind) × shape spelled

-- the family with the shapes of two others
abbrev pub Either : (Kind → Characters → Type 0) → (Kind → Characters → Type 0) → Kind → Characters → Type 0
Either one other kind spelled = one kind spelled ⊎ other kind spelled
