-- Which of two tokens at the front of one text is the longer one: it leaves less.
use Rattle.std.specs.Prelude.{◌≡◌, ◌≤◌, ◌⊎◌, Option, Some, None, length}
use Rattle.rdf_terms.specs.Lists.{Text}
use Rattle.terminals.specs.Terminal.{Characters}
use Rattle.trig_lexer.specs.declared.kind.Kind.{Kind}
use Rattle.trig_lexer.specs.declared.found.Found.{Found}
use Rattle.trig_lexer.specs.Longest.{TextBeginsWithLongest, TextBeginsWithNoToken}

abbrev pub IsLonger : Option Found → Option Found → Option Found → Type 0
IsLonger None other result = result ≡ other
IsLonger (Some one) None result = result ≡ Some one
IsLonger (Some one) (Some other) result =
    ((result ≡ Some one) × (length one.rest.now ≤ length other.rest.now))
    ⊎ ((result ≡ Some other) × (length other.rest.now ≤ length one.rest.now))

-- what is found at the front of a text, of all kinds that have a shape in the family
abbrev pub Finds : (Kind → Characters → Type 0) → Text → Option Found → Type 0
Finds shapes text None = TextBeginsWithNoToken shapes text
Finds shapes text (Some x) = TextBeginsWithLongest shapes text x.kind x.rest.now
