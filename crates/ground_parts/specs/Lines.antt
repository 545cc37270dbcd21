-- Texts that consist of lines, as canonical N-Quads does (RDF Dataset Canonicalization, appendix A), and their merge.
use Rattle.std.specs.Prelude.{◌≡◌, ◌≢◌, ◌↔◌, [], ◌∷◌, ◌++◌, List, All}
use Rattle.rdf_terms.specs.Vocabulary.{Text, In, AreStrictlyAscending, joined}

-- a line feed stands at the end of the text and nowhere else
pub record IsLine (text : Text) : Type 0 where
  pub content : Text
  pub ended : text ≡ content ++ 10 ∷ []
  pub one_feed : All (λ c. c ≢ 10) content

-- the text is these lines, one after the other
pub record AreLinesOf (text : Text) (lines : List Text) : Type 0 where
  pub are_lines : All IsLine lines
  pub spelled : text ≡ joined lines

-- a text that does not consist of lines has none
pub record HasLine (text line : Text) : Type 0 where
  pub lines : List Text
  pub are_lines : AreLinesOf text lines
  pub there : In line lines

-- one of the texts has the line
pub record IsLineOfSome (texts : List Text) (line : Text) : Type 0 where
  pub text : Text
  pub there : In text texts
  pub has_line : HasLine text line

-- The merge of texts: the lines of all of them, each once, in byte order. `sort -m -u` gives it in the locale C, where
-- the lines of each text are in byte order.
pub record IsMerge (texts : List Text) (merged : Text) : Type 0 where
  pub lines : List Text
  pub are_lines : AreLinesOf merged lines
  pub ascending : AreStrictlyAscending lines
  pub all : (line : Text) → (In line lines ↔ IsLineOfSome texts line)

-- texts have one merge at most
abbrev pub MergesAreOne : Type 0
MergesAreOne =
    (texts : List Text) (merged other : Text) → IsMerge texts merged → IsMerge texts other → merged ≡ other

-- a merge may be made of merges: those of some of the texts first
abbrev pub MergesOfMerges : Type 0
MergesOfMerges =
    (texts others : List Text) (part merged : Text) → IsMerge texts part
    → (IsMerge (part ∷ others) merged ↔ IsMerge (texts ++ others) merged)
