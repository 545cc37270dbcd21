-- The strings of RDF 1.1 TriG (section 4.5): between one mark and one, or between three and three, where a mark is `"`
-- or `'`.
use Rattle.std.specs.Prelude.{◌≡◌, ◌≤◌, ◌<◌, ℕ, ◌⊎◌, List, [], ◌∷◌, ◌++◌, All, length}
use Rattle.std.specs.List.{concat}
use Rattle.terminals.specs.declared.bodies.Quote.{Quote}
use Rattle.terminals.specs.declared.bodies.Body.TheVariants.{Long}
use Rattle.terminals.specs.Terminal.{Characters}
use Rattle.terminals.specs.Spellings.{quote_mark, SpellsOne}
use Rattle.terminals.specs.Terminals.{ShortString}
use Rattle.trig_lexer.specs.declared.kind.Kind.{Kind}
use Rattle.trig_lexer.specs.declared.kind.Kind.TheVariants.{Quoted}

abbrev pub three_marks : Quote → Characters
three_marks quote = quote_mark quote ∷ quote_mark quote ∷ quote_mark quote ∷ []

-- at most two marks and one spelled character: ('"' | '""')? ([^"\] | ECHAR | UCHAR), and the same of `'`
pub record IsLongPiece (quote : Quote) (spelled : Characters) : Type 0 where
  pub marks : Characters
  pub one : Characters
  pub c : ℕ
  pub spelling : spelled ≡ marks ++ one
  pub are_marks : All (λ m. m ≡ quote_mark quote) marks
  pub at_most_two : length marks ≤ 2
  pub spells : SpellsOne (Long quote) one c

-- STRING_LITERAL_LONG_QUOTE and STRING_LITERAL_LONG_SINGLE_QUOTE: three marks, such pieces, and three marks
pub record IsLongString (quote : Quote) (spelled : Characters) : Type 0 where
  pub pieces : List Characters
  pub spelling : spelled ≡ three_marks quote ++ (concat pieces ++ three_marks quote)
  pub are_pieces : All (IsLongPiece quote) pieces

-- a short or a long string with this mark
abbrev pub IsQuotedBy : Quote → Characters → Type 0
IsQuotedBy quote spelled = ((value : Characters) × ShortString quote spelled value) ⊎ IsLongString quote spelled

-- any of the four forms
abbrev pub IsQuoted : Characters → Type 0
IsQuoted spelled = (quote : Quote) × IsQuotedBy quote spelled

abbrev pub QuotedShapes : Kind → Characters → Type 0
QuotedShapes Quoted spelled = IsQuoted spelled
QuotedShapes _ spelled = ⊥

-- the text begins with as many marks as it can, but at most two, and the rest follows
pub record BeginsWithMarks (quote : Quote) (text rest : Characters) : Type 0 where
  pub marks : Characters
  pub splits : text ≡ marks ++ rest
  pub are_marks : All (λ m. m ≡ quote_mark quote) marks
  pub at_most_two : length marks ≤ 2
  pub ends : (length marks ≡ 2) ⊎ ((more : Characters) → ¬ (rest ≡ quote_mark quote ∷ more))

-- pieces of a long string, and at least one of them
pub record AreLongPieces (quote : Quote) (spelled : Characters) : Type 0 where
  pub pieces : List Characters
  pub spelling : spelled ≡ concat pieces
  pub are_pieces : All (IsLongPiece quote) pieces
  pub some : 0 < length pieces
