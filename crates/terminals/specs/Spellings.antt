-- How the characters between the marks of an IRI or a string are spelled (RDF 1.1 N-Quads, section 4; RDF 1.1 TriG,
-- section 4.5).
use Rattle.std.specs.Prelude.{◌≡◌, ℕ, Bool, true, false, not, ◌||◌, ◌==◌, ◌⊎◌, [], ◌∷◌, ◌++◌, encode_utf8_all}
use Rattle.std.specs.Char.{IsScalar}
use Rattle.rdf_terms.specs.Lists.{Text, In}
use Rattle.char_tables.specs.Rows.{is_in}
use Rattle.char_tables.specs.Classes.{excluded_from_iriref}
use Rattle.terminals.specs.Terminal.{Characters}
use Rattle.terminals.specs.Escapes.{IsUchar, IsEchar}
use Rattle.terminals.specs.declared.bodies.Quote.{Quote}
use Rattle.terminals.specs.declared.bodies.Quote.TheVariants.{Double, Single}
use Rattle.terminals.specs.declared.bodies.Body.{Body}
use Rattle.terminals.specs.declared.bodies.Body.TheVariants.{Iri, Short, Long}
use Rattle.terminals.specs.declared.runs.Spelling.{Spelling}

abbrev pub quote_mark : Quote → ℕ
quote_mark Double = 34
quote_mark Single = 39

-- Which characters stand for themselves: in an IRI those that IRIREF does not exclude, in a string all but its mark and
-- `\`,
-- and in a short string no line ends either.
abbrev pub stands_for_itself : Body → ℕ → Bool
stands_for_itself Iri c = not (is_in excluded_from_iriref c)
stands_for_itself (Short quote) c = not (c == quote_mark quote || (c == 92 || (c == 10 || c == 13)))
stands_for_itself (Long quote) c = not (c == quote_mark quote || c == 92)

-- Which escapes may stand there. An IRI has UCHARs alone, and none of a character that IRIREF excludes.
abbrev pub IsEscape : Body → Characters → ℕ → Type 0
IsEscape Iri spelled c = IsUchar spelled c × (is_in excluded_from_iriref c ≡ false)
IsEscape (Short quote) spelled c = IsUchar spelled c ⊎ IsEchar spelled c
IsEscape (Long quote) spelled c = IsUchar spelled c ⊎ IsEchar spelled c

-- one character with its spelling
abbrev pub SpellsOne : Body → Characters → ℕ → Type 0
SpellsOne body spelled c =
    ((spelled ≡ c ∷ []) × (stands_for_itself body c ≡ true) × IsScalar c) ⊎ IsEscape body spelled c

-- the spellings of the characters, one behind the other
abbrev pub Spells : Body → Characters → Characters → Type 0
Spells body spelled [] = spelled ≡ []
Spells body spelled (c ∷ cs) =
    (first : Characters) × (more : Characters) × (spelled ≡ first ++ more) × SpellsOne body first c
    × Spells body more cs

-- no front of the characters spells one
abbrev pub SpellsNone : Body → Characters → Type 0
SpellsNone body characters =
    (one : Characters) (c : ℕ) (more : Characters) → characters ≡ one ++ more → ¬ (SpellsOne body one c)

-- characters in UTF-8 are spelled by others
pub record TextSpells (body : Body) (spelled value : Text) : Type 0 where
  pub spelled_characters : Characters
  pub value_characters : Characters
  pub spelled_is : spelled ≡ encode_utf8_all spelled_characters
  pub value_is : value ≡ encode_utf8_all value_characters
  pub spells : Spells body spelled_characters value_characters

-- the text begins with as many spelled characters as it can, and the rest follows
pub record BeginsWithRun (body : Body) (text : Text) (spelling : Spelling) (rest : Text) : Type 0 where
  pub spelled_characters : Characters
  pub value_characters : Characters
  pub rest_characters : Characters
  pub text_is : text ≡ encode_utf8_all (spelled_characters ++ rest_characters)
  pub spelled_is : spelling.text.now ≡ encode_utf8_all spelled_characters
  pub rest_is : rest ≡ encode_utf8_all rest_characters
  pub body_is : spelling.body ≡ body
  pub spells : Spells body spelled_characters value_characters
  pub plain : spelling.has_escapes ≡ false → spelled_characters ≡ value_characters
  -- a `\` begins each escape and is nowhere else
  pub escaped : spelling.has_escapes ≡ true → In 92 spelled_characters
  pub ends : SpellsNone body rest_characters

-- the value begins with what was written of it
abbrev pub IsFrontOf : Text → Text → Type 0
IsFrontOf written value = (left : Text) × (value ≡ written ++ left)
