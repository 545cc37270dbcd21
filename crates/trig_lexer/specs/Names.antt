-- Prefixed names of RDF 1.1 TriG (section 4.5): PNAME_NS and PNAME_LN.
use Rattle.std.specs.Prelude.{◌≡◌, ℕ, Bool, true, false, if◌then◌else◌, ◌||◌, ◌==◌, ◌⊎◌, List, [], ◌∷◌, ◌++◌, All}
use Rattle.std.specs.Char.{is_ascii_digit}
use Rattle.std.specs.List.{concat}
use Rattle.rdf_terms.specs.Lists.{Text}
use Rattle.char_tables.specs.Rows.{Rows, is_in}
use Rattle.char_tables.specs.Classes.{pn_chars_base, pn_chars_u_trig, pn_chars, hex}
use Rattle.terminals.specs.Terminal.{Characters}
use Rattle.trig_lexer.specs.declared.kind.Kind.{Kind}
use Rattle.trig_lexer.specs.declared.kind.Kind.TheVariants.{PnameNs, PnameLn}
use Rattle.trig_lexer.specs.declared.parts.Part.{Part}
use Rattle.trig_lexer.specs.declared.parts.Part.TheVariants.{Prefix, Local}
use Rattle.trig_lexer.specs.declared.parts.Place.{Place}
use Rattle.trig_lexer.specs.declared.parts.Place.TheVariants.{First, Later}

-- what PN_LOCAL_ESC may escape: `!`, `#` to `/`, `;`, `=`, `?`, `@`, `_` and `~`
abbrev pub escaped_in_local : Rows
escaped_in_local =
    (0x21, 0x21) ∷ (0x23, 0x2F) ∷ (0x3B, 0x3B) ∷ (0x3D, 0x3D) ∷ (0x3F, 0x40) ∷ (0x5F, 0x5F) ∷ (0x7E, 0x7E) ∷ []

-- '%' HEX HEX
pub record IsPercent (spelled : Characters) : Type 0 where
  pub first : ℕ
  pub second : ℕ
  pub spelling : spelled ≡ 37 ∷ first ∷ second ∷ []
  pub first_hex : is_in hex first ≡ true
  pub second_hex : is_in hex second ≡ true

-- PN_LOCAL_ESC: `\` and what it escapes
pub record IsLocalEscape (spelled : Characters) : Type 0 where
  pub c : ℕ
  pub spelling : spelled ≡ 92 ∷ c ∷ []
  pub escaped : is_in escaped_in_local c ≡ true

-- PLX
abbrev pub IsPlx : Characters → Type 0
IsPlx spelled = IsPercent spelled ⊎ IsLocalEscape spelled

-- Which characters may stand first in a PN_PREFIX and a PN_LOCAL, and which later and at its end.
abbrev pub takes : Part → Place → ℕ → Bool
takes Prefix First c = is_in pn_chars_base c
takes Prefix Later c = is_in pn_chars c
takes Local First c = is_in pn_chars_u_trig c || (c == 58 || is_ascii_digit c)
takes Local Later c = is_in pn_chars c || c == 58

-- a PN_LOCAL may also have PLX at each place
abbrev pub IsEscapeIn : Part → Characters → Type 0
IsEscapeIn Prefix spelled = ⊥
IsEscapeIn Local spelled = IsPlx spelled

-- one such character, or an escape
abbrev pub IsPiece : Part → Place → Characters → Type 0
IsPiece part place spelled = ((c : ℕ) × (spelled ≡ c ∷ []) × (takes part place c ≡ true)) ⊎ IsEscapeIn part spelled

-- nothing, or pieces and dots with a piece at the end
abbrev pub GoesOnAsPart : Part → Characters → Type 0
GoesOnAsPart part more = (more ≡ []) ⊎ ((inner : List Characters) × (last : Characters) × (more ≡ concat inner ++ last)
    × All (λ piece. IsPiece part Later piece ⊎ (piece ≡ 46 ∷ [])) inner × IsPiece part Later last)

-- PN_PREFIX: PN_CHARS_BASE ((PN_CHARS | '.')* PN_CHARS)?
-- PN_LOCAL: (PN_CHARS_U | ':' | [0-9] | PLX) ((PN_CHARS | '.' | ':' | PLX)* (PN_CHARS | ':' | PLX))?
pub record IsPart (part : Part) (spelled : Characters) : Type 0 where
  pub first : Characters
  pub more : Characters
  pub spelling : spelled ≡ first ++ more
  pub begins : IsPiece part First first
  pub goes_on : GoesOnAsPart part more

-- PNAME_NS: PN_PREFIX? ':'
pub record IsPnameNs (spelled : Characters) : Type 0 where
  pub prefix : Characters
  pub spelling : spelled ≡ prefix ++ 58 ∷ []
  pub is_prefix : (prefix ≡ []) ⊎ IsPart Prefix prefix

-- PNAME_LN: PNAME_NS PN_LOCAL
pub record IsPnameLn (spelled : Characters) : Type 0 where
  pub namespace : Characters
  pub local : Characters
  pub spelling : spelled ≡ namespace ++ local
  pub is_namespace : IsPnameNs namespace
  pub is_local : IsPart Local local

-- the two kinds of names
abbrev pub NameShapes : Kind → Characters → Type 0
NameShapes PnameNs spelled = IsPnameNs spelled
NameShapes PnameLn spelled = IsPnameLn spelled
NameShapes _ spelled = ⊥

-- What is left of a name without its PN_LOCAL_ESCs: a `\` is left out, and what follows it stands for itself. The first
-- argument says whether a `\` stands right before the text.
abbrev pub unescaped_behind : Bool → Text → Text
unescaped_behind escaped [] = []
unescaped_behind true (c ∷ cs) = c ∷ unescaped_behind false cs
unescaped_behind false (c ∷ cs) = if c == 92 then unescaped_behind true cs else c ∷ unescaped_behind false cs

abbrev pub unescaped : Text → Text
unescaped text = unescaped_behind false text
