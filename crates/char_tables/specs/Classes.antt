-- The classes of characters in the grammars of RDF 1.1 N-Quads (section 4) and RDF 1.1 TriG (section 4.5), each under
-- the name that it has there.
use Rattle.std.specs.Prelude.{ℕ, Bool, not, ◌&&◌, nat_lt, [], ◌∷◌, ◌++◌}
use Rattle.char_tables.specs.Rows.{Rows, is_in}

-- PN_CHARS_BASE, the same in both
abbrev pub pn_chars_base : Rows
pn_chars_base =
    (0x41, 0x5A) ∷ (0x61, 0x7A) ∷ (0xC0, 0xD6) ∷ (0xD8, 0xF6) ∷ (0xF8, 0x2FF) ∷ (0x370, 0x37D) ∷ (0x37F, 0x1FFF)
    ∷ (0x200C, 0x200D) ∷ (0x2070, 0x218F) ∷ (0x2C00, 0x2FEF) ∷ (0x3001, 0xD7FF) ∷ (0xF900, 0xFDCF) ∷ (0xFDF0, 0xFFFD)
    ∷ (0x1_0000, 0xE_FFFF) ∷ []

-- PN_CHARS_U of N-Quads: `:` and `_` too
abbrev pub pn_chars_u_nquads : Rows
pn_chars_u_nquads = pn_chars_base ++ (0x3A, 0x3A) ∷ (0x5F, 0x5F) ∷ []

-- PN_CHARS_U of TriG: `_` too
abbrev pub pn_chars_u_trig : Rows
pn_chars_u_trig = pn_chars_base ++ (0x5F, 0x5F) ∷ []

-- PN_CHARS of TriG: `-`, the digits, U+00B7, U+0300 to U+036F, and U+203F and U+2040 too
abbrev pub pn_chars : Rows
pn_chars = pn_chars_u_trig ++ (0x2D, 0x2D) ∷ (0x30, 0x39) ∷ (0xB7, 0xB7) ∷ (0x300, 0x36F) ∷ (0x203F, 0x2040) ∷ []

-- whether the character is an ASCII one of PN_CHARS
abbrev pub is_ascii_pn : ℕ → Bool
is_ascii_pn c = nat_lt c 128 && is_in pn_chars c

-- what IRIREF excludes: U+0000 to U+0020, `"`, `<`, `>`, `\`, `^`, the grave accent, `{`, `|` and `}`
abbrev pub excluded_from_iriref : Rows
excluded_from_iriref =
    (0x00, 0x20) ∷ (0x22, 0x22) ∷ (0x3C, 0x3C) ∷ (0x3E, 0x3E) ∷ (0x5C, 0x5C) ∷ (0x5E, 0x5E) ∷ (0x60, 0x60) ∷
    (0x7B, 0x7D) ∷ []

-- whether the character may stand unescaped in an IRIREF
abbrev pub may_stand_in_iriref : ℕ → Bool
may_stand_in_iriref c = not (is_in excluded_from_iriref c)

-- HEX
abbrev pub hex : Rows
hex = (0x30, 0x39) ∷ (0x41, 0x46) ∷ (0x61, 0x66) ∷ []
