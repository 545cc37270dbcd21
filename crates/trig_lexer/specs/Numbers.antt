-- The numbers of RDF 1.1 TriG (section 4.5): INTEGER, DECIMAL and DOUBLE.
use Rattle.std.specs.Prelude.{◌≡◌, ℕ, ◌<◌, true, false, ◌⊎◌, [], ◌∷◌, ◌++◌, All, length}
use Rattle.std.specs.Char.{is_ascii_digit}
use Rattle.terminals.specs.Terminal.{Characters}
use Rattle.trig_lexer.specs.declared.kind.Kind.{Kind}
use Rattle.trig_lexer.specs.declared.kind.Kind.TheVariants.{Integer, Decimal, Double}

-- [0-9]*
abbrev pub AreDigits : Characters → Type 0
AreDigits spelled = All (λ c. is_ascii_digit c ≡ true) spelled

-- [0-9]+
abbrev pub AreSomeDigits : Characters → Type 0
AreSomeDigits spelled = AreDigits spelled × (0 < length spelled)

-- [+-]?
abbrev pub IsSign : Characters → Type 0
IsSign spelled = (spelled ≡ []) ⊎ ((spelled ≡ 43 ∷ []) ⊎ (spelled ≡ 45 ∷ []))

-- [+-]? and then the shape
pub record IsSigned (shape : Characters → Type 0) (spelled : Characters) : Type 0 where
  pub sign : Characters
  pub unsigned : Characters
  pub spelling : spelled ≡ sign ++ unsigned
  pub is_sign : IsSign sign
  pub fits : shape unsigned

-- [0-9]* '.' [0-9]+
pub record IsFraction (spelled : Characters) : Type 0 where
  pub whole : Characters
  pub fraction : Characters
  pub spelling : spelled ≡ whole ++ 46 ∷ fraction
  pub are_whole : AreDigits whole
  pub are_fraction : AreSomeDigits fraction

-- what stands before the exponent of a DOUBLE: [0-9]+ '.' [0-9]*, or '.' [0-9]+, or [0-9]+
abbrev pub IsMantissa : Characters → Type 0
IsMantissa spelled =
    ((whole : Characters) × (fraction : Characters) × (spelled ≡ whole ++ 46 ∷ fraction) × AreSomeDigits whole
    × AreDigits fraction)
    ⊎ (((fraction : Characters) × (spelled ≡ 46 ∷ fraction) × AreSomeDigits fraction) ⊎ AreSomeDigits spelled)

-- [eE]
abbrev pub IsExponentLetter : ℕ → Type 0
IsExponentLetter c = (c ≡ 101) ⊎ (c ≡ 69)

-- EXPONENT: [eE] [+-]? [0-9]+
pub record IsExponent (spelled : Characters) : Type 0 where
  pub letter : ℕ
  pub power : Characters
  pub spelling : spelled ≡ letter ∷ power
  pub letter_is : IsExponentLetter letter
  pub is_power : IsSigned AreSomeDigits power

-- a mantissa and an exponent
pub record HasExponent (spelled : Characters) : Type 0 where
  pub mantissa : Characters
  pub exponent : Characters
  pub spelling : spelled ≡ mantissa ++ exponent
  pub is_mantissa : IsMantissa mantissa
  pub is_exponent : IsExponent exponent

-- INTEGER: [+-]? [0-9]+
abbrev pub IsInteger : Characters → Type 0
IsInteger spelled = IsSigned AreSomeDigits spelled

-- DECIMAL: [+-]? [0-9]* '.' [0-9]+
abbrev pub IsDecimal : Characters → Type 0
IsDecimal spelled = IsSigned IsFraction spelled

-- DOUBLE: [+-]? ([0-9]+ '.' [0-9]* EXPONENT | '.' [0-9]+ EXPONENT | [0-9]+ EXPONENT)
abbrev pub IsDouble : Characters → Type 0
IsDouble spelled = IsSigned HasExponent spelled

-- the three kinds of numbers
abbrev pub NumberShapes : Kind → Characters → Type 0
NumberShapes Integer spelled = IsInteger spelled
NumberShapes Decimal spelled = IsDecimal spelled
NumberShapes Double spelled = IsDouble spelled
NumberShapes _ spelled = ⊥

-- the same behind a sign
abbrev pub UnsignedShapes : Kind → Characters → Type 0
UnsignedShapes Integer spelled = AreSomeDigits spelled
UnsignedShapes Decimal spelled = IsFraction spelled
UnsignedShapes Double spelled = HasExponent spelled
UnsignedShapes _ spelled = ⊥

-- the text begins with a sign where one stands there, and the rest follows
pub record BeginsWithSign (text rest : Characters) : Type 0 where
  pub sign : Characters
  pub splits : text ≡ sign ++ rest
  pub is_sign : IsSign sign
  pub ends : (c : ℕ) (more : Characters) → text ≡ c ∷ more → sign ≡ [] → ¬ ((c ≡ 43) ⊎ (c ≡ 45))

-- the text begins with the letter of an exponent, and the rest follows; or with none
abbrev pub BeginsWithLetter : Characters → Characters → Type 0
BeginsWithLetter text rest = (letter : ℕ) × (text ≡ letter ∷ rest) × IsExponentLetter letter

abbrev pub BeginsWithNoLetter : Characters → Type 0
BeginsWithNoLetter text = (letter : ℕ) (rest : Characters) → text ≡ letter ∷ rest → ¬ (IsExponentLetter letter)

-- the text begins with as many digits as it can, and the rest follows
pub record BeginsWithDigits (text rest : Characters) : Type 0 where
  pub digits : Characters
  pub splits : text ≡ digits ++ rest
  pub are_digits : AreDigits digits
  pub ends : (c : ℕ) (more : Characters) → rest ≡ c ∷ more → is_ascii_digit c ≡ false
