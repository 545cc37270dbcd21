-- The table of the grammar: which production is the one to take for a name before a token.
use Rattle.std.specs.Prelude.{◌≡◌, ℕ, true, zero, suc, List, [], ◌∷◌, ◌++◌, Option, Some, None, slice_index_or}
use Rattle.trig_lexer.specs.declared.kind.Kind.{Kind}
use Rattle.trig_grammar.specs.declared.symbol.Symbol.{Symbol}
use Rattle.trig_grammar.specs.declared.nonterminal.Nonterminal.{Nonterminal}
use Rattle.trig_grammar.specs.declared.table.TheConstants.{UPPER, LOWER}
use Rattle.trig_grammar.specs.Grammar.{Rule, rule, rules}
use Rattle.trig_grammar.specs.Places.{column, row}
use Rattle.trig_grammar.specs.Beginnings.{predicts}

-- ---- the cells, and what they say

abbrev pub rule_at : List Rule → ℕ → Option Rule
rule_at [] n = None
rule_at (r ∷ rs) zero = Some r
rule_at (r ∷ rs) (suc n) = rule_at rs n

abbrev pub body_of : Option Rule → List Symbol
body_of None = []
body_of (Some r) = r.body

-- the right side of the production of this number
abbrev pub body_at : ℕ → List Symbol
body_at p = body_of (rule_at rules p)

-- the table is a long literal, in two halves, so each has a name that does not compute
unfoldable pub upper_cells : List (List (Option ℕ))
upper_cells = UPPER

unfoldable pub lower_cells : List (List (Option ℕ))
lower_cells = LOWER

unfoldable pub IsUpper : List (List (Option ℕ)) → Type 0
IsUpper cells = cells ≡ upper_cells

unfoldable pub IsLower : List (List (Option ℕ)) → Type 0
IsLower cells = cells ≡ lower_cells

unfoldable pub the_cells : List (List (Option ℕ))
the_cells = upper_cells ++ lower_cells

-- this is the table of the grammar
unfoldable pub IsTable : List (List (Option ℕ)) → Type 0
IsTable cells = cells ≡ the_cells

-- what the table has for the name before a token of this column
abbrev pub cell : Nonterminal → ℕ → Option ℕ
cell n k = slice_index_or (slice_index_or the_cells (row n) []) k None

-- the production of this number is one of the name, and the one to take before a token of this kind
abbrev pub Predicts : Nonterminal → Kind → ℕ → Type 0
Predicts n kind p =
    (body : List Symbol) × (rule_at rules p ≡ Some (rule n body)) × (predicts (rule n body) (column kind) ≡ true)
