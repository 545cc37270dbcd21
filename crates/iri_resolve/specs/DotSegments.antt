-- Removal of dot segments (RFC 3986, section 5.2.4), by its rules on an input buffer and an output buffer.
use Rattle.std.specs.Prelude.{ℕ, zero, suc, ◌+◌, Bool, ◌||◌, ◌==◌, nat_eq, if◌then◌else◌, codes, [], ◌∷◌, ◌++◌, take, drop, length}
use Rattle.std.specs.List.{before_last, starts_with, position_or_len}
use Rattle.std.specs.Str.{bytes_eq}
use Rattle.rdf_terms.specs.Lists.{Text}
use Rattle.iri_resolve.specs.Components.{slash}

pub record Buffers : Type 0 where
  pub input : Text
  pub output : Text

-- the input begins with the text
abbrev pub begins : Text → Text → Bool
begins input text = starts_with nat_eq input text

-- what follows the `/` at the front, where one stands there
abbrev pub without_slash : Text → Text
without_slash [] = []
without_slash (c ∷ cs) = if c == slash then cs else c ∷ cs

-- the first segment, with the `/` before it, where there is one, goes up to the next `/`
abbrev pub first_segment_len : Text → ℕ
first_segment_len [] = 0
first_segment_len (c ∷ cs) = 1 + position_or_len (λ b. b == slash) cs

-- the output without its last segment and the `/` before it, where there is one
abbrev pub without_last_segment : Text → Text
without_last_segment output = before_last (λ b. b == slash) output

-- the first rule that fits
unfoldable pub turn : Buffers → Buffers
turn b =
    -- `../` or `./` at the front is dropped
    if begins b.input (codes "../") then record { input = drop 3 b.input; output = b.output }
    else if begins b.input (codes "./") then record { input = drop 2 b.input; output = b.output }
    -- `/./` at the front, or `/.` that is all, becomes `/`
    else if begins b.input (codes "/./") then record { input = drop 2 b.input; output = b.output }
    else if bytes_eq b.input (codes "/.") then record { input = codes "/"; output = b.output }
    -- `/../` at the front, or `/..` that is all, becomes `/`, and the last segment of the output goes
    else if begins b.input (codes "/../") then record { input = drop 3 b.input; output = without_last_segment b.output }
    else if bytes_eq b.input (codes "/..") then record { input = codes "/"; output = without_last_segment b.output }
    -- `.` or `..` that is all is dropped
    else if bytes_eq b.input (codes ".") || bytes_eq b.input (codes "..") then record { input = []; output = b.output }
    -- the first segment, with the `/` before it, where there is one, moves to the output
    else record {
      input = drop (first_segment_len b.input) b.input;
      output = b.output ++ take (first_segment_len b.input) b.input;
    }

-- turns until the input is empty
abbrev pub turns : ℕ → Buffers → Buffers
turns zero b = b
turns (suc n) b = if length b.input == 0 then b else turns n (turn b)

-- each turn shortens the input, so there are no more turns than it has bytes
unfoldable pub without_dot_segments : Text → Text
without_dot_segments path = (turns (length path) (record { input = path; output = [] })).output
