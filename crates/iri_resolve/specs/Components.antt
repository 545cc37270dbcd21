-- The five components of an IRI reference (RFC 3986, sections 3 and 4.1).
use Rattle.std.specs.Prelude.{ℕ, Bool, ◌==◌, nat_eq, if◌then◌else◌, codes, drop, Option, Some, None}
use Rattle.std.specs.List.{before_first, after_first, list_any, position_or_len, starts_with}
use Rattle.rdf_terms.specs.Lists.{Text}
use Rattle.iri_resolve.specs.Scheme.{begins_with_scheme}

-- each without its delimiters
pub record Components : Type 0 where
  pub scheme : Option Text
  pub authority : Option Text
  pub path : Text
  pub query : Option Text
  pub fragment : Option Text

-- ---- the delimiters `:`, `/`, `?` and `#`

abbrev pub colon : ℕ
colon = 58

abbrev pub slash : ℕ
slash = 47

abbrev pub question_mark : ℕ
question_mark = 63

abbrev pub number_sign : ℕ
number_sign = 35

-- what stands before the first such byte, or all where there is none
abbrev pub before : ℕ → Text → Text
before c text = before_first (λ b. b == c) text

-- what follows the first such byte, where there is one
abbrev pub after : ℕ → Text → Option Text
after c text = if list_any (λ b. b == c) text then Some (after_first (λ b. b == c) text) else None

-- the rest from the first such byte on
abbrev pub from : ℕ → Text → Text
from c text = drop (position_or_len (λ b. b == c) text) text

-- ---- the components

-- what stands before the first `:`
abbrev pub scheme_of : Text → Option Text
scheme_of text = if begins_with_scheme text then Some (before colon text) else None

abbrev pub without_scheme : Text → Text
without_scheme text = if begins_with_scheme text then after_first (λ b. b == colon) text else text

-- what follows the first `#`
abbrev pub fragment_of : Text → Option Text
fragment_of text = after number_sign (without_scheme text)

-- what follows the first `?` before the fragment
abbrev pub query_of : Text → Option Text
query_of text = after question_mark (before number_sign (without_scheme text))

-- authority and path: what stands before query and fragment
abbrev pub hierarchy : Text → Text
hierarchy text = before question_mark (before number_sign (without_scheme text))

abbrev pub has_authority : Text → Bool
has_authority hierarchical = starts_with nat_eq hierarchical (codes "//")

-- what follows `//`, up to the next `/` or the end
abbrev pub authority_of : Text → Option Text
authority_of hierarchical = if has_authority hierarchical then Some (before slash (drop 2 hierarchical)) else None

-- and what remains
abbrev pub path_of : Text → Text
path_of hierarchical = if has_authority hierarchical then from slash (drop 2 hierarchical) else hierarchical

unfoldable pub components : Text → Components
components text = record {
  scheme = scheme_of text;
  authority = authority_of (hierarchy text);
  path = path_of (hierarchy text);
  query = query_of text;
  fragment = fragment_of text;
}
