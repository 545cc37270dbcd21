-- Resolution of an IRI reference against a base (RFC 3986, sections 5.2.2, 5.2.3 and 5.3; RFC 3987, section 6.5).
use Rattle.std.specs.Prelude.{Bool, ◌&&◌, ◌==◌, slice_index, if◌then◌else◌, codes, [], ◌++◌, length, Option, Some, None, is_some}
use Rattle.std.specs.List.{before_last, list_any}
use Rattle.rdf_terms.specs.Lists.{Text}
use Rattle.iri_resolve.specs.Components.{Components, components, slash}
use Rattle.iri_resolve.specs.DotSegments.{without_dot_segments}

-- ---- the merged path (RFC 3986, section 5.2.3)

-- the path up to and with its last `/`, or nothing where it has none
abbrev pub up_to_last_slash : Text → Text
up_to_last_slash path = if list_any (λ b. b == slash) path then before_last (λ b. b == slash) path ++ codes "/" else []

abbrev pub merged : Components → Text → Text
merged base path =
    if is_some base.authority && length base.path == 0 then codes "/" ++ path
    else up_to_last_slash base.path ++ path

abbrev pub begins_with_slash : Text → Bool
begins_with_slash path = slice_index path 0 == slash

-- ---- the target (RFC 3986, section 5.2.2)

unfoldable pub target : Components → Components → Components
target base reference =
    if is_some reference.scheme then record reference { path = without_dot_segments reference.path }
    else if is_some reference.authority then record reference {
      scheme = base.scheme;
      path = without_dot_segments reference.path;
    }
    else if length reference.path == 0 then record base {
      query = if is_some reference.query then reference.query else base.query;
      fragment = reference.fragment;
    }
    else record reference {
      scheme = base.scheme;
      authority = base.authority;
      path = without_dot_segments
          (if begins_with_slash reference.path then reference.path else merged base reference.path);
    }

-- ---- the components as one text (RFC 3986, section 5.3)

-- the component behind its delimiter, or nothing where there is none
abbrev pub behind : Text → Option Text → Text
behind delimiter None = []
behind delimiter (Some part) = delimiter ++ part

abbrev pub before_colon : Option Text → Text
before_colon None = []
before_colon (Some part) = part ++ codes ":"

unfoldable pub recomposed : Components → Text
recomposed t =
    before_colon t.scheme ++ behind (codes "//") t.authority ++ t.path ++ behind (codes "?") t.query
    ++ behind (codes "#") t.fragment

unfoldable pub resolved : Text → Text → Text
resolved base reference = recomposed (target (components base) (components reference))
