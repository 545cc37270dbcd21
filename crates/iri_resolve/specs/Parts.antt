-- Parts of a text as its components.
use Rattle.std.specs.Option.{option_copied}
use Rattle.iri_resolve.specs.Components.{Components}
use Rattle.iri_resolve.specs.declared.parts.Parts.{Parts}

abbrev pub components_of : Parts → Components
components_of p = record {
  scheme = option_copied p.scheme;
  authority = option_copied p.authority;
  path = p.path.now;
  query = option_copied p.query;
  fragment = option_copied p.fragment;
}
