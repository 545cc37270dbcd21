-- The scheme of a text as a test (RFC 3986, section 3.1).
use Rattle.std.specs.Prelude.{Bool, ◌&&◌, ◌==◌, nat_lt, length, slice_index}
use Rattle.std.specs.Char.{is_ascii_alphabetic}
use Rattle.std.specs.List.{prefix_len}
use Rattle.rdf_terms.specs.Vocabulary.{Text, is_scheme_byte}

-- the bytes at the front that may stand in a scheme are followed by `:`, and the first of them is a letter
abbrev pub begins_with_scheme : Text → Bool
begins_with_scheme text =
    let end = prefix_len is_scheme_byte text in
    nat_lt end (length text) && (slice_index text end == 58 && is_ascii_alphabetic (slice_index text 0))
