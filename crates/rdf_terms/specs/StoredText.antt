-- The bytes of a text, wherever they lie.
use Rattle.std.specs.Prelude.{ℕ, List, string_bytes}
use Rattle.rdf_terms.specs.declared.term_text.Stored.{Stored}
use Rattle.rdf_terms.specs.declared.term_text.Stored.TheVariants.{Inline, Known, Apart}

abbrev pub stored_bytes : Stored → List ℕ
stored_bytes (Inline text) = text
stored_bytes (Known text) = text.now
stored_bytes (Apart text) = string_bytes text
