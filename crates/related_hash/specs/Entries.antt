-- The entries of a call, by the places of the quads that they come from.
use Rattle.std.specs.Prelude.{ℕ, List, [], Option, Some, None, slice_get}
use Rattle.rdf_terms.specs.Vocabulary.{Text, Document, dataset, statements, Statement}
use Rattle.canon_model.specs.Hashing.{Hashing}
use Rattle.canon_model.specs.Groups.{RelatedEntry, entries_of_statement}
use Rattle.related_hash.specs.declared.entry.Entry.{Entry}

-- what an entry stands for
abbrev pub related_entry : Entry → RelatedEntry
related_entry e = record { hash = e.hash; node = e.node }

abbrev pub hash_of : Entry → Text
hash_of e = e.hash

-- ---- the entries of a quad

abbrev pub entries_of : Hashing → Document → List ℕ → List ℕ → ℕ → Option Statement → List RelatedEntry
entries_of ρ d c i n None = []
entries_of ρ d c i n (Some st) = entries_of_statement ρ (dataset d) c i n st

abbrev pub entries_at : Hashing → Document → List ℕ → List ℕ → ℕ → ℕ → List RelatedEntry
entries_at ρ d c i n place = entries_of ρ d c i n (slice_get (statements d) place)
