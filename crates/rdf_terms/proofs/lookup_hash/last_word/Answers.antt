use Rattle.rdf_terms.proofs.LastWords.{slice_set-zeros}
use Rattle.rdf_terms.proofs.lookup_hash.last_word.Goals as goal

pub returns : goal.returns
returns c = rw c.copy_from_slice.ensures.after (slice_set-zeros c.args.bytes.now c.requires)
