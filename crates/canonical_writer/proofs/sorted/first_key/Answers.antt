use Rattle.std.proofs.Common.{◌≡◌, true, get_or, sym, subst, arith}
use Rattle.std.proofs.lemmas.Option.{get_or_from_slice_get}
use Rattle.rdf_terms.specs.Lists.{is_at_most}
use Rattle.canonical_writer.proofs.sorted.first_key.Goals as goal

pub returns-in-Some : goal.returns-in-Some
returns-in-Some c = λ k d h.
    subst (λ r. is_at_most r.key.now (get_or c.args.runs.now k d).key.now ≡ true) (get_or_from_slice_get c.args.runs.now 0 _ d (sym c.in-Some.ensures.value)) (c.requires 0 k d (omega arith) h)
