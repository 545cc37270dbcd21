use Rattle.std.proofs.Common.{◌++◌, sym, ap, ◌∙◌, append_assoc, arith}
use Rattle.std.proofs.lemmas.Slice.{pushed}
use Rattle.rdf_terms.proofs.Common.{numeral, numeral-decimal}
use Rattle.canonical_writer.proofs.names.push_numbered.Goals as goal

pub returns-clause-ok : goal.returns-clause-ok
returns-clause-ok c =
    let digits = c.as_bytes-digits.ensures.value ∙ c.format.ensures.text ∙ sym (numeral-decimal c.args.number (omega arith)) in
    let start = pushed c.args.prefix.now c.reserve.ensures.items c.unwrap.ensures c.extend_from_slice.ensures.items in
    pushed c.as_bytes-digits.result.now start c.unwrap-2.ensures c.extend_from_slice-2.ensures.items
    ∙ ap (λ t. (c.args.out.now.items ++ c.args.prefix.now) ++ t) digits ∙ append_assoc c.args.out.now.items c.args.prefix.now (numeral c.args.number)
