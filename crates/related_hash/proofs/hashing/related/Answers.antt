use Rattle.std.proofs.Common.{ap, arith, sym, ◌++◌, ◌∙◌}
use Rattle.rdf_terms.proofs.Numerals.{numeral-decimal}
use Rattle.canon_model.specs.Meaning.{meaning}
use Rattle.canon_model.specs.RelatedHash.{position_letter, predicate_part}
use Rattle.canon_model.specs.Issuer.{identifier_of, label_or}
use Rattle.related_hash.proofs.Inputs.{pieces-label}
use Rattle.related_hash.proofs.hashing.related.Goals as goal

pub returns-in-Some : goal.returns-in-Some
returns-in-Some c =
    let digits = c.as_bytes-number.ensures.value ∙ c.format.ensures.text ∙ sym (numeral-decimal c.in-Some.place (omega (arith, c.in-Some.ensures.number))) in
    let label = label_or (identifier_of c.args.canon.now.list c.args.issuer.now.list c.args.node) c.args.first.now in
    c.hash_in_turn.ensures
    ∙ ap (meaning c.args.profile).hash
    (pieces-label c.position_and_predicate.result.0.now c.position_and_predicate.result.1.now c.position_and_predicate.result.2.now
    (position_letter c.args.position) (predicate_part c.args.position c.args.predicate.now) label _ c.position_and_predicate.ensures
    (ap (λ t. c.in-Some.prefix.now ++ t) digits ∙ sym (c.in-Some.ensures.label c.args.first.now)))
