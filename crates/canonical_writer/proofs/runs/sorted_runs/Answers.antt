use Rattle.std.proofs.Common.{◌≡◌, List, Bor, length, map, ap, ◌∙◌, subst}
use Rattle.std.specs.List.{zip}
use Rattle.std.specs.List.Sorted.{IsPermutation}
use Rattle.std.proofs.lemmas.List.{length-map}
use Rattle.rdf_terms.specs.Lists.{Text}
use Rattle.rdf_terms.specs.declared.term.Quad.{Quad}
use Rattle.canonical_writer.specs.Pieces.{pieces}
use Rattle.canonical_writer.specs.declared.runs.Run.{Run}
use Rattle.canonical_writer.proofs.Pieces.{lengths_fit, pieces-joined}
use Rattle.canonical_writer.proofs.runs.sorted_runs.Goals as goal

pub with_keys-requires : goal.with_keys-requires
with_keys-requires c = record {
  fit = lengths_fit c.args.keys.now c.text.result.now c.lengths.result.now c.text.ensures c.lengths.ensures;
  as_many = ap length c.lengths.ensures ∙ (length-map c.args.keys.now length ∙ c.requires);
}

pub returns-clause-permutation : goal.returns-clause-permutation
returns-clause-permutation c =
    let pair : Run → Text × List Quad = λ r. (r.key.now, r.quads.now) in
    let quads = map (λ (p : Bor (List Quad)). p.now) c.args.stretches.now in
    let keys : pieces c.text.result.now c.lengths.result.now ≡ c.args.keys.now = (λ i. pieces (c.text.ensures i) (c.lengths.ensures i)) ∙ pieces-joined c.args.keys.now in
    subst (λ ps. IsPermutation ps (map pair c.sort_by_key.new.runs.items)) (c.in_ok-runs.ensures ∙ ap (λ ks. zip ks quads) keys) c.sort_by_key.ensures.permutation
