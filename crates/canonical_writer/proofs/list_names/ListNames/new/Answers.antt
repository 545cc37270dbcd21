use Rattle.std.proofs.Common.{◌^◌, ◌<◌, ◌≤◌, length, subst, arith}
use Rattle.std.proofs.lemmas.Grind.{common_steps}
use Rattle.std.proofs.lemmas.List.{get_or_default}
use Rattle.rdf_terms.proofs.Common.{each-from_All, length-distinct_below}
use Rattle.canonical_writer.proofs.Placing.{told_more}
use Rattle.canonical_writer.proofs.list_names.ListNames.new.Goals as goal

pub overflow_cast-place : goal.overflow_cast-place
overflow_cast-place c =
    let list = c.args.list.now in
    let fits : length list ≤ 2 ^ 32 =
    length-distinct_below list (2 ^ 32) c.requires
    (λ n. each-from_All (λ k. k < 2 ^ 32) list n (λ k d h. subst (λ b. b < 2 ^ 32) (get_or_default list k 0 d h) (c.type_inv.list k).fits)) in
    omega (arith, fits, c.loop-place-test.true)

pub loop-place-preserved : goal.loop-place-preserved
loop-place-preserved c = record {
  entry = λ k h. grind (arith, common_steps, c.loop-place.invariant.entry k h);
  told = told_more c.args.list.now c.loop-place.places.items c.loop-place.place c.requires c.loop-place-test.true
      (c.loop-place.invariant.entry c.loop-place.place c.loop-place-test.true) c.loop-place.invariant.told;
}
