use Rattle.std.proofs.Common.{refl, ap, arith}
use Rattle.std.proofs.lemmas.List.{drop_all}
use Rattle.canonical_writer.specs.Pieces.{pieces}
use Rattle.canonical_writer.proofs.Pieces.{pieces-next, next_fits, others_fit}
use Rattle.canonical_writer.proofs.Stretches.{pairs_more, all_pairs}
use Rattle.canonical_writer.proofs.runs.with_keys.Goals as goal

pub split_at-requires : goal.split_at-requires
split_at-requires c = next_fits c.loop-place.rest.now c.args.lengths.now c.loop-place.place _ c.loop-place-test.true c.loop-place.invariant.fits

pub loop-place-preserved : goal.loop-place-preserved
loop-place-preserved c =
    let rest = c.loop-place.rest.now in
    let lengths = c.args.lengths.now in
    let i = c.loop-place.place in
    let kept = c.loop-place.invariant in
    let more = c.loop-place-test.true in
    let cut = c.split_at.ensures in
    record {
      pairs = pairs_more (λ p. p.now) (λ r. (r.key.now, r.quads.now)) c.loop-place.runs.items _ c.args.stretches.now i _ kept.pairs
          _ _ _ _ _ (omega (arith, c.requires.as_many)) c.in_ok-push.ensures.items (pieces-next rest lengths i _ more _ _ cut.front cut.back) refl;
      fits = others_fit rest lengths i _ more kept.fits _ cut.back;
    }

pub returns : goal.returns
returns c =
    all_pairs (λ p. p.now) (λ r. (r.key.now, r.quads.now)) c.loop-place.runs.items _ c.args.stretches.now c.loop-place.place _ c.loop-place.invariant.pairs
    (ap (pieces c.loop-place.rest.now) (drop_all c.loop-place.place c.args.lengths.now c.loop-place-test.false))
