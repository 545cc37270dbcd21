use Rattle.load_document.specs.LoadDocument.{pair_lines}
use Rattle.load_document.proofs.Parts.{more_parts}
use Rattle.load_document.proofs.generator.push_pairs.Goals as goal

pub loop-pair-preserved : goal.loop-pair-preserved
loop-pair-preserved c = more_parts pair_lines _ _ _ c.loop-pair.pair c.loop-pair.invariant c.in_ok-push_pair.ensures
