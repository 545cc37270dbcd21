use Rattle.std.proofs.Common.{subst}
use Rattle.std.proofs.lemmas.Result.{on_ok_weaker}
use Rattle.rdf_terms.specs.Lists.{Text}
use Rattle.trig_terms.specs.Leaves.{IsLeafOf}
use Rattle.trig_reader.proofs.Taking.{told_more}
use Rattle.trig_reader.proofs.reading.Reading.tell.Goals as goal

pub returns-clause-told : goal.returns-clause-told
returns-clause-told c =
    on_ok_weaker c.step.result
    (λ builds base tokens told.
    told_more c.args.text.now base tokens c.args.token c.in_ok-leaf.leaf c.missing.result c.args.self.now.builder c.step.new.self c.args.self.now.last_told c.place_told-self.result
    (subst (λ (t : Text). IsLeafOf c.args.token.kind t c.in_ok-leaf.leaf) c.range.ensures.value c.in_ok-leaf.ensures.is) builds c.missing.ensures c.place_told-self.ensures told)
    c.step.ensures.builds
