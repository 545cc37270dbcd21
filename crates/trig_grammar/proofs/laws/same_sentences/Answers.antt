use Rattle.trig_grammar.proofs.Factoring.{same_sentences}
use Rattle.trig_grammar.proofs.laws.same_sentences.Goals as goal

pub returns : goal.returns
returns c = same_sentences
