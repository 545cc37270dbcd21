use Rattle.trig_grammar.proofs.Follows.{leads_to_sentences}
use Rattle.trig_grammar.proofs.laws.leads_to_sentences.Goals as goal

pub returns : goal.returns
returns c = leads_to_sentences
