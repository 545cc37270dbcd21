use Rattle.trig_grammar.proofs.Ending.{sentence_ends, end_comes_last}
use Rattle.trig_grammar.proofs.laws.end_comes_last.Goals as goal

pub returns-clause-last : goal.returns-clause-last
returns-clause-last c = sentence_ends

pub returns-clause-alone : goal.returns-clause-alone
returns-clause-alone c = end_comes_last
