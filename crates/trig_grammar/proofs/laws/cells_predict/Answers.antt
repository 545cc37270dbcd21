use Rattle.trig_grammar.proofs.Exactness.{cells_predict}
use Rattle.trig_grammar.proofs.laws.cells_predict.Goals as goal

pub returns : goal.returns
returns c = cells_predict
