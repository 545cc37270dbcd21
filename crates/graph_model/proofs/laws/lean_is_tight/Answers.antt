use Rattle.graph_model.proofs.laws.lean_is_tight.Goals as goal

pub returns : goal.returns
returns c G nodes lean μ map st triple = lean μ map.endomorphism st triple.0
