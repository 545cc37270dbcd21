use Rattle.entail.proofs.bound.candidates.Goals as goal

pub node_of-requires-clause-within : goal.node_of-requires-clause-within
node_of-requires-clause-within c = (c.requires.crossed.entailed.in_range c.args.triple c.requires.there).o

pub node_of-requires-then-triple-term-2-clause-within : goal.node_of-requires-then-triple-term-2-clause-within
node_of-requires-then-triple-term-2-clause-within c = (c.requires.crossed.entailed.in_range c.args.triple c.requires.there).s
