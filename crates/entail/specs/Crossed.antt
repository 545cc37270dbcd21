-- Two graphs by the numbers of the first.
use Rattle.std.specs.Prelude.{◌≡◌}
use Rattle.component_walk.specs.Image.{IsOneGraph, IsIndexOf, quads_left}
use Rattle.entail.specs.Numbers.{AreNumbersIn}
use Rattle.entail.specs.declared.crossing.Crossing.{Crossing}

-- two graphs, an index of all triples of each, and the numbers of the second one's terms in the first
pub record AreCrossed (c : Crossing) : Type 0 where
  pub graph : IsOneGraph c.graph.now
  pub entailed : IsOneGraph c.entailed.now
  pub graph_index : IsIndexOf c.graph.now c.graph_index
  pub entailed_index : IsIndexOf c.entailed.now c.entailed_index
  pub graph_all : quads_left c.graph.now c.graph_index.live ≡ c.graph.now.quads
  pub entailed_all : quads_left c.entailed.now c.entailed_index.live ≡ c.entailed.now.quads
  pub numbers : AreNumbersIn c.entailed.now.terms c.graph.now.terms c.numbers.items
