use Rattle.std.proofs.Common.{◌≡◌, Bool, true, false, refl, sym, ◌∙◌, inl, inr}
use Rattle.rdf_terms.specs.Document.{statement, term_at}
use Rattle.entail.specs.Entailment.{IsGround}
use Rattle.entail.proofs.Grounding.{ground_at, has_no_node, has_node, not_ground_at}
use Rattle.entail.proofs.ground.has_node.Goals as goal

pub node_of-requires-clause-within : goal.node_of-requires-clause-within
node_of-requires-clause-within c = (c.requires.crossed.entailed.in_range c.args.triple c.requires.there).s

pub returns-then-is_some : goal.returns-then-is_some
returns-then-is_some c = (
  λ t. not_ground_at c.args.crossing.now.entailed.now.terms c.args.triple _
      (inl (has_node (term_at c.args.crossing.now.entailed.now.terms c.args.triple.s) c.node_of.result c.node_of.ensures.node (sym c.is_some.ensures ∙ t)).1),
  λ none. c.if-is_some.true,
)

pub returns-else-is_some : goal.returns-else-is_some
returns-else-is_some c = (
  λ t. not_ground_at c.args.crossing.now.entailed.now.terms c.args.triple _
      (inr (has_node (term_at c.args.crossing.now.entailed.now.terms c.args.triple.o) c.node_of-else-is_some.result c.node_of-else-is_some.ensures.node (sym c.is_some-else-is_some.ensures ∙ t)).1),
  λ some. by some c.is_some-else-is_some.result refl,
)
  where
    by : (¬ (IsGround (statement c.args.crossing.now.entailed.now.terms c.args.triple))) → (b : Bool) → c.is_some-else-is_some.result ≡ b → c.is_some-else-is_some.result ≡ true
    by some true e = e
    by some false e =
        absurd (some (ground_at c.args.crossing.now.entailed.now.terms c.args.triple (c.requires.crossed.entailed.unnamed c.args.triple c.requires.there)
        (has_no_node (term_at c.args.crossing.now.entailed.now.terms c.args.triple.s) c.node_of.result c.node_of.ensures.node (sym c.is_some.ensures ∙ c.if-is_some.false))
        (has_no_node (term_at c.args.crossing.now.entailed.now.terms c.args.triple.o) c.node_of-else-is_some.result c.node_of-else-is_some.ensures.node (sym c.is_some-else-is_some.ensures ∙ e))))
