use Rattle.std.proofs.Common.{ap}
use Rattle.terminals.specs.Terminals.{BlankNodeLabel}
use Rattle.terminals.specs.declared.labels.Grammar.TheVariants.{TriG}
use Rattle.trig_terms.specs.declared.leaf.Leaf.TheVariants.{Label}
use Rattle.trig_terms.proofs.Whole.{not_none, whole_value, label_spelled}
use Rattle.trig_terms.proofs.leaves.label.Goals as goal

pub unreachable-requires : goal.unreachable-requires
unreachable-requires c = not_none (BlankNodeLabel TriG) c.args.text.now (label_spelled c.args.text.now c.requires) c.in-None.ensures.none

pub returns : goal.returns
returns c = (
  c.in-Some.label.now,
  whole_value (BlankNodeLabel TriG) c.args.text.now _ _ (label_spelled c.args.text.now c.requires) c.in-Some.ensures.found,
  ap (λ t. Label t) c.of_text.ensures,
)
