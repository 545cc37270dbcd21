use Rattle.std.proofs.Common.{ap, sym, subst}
use Rattle.rdf_terms.specs.Terms.{IsLanguageTag}
use Rattle.terminals.specs.Terminals.{LangTag as TagTerminal}
use Rattle.terminals.proofs.Facts.{tag_is}
use Rattle.trig_terms.specs.declared.leaf.Leaf.TheVariants.{Tag}
use Rattle.trig_terms.proofs.Whole.{not_none, whole_value, tag_spelled}
use Rattle.trig_terms.proofs.leaves.tag.Goals as goal

pub unreachable-requires : goal.unreachable-requires
unreachable-requires c = not_none TagTerminal c.args.text.now (tag_spelled c.args.text.now c.requires) c.in-None.ensures.none

pub returns-clause-is : goal.returns-clause-is
returns-clause-is c = (
  c.in-Some.tag.now,
  whole_value TagTerminal c.args.text.now _ _ (tag_spelled c.args.text.now c.requires) c.in-Some.ensures.found,
  ap (λ t. Tag t) c.of_text.ensures,
)

pub returns-clause-valid : goal.returns-clause-valid
returns-clause-valid c = subst IsLanguageTag (sym c.of_text.ensures) (tag_is c.args.text.now _ _ c.in-Some.ensures.found)
