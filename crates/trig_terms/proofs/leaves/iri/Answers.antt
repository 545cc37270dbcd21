use Rattle.std.proofs.Common.{◌≡◌, false, All, ap, sym, subst}
use Rattle.rdf_terms.specs.Terms.{is_excluded}
use Rattle.terminals.specs.Terminals.{IriRef as Iri}
use Rattle.terminals.proofs.Facts.{iri_allowed}
use Rattle.trig_terms.specs.declared.leaf.Leaf.TheVariants.{Iri as IriLeaf}
use Rattle.trig_terms.proofs.Whole.{not_none, whole_value, iri_spelled}
use Rattle.trig_terms.proofs.leaves.iri.Goals as goal

pub unreachable-requires : goal.unreachable-requires
unreachable-requires c = not_none Iri c.args.text.now (iri_spelled c.args.text.now c.requires) c.in-None.ensures.none

pub returns-clause-is : goal.returns-clause-is
returns-clause-is c =
    let found = c.in-Some.ensures.found in (
      found.value,
      whole_value Iri c.args.text.now found.value _ (iri_spelled c.args.text.now c.requires) found.begins,
      ap (λ t. IriLeaf t) (c.in_ok-value-in-Some.ensures found.value found.spells found.plain),
    )

pub returns-clause-valid : goal.returns-clause-valid
returns-clause-valid c =
    let found = c.in-Some.ensures.found in
    subst (All (λ b. is_excluded b ≡ false)) (sym (c.in_ok-value-in-Some.ensures found.value found.spells found.plain))
    (iri_allowed c.args.text.now found.value _ found.begins)
