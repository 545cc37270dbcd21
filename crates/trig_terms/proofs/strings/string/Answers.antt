use Rattle.std.proofs.Common.{ap}
use Rattle.terminals.specs.declared.bodies.Quote.TheVariants.{Double, Single}
use Rattle.trig_terms.specs.declared.leaf.Leaf.TheVariants.{Quoted as StringLeaf}
use Rattle.trig_terms.proofs.Whole.{long_left}
use Rattle.trig_terms.proofs.LongStrings.{short_value_is}
use Rattle.trig_terms.proofs.strings.string.Goals as goal

pub returns-in-Some : goal.returns-in-Some
returns-in-Some c =
    let found = c.in-Some.ensures.found in
    (found.value, short_value_is Double c.args.text.now found.value found.has_value, ap (λ t. StringLeaf t) (c.in_ok-value.ensures found.value found.spells found.plain))

pub returns-in-Some-whole_short : goal.returns-in-Some-whole_short
returns-in-Some-whole_short c =
    let found = c.in-Some-whole_short.ensures.found in
    (found.value, short_value_is Single c.args.text.now found.value found.has_value, ap (λ t. StringLeaf t) (c.in_ok-value-2.ensures found.value found.spells found.plain))

pub long_string-requires : goal.long_string-requires
long_string-requires c = long_left c.args.text.now c.requires c.in_default.ensures.none c.in_default-whole_short.ensures.none
