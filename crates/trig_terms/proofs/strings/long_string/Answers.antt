use Rattle.std.proofs.Common.{ap}
use Rattle.std.specs.Prelude.{encode_utf8_all}
use Rattle.trig_terms.specs.declared.leaf.Leaf.TheVariants.{Quoted as StringLeaf}
use Rattle.trig_terms.proofs.LongStrings.{inside_of, inside_within, inside_begins, inside_ends, inside_means, long_value_is}
use Rattle.trig_terms.proofs.strings.long_string.Goals as goal

pub range-inside-requires-clause-start_le_end : goal.range-inside-requires-clause-start_le_end
range-inside-requires-clause-start_le_end c = inside_within c.requires.0 c.args.text.now (inside_of c.requires.0 c.args.text.now c.requires.1)

pub range-inside-requires-clause-start_boundary : goal.range-inside-requires-clause-start_boundary
range-inside-requires-clause-start_boundary c = λ _. inside_begins c.requires.0 c.args.text.now (inside_of c.requires.0 c.args.text.now c.requires.1) c.utf8.text

pub range-inside-requires-clause-end_boundary : goal.range-inside-requires-clause-end_boundary
range-inside-requires-clause-end_boundary c = inside_ends c.requires.0 c.args.text.now (inside_of c.requires.0 c.args.text.now c.requires.1)

pub returns : goal.returns
returns c =
    let x = inside_of c.requires.0 c.args.text.now c.requires.1 in (
      encode_utf8_all x.value,
      long_value_is c.requires.0 c.args.text.now x,
      ap (λ t. StringLeaf t) (c.in_ok-long_value.ensures (encode_utf8_all x.value)
          (inside_means c.requires.0 c.args.text.now x c.long_mark-quote.result c.range-inside.result.now (c.long_mark-quote.ensures c.requires.0 c.requires.1) c.range-inside.ensures.value)),
    )
