use Rattle.std.proofs.Common.{[], None, lit<}
use Rattle.std.specs.Prelude.{encode_utf8_all}
use Rattle.std.proofs.lemmas.Str.Pattern.{split_after}
use Rattle.trig_terms.proofs.Whole.{namespace_cut}
use Rattle.trig_terms.proofs.names.namespace.Goals as goal

pub unreachable-requires : goal.unreachable-requires
unreachable-requires c =
    let parts = namespace_cut c.args.text.now c.requires in
    split_after 58 c.args.text.now (encode_utf8_all parts.prefix) [] None c.in-None.ensures.cases (lit< tt) parts.splits parts.no_colon
