use Rattle.nquads_reader.proofs.WhiteSpace.{white_boundary, white_cut}
use Rattle.nquads_reader.proofs.white.after_white.Goals as goal

pub range_from-requires : goal.range_from-requires
range_from-requires c = λ _. white_boundary c.args.text.now c.as_bytes.result.now c.white_len.result c.utf8.text c.as_bytes.ensures.value c.white_len.ensures.is

pub returns : goal.returns
returns c = white_cut c.args.text.now c.as_bytes.result.now c.range_from.result.now c.white_len.result c.as_bytes.ensures.value c.white_len.ensures.is c.range_from.ensures.value
