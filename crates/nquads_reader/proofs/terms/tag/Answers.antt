use Rattle.nquads_reader.proofs.LineTerms.{no_tag}
use Rattle.nquads_reader.proofs.terms.tag.Goals as goal

pub returns-in-None : goal.returns-in-None
returns-in-None c = no_tag c.args.text.now c.in-None.ensures.none
