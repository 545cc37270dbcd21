use Rattle.std.proofs.Common.{None, lit<, sym, ◌∙◌}
use Rattle.std.proofs.lemmas.Str.Pattern.{split_parts}
use Rattle.trig_lexer.proofs.LocalParts.{unescaped-alone, none_anywhere}
use Rattle.trig_terms.proofs.names.local_part.Goals as goal

pub returns-in-None : goal.returns-in-None
returns-in-None c =
    c.of_text.ensures ∙ sym (unescaped-alone c.args.text.now (none_anywhere 92 c.args.text.now (split_parts 92 c.args.text.now None c.in-None.ensures.cases (lit< tt))))
