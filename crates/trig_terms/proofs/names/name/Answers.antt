use Rattle.std.proofs.Common.{None, Some, lit<, ap, sym, subst, ◌∙◌}
use Rattle.std.specs.Prelude.{encode_utf8_all}
use Rattle.std.proofs.lemmas.Str.Pattern.{split_after}
use Rattle.trig_lexer.specs.Names.{unescaped}
use Rattle.trig_lexer.proofs.LocalParts.{AreAllowed}
use Rattle.trig_terms.proofs.Whole.{name_cut}
use Rattle.trig_terms.proofs.names.name.Goals as goal

pub unreachable-requires : goal.unreachable-requires
unreachable-requires c =
    let name = name_cut c.args.text.now c.requires in
    split_after 58 c.args.text.now (encode_utf8_all name.parts.prefix) (encode_utf8_all name.local) None c.in-None.ensures.cases (lit< tt) name.parts.splits name.parts.no_colon

pub returns-clause-valid : goal.returns-clause-valid
returns-clause-valid c =
    let name = name_cut c.args.text.now c.requires in
    let cut = split_after 58 c.args.text.now (encode_utf8_all name.parts.prefix) (encode_utf8_all name.local) (Some (c.in-Some.prefix, c.in-Some.local)) c.in-Some.ensures.cases (lit< tt)
    name.parts.splits name.parts.no_colon in
    subst AreAllowed (sym (c.in_ok-local_part-in-Some.ensures ∙ ap unescaped cut.1)) name.allowed
