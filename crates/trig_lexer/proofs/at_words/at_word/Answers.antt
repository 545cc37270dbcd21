use Rattle.terminals.proofs.Outcomes.{IfNone_since}
use Rattle.trig_lexer.proofs.AtWords.{at_found, at_none}
use Rattle.trig_lexer.proofs.at_words.at_word.Goals as goal

pub returns-in_err-tag-clause-none : goal.returns-in_err-tag-clause-none
returns-in_err-tag-clause-none c = IfNone_since _ _ (at_none c.args.after_string c.args.text.now c.in_err-tag.ensures.none)

pub returns-clause-found : goal.returns-clause-found
returns-clause-found c = at_found c.args.after_string c.args.text.now _ _ _ c.in_ok-tag.ensures.found c.tag_kind.ensures
