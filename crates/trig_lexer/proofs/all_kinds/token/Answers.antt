use Rattle.trig_lexer.proofs.LongerOf.{finds_from, finds_either}
use Rattle.trig_lexer.proofs.all_kinds.token.Goals as goal

pub returns : goal.returns
returns c =
    finds_either _ _ c.args.text.now _ _ _ (finds_from _ c.args.text.now _ c.mark.ensures.found c.mark.ensures.none)
    (finds_either _ _ c.args.text.now _ _ _ c.word.ensures
    (finds_either _ _ c.args.text.now _ _ _ (finds_from _ c.args.text.now _ c.at_word.ensures.found c.at_word.ensures.none)
    (finds_either _ _ c.args.text.now _ _ _ (finds_from _ c.args.text.now _ c.iri.ensures.found c.iri.ensures.none)
    (finds_either _ _ c.args.text.now _ _ _ (finds_from _ c.args.text.now _ c.label.ensures.found c.label.ensures.none)
    (finds_either _ _ c.args.text.now _ _ _ (finds_from _ c.args.text.now _ c.anon.ensures.found c.anon.ensures.none)
    (finds_either _ _ c.args.text.now _ _ _ (finds_from _ c.args.text.now _ c.number.ensures.found c.number.ensures.none)
    (finds_either _ _ c.args.text.now _ _ _ (finds_from _ c.args.text.now _ c.quoted.ensures.found c.quoted.ensures.none)
    (finds_from _ c.args.text.now _ c.name.ensures.found c.name.ensures.none)
    c.longer-named.ensures) c.longer-numbered.ensures) c.longer-anonymous.ensures) c.longer-labelled.ensures)
    c.longer-referred.ensures) c.longer-tagged.ensures) c.longer-worded.ensures) c.longer.ensures
