use Rattle.trig_lexer.proofs.LongerOf.{finds_from, finds_either}
use Rattle.trig_lexer.proofs.words.word.Goals as goal

pub returns : goal.returns
returns c =
    finds_either _ _ c.args.text.now _ _ _ (finds_from _ c.args.text.now _ c.exact-carets.ensures.found c.exact-carets.ensures.none)
    (finds_either _ _ c.args.text.now _ _ _ (finds_from _ c.args.text.now _ c.exact-verb.ensures.found c.exact-verb.ensures.none)
    (finds_either _ _ c.args.text.now _ _ _ (finds_from _ c.args.text.now _ c.exact-truth.ensures.found c.exact-truth.ensures.none)
    (finds_either _ _ c.args.text.now _ _ _ (finds_from _ c.args.text.now _ c.exact-falsehood.ensures.found c.exact-falsehood.ensures.none)
    (finds_either _ _ c.args.text.now _ _ _ (finds_from _ c.args.text.now _ c.any_case-prefix.ensures.found c.any_case-prefix.ensures.none)
    (finds_either _ _ c.args.text.now _ _ _ (finds_from _ c.args.text.now _ c.any_case-base.ensures.found c.any_case-base.ensures.none)
    (finds_from _ c.args.text.now _ c.any_case-graph.ensures.found c.any_case-graph.ensures.none)
    c.longer.ensures) c.longer-found.ensures) c.longer-2.ensures) c.longer-3.ensures) c.longer-4.ensures) c.longer-5.ensures
