use Rattle.std.proofs.Common.{◌∷◌, ◌++◌, [], List, ap, sym, subst, ◌∙◌}
use Rattle.rdf_terms.specs.Lists.{Text}
use Rattle.trig_lexer.specs.declared.kind.Kind.{Kind}
use Rattle.trig_grammar.specs.declared.symbol.Symbol.{Symbol}
use Rattle.trig_grammar.specs.Stack.{IsBehind}
use Rattle.trig_reader.specs.Lines.{line_at}
use Rattle.trig_reader.proofs.Taking.{taken_more, bad_token}
use Rattle.trig_reader.proofs.reading.Reading.take.Goals as goal

pub returns-then-not-branch-clause-err : goal.returns-then-not-branch-clause-err
returns-then-not-branch-clause-err c base =
    bad_token c.args.text.now base c.requires.first c.requires.tokens c.args.token c.args.self.now c.line_at-line.result c.utf8.text c.requires.taken c.requires.no_end c.requires.next
    (c.in_ok-take.ensures.stops c.if-not-branch.true) (c.line_at-line.ensures ∙ ap (λ (t : Text). line_at t c.args.token.start) c.as_bytes.ensures.value)

pub returns-clause-taken : goal.returns-clause-taken
returns-clause-taken c first tokens taken next =
    taken_more c.args.text.now first tokens c.args.token c.args.self.now c.tell.new.self taken next
    (subst (λ (p : List Symbol). (front : List Kind) → IsBehind front c.args.self.now.parser → IsBehind (front ++ c.args.token.kind ∷ []) p) (sym c.in_ok-tell.ensures.parser)
    (c.in_ok-take.ensures.goes_on c.if-not-branch.false)) c.in_ok-tell.ensures.ready (λ base. c.in_ok-tell.ensures.told base tokens)
