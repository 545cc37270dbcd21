use Rattle.terminals.proofs.Outcomes.{IfNone_then}
use Rattle.std.proofs.lemmas.Option.{IfSome_then}
use Rattle.trig_lexer.proofs.Naming.{namespace_found, namespace_none, bare_found}
use Rattle.trig_lexer.proofs.name.after_namespace.Goals as goal

pub returns-in-Some-clause-found : goal.returns-in-Some-clause-found
returns-in-Some-clause-found c =
    IfSome_then c.after.result c.after.ensures.found
    (λ rest e. namespace_found c.args.text.now _ rest.now c.in-Some.ensures.found e)

pub returns-in-Some-clause-none : goal.returns-in-Some-clause-none
returns-in-Some-clause-none c =
    IfNone_then c.after.result _ _ (λ none. namespace_none c.args.text.now _ c.in-Some.ensures.found none) c.after.ensures.none

pub returns-in-None-clause-found : goal.returns-in-None-clause-found
returns-in-None-clause-found c =
    IfSome_then c.after-in-None.result c.after-in-None.ensures.found (λ rest e. bare_found c.args.text.now rest.now c.utf8.text e)
