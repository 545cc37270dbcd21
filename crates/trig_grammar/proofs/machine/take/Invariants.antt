use Rattle.std.proofs.Common.{◌↔◌, List, ◌∷◌, reverse}
use Rattle.trig_lexer.specs.declared.kind.Kind.{Kind}
use Rattle.trig_grammar.specs.Grammar.{Derives}
use Rattle.trig_grammar.specs.Places.{column}
use Rattle.trig_grammar.proofs.Ranks.{replaced}
use Rattle.trig_grammar.specs.Stack.{Fits}
use Rattle.trig_grammar.proofs.machine.take.Given as goal

abbrev pub invariant-loop-symbol : goal.invariant-loop-symbol
invariant-loop-symbol l = record {
  fits : Fits (reverse l.stack.items);
  same : (more : List Kind) → Derives (reverse l.fn.stack.items) (l.kind ∷ more) ↔ Derives (reverse l.stack.items) (l.kind ∷ more);
}

abbrev pub decreases-loop-symbol : goal.decreases-loop-symbol
decreases-loop-symbol l = replaced (column l.kind) (reverse l.stack.items)
