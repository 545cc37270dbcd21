use Rattle.std.proofs.Common.{◌≡◌, true, reverse, IfOk, subst}
use Rattle.trig_grammar.specs.Stack.{Takes}
use Rattle.trig_grammar.proofs.Progress.{all_took, all_ended}
use Rattle.trig_grammar.proofs.parser.Parser.take.Goals as goal

pub returns-clause-goes_on : goal.returns-clause-goes_on
returns-clause-goes_on c =
    all_took c.take.result c.args.self.now (reverse c.take.new.stack.items) c.args.kind
    (subst (λ old. IfOk c.take.result (λ taken. taken ≡ true → Takes old c.args.kind (reverse c.take.new.stack.items))) c.self.view_is c.take.ensures.takes) c.take.ensures.fits

pub returns-clause-ends : goal.returns-clause-ends
returns-clause-ends c =
    all_ended c.take.result c.args.self.now (reverse c.take.new.stack.items) c.args.kind
    (subst (λ old. IfOk c.take.result (λ taken. taken ≡ true → Takes old c.args.kind (reverse c.take.new.stack.items))) c.self.view_is c.take.ensures.takes) c.take.ensures.fits
