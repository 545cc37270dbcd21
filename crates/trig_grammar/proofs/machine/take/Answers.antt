use Rattle.std.proofs.Common.{rules, sym, ◌∙◌}
use denote.Enum.Bare.{same_true, same_false}
use Rattle.trig_lexer.specs.contracts.kind.Kind.{the_type}
use Rattle.trig_grammar.proofs.Replacing.{number_below}
use Rattle.trig_grammar.proofs.Steps.{taken, not_taken, none_taken, gives_way}
use Rattle.trig_grammar.proofs.machine.take.Goals as goal

pub returns-in-Token-clause-takes : goal.returns-in-Token-clause-takes
returns-in-Token-clause-takes c same =
    taken _ c.loop-symbol.stack.items c.pop.new.self.items _ c.args.kind c.loop-symbol.invariant.same c.in-Some.ensures.items c.in-Token.wanted c.in-Token.is
    (same_true the_type (search rules) _ _ (sym c.eq.ensures ∙ same))

pub returns-in-Token-clause-not : goal.returns-in-Token-clause-not
returns-in-Token-clause-not c differ =
    not_taken _ c.loop-symbol.stack.items c.pop.new.self.items _ c.args.kind c.loop-symbol.invariant.same c.in-Some.ensures.items c.in-Token.wanted c.in-Token.is
    (same_false the_type _ _ (sym c.eq.ensures ∙ differ))

pub loop-symbol-smaller : goal.loop-symbol-smaller
loop-symbol-smaller c =
    (gives_way _ c.loop-symbol.stack.items c.pop.new.self.items _ c.args.kind c.loop-symbol.invariant.same c.in-Some.ensures.items c.in-Name.name c.loop-symbol.invariant.fits c.in-Name.is
    c.in-Some-production.number c.right_side.result.now
    c.extend_from_slice.new.self.items (sym c.production.ensures ∙ c.in-Some-production.is) c.in_ok-extend_from_slice-in-Some-production.ensures.items c.right_side.ensures).fewer

pub loop-symbol-preserved : goal.loop-symbol-preserved
loop-symbol-preserved c =
    let gives =
    gives_way _ c.loop-symbol.stack.items c.pop.new.self.items _ c.args.kind c.loop-symbol.invariant.same c.in-Some.ensures.items c.in-Name.name c.loop-symbol.invariant.fits c.in-Name.is
    c.in-Some-production.number c.right_side.result.now
    c.extend_from_slice.new.self.items (sym c.production.ensures ∙ c.in-Some-production.is) c.in_ok-extend_from_slice-in-Some-production.ensures.items c.right_side.ensures in
    record { fits = gives.fits; same = gives.alike }

pub returns-in-None-clause-not : goal.returns-in-None-clause-not
returns-in-None-clause-not c same =
    none_taken _ c.loop-symbol.stack.items c.pop.new.self.items _ c.args.kind c.loop-symbol.invariant.same c.in-Some.ensures.items c.in-Name.name c.loop-symbol.invariant.fits c.in-Name.is
    (sym c.production.ensures ∙ c.in-None.is)

pub right_side-requires : goal.right_side-requires
right_side-requires c = number_below c.in-Name.name c.args.kind c.in-Some-production.number (sym c.production.ensures ∙ c.in-Some-production.is)
