use Rattle.std.proofs.Common.{arith, sym, ◌∙◌}
use Rattle.std.specs.Cmp.Lexicographic.{bytes_decides}
use Rattle.ndegree_hash.proofs.Agreeing.{agree-further}
use Rattle.ndegree_hash.proofs.paths.agreement.Goals as goal

pub returns-then-eq : goal.returns-then-eq
returns-then-eq c =
    let e = c.min-to.ensures in
    let a = c.requires.within_left in
    let b = c.requires.within_right in
    agree-further c.args.from c.min-to.result c.args.path.now c.args.chosen.now c.requires (omega arith) (omega arith) (omega arith) ((bytes_decides _ _).0 (sym c.eq.ensures ∙ c.if-eq.true))
