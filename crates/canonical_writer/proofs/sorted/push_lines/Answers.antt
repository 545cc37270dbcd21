use Rattle.rdf_terms.proofs.Common.{canonical_line, statement}
use Rattle.canonical_writer.specs.Names.{naming_of}
use Rattle.canonical_writer.proofs.Texts.{map_behind}
use Rattle.canonical_writer.proofs.sorted.push_lines.Goals as goal

pub push_behind-requires : goal.push_behind-requires
push_behind-requires g c =
    let run = c.requires in
    let h = c.loop-quad-test.true in
    record {
      start = run.key_is c.loop-quad.quad-index _ h;
      in_range = run.in_range c.loop-quad.quad-index _ h;
      named = run.named c.loop-quad.quad-index _ h;
    }

pub loop-quad-preserved : goal.loop-quad-preserved
loop-quad-preserved g c =
    map_behind (λ q. canonical_line (naming_of (g.N.Names.name c.args.named.now.names.now)) (statement c.args.named.now.terms.now q)) c.args.quads.now c.loop-quad.quad-index _
    c.args.lines.now c.loop-quad.lines _ c.loop-quad-test.true c.loop-quad.invariant c.in_ok-push_behind.ensures
