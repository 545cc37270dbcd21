use Rattle.std.proofs.Common.{sym, subst}
use Rattle.nquads_reader.specs.Pieces.{Reader, StandsFor}
use Rattle.nquads_reader.proofs.Finishing.{stays}
use Rattle.nquads_reader.proofs.line_reader.LineReader.feed.Goals as goal

pub returns-in-Some-clause-ok : goal.returns-in-Some-clause-ok
returns-in-Some-clause-ok c bytes stands =
    let reader : Reader = record {
      draft = c.self.inside.draft;
      tail = c.self.inside.tail.items;
      after_cr = c.self.inside.after_cr;
      lines = c.self.inside.lines;
      fault = c.self.inside.fault;
      fed = c.self.inside.fed;
    } in
    stays reader bytes c.in-Some.fault c.in-Some.is (subst (λ (r : Reader). StandsFor r bytes) (sym c.self.view_is) stands) c.args.piece.now
