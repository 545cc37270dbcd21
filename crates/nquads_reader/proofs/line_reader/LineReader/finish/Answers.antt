use Rattle.std.proofs.Common.{◌≡◌, None, Some, ap, sym, subst, ◌∙◌, arith}
use Rattle.rdf_terms.specs.Document.{Document, statements}
use Rattle.nquads_reader.specs.Lines.{lines_of}
use Rattle.nquads_reader.specs.Document.{AreRead, IsCauseOf}
use Rattle.nquads_reader.specs.Pieces.{Reader}
use Rattle.nquads_reader.specs.Feeding.{TakesLines, StopsAt}
use Rattle.nquads_reader.proofs.Used.{node_used}
use Rattle.nquads_reader.proofs.Finishing.{kept_cause, whole_read, last_cause}
use Rattle.nquads_reader.proofs.line_reader.LineReader.finish.Goals as goal

pub returns-in-Some-clause-err : goal.returns-in-Some-clause-err
returns-in-Some-clause-err c bytes stands =
    let some : c.args.self.fault ≡ Some c.in-Some.fault = sym (ap (λ (r : Reader). r.fault) c.self.view_is) ∙ c.in-Some.is in
    kept_cause c.args.self bytes c.in-Some.fault some stands

pub returns-in-Err-clause-err : goal.returns-in-Err-clause-err
returns-in-Err-clause-err c bytes stands =
    let none : c.args.self.fault ≡ None = sym (ap (λ (r : Reader). r.fault) c.self.view_is) ∙ c.in_default.is in
    let fault = c.in-Err.fault in
    let new : Document = c.read_lines.new.draft in
    let n = c.read_lines.new.lines in
    subst (IsCauseOf bytes) (sym c.at_line.ensures) (last_cause c.args.self bytes none stands new n fault
    (λ other.
    subst (λ (r : Reader). StopsAt (lines_of r.tail) fault r.draft new r.lines n) c.self.view_is
    (subst (λ t. StopsAt (lines_of t) fault c.self.inside.draft new c.self.inside.lines n) c.deref.ensures.value (c.in-Err.ensures.err other))))

pub returns-then-quad_count-gt-MAX_QUADS-clause-err : goal.returns-then-quad_count-gt-MAX_QUADS-clause-err
returns-then-quad_count-gt-MAX_QUADS-clause-err c bytes stands =
    let none : c.args.self.fault ≡ None = sym (ap (λ (r : Reader). r.fault) c.self.view_is) ∙ c.in_default.is in
    let new : Document = c.read_lines.new.draft in
    let n = c.read_lines.new.lines in
    let takes = subst (λ (r : Reader). TakesLines (lines_of r.tail) r.draft new r.lines n) c.self.view_is
    (subst (λ t. TakesLines (lines_of t) c.self.inside.draft new c.self.inside.lines n) c.deref.ensures.value c.in_default-read_lines.ensures.ok) in
    (new.labels, statements new, whole_read c.args.self bytes none stands new n takes, omega (arith, c.if-quad_count-gt-MAX_QUADS.true, c.quad_count.ensures.statements))

pub returns-clause-ok : goal.returns-clause-ok
returns-clause-ok c bytes stands =
    let none : c.args.self.fault ≡ None = sym (ap (λ (r : Reader). r.fault) c.self.view_is) ∙ c.in_default.is in
    let new : Document = c.read_lines.new.draft in
    let n = c.read_lines.new.lines in
    let takes = subst (λ (r : Reader). TakesLines (lines_of r.tail) r.draft new r.lines n) c.self.view_is
    (subst (λ t. TakesLines (lines_of t) c.self.inside.draft new c.self.inside.lines n) c.deref.ensures.value c.in_default-read_lines.ensures.ok) in
    let read = whole_read c.args.self bytes none stands new n takes in
    let same = c.in_ok-finish.ensures.whole (λ m less. node_used (lines_of bytes) new.labels (statements new) read m less) in
    subst (λ (d : Document). AreRead (lines_of bytes) d.labels (statements d)) (sym same) read
