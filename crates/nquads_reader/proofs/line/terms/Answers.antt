use Rattle.nquads_reader.proofs.LineTerms.{no_predicate, no_object, no_graph_name, all_terms}
use Rattle.nquads_reader.proofs.line.terms.Goals as goal

pub returns-in_default-2 : goal.returns-in_default-2
returns-in_default-2 c =
    no_predicate c.args.text.now c.in-Some.subject c.in-Some.rest.now c.after_white.result.now (rw c.in-Some.is at c.in_ok-subject.ensures) c.after_white.ensures
    (rw c.in_default-2.is at c.in_ok-predicate.ensures)

pub returns-in_default-3 : goal.returns-in_default-3
returns-in_default-3 c =
    no_object c.args.text.now c.in-Some.subject c.in-Some.rest.now c.after_white.result.now c.in-Some-2.predicate c.in-Some-2.rest.now c.after_white-2.result.now
    (rw c.in-Some.is at c.in_ok-subject.ensures) c.after_white.ensures (rw c.in-Some-2.is at c.in_ok-predicate.ensures) c.after_white-2.ensures (rw c.in_default-3.is at c.in_ok-object.ensures)

pub returns-in_default-4 : goal.returns-in_default-4
returns-in_default-4 c =
    no_graph_name c.args.text.now c.in-Some.subject c.in-Some.rest.now c.after_white.result.now c.in-Some-2.predicate c.in-Some-2.rest.now c.after_white-2.result.now c.in-Some-3.object
    c.in-Some-3.rest.now c.after_white-3.result.now
    (rw c.in-Some.is at c.in_ok-subject.ensures) c.after_white.ensures (rw c.in-Some-2.is at c.in_ok-predicate.ensures) c.after_white-2.ensures
    (rw c.in-Some-3.is at c.in_ok-object.ensures) c.after_white-3.ensures (rw c.in_default-4.is at c.in_ok-graph_name.ensures)

pub returns : goal.returns
returns c =
    all_terms c.args.text.now c.in-Some.subject c.in-Some.rest.now c.after_white.result.now c.in-Some-2.predicate c.in-Some-2.rest.now c.after_white-2.result.now c.in-Some-3.object
    c.in-Some-3.rest.now c.after_white-3.result.now c.in-Some-4.graph_name c.in-Some-4.rest.now
    (rw c.in-Some.is at c.in_ok-subject.ensures) c.after_white.ensures (rw c.in-Some-2.is at c.in_ok-predicate.ensures) c.after_white-2.ensures
    (rw c.in-Some-3.is at c.in_ok-object.ensures) c.after_white-3.ensures (rw c.in-Some-4.is at c.in_ok-graph_name.ensures)
