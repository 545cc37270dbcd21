use Rattle.std.proofs.Common.{subst, sym}
use Rattle.std.specs.Result.{IfErr}
use Rattle.std.proofs.lemmas.Result.{err_from_is_err_and}
use Rattle.entail.specs.Answers.{IsEntailAnswer, map_by}
use Rattle.equivalence.specs.Answers.{IsEquivStop}
use Rattle.equivalence.proofs.Comparing.{first_lean_cause, graphs_of}
use Rattle.equivalence.proofs.compare.equivalent_graphs.Goals as goal

pub returns-in_err-form-clause-stop : goal.returns-in_err-form-clause-stop
returns-in_err-form-clause-stop c =
    let p = err_from_is_err_and c.from_residual.result c.from_residual.ensures.1 in
    subst (λ r. IfErr r (IsEquivStop c.args.g.now c.args.h.now c.args.limit)) (sym p.1)
    (subst (IsEquivStop c.args.g.now c.args.h.now c.args.limit) (sym p.2)
    (first_lean_cause c.args.g.now c.args.h.now c.args.limit (graphs_of c.args.g.now c.args.h.now c.requires.graph c.requires.other_graph) c.in_err-form.field-0.0 c.in_err-form.ensures.stop))

pub isomorphism-requires-clause-back : goal.isomorphism-requires-clause-back
isomorphism-requires-clause-back c =
    let found = subst (IsEntailAnswer c.args.g.now c.args.h.now) c.in-Some-2.is c.in_ok-instance_map.ensures.answer in
    (map_by c.args.g.now.terms c.in-Some-2.field-0.terms, found.is_map)

pub returns-clause-answer : goal.returns-clause-answer
returns-clause-answer c =
    let there = subst (IsEntailAnswer c.args.h.now c.args.g.now) c.in-Some.is c.in_ok-images.ensures.answer in
    let back = subst (IsEntailAnswer c.args.g.now c.args.h.now) c.in-Some-2.is c.in_ok-instance_map.ensures.answer in
    record {
      graphs = back.graphs;
      equivalent = ((map_by c.args.g.now.terms c.in-Some-2.field-0.terms, back.is_map), (map_by c.args.h.now.terms c.in-Some.images.terms, there.is_map));
      form = c.in_ok-form.form;
      other = c.in_ok-other.other;
      is_form = c.in_ok-form.ensures.form;
      is_other = c.in_ok-other.ensures.form;
      isomorphism = c.in_ok-pairs.ensures;
    }
