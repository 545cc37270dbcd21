use Rattle.std.proofs.lemmas.Result.{IfOk-weaker}
use Rattle.nquads_reader.proofs.LineTerms.{datatype_reads}
use Rattle.nquads_reader.proofs.terms.datatype.Goals as goal

pub returns : goal.returns
returns c =
    IfOk-weaker c.iri.result _ _
    (λ o h. datatype_reads _ o c.args.text.now c.in-Some.rest.now c.in-Some-after.rest.now c.after_white.result.now
    c.in-Some.ensures.found c.in-Some-after.ensures.found c.after_white.ensures h) c.iri.ensures
