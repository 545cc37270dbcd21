use Rattle.rdf_terms.specs.Document.{dataset as dataset_of}
use Rattle.canon_model.specs.Meaning.{meaning}
use Rattle.other_output.proofs.Verdicts.{only_output, openness_of}
use Rattle.other_output.proofs.other.other_form.Goals as goal

pub returns-in-None-clause-openness : goal.returns-in-None-clause-openness
returns-in-None-clause-openness c = only_output (meaning c.args.canon.now.profile) (dataset_of c.args.dataset.now) c.args.canon.now c.requires c.in-None.is

pub returns-in_ok-other-in-Some-clause-openness : goal.returns-in_ok-other-in-Some-clause-openness
returns-in_ok-other-in-Some-clause-openness c = openness_of (meaning c.args.canon.now.profile) (dataset_of c.args.dataset.now) c.args.canon.now c.requires c.in-Some.tie c.in-Some.is _
    c.in_ok-other-in-Some.ensures.form c.compared.result c.compared.ensures
