use Rattle.std.proofs.Common.{IfSome, length, sym, subst}
use Rattle.rdf_terms.specs.References.{term_of, graph_name_of}
use Rattle.trig_builder.specs.Numbered.{IsName}
use Rattle.trig_builder.proofs.Putting.{quad_valid}
use Rattle.trig_builder.proofs.say.say_in.Goals as goal

pub say-requires : goal.say-requires
say-requires c =
    quad_valid (length c.args.draft.now.labels) (term_of c.args.subject) (term_of c.args.verb) (term_of c.args.object) (graph_name_of c.graph_name_ref.result)
    c.requires.subject (subst (λ name. IfSome name (IsName (length c.args.draft.now.labels))) (sym c.graph_name_ref.ensures) c.requires.graph_name)
    c.requires.verb c.requires.valid_verb c.requires.object
