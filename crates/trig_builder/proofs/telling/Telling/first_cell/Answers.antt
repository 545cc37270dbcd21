use Rattle.std.proofs.Common.{sym, subst, ◌∙◌}
use Rattle.rdf_terms.specs.declared.term.Term.TheVariants.{Blank}
use Rattle.trig_terms.specs.Meaning.{put, leave}
use Rattle.trig_terms.specs.Meaning.Place.{AtItem}
use Rattle.trig_builder.specs.Numbered.{IsTermOf}
use Rattle.trig_builder.proofs.telling.Telling.first_cell.Goals as goal

pub returns-clause-tells : goal.returns-clause-tells
returns-clause-tells c t cell is h =
    c.in_ok-enter.ensures.tells (put cell (leave t)) (AtItem cell)
    (subst (λ ls. IsTermOf ls cell (Blank c.args.node)) (sym (c.in_ok-put.ensures.labels ∙ c.leave.ensures.labels)) is)
    (c.in_ok-put.ensures.tells (leave t) cell (subst (λ ls. IsTermOf ls cell (Blank c.args.node)) (sym c.leave.ensures.labels) is) (c.leave.ensures.tells t h))
