use Rattle.std.proofs.Common.{◌≡◌, Some, sym, ap, ◌∙◌}
use Rattle.std.specs.Option.{option_copied}
use Rattle.std.specs.List.{slice_get}
use Rattle.std.proofs.lemmas.Option.{get_or_from_slice_get}
use Rattle.rdf_terms.proofs.Common.{In-at, relabel_term}
use Rattle.rdf_terms.specs.declared.term.Term.TheVariants.{Blank}
use Rattle.other_output.specs.Numbering.{place_in}
use Rattle.other_output.proofs.renumbering.moved_at.Goals as goal

pub moved_term-requires : goal.moved_term-requires
moved_term-requires c n e = c.requires.places n (In-at c.args.terms.now c.args.number (Blank n) (sym c.get.ensures.term ∙ ap option_copied c.unwrap.ensures ∙ ap Some e))

pub returns : goal.returns
returns c =
    let at : slice_get c.args.terms.now c.args.number ≡ Some c.unwrap.result.now = sym c.get.ensures.term ∙ ap option_copied c.unwrap.ensures in
    c.moved_term.ensures ∙ ap (relabel_term (place_in c.args.numbering.now.list)) (sym (get_or_from_slice_get c.args.terms.now c.args.number c.unwrap.result.now (Blank 0) at))
