use Rattle.std.proofs.Common.{[], ◌++◌, get_or, ap, sym, ◌∙◌, flat_map}
use Rattle.std.proofs.lemmas.List.{take_all}
use Rattle.rdfc_cli.specs.Reports.{map_line, map_text}
use Rattle.rdfc_cli.proofs.ReportTexts.{one_more_text, map_line-at}
use Rattle.rdfc_cli.proofs.report.map_of_names.Goals as goal
use Rattle.rdf_terms.proofs.MadeLists.{In-get_or}

pub label-requires : goal.label-requires
label-requires c = c.requires.nodes _ (In-get_or c.args.order.now c.loop-place.place 0 c.loop-place-test.true)

pub loop-place-preserved : goal.loop-place-preserved
loop-place-preserved c =
    let labels = c.args.dataset.now.labels in
    let order = c.args.order.now in
    let place = c.loop-place.place in
    c.in_ok-push_map_line.ensures
    ∙ ap (λ l. c.loop-place.out.items ++ l) (sym (map_line-at labels order place c.label.result.now c.requires.once c.loop-place-test.true c.label.ensures.label))
    ∙ ap (λ l. l ++ map_line labels order (get_or order place 0)) c.loop-place.invariant
    ∙ one_more_text (map_line labels order) [] order place c.loop-place-test.true

pub returns : goal.returns
unfolding map_text
returns c =
    c.new.ensures ∙ c.loop-place.invariant ∙ ap (flat_map (map_line c.args.dataset.now.labels c.args.order.now)) (take_all c.loop-place.place c.args.order.now c.loop-place-test.false)
