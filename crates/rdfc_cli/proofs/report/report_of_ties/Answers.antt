use Rattle.std.proofs.Common.{◌++◌, ap, ◌∙◌}
use Rattle.rdfc_cli.specs.Reports.{count_lines, tie_lines, tie_report}
use Rattle.rdfc_cli.proofs.report.report_of_ties.Goals as goal

pub returns : goal.returns
unfolding tie_report
returns c =
    let canon = c.args.canon.now in
    c.new.ensures ∙ c.in_ok-push_unsettled.ensures
    ∙ ap (λ l. l ++ tie_lines c.args.dataset.now.labels canon.unsettled) (c.in_ok-push_counts.ensures ∙ ap (λ l. l ++ count_lines canon.units canon.ties canon.joined) c.new-out.ensures.items)
