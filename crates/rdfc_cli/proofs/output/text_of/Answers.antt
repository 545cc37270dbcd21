use Rattle.std.proofs.Common.{ap, sym, ◌∙◌, subst}
use Rattle.rdf_terms.specs.Lists.{In, AreDistinct}
use Rattle.rdf_terms.specs.Document.{dataset}
use Rattle.canon_model.specs.Meaning.{meaning}
use Rattle.canon_model.proofs.CanonicalLists.{canonical_lists_are_complete}
use Rattle.rdfc_cli.specs.Reports.{map_text, tie_report}
use Rattle.rdfc_cli.proofs.TieNodes.{nodes_of_first}
use Rattle.rdfc_cli.proofs.output.text_of.Goals as goal
use Rattle.rdfc_cli.proofs.output.text_of.Goals.{in-Hash+in_ok-text-in-Hash, in-Map+in_ok-text-in-Map, in-Ties+in_ok-text-in-Ties}

pub map_of_names-requires-clause-nodes : goal.map_of_names-requires-clause-nodes
map_of_names-requires-clause-nodes c = λ n i.
    ((canonical_lists_are_complete (meaning c.args.canon.profile) (dataset c.args.dataset.now) c.requires.bytes.valid c.args.canon.order c.requires.order_allowed).0 n).0
    (subst (λ l. In n l) c.as_slice.ensures i)

pub map_of_names-requires-clause-once : goal.map_of_names-requires-clause-once
map_of_names-requires-clause-once c =
    subst AreDistinct (sym c.as_slice.ensures)
    (canonical_lists_are_complete (meaning c.args.canon.profile) (dataset c.args.dataset.now) c.requires.bytes.valid c.args.canon.order c.requires.order_allowed).1

pub report_of_ties-requires : goal.report_of_ties-requires
report_of_ties-requires c = nodes_of_first (meaning c.args.canon.profile) (dataset c.args.dataset.now) c.args.canon.unsettled c.requires.unsettled

pub returns-clause-text : goal.returns-clause-text
returns-clause-text c =
    let labels = c.args.dataset.now.labels in
    elim c.match-task.branch [
      | in-Hash+in_ok-text-in-Hash w ↦ rw (w.in-Hash.is, w.text-is) (record { form = c.args.canon.bytes; is_form = c.requires.bytes; text_is = w.in_ok-text-in-Hash.ensures })
      | in-Map+in_ok-text-in-Map w ↦ rw (w.in-Map.is, w.text-is) (w.in_ok-text-in-Map.ensures ∙ ap (map_text labels) (w.as_slice.ensures ∙ c.requires.order_is))
      | in-Ties+in_ok-text-in-Ties w ↦ rw (w.in-Ties.is, w.text-is) (record {
        joined = c.args.canon.joined;
        unsettled = c.args.canon.unsettled;
        count = c.requires.joined;
        first = c.requires.unsettled;
        text_is = w.in_ok-text-in-Ties.ensures ∙ (λ i. tie_report labels (c.requires.units i) (c.requires.ties i) c.args.canon.joined c.args.canon.unsettled);
      })
    ]
