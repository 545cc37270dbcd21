-- What is written of a dataset does not depend on the order of the list of its quads.
use Rattle.std.proofs.Common.{◌≡◌, List, ◌++◌, length, Option, Some, None, codes, refl, sym, ap, ◌∙◌}
use Rattle.rdf_terms.proofs.Common.{Text, Dataset, length-Permutes}
use Rattle.rdf_terms.specs.declared.term.Label.{Label}
use Rattle.canon_model.specs.CountedRun.{counted_run}
use Rattle.canon_model.specs.Hashing.{Hashing}
use Rattle.canon_model.specs.Output.{IsOutputOf, units_of}
use Rattle.canon_model.specs.JoinedTies.{ties_of_run}
use Rattle.canon_model.specs.QuadOrder.{HaveSameQuads}
use Rattle.canon_model.proofs.QuadOrder.{counted_run_of_quads}
use Rattle.ndegree_hash.specs.declared.tie.Tie.{Tie}
use Rattle.rdfc_cli.specs.Reports.{IsTextOf, IsTieReport, IsSummary, count_lines, list_line, map_text, summary_text, tie_lines, tie_report}
use Rattle.rdfc_cli.specs.declared.words.Task.{Task}
use Rattle.rdfc_cli.specs.declared.words.Task.TheVariants.{Canon, Hash, Map, Ties}
use Rattle.rdfc_cli.proofs.SameQuads.{HaveSameLists, same_count, same_form, same_unsettled}

same_lines : (labels : List Label) (found others : Option Tie) → HaveSameLists found others → tie_lines labels found ≡ tie_lines labels others
same_lines labels None None e = refl
same_lines labels None (Some t) e = absurd e
same_lines labels (Some s) None e = absurd e
same_lines labels (Some s) (Some t) e =
    ap (λ t. list_line (codes "canon") labels t.canonical ++ (list_line (codes "left") labels t.left ++ list_line (codes "right") labels t.right)) e

module _ (ρ : Hashing) (D E : Dataset) (labels others : List Label) (same : HaveSameQuads D E) (same_labels : labels ≡ others) where
  same_run : counted_run ρ D ≡ counted_run ρ E
  same_run = sym (counted_run_of_quads ρ D E same)

  same_output : (x y : Text) → IsOutputOf ρ D x → IsOutputOf ρ E y → x ≡ y
  same_output x y h k = h.chosen ∙ sym (same_form ρ D E same) ∙ sym k.chosen

  same_report : (x y : Text) → IsTieReport ρ D labels x → IsTieReport ρ E others y → x ≡ y
  unfolding tie_report
  same_report x y h k = h.text_is
      ∙ (ap (λ run. count_lines run.trace.units (length run.trace.ties) h.joined ++ tie_lines labels h.unsettled) same_run
      ∙ (ap (λ joined. count_lines (units_of ρ E) (length (ties_of_run ρ E)) joined ++ tie_lines labels h.unsettled) (same_count ρ D E h.joined k.joined same h.count k.count)
      ∙ (ap (λ lines. count_lines (units_of ρ E) (length (ties_of_run ρ E)) k.joined ++ lines)
      (ap (λ l. tie_lines l h.unsettled) same_labels ∙ same_lines others h.unsettled k.unsettled (same_unsettled ρ D E h.unsettled k.unsettled same h.first k.first))
      ∙ sym k.text_is)))

  pub same_text : (task : Task) (x y : Text) → IsTextOf task ρ D labels x → IsTextOf task ρ E others y → x ≡ y
  same_text Canon x y h k = same_output x y h k
  same_text Hash x y h k = h.text_is ∙ (ap (λ form. ρ.hash form ++ codes "\n") (same_output h.form k.form h.is_form k.is_form) ∙ sym k.text_is)
  same_text Map x y h k = h ∙ (ap (λ run. map_text labels run.value) same_run ∙ (ap (λ l. map_text l (counted_run ρ E).value) same_labels ∙ sym k))
  same_text Ties x y h k = same_report x y h k

  pub same_summary : (x y : Text) → IsSummary ρ D x → IsSummary ρ E y → x ≡ y
  same_summary x y h k = h.text_is
      ∙ (ap (λ quads. summary_text quads D.nodes (units_of ρ D) (length (ties_of_run ρ D)) h.joined (ρ.hash h.form)) (length-Permutes same.statements)
      ∙ (ap (λ nodes. summary_text (length E.statements) nodes (units_of ρ D) (length (ties_of_run ρ D)) h.joined (ρ.hash h.form)) (sym same.nodes)
      ∙ (ap (λ run. summary_text (length E.statements) E.nodes run.trace.units (length run.trace.ties) h.joined (ρ.hash h.form)) same_run
      ∙ (ap (λ joined. summary_text (length E.statements) E.nodes (units_of ρ E) (length (ties_of_run ρ E)) joined (ρ.hash h.form)) (same_count ρ D E h.joined k.joined same h.count k.count)
      ∙ (ap (λ form. summary_text (length E.statements) E.nodes (units_of ρ E) (length (ties_of_run ρ E)) k.joined (ρ.hash form)) (same_output h.form k.form h.is_form k.is_form)
      ∙ sym k.text_is)))))
