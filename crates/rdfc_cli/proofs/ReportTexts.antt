-- The lines of a report, one after the other, and the text of a command.
use Rattle.std.proofs.Common.{◌≡◌, ℕ, ◌+◌, ◌<◌, List, ◌++◌, Option, Some, None, codes, length, get_or, slice_get, take, sym, ap, ◌∙◌, subst}
use Rattle.std.specs.Prelude.{flat_map}
use Rattle.std.proofs.lemmas.List.{take_more, flat_map_more}
use Rattle.std.proofs.lemmas.Option.{get_or_from_slice_get}
use Rattle.rdf_terms.proofs.Common.{Text, AreDistinct, numeral, Dataset, Document, dataset, identifier_at, name_or_nothing}
use Rattle.rdf_terms.specs.declared.term.Prefix.TheVariants.{Canonical}
use Rattle.rdf_terms.specs.declared.term.Label.{Label}
use Rattle.rdf_terms.specs.declared.term.Label.TheVariants.{Anonymous}
use Rattle.canonical_writer.proofs.Placing.{place-get_or}
use Rattle.canon_model.specs.Hashing.{Hashing}
use Rattle.canon_model.specs.Meaning.{meaning}
use Rattle.canon_model.specs.JoinedTies.{IsSettled}
use Rattle.canon_model.specs.Output.{IsOnlyOutput, chosen_form}
use Rattle.canon_core.specs.Canonical.{IsFirstUnsettled}
use Rattle.canon_core.specs.declared.canon.Canon.{Canon}
use Rattle.ndegree_hash.specs.declared.tie.Tie.{Tie}
use Rattle.rdfc_cli.specs.Answers.{Finds, IsRunText, hashing_of}
use Rattle.rdfc_cli.specs.Forms.{IsCanonWithin}
use Rattle.rdfc_cli.specs.Reports.{label_text, label_in, map_line}
use Rattle.rdfc_cli.specs.declared.options.Settings.{Settings}
use Rattle.rdfc_cli.specs.declared.output.Output.{Output}

-- ---- one more text

pub one_more_text : (f : ℕ → Text) (old : Text) (nodes : List ℕ) (i : ℕ) → i < length nodes → (old ++ flat_map f (take i nodes)) ++ f (get_or nodes i 0) ≡ old ++ flat_map f (take (i + 1) nodes)
one_more_text f old nodes i l = flat_map_more f old (take i nodes) (get_or nodes i 0) ∙ ap (λ ns. old ++ flat_map f ns) (sym (take_more nodes i 0 l))

pub label_in-at : (labels : List Label) (n : ℕ) (label : Label) → slice_get labels n ≡ Some label → label_in labels n ≡ label_text label
label_in-at labels n label e = ap label_text (get_or_from_slice_get labels n label (Anonymous 0) e)

-- the line of the node at this place of a list that holds each node once
pub map_line-at : (labels : List Label) (order : List ℕ) (k : ℕ) (label : Label) → AreDistinct order → k < length order → slice_get labels (get_or order k 0) ≡ Some label
    → map_line labels order (get_or order k 0) ≡ label_text label ++ (codes " _:c14n" ++ (numeral k ++ codes "\n"))
map_line-at labels order k label distinct l e =
    λ i. (label_in-at labels (get_or order k 0) label e i) ++ (codes " _:" ++ (name_or_nothing (identifier_at Canonical (place-get_or order k distinct l i)) ++ codes "\n"))

-- ---- what the run found

finds-first : (ρ : Hashing) (D : Dataset) (bytes : Text) (found : Option Tie) → IsFirstUnsettled ρ D found → bytes ≡ chosen_form ρ D → (IsSettled ρ D → IsOnlyOutput ρ D bytes) → Finds found ρ D
finds-first ρ D bytes None settled chosen only = record { settled = settled; only = subst (IsOnlyOutput ρ D) chosen (only settled) }
finds-first ρ D bytes (Some tie) unsettled chosen only = unsettled

pub run_text-of_run : (settings : Settings) (d : Document) (IsText : Hashing → Text → Type 0) (canon : Canon) (output : Output) → IsCanonWithin settings (dataset d) canon
    → canon.profile ≡ settings.profile → IsText (meaning canon.profile) output.text → output.unsettled ≡ canon.unsettled → IsRunText settings output.unsettled IsText (dataset d) output.text
run_text-of_run settings d IsText canon output run profile text unsettled =
    let c = run.canon_is in
    record {
      within = run.within;
      finds = subst (λ found. Finds found (hashing_of settings) (dataset d)) (sym unsettled)
          (finds-first (hashing_of settings) (dataset d) canon.bytes canon.unsettled c.unsettled c.bytes.chosen c.only);
      is_text = subst (λ p. IsText (meaning p) output.text) profile text;
    }
