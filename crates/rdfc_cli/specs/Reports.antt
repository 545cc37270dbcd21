-- The texts that the commands write.
use Rattle.std.specs.Prelude.{◌≡◌, ℕ, ◌<◌, List, [], ◌++◌, flat_map, length, Option, Some, None, codes}
use Rattle.rdf_terms.specs.Vocabulary.{Text, In, numbers_below, numeral, Dataset, Relabelling, Carries, label_at, issued_names}
use Rattle.rdf_terms.specs.declared.term.Prefix.TheVariants.{Canonical}
use Rattle.rdf_terms.specs.declared.term.Label.{Label}
use Rattle.rdf_terms.specs.declared.term.Label.TheVariants.{Named, Anonymous}
use Rattle.canon_model.specs.Hashing.{Hashing}
use Rattle.canon_model.specs.CountedRun.{counted_run}
use Rattle.canon_model.specs.JoinedTies.{JoinedCount, ties_of_run}
use Rattle.canon_model.specs.Output.{IsOutputOf, units_of}
use Rattle.canon_core.specs.Canonical.{IsFirstUnsettled}
use Rattle.ndegree_hash.specs.declared.tie.Tie.{Tie}
use Rattle.rdfc_cli.specs.declared.words.Task.{Task}
use Rattle.rdfc_cli.specs.declared.words.Task.TheVariants.{Canon, Hash, Map, Ties}

-- ---- labels

abbrev pub label_text : Label → Text
label_text (Named label) = codes "_:" ++ label
label_text (Anonymous k) = codes "[" ++ (numeral k ++ codes "]")

-- what the document calls the node
abbrev pub label_in : List Label → ℕ → Text
label_in labels n = label_text (label_at labels n)

-- ---- the map of names

-- the label, a space, and the canonical identifier
abbrev pub map_line : List Label → List ℕ → ℕ → Text
map_line labels list n = label_in labels n ++ (codes " _:" ++ (issued_names Canonical list n ++ codes "\n"))

-- a line for each node of the canonical list, in its order
unfoldable pub map_text : List Label → List ℕ → Text
map_text labels list = flat_map (map_line labels list) list

-- ---- the report of ties

-- a word and a number
abbrev pub number_line : Text → ℕ → Text
number_line word n = word ++ (codes " " ++ (numeral n ++ codes "\n"))

abbrev pub spaced_label : List Label → ℕ → Text
spaced_label labels n = codes " " ++ label_in labels n

-- a word, and the labels of the nodes of a list, each behind a space
abbrev pub list_line : Text → List Label → List ℕ → Text
list_line word labels nodes = word ++ (flat_map (spaced_label labels) nodes ++ codes "\n")

abbrev pub tie_lines : List Label → Option Tie → Text
tie_lines labels None = []
tie_lines labels (Some tie) =
    list_line (codes "canon") labels tie.canon ++ (list_line (codes "left") labels tie.left
    ++ list_line (codes "right") labels tie.right)

abbrev pub count_lines : ℕ → ℕ → ℕ → Text
count_lines units ties joined =
    number_line (codes "units") units ++ (number_line (codes "ties") ties ++ number_line (codes "joined") joined)

unfoldable pub tie_report : List Label → ℕ → ℕ → ℕ → Option Tie → Text
tie_report labels units ties joined unsettled = count_lines units ties joined ++ tie_lines labels unsettled

-- units, ties and joined ties, and the first tie that is not joined
pub record IsTieReport (ρ : Hashing) (D : Dataset) (labels : List Label) (text : Text) : Type 0 where
  pub joined : ℕ
  pub unsettled : Option Tie
  pub count : JoinedCount D (ties_of_run ρ D) joined
  pub first : IsFirstUnsettled ρ D unsettled
  pub text_is : text ≡ tie_report labels (units_of ρ D) (length (ties_of_run ρ D)) joined unsettled

-- ---- the hash

-- the hash of the canonical form, and a line feed
pub record IsHashLine (ρ : Hashing) (D : Dataset) (text : Text) : Type 0 where
  pub form : Text
  pub is_form : IsOutputOf ρ D form
  pub text_is : text ≡ ρ.hash form ++ codes "\n"

-- ---- the summary of `load`

abbrev pub summary_text : ℕ → ℕ → ℕ → ℕ → ℕ → Text → Text
summary_text quads nodes units ties joined hash =
    number_line (codes "quads") quads ++ (number_line (codes "nodes") nodes
    ++ (count_lines units ties joined ++ (codes "hash " ++ (hash ++ codes "\n"))))

-- how many quads and nodes the dataset has, what its run counted, and the hash of its canonical form
pub record IsSummary (ρ : Hashing) (D : Dataset) (text : Text) : Type 0 where
  pub joined : ℕ
  pub form : Text
  pub count : JoinedCount D (ties_of_run ρ D) joined
  pub is_form : IsOutputOf ρ D form
  pub text_is : text ≡ summary_text (length D.statements) D.nodes (units_of ρ D) (length (ties_of_run ρ D)) joined
      (ρ.hash form)

-- ---- the map of a comparison

-- the label of a node of the first file, a space, and that of the node of the second that it is carried to
abbrev pub partner_line : List Label → List Label → (ℕ → ℕ) → ℕ → Text
partner_line labels others σ n = label_in labels n ++ (codes " " ++ (label_in others (σ n) ++ codes "\n"))

-- a line for each node, in order of number
unfoldable pub partner_text : List Label → List Label → (ℕ → ℕ) → ℕ → Text
partner_text labels others σ nodes = flat_map (partner_line labels others σ) (numbers_below nodes)

-- the lines of an isomorphism (RDF 1.1 Concepts, section 4.1): a bijection of the nodes that carries the quads of D
-- exactly to those of E
pub record ArePartnerLines (D E : Dataset) (labels others : List Label) (text : Text) : Type 0 where
  pub relabelling : Relabelling D.nodes
  pub carries : Carries relabelling.to D E
  pub text_is : text ≡ partner_text labels others relabelling.to D.nodes

-- the same by pairs of nodes
abbrev pub pair_line : List Label → List Label → ℕ × ℕ → Text
pair_line labels others p = label_in labels p.0 ++ (codes " " ++ (label_in others p.1 ++ codes "\n"))

abbrev pub pairs_text : List Label → List Label → List (ℕ × ℕ) → Text
pairs_text labels others pairs = flat_map (pair_line labels others) pairs

-- ---- what is written for one file

abbrev pub IsTextOf : Task → Hashing → Dataset → List Label → Text → Type 0
IsTextOf Canon ρ D labels text = IsOutputOf ρ D text
IsTextOf Hash ρ D labels text = IsHashLine ρ D text
IsTextOf Map ρ D labels text = text ≡ map_text labels (counted_run ρ D).value
IsTextOf Ties ρ D labels text = IsTieReport ρ D labels text

-- the lists of the tie hold nodes below this number
pub record HasNodesOf (nodes : ℕ) (tie : Tie) : Type 0 where
  pub canon : (n : ℕ) → In n tie.canon → n < nodes
  pub left : (n : ℕ) → In n tie.left → n < nodes
  pub right : (n : ℕ) → In n tie.right → n < nodes
