-- Two lists that no symmetry carries to one another give two outputs, since a text determines its dataset.
use Rattle.std.proofs.Common.{List, refl, sym, ℕ}
use Rattle.rdf_terms.specs.Dataset.{Dataset, IsValid}
use Rattle.canonical_writer.proofs.TextTells.{dataset_of_text}
use Rattle.canonical_writer.specs.Determined.{ListsNodes}
use Rattle.canon_model.proofs.CanonicalLists.{canonical_lists_are_complete}
use Rattle.canon_model.proofs.Examples.{four_quads, ρ}
use Rattle.canon_model.proofs.FourQuads.{four_quads-two_lists, four_quads-valid}
use Rattle.canon_model.proofs.TwoLists.{unjoined_gives_two_lists}
use Rattle.canon_model.specs.Allowed.{IsCanonicalList, canonical_form}
use Rattle.canon_model.specs.Hashing.{Hashing}
use Rattle.canon_model.specs.TwoLists.{HasTwoLists}
use Rattle.canon_core.specs.Outputs.{HasTwoOutputs, SharedOutput, UnjoinedGivesTwoOutputs}

lists_nodes : (ρ : Hashing) (D : Dataset) → IsValid D → (c : List ℕ) → IsCanonicalList ρ D c → ListsNodes D.nodes c
lists_nodes ρ D valid c w = let k = canonical_lists_are_complete ρ D valid c w in record { distinct = k.1; all = k.0 }

pub shared_output : SharedOutput
shared_output ρ ρ' D E v w c d k l e = dataset_of_text D E c d v w (lists_nodes ρ D v c k) (lists_nodes ρ' E w d l) e

two_outputs : (ρ : Hashing) (D : Dataset) → IsValid D → HasTwoLists ρ D → HasTwoOutputs ρ D
two_outputs ρ D valid t = record {
  first = canonical_form D t.first;
  second = canonical_form D t.second;
  first_allowed = record { list = t.first; allowed = t.first_allowed; text_is = refl };
  second_allowed = record { list = t.second; allowed = t.second_allowed; text_is = refl };
  differ = λ e.
      let r = shared_output ρ ρ D D valid valid t.first t.second t.first_allowed t.second_allowed e in
      t.not_carried (record { relabelling = r.relabelling; keeps = r.carries }) (sym r.lists);
}

pub unjoined_gives_two_outputs : UnjoinedGivesTwoOutputs
unjoined_gives_two_outputs ρ D valid c l m t n = two_outputs ρ D valid (unjoined_gives_two_lists ρ D valid c l m t n)

-- four quads for which two outputs are allowed, under the hash of the examples
pub four_quads-two_outputs : HasTwoOutputs ρ four_quads
four_quads-two_outputs = two_outputs ρ four_quads four_quads-valid four_quads-two_lists
