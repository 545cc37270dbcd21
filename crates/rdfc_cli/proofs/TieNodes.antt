-- The lists of a tie hold nodes of the dataset.
use Rattle.std.proofs.Common.{ℕ, ◌<◌, List, Option, Some, None, IfSome, inl, inr}
use Rattle.rdf_terms.proofs.Common.{In, Dataset}
use Rattle.canon_model.specs.Hashing.{Hashing}
use Rattle.canon_model.specs.Ties.{AreTied}
use Rattle.canon_core.specs.Canonical.{IsUnsettledBy, IsFirstUnsettled}
use Rattle.ndegree_hash.specs.declared.tie.Tie.{Tie}
use Rattle.rdfc_cli.specs.Reports.{HasNodesOf}

canonical_nodes : (ρ : Hashing) (D : Dataset) {c i left right : List ℕ} → AreTied ρ D c i left right → (x : ℕ) → In x c → x < D.nodes
canonical_nodes ρ D (inl r) = r.left_outcome.valid.canonical_nodes
canonical_nodes ρ D (inr p) = p.begun.call.canonical_nodes

nodes_of_tie : (ρ : Hashing) (D : Dataset) (t : Tie) → IsUnsettledBy ρ D t → HasNodesOf D.nodes t
nodes_of_tie ρ D t u = record { canon = canonical_nodes ρ D u.tie.tied; left = u.tie.may_be_exchanged.left_nodes; right = u.tie.may_be_exchanged.right_nodes }

pub nodes_of_first : (ρ : Hashing) (D : Dataset) (found : Option Tie) → IsFirstUnsettled ρ D found → IfSome found (HasNodesOf D.nodes)
nodes_of_first ρ D None u = tt
nodes_of_first ρ D (Some t) u = nodes_of_tie ρ D t u
