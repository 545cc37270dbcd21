-- The number that is held for a term says the node that the term is.
use Rattle.std.proofs.Common.{◌≡◌, ℕ, ◌<◌, if◌then◌else◌, List, Some, None, length, refl, ap, ◌∙◌, arith}
use Rattle.std.proofs.lemmas.Bool.{ne_eqb}
use Rattle.std.proofs.lemmas.Option.{slice_get-get_or}
use Rattle.rdf_terms.proofs.Common.{term_at, In-at}
use Rattle.rdf_terms.specs.declared.term.Term.{Term}
use Rattle.rdf_terms.specs.declared.term.Term.TheVariants.{Iri, Blank, Literal}
use Rattle.dataset_index.specs.declared.term_nodes.TheConstants.{NO_NODE}
use Rattle.dataset_index.specs.Mentions.{node_in}
use Rattle.dataset_index.specs.HeldNodes.{held_for, node_held, AreNodesBelow}

node_held-node : (n : ℕ) → n < NO_NODE → node_held n ≡ Some n
node_held-node n l = ap (λ b. if b then None else Some n) (ne_eqb n NO_NODE (λ e. omega (arith, e)))

node_held-held_for : (t : Term) → ((n : ℕ) → t ≡ Blank n → n < NO_NODE) → node_held (held_for t) ≡ node_in t
node_held-held_for (Iri t) below = refl
node_held-held_for (Blank n) below = node_held-node n (below n refl)
node_held-held_for (Literal l) below = refl

pub node_held-at : (terms : List Term) (k : ℕ) → AreNodesBelow terms → k < length terms → node_held (held_for (term_at terms k)) ≡ node_in (term_at terms k)
node_held-at terms k below l = node_held-held_for (term_at terms k) (λ n e. below n (In-at terms k (Blank n) (slice_get-get_or terms k (Blank 0) l ∙ ap Some e)))
