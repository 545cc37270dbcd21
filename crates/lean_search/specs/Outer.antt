-- The search of a whole graph, component by component.
use Rattle.std.specs.Prelude.{◌≡◌, ℕ, ◌+◌, ◌<◌, ◌≤◌, ◌⊎◌, Bool, true, false, List}
use Rattle.rdf_terms.specs.Vocabulary.{In, AreDistinct, Statement, IsUsed}
use Rattle.rdf_terms.specs.declared.term.Term.{Term}
use Rattle.rdf_terms.specs.declared.term.Term.TheVariants.{Blank}
use Rattle.graph_model.specs.Graphs.{composed, IsImage, IsLean}
use Rattle.graph_model.specs.Components.{IsMapOf}
use Rattle.graph_model.specs.Counts.{IsWithinSearch}
use Rattle.graph_model.specs.Laws.{IsShrunk, IsSettled}

-- the node lies in a settled set of nodes that are all marked
pub record IsInSettled (limit : ℕ) (H : List Statement) (settled : ℕ → Bool) (n : ℕ) : Type 0 where
  pub nodes : List ℕ
  pub is_settled : IsSettled H limit nodes
  pub there : In n nodes
  pub all : (k : ℕ) → In k nodes → settled k ≡ true

-- H is what the map leaves of G; each marked node lies in a settled set, and no other node that is left stands before
-- `from`
pub record IsSearching (limit : ℕ) (G : List Statement) (μ : ℕ → Term) (H : List Statement) (settled : ℕ → Bool)
    (from : ℕ) : Type 0 where
  pub shrunk : IsShrunk G μ H
  pub settled_are : (n : ℕ) → settled n ≡ true → IsInSettled limit H settled n
  pub ahead : (n : ℕ) → IsUsed H n → settled n ≡ false → from ≤ n

-- it begins with the graph, with no node marked
abbrev pub SearchBegins : Type 0
SearchBegins =
    (limit : ℕ) (G : List Statement) (settled : ℕ → Bool) → AreDistinct G → ((n : ℕ) → settled n ≡ false)
    → IsSearching limit G Blank G settled 0

-- a map of nodes that are not marked shrinks the graph, and those that were marked stay settled
abbrev pub SearchShrinks : Type 0
SearchShrinks =
    (limit : ℕ) (G H I : List Statement) (μ ν : ℕ → Term) (settled : ℕ → Bool) (from : ℕ) (walk : List ℕ)
    → IsSearching limit G μ H settled from → IsMapOf H walk ν → IsImage ν H I
    → ((n : ℕ) → In n walk → settled n ≡ false) → IsSearching limit G (composed μ ν) I settled from

-- the nodes of a settled component are marked
pub record Marks (walk : List ℕ) (before after : ℕ → Bool) : Type 0 where
  pub stays : (n : ℕ) → before n ≡ true → after n ≡ true
  pub marks : (n : ℕ) → In n walk → after n ≡ true
  pub only : (n : ℕ) → after n ≡ true → (before n ≡ true) ⊎ In n walk

abbrev pub SearchSettles : Type 0
SearchSettles =
    (limit : ℕ) (G H : List Statement) (μ : ℕ → Term) (before after : ℕ → Bool) (from : ℕ) (walk : List ℕ)
    → IsSearching limit G μ H before from → IsSettled H limit walk → Marks walk before after
    → IsSearching limit G μ H after from

-- a node that is marked, or not left, is passed
abbrev pub SearchGoesOn : Type 0
SearchGoesOn =
    (limit : ℕ) (G H : List Statement) (μ : ℕ → Term) (settled : ℕ → Bool) (from : ℕ)
    → IsSearching limit G μ H settled from → (settled from ≡ true) ⊎ (¬ (IsUsed H from))
    → IsSearching limit G μ H settled (from + 1)

-- when all nodes are passed, what is left is lean, and each node that is left lies in a set that was searched
abbrev pub SearchEnds : Type 0
SearchEnds =
    (limit : ℕ) (G H : List Statement) (μ : ℕ → Term) (settled : ℕ → Bool) (nodes : ℕ)
    → IsSearching limit G μ H settled nodes → ((n : ℕ) → IsUsed H n → n < nodes)
    → IsLean H × ((n : ℕ) → IsUsed H n → IsWithinSearch H limit n)
