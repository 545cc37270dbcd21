-- All nodes in the order of their hashes, and those that are alone.
use Rattle.std.proofs.Common.{◌≡◌, ℕ, ◌<◌, ◌≤◌, All, List, [], get_or, length, map, sym, ap, ◌∙◌, subst, arith}
use Rattle.std.specs.List.{flat_map}
use Rattle.rdf_terms.proofs.Common.{Dataset, In, Permutes, Text, numbers_below, In-get_or}
use Rattle.canon_model.specs.Allowed.{issued_for_unique_hashes, nodes_with_hash, single}
use Rattle.canon_model.specs.CountedRun.{counted_run, nothing}
use Rattle.canon_model.specs.FirstDegree.{hash_first_degree_quads}
use Rattle.canon_model.specs.Hashing.{Hashing}
use Rattle.canon_model.specs.Issuer.{issue_each}
use Rattle.canon_model.proofs.CanonicalLists.{unique_hashes-canonical}
use Rattle.canon_core.specs.Classes.{IsCanonicalSoFar, IsInHashOrder, alone_under_hashes, run_from}
use Rattle.canon_core.specs.HashOrder.{StrictlyAscends, hash_in, node_cmp}
use Rattle.canon_core.proofs.AloneNodes.{alone-below, run-alone}
use Rattle.canon_core.proofs.AloneSoFar.{alone_in}
use Rattle.canon_core.proofs.OneClass.{so_far-canonical}
use Rattle.canon_core.proofs.RankedNodes.{hashes-are, paired, permutes-table, ranked-all}

module _ (ρ : Hashing) (D : Dataset) where
  pub in-hash-order : (hashes : List Text) (count : ℕ) (nodes : List (Text × ℕ)) → hashes ≡ map (hash_first_degree_quads ρ D) (numbers_below D.nodes) → count ≡ D.nodes
      → Permutes (map (λ n. (hash_in hashes n, n)) (numbers_below count)) nodes → StrictlyAscends node_cmp nodes → IsInHashOrder ρ D nodes
  in-hash-order hashes count nodes table e all up =
      let same : Permutes (map (λ n. (hash_in hashes n, n)) (numbers_below D.nodes)) nodes = subst (λ k. Permutes (map (λ n. (hash_in hashes n, n)) (numbers_below k)) nodes) e all in
      let pairs : Permutes (map (paired (hash_first_degree_quads ρ D)) (numbers_below D.nodes)) nodes = permutes-table (hash_first_degree_quads ρ D) D.nodes hashes nodes table same in
      record {
        ranked = ranked-all (hash_first_degree_quads ρ D) D.nodes nodes pairs up;
        hashes = hashes-are (hash_first_degree_quads ρ D) D.nodes nodes pairs up;
      }

  pub alone-are : (nodes : List (Text × ℕ)) (alone : List ℕ) → IsInHashOrder ρ D nodes → alone ≡ alone_in (hash_first_degree_quads ρ D) D.nodes nodes → alone ≡ alone_under_hashes ρ D
  alone-are nodes alone o e = e ∙ ap (flat_map (λ h. single (nodes_with_hash ρ D h))) o.hashes

  pub all-alone-below : (bound : ℕ) → D.nodes ≤ bound → (alone : List ℕ) → alone ≡ alone_under_hashes ρ D → All (λ n. n < bound) alone
  all-alone-below bound b alone e j d l =
      let low : get_or alone j d < D.nodes = alone-below ρ D (get_or alone j d) (subst (λ ns. In (get_or alone j d) ns) e (In-get_or alone j d l)) in
      omega arith

  pub unique-so-far : (c alone : List ℕ) → alone ≡ alone_under_hashes ρ D → c ≡ issue_each [] alone → IsCanonicalSoFar D c
  unique-so-far c alone e f = subst (IsCanonicalSoFar D) (sym (f ∙ ap (issue_each []) e)) (so_far-canonical D (issued_for_unique_hashes ρ D) (unique_hashes-canonical ρ D))

  -- the order is found, and where the nodes that are alone are all, they are the whole run
  pub run-of-alone : (nodes : List (Text × ℕ)) (alone : List ℕ) → IsInHashOrder ρ D nodes → alone ≡ alone_in (hash_first_degree_quads ρ D) D.nodes nodes → length alone ≡ D.nodes
      → counted_run ρ D ≡ record { trace = nothing; value = alone }
  run-of-alone nodes alone o e l = run-alone ρ D alone (alone-are nodes alone o e) l
