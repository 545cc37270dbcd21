-- Hash N-Degree Quads over itself: calls of a valid call are valid, so any bound on their depth may be left out.
use Rattle.std.proofs.Common.{List, ap, arith, suc, true, ℕ, ◌≡◌}
use Rattle.rdf_terms.proofs.Common.{Dataset, IsValid, Text}
use Rattle.canon_model.specs.CountedRun.{Counted, Outcome, counted_call, counted_call_within, followed_by, one_unit}
use Rattle.canon_model.specs.Groups.{groups}
use Rattle.canon_model.specs.Issuer.{IsValidCall, is_issued}
use Rattle.canon_model.specs.Outcome.{HashNDegreeQuads, NDegreeStep, NDegreeWithin}
use Rattle.canon_model.specs.Hashing.{Hashing}
use Rattle.canon_model.specs.Recursion.{CountedCallOfCalls, IsValidOutcome, OutcomesAreValid, OutcomesOfOutcomes}
use Rattle.canon_model.proofs.Coverage.{hash_n_degree_quads-covers, n_degree_within-covers}
use Rattle.canon_model.proofs.Depth.{IsWithin, counted_call-deeper, counted_groups-same, data_to_hash-more, n_degree_within-depth}
use Rattle.canon_model.proofs.Issuers.{In-from_is_issued, are_distinct_from_once, is_issued-begins, is_issued-from_In, not_In-from_is_issued}
use Rattle.canon_model.proofs.OutcomesGrow.{AllGrow, n_degree_within-grows}
use Rattle.canon_model.proofs.Totality.{Fits, fits_after_call, fits_valid_call, mentions_nodes, nodes_of_groups}

module _ (ρ : Hashing) (D : Dataset) (c : List ℕ) (n : ℕ) (i : List ℕ) (valid : IsValid D) (v : IsValidCall D c n i) where
  issued : is_issued n i ≡ true
  issued = is_issued-from_In n i v.listed

  fits : Fits ρ D c (mentions_nodes D valid) (suc D.nodes) i
  fits = fits_valid_call ρ D c (mentions_nodes D valid) (suc D.nodes) n i v (omega arith)

  grows : AllGrow c (HashNDegreeQuads ρ D c)
  grows m k h j d w = n_degree_within-grows c ρ D (suc D.nodes) m k h j d w.outcome

  inward : IsWithin ρ D c (mentions_nodes D valid) D.nodes (HashNDegreeQuads ρ D c) (NDegreeWithin D.nodes ρ D c)
  inward m k h j hm f w = n_degree_within-depth ρ D c (mentions_nodes D valid) (suc D.nodes) D.nodes m k h j hm f w.outcome

  call_is_valid : (depth m : ℕ) (k : List ℕ) → is_issued m k ≡ true → Fits ρ D c (mentions_nodes D valid) depth k → IsValidCall D c m k
  call_is_valid depth m k hm f = record {
    canonical_nodes = v.canonical_nodes;
    temporary_nodes = λ x h. f.below x (is_issued-from_In x k h);
    canonical_once = v.canonical_once;
    temporary_once = are_distinct_from_once k f.distinct;
    apart = λ x h g. not_In-from_is_issued x c (f.apart x (is_issued-from_In x k g)) h;
    listed = In-from_is_issued m k hm;
  }

  deeper : (m : ℕ) (k : List ℕ) → is_issued m k ≡ true → Fits ρ D c (mentions_nodes D valid) D.nodes k → Fits ρ D c (mentions_nodes D valid) (suc D.nodes) k
  deeper m k hm f = record { distinct = f.distinct; below = f.below; apart = f.apart; deep = let r = f.deep in omega arith }

  outward : IsWithin ρ D c (mentions_nodes D valid) D.nodes (NDegreeWithin D.nodes ρ D c) (HashNDegreeQuads ρ D c)
  outward m k h j hm f w = record {
    valid = call_is_valid D.nodes m k hm f;
    outcome = n_degree_within-depth ρ D c (mentions_nodes D valid) D.nodes (suc D.nodes) m k h j hm (deeper m k hm f) w;
  }

  to_outcome : (h : Text) (j : List ℕ) → NDegreeStep (HashNDegreeQuads ρ D c) ρ D c n i h j → HashNDegreeQuads ρ D c n i h j
  to_outcome h j w = record {
    valid = v;
    outcome = record {
      text = w.text;
      data_to_hash =
          data_to_hash-more ρ D c (mentions_nodes D valid) D.nodes (HashNDegreeQuads ρ D c) (NDegreeWithin D.nodes ρ D c) (hash_n_degree_quads-covers D c ρ) grows inward (groups ρ D c i n).nodes
          (nodes_of_groups ρ D c (mentions_nodes D valid) i n) (groups ρ D c i n).hashes i w.text j fits w.data_to_hash;
      hash_is = w.hash_is;
    };
  }

  from_outcome : (h : Text) (j : List ℕ) → HashNDegreeQuads ρ D c n i h j → NDegreeStep (HashNDegreeQuads ρ D c) ρ D c n i h j
  from_outcome h j w = record {
    text = w.outcome.text;
    data_to_hash =
        data_to_hash-more ρ D c (mentions_nodes D valid) D.nodes (NDegreeWithin D.nodes ρ D c) (HashNDegreeQuads ρ D c) (n_degree_within-covers D c ρ D.nodes)
        (n_degree_within-grows c ρ D D.nodes) outward (groups ρ D c i n).nodes (nodes_of_groups ρ D c (mentions_nodes D valid) i n)
        (groups ρ D c i n).hashes i w.outcome.text j fits w.outcome.data_to_hash;
    hash_is = w.outcome.hash_is;
  }

  returned : (h : Text) (j : List ℕ) → HashNDegreeQuads ρ D c n i h j → IsValidOutcome D c n i j
  returned h j w =
      let g = grows n i h j fits.distinct w in
      record {
        valid =
            call_is_valid (suc D.nodes) n j (is_issued-begins n i j g.0 issued) (fits_after_call ρ D c (mentions_nodes D valid) (suc D.nodes) n i j g
            (hash_n_degree_quads-covers D c ρ n i h j issued w) fits);
        begins = g.0;
      }

pub outcomes_are_valid : OutcomesAreValid
outcomes_are_valid ρ D c n i valid h j w = returned ρ D c n i valid w.valid h j w

pub outcomes_of_outcomes : OutcomesOfOutcomes
outcomes_of_outcomes ρ D c n i valid v h j = (to_outcome ρ D c n i valid v h j, from_outcome ρ D c n i valid v h j)

pub counted_call_of_calls : CountedCallOfCalls
unfolding counted_call
counted_call_of_calls ρ D c n i valid v =
    ap (λ (r : Counted Outcome). record { trace = followed_by one_unit r.trace; value = record { text = ρ.hash r.value.text; issuer = r.value.issuer } })
    (counted_groups-same ρ D c (mentions_nodes D valid) D.nodes (counted_call_within (suc D.nodes) ρ D c) (counted_call-deeper ρ D c (mentions_nodes D valid) D.nodes (suc D.nodes) (omega arith))
    (groups ρ D c i n).nodes (nodes_of_groups ρ D c (mentions_nodes D valid) i n) (groups ρ D c i n).hashes i (fits ρ D c n i valid v))
