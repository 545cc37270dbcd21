-- A call that is begun: its groups as a list of bags.
use Rattle.std.proofs.Common.{List, None, Option, [], ap, refl, sym, ℕ, ◌++◌, ◌∙◌, ◌∷◌, ◌≡◌}
use Rattle.rdf_terms.proofs.Common.{Dataset, Text, arrangements}
use Rattle.canon_model.specs.CountedRun.{Chosen, Counted, CountedCall, Outcome, after, counted_groups, counted_permutations, followed_by, issuer_or, logged, one_unit, path_or_none, ties_of_chosen}
use Rattle.canon_model.specs.Groups.{groups}
use Rattle.canon_model.specs.Hashing.{Hashing}
use Rattle.canon_model.specs.Recursion.{counted_step}
use Rattle.ndegree_hash.specs.Bags.{counted_bags}
use Rattle.related_hash.specs.Grouping.{AreGroups as AreBags}
use Rattle.related_hash.specs.declared.group.Group.{Group as Bag}
use Rattle.ndegree_hash.specs.Resume.{after_groups}
use Rattle.ndegree_hash.proofs.Behind.{arrangements-Permutes}

module _ (call : CountedCall) (c : List ℕ) where
  abbrev group : Text → List ℕ → Counted (Option Chosen) → Counted Outcome → Counted Outcome
  group hash i tried rest = record {
    trace = followed_by tried.trace (followed_by (logged (ties_of_chosen tried.value c i)) rest.trace);
    value = record { text = hash ++ path_or_none tried.value ++ rest.value.text; issuer = rest.value.issuer };
  }

  pub counted_groups-bags : (nodes : Text → List ℕ) (hashes : List Text) (bags : List Bag) (i : List ℕ) → AreBags nodes hashes bags → counted_groups call c nodes hashes i ≡ counted_bags call c bags i
  counted_groups-bags nodes [] [] i a = refl
  counted_groups-bags nodes [] (bag ∷ bags) i a = absurd a
  counted_groups-bags nodes (hash ∷ hashes) [] i a = absurd a
  counted_groups-bags nodes (hash ∷ hashes) (bag ∷ bags) i a =
      let same : counted_permutations call None c i (arrangements (nodes hash))
      ≡ counted_permutations call None c i (arrangements bag.nodes) = ap (λ ps. counted_permutations call None c i ps) (arrangements-Permutes (nodes hash) bag.nodes a.1) in
      ap (λ t. group hash i t (counted_groups call c nodes hashes (issuer_or t.value i))) same
      ∙ ap (λ rest. group hash i (counted_permutations call None c i (arrangements bag.nodes)) rest)
      (counted_groups-bags nodes hashes bags (issuer_or (counted_permutations call None c i (arrangements bag.nodes)).value i) a.2)
      ∙ ap (λ h. group h i (counted_permutations call None c i (arrangements bag.nodes)) (counted_bags call c bags (issuer_or (counted_permutations call None c i (arrangements bag.nodes)).value i)))
      (sym a.0)

-- a call costs one unit, and begins with no data and all its bags
pub counted_step-opens : (ρ : Hashing) (call : CountedCall) (D : Dataset) (c : List ℕ) (n : ℕ) (i : List ℕ) (bags : List Bag) → AreBags (groups ρ D c i n).nodes (groups ρ D c i n).hashes bags
    → counted_step call ρ D c n i ≡ after one_unit (after_groups ρ call c [] bags i)
unfolding after_groups
counted_step-opens ρ call D c n i bags a =
    ap (λ (run : Counted Outcome). record { trace = followed_by one_unit run.trace; value = record { text = ρ.hash run.value.text; issuer = run.value.issuer } })
    (counted_groups-bags call c (groups ρ D c i n).nodes (groups ρ D c i n).hashes bags i a)
