-- The counted run of a call over its groups as a list (RDF Dataset Canonicalization, section 4.8, step 5).
use Rattle.std.specs.Prelude.{ℕ, List, [], ◌∷◌, ◌++◌, None}
use Rattle.canon_model.specs.CountedRun.{Counted, CountedCall, Outcome, nothing, followed_by, logged, counted_permutations, path_or_none, issuer_or, ties_of_chosen}
use Rattle.related_hash.specs.declared.group.Group.{Group as Bag}
use Rattle.rdf_terms.specs.Arrangements.{arrangements}

-- `counted_groups` over such a list
abbrev pub counted_bags : CountedCall → List ℕ → List Bag → List ℕ → Counted Outcome
counted_bags call c [] i = record { trace = nothing; value = record { text = []; issuer = i } }
counted_bags call c (bag ∷ bags) i =
    let tried = counted_permutations call None c i (arrangements bag.nodes) in
    let rest = counted_bags call c bags (issuer_or tried.value i) in
    record {
      trace = followed_by tried.trace (followed_by (logged (ties_of_chosen tried.value c i)) rest.trace);
      value = record { text = bag.hash ++ path_or_none tried.value ++ rest.value.text; issuer = rest.value.issuer };
    }
