-- A call has fewer ties than units.
use Rattle.std.proofs.Common.{List, None, Option, Some, [], ap, arith, cond, false, length, map, refl, suc, true, zero, Bool, ℕ, ◌+◌, ◌++◌, ◌≤◌, ◌∷◌, ◌≡◌}
use Rattle.std.proofs.Common.{length-append}
use Rattle.rdf_terms.proofs.Common.{Dataset, Text, is_before, arrangements}
use Rattle.std.specs.Str.{bytes_eq}
use Rattle.canon_model.specs.CountedRun.{Chosen, Counted, CountedCall, Outcome, Tie, Trace, choose, chosen_text, counted_call, counted_call_within, counted_groups, counted_permutation, counted_permutations, counted_recursion, followed_by, is_skipped, issuer_or, logged, nothing, one_unit, path_or_none, skips, ties_of_chosen}
use Rattle.canon_model.specs.Groups.{groups}
use Rattle.canon_model.specs.Hashing.{Hashing}
use Rattle.canon_model.specs.Recursion.{FewerTiesThanUnits}
use Rattle.canon_model.specs.Walk.{issuer_copy_after, path_of_identifiers, path_of_result, recursion_list}

abbrev NoMore : Trace → Type 0
NoMore t = length t.ties ≤ t.units

no_more-after : (a b : Trace) → NoMore a → NoMore b → NoMore (followed_by a b)
no_more-after a b f g = let e = length-append a.ties b.ties in omega arith

abbrev others : Option Chosen → ℕ
others None = 0
others (Some chosen) = suc (length chosen.others)

others-choose : (b : Option Chosen) (o : Option Outcome) → others (choose b o) ≤ suc (others b)
others-choose None None = omega arith
others-choose (Some chosen) None = omega arith
others-choose None (Some o) = omega arith
others-choose (Some chosen) (Some o) = by (is_before o.text chosen.path) (bytes_eq o.text chosen.path)
  where
    by : (s t : Bool) → others (cond s (Some (record { path = o.text; issuer = o.issuer; others = [] }))
        (cond t (Some (record { path = chosen.path; issuer = chosen.issuer; others = chosen.others ++ o.issuer ∷ [] })) (Some chosen))) ≤ suc (suc (length chosen.others))
    by true t = omega arith
    by false true = let e = length-append chosen.others (o.issuer ∷ []) in omega arith
    by false false = omega arith

module _ (call : CountedCall) (few : (n : ℕ) (i : List ℕ) → NoMore (call n i).trace) (c : List ℕ) where
  recursion-few : (b : Option Text) (i : List ℕ) (π : Text) (ns : List ℕ) → NoMore (counted_recursion call b c i π ns).trace
  recursion-few b i π [] = omega arith
  recursion-few b i π (n ∷ ns) = by (skips b (π ++ path_of_result c i n (call n i).value.text)) (recursion-few b (call n i).value.issuer (π ++ path_of_result c i n (call n i).value.text) ns)
    where
      rest : Counted (Option Outcome)
      rest = counted_recursion call b c (call n i).value.issuer (π ++ path_of_result c i n (call n i).value.text) ns

      by : (s : Bool) → NoMore rest.trace → NoMore (cond s (record { trace = (call n i).trace; value = None }) (Rattle.canon_model.specs.CountedRun.after (call n i).trace rest)).trace
      by true h = few n i
      by false h = no_more-after (call n i).trace rest.trace (few n i) h

  permutation-few : (b : Option Text) (i p : List ℕ) → NoMore (counted_permutation call b c i p).trace
  permutation-few b i p = by (is_skipped b c i [] p)
    where
      by : (s : Bool) → NoMore (cond s (record { trace = nothing; value = None }) (counted_recursion call b c (issuer_copy_after c i p) (path_of_identifiers c i p) (recursion_list c i p))).trace
      by true = omega arith
      by false = recursion-few b (issuer_copy_after c i p) (path_of_identifiers c i p) (recursion_list c i p)

  -- each permutation that has the chosen path was begun, and so has a unit of its own
  permutations-few : (b : Option Chosen) (i : List ℕ) (ps : List (List ℕ)) → let t = counted_permutations call b c i ps in length t.trace.ties + others t.value ≤ t.trace.units + others b
  permutations-few b i [] = omega arith
  permutations-few b i (p ∷ ps) =
      let t = counted_permutation call (chosen_text b) c i p in
      let rest = counted_permutations call (choose b t.value) c i ps in
      let h = permutation-few (chosen_text b) i p in
      let g = permutations-few (choose b t.value) i ps in
      let o = others-choose b t.value in
      let e = length-append t.trace.ties rest.trace.ties in
      omega arith

  ties_of_chosen-few : (b : Option Chosen) (i : List ℕ) → length (ties_of_chosen b c i) ≤ others b
  ties_of_chosen-few None i = omega arith
  ties_of_chosen-few (Some chosen) i = let e = count chosen.others in omega arith
    where
      count : (rights : List (List ℕ)) → length {A = Tie} (map (λ right. record { canonical = c; passed = i; left = chosen.issuer; right = right }) rights) ≡ length rights
      count [] = refl
      count (right ∷ rights) = ap suc (count rights)

  groups-few : (nodes : Text → List ℕ) (hs : List Text) (i : List ℕ) → NoMore (counted_groups call c nodes hs i).trace
  groups-few nodes [] i = omega arith
  groups-few nodes (h ∷ hs) i =
      let t = counted_permutations call None c i (arrangements (nodes h)) in
      let rest = counted_groups call c nodes hs (issuer_or t.value i) in
      let g = permutations-few None i (arrangements (nodes h)) in
      let f = groups-few nodes hs (issuer_or t.value i) in
      let k = ties_of_chosen-few t.value i in
      let e = length-append t.trace.ties (ties_of_chosen t.value c i ++ rest.trace.ties) in
      let d = length-append (ties_of_chosen t.value c i) rest.trace.ties in
      omega arith

call-few : (depth : ℕ) (ρ : Hashing) (D : Dataset) (c : List ℕ) (n : ℕ) (i : List ℕ) → NoMore (counted_call_within depth ρ D c n i).trace
call-few zero ρ D c n i = omega arith
call-few (suc depth) ρ D c n i = let h = groups-few (counted_call_within depth ρ D c) (call-few depth ρ D c) c (groups ρ D c i n).nodes (groups ρ D c i n).hashes i in omega arith

pub fewer_ties_than_units : FewerTiesThanUnits
unfolding counted_call
fewer_ties_than_units ρ D c n i = let h = groups-few (counted_call_within D.nodes ρ D c) (call-few D.nodes ρ D c) c (groups ρ D c i n).nodes (groups ρ D c i n).hashes i in omega arith
