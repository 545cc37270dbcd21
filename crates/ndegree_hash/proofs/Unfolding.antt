-- Each step of a call leaves what it gives in the end as it was, but for what the step itself counts and logs.
use Rattle.std.proofs.Common.{Bool, List, None, Option, Some, [], ap, codes, cond, false, refl, subst, sym, true, ℕ, ◌++◌, ◌∙◌, ◌∷◌, ◌≡◌, append-nil, append_assoc}
use Rattle.rdf_terms.proofs.Common.{Text, arrangements}
use Rattle.canon_model.specs.CountedRun.{Chosen, Counted, CountedCall, Outcome, Trace, after, choose, chosen_text, counted_permutations, counted_recursion, followed_by, is_skipped, issuer_or, logged, nothing, one_unit, path_or_none, skips, ties_of_chosen}
use Rattle.canon_model.specs.Issuer.{label}
use Rattle.canon_model.specs.Hashing.{Hashing}
use Rattle.canon_model.specs.Walk.{issuer_copy_after, path_of_identifiers, path_of_result, recursion_list}
use Rattle.ndegree_hash.specs.Bags.{counted_bags}
use Rattle.related_hash.specs.declared.group.Group.{Group as Bag}
use Rattle.ndegree_hash.specs.Resume.{OpenGroup, Waiting, after_choice, after_groups, after_permutation, between_permutations, in_recursion, resume, resumed}
use Rattle.ndegree_hash.proofs.Traces.{after-after, after-nothing}
use Rattle.ndegree_hash.proofs.MachineState.{begin_permutation, resume_all}

module _ (ρ : Hashing) (call : CountedCall) (c : List ℕ) where
  -- ---- the recursion list

  -- the next node of the recursion list is called, and the call waits
  pub in_recursion-next : (g : OpenGroup) (path : Text) (i : List ℕ) (n : ℕ) (nodes : List ℕ)
      → in_recursion ρ call c g path i (n ∷ nodes) ≡ resumed ρ call c (record { group = g; path = (path ++ label c i n) ++ codes "<"; nodes = nodes }) (call n i)
  unfolding in_recursion resume
  in_recursion-next g path i n nodes = subst Same e (by (skips (chosen_text g.chosen) longer))
    where
      o : Counted Outcome
      o = call n i

      longer : Text
      longer = path ++ path_of_result c i n o.value.text

      e : longer ≡ ((path ++ label c i n) ++ codes "<") ++ (o.value.text ++ codes ">")
      e = sym (append_assoc path (label c i n) (codes "<" ++ (o.value.text ++ codes ">"))) ∙ sym (append_assoc (path ++ label c i n) (codes "<") (o.value.text ++ codes ">"))

      rest : Text → Counted (Option Outcome)
      rest text = counted_recursion call (chosen_text g.chosen) c o.value.issuer text nodes

      tried : Bool → Counted (Option Outcome)
      tried skipped = cond skipped (record { trace = o.trace; value = None }) (after o.trace (rest longer))

      resumes : Bool → Text → Counted Outcome
      resumes skipped text = cond skipped (after_permutation ρ call c g None) (after (rest text).trace (after_permutation ρ call c g (rest text).value))

      whole : Bool → Counted Outcome
      whole skipped = after (tried skipped).trace (after_permutation ρ call c g (tried skipped).value)

      Same : Text → Type 0
      Same text = whole (skips (chosen_text g.chosen) longer) ≡ after o.trace (resumes (skips (chosen_text g.chosen) text) text)

      by : (s : Bool) → whole s ≡ after o.trace (resumes s longer)
      by true = refl
      by false = sym (after-after o.trace (rest longer).trace (after_permutation ρ call c g (rest longer).value))

  -- the recursion list has come to its end
  pub in_recursion-end : (g : OpenGroup) (path : Text) (i : List ℕ) → in_recursion ρ call c g path i [] ≡ after_permutation ρ call c g (Some (record { text = path; issuer = i }))
  unfolding in_recursion
  in_recursion-end g path i = after-nothing (after_permutation ρ call c g (Some (record { text = path; issuer = i })))

  -- ---- the permutations

  -- the next permutation is begun, at the cost of one unit
  pub between_permutations-begin : (g : OpenGroup) (p : List ℕ) (ps : List (List ℕ)) → g.left ≡ p ∷ ps → between_permutations ρ call c g ≡ after one_unit (begin_permutation ρ call c g p ps)
  unfolding after_choice between_permutations begin_permutation in_recursion
  between_permutations-begin g p ps e = subst Begins (sym e) (by (is_skipped (chosen_text g.chosen) c g.begun [] p))
    where
      behind : OpenGroup
      behind = record { text = g.text; bags = g.bags; begun = g.begun; chosen = g.chosen; left = ps }

      whole : Counted (Option Chosen) → Counted Outcome
      whole tried = after tried.trace (after_choice ρ call c g tried.value)

      Begins : List (List ℕ) → Type 0
      Begins left = whole (counted_permutations call g.chosen c g.begun left) ≡ after one_unit (begin_permutation ρ call c g p ps)

      rest : Counted (Option Outcome)
      rest = counted_recursion call (chosen_text g.chosen) c (issuer_copy_after c g.begun p) (path_of_identifiers c g.begun p) (recursion_list c g.begun p)

      tried : Bool → Counted (Option Outcome)
      tried skipped = cond skipped (record { trace = nothing; value = None }) rest

      goes_on : Counted (Option Outcome) → Counted (Option Chosen)
      goes_on t = after (followed_by one_unit t.trace) (counted_permutations call (choose g.chosen t.value) c g.begun ps)

      finished : Option Outcome → Counted (Option Chosen)
      finished o = counted_permutations call (choose g.chosen o) c g.begun ps

      by : (s : Bool)
          → whole (goes_on (tried s))
          ≡ after one_unit
          (cond s (after_permutation ρ call c behind None) (in_recursion ρ call c behind (path_of_identifiers c g.begun p) (issuer_copy_after c g.begun p) (recursion_list c g.begun p)))
      by true = sym (after-after one_unit (finished None).trace (after_choice ρ call c g (finished None).value))
      by false =
          let end : Counted Outcome = after_choice ρ call c g (finished rest.value).value in
          sym (after-after (followed_by one_unit rest.trace) (finished rest.value).trace end)
          ∙ sym (after-after one_unit rest.trace (after (finished rest.value).trace end))

  -- no permutation is left
  pub between_permutations-end : (g : OpenGroup) → g.left ≡ [] → between_permutations ρ call c g ≡ after_choice ρ call c g g.chosen
  unfolding between_permutations
  between_permutations-end g e = subst Ends (sym e) (after-nothing (after_choice ρ call c g g.chosen))
    where
      whole : Counted (Option Chosen) → Counted Outcome
      whole tried = after tried.trace (after_choice ρ call c g tried.value)

      Ends : List (List ℕ) → Type 0
      Ends left = whole (counted_permutations call g.chosen c g.begun left) ≡ after_choice ρ call c g g.chosen

  -- ---- the groups

  -- the next group is begun
  pub after_groups-next : (text : Text) (bag : Bag) (bags : List Bag) (i : List ℕ)
      → after_groups ρ call c text (bag ∷ bags) i ≡ between_permutations ρ call c (record { text = text ++ bag.hash; bags = bags; begun = i; chosen = None; left = arrangements bag.nodes })
  unfolding after_groups between_permutations after_choice
  after_groups-next text bag bags i =
      let tried = counted_permutations call None c i (arrangements bag.nodes) in
      let run = counted_bags call c bags (issuer_or tried.value i) in
      let e : text ++ ((bag.hash ++ path_or_none tried.value) ++ run.value.text) ≡ ((text ++ bag.hash) ++ path_or_none tried.value) ++ run.value.text = simp append_assoc in
      ap (λ (t : Text). record { trace = followed_by tried.trace (followed_by (logged (ties_of_chosen tried.value c i)) run.trace); value = record { text = ρ.hash t; issuer = run.value.issuer } }) e

  -- no group is left
  pub after_groups-end : (text : Text) (i : List ℕ) → after_groups ρ call c text [] i ≡ record { trace = nothing; value = record { text = ρ.hash text; issuer = i } }
  unfolding after_groups
  after_groups-end text i = ap (λ (t : Text). record { trace = nothing; value = record { text = ρ.hash t; issuer = i } }) (append-nil text)

  -- ---- the open calls

  pub resume_all-append : (waiting : List Waiting) (w : Waiting) (o : Counted Outcome) → resume_all ρ call c (waiting ++ w ∷ []) o ≡ resume_all ρ call c waiting (resumed ρ call c w o)
  unfolding resume_all
  resume_all-append [] w o = refl
  resume_all-append (v ∷ waiting) w o = ap (resumed ρ call c v) (resume_all-append waiting w o)

  pub resume_all-after : (waiting : List Waiting) (t : Trace) (o : Counted Outcome) → resume_all ρ call c waiting (after t o) ≡ after t (resume_all ρ call c waiting o)
  unfolding resume_all
  resume_all-after [] t o = refl
  resume_all-after (v ∷ waiting) t o =
      let r = resume_all ρ call c waiting o in
      ap (resumed ρ call c v) (resume_all-after waiting t o) ∙ sym (after-after t r.trace (resume ρ call c v r.value))
