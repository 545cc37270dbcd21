-- What is left to do of a counted call that stands open: each word completes the counted run from one place of it.
-- Throughout, `call` is the counted run of the calls that are made, and c is the list of the canonical issuer.
use Rattle.std.specs.Prelude.{ℕ, List, [], ◌∷◌, ◌++◌, Option, None, if◌then◌else◌, codes}
use Rattle.rdf_terms.specs.Lists.{Text}
use Rattle.canon_model.specs.Hashing.{Hashing}
use Rattle.canon_model.specs.CountedRun.{Counted, CountedCall, Outcome, Chosen, logged, after, skips, choose, chosen_text, path_or_none, issuer_or, ties_of_chosen, counted_recursion, counted_permutations}
use Rattle.ndegree_hash.specs.Bags.{counted_bags}
use Rattle.related_hash.specs.declared.group.Group.{Group as Bag}

-- ---- a call between two groups

-- the data so far is `text`, these bags are left, and the issuer is i
unfoldable pub after_groups : Hashing → CountedCall → List ℕ → Text → List Bag → List ℕ → Counted Outcome
after_groups ρ call c text bags i =
    let run = counted_bags call c bags i in
    record { trace = run.trace; value = record { text = ρ.hash (text ++ run.value.text); issuer = run.value.issuer } }

-- ---- a call in a group

-- The data so far, with the group's related hash; the bags behind it; the issuer when it was begun; what is chosen so
-- far; and the permutations that were not begun yet.
pub record OpenGroup : Type 0 where
  pub text : Text
  pub bags : List Bag
  pub begun : List ℕ
  pub chosen : Option Chosen
  pub left : List (List ℕ)

-- all permutations were tried, and this was chosen
unfoldable pub after_choice : Hashing → CountedCall → List ℕ → OpenGroup → Option Chosen → Counted Outcome
after_choice ρ call c g chosen =
    after (logged (ties_of_chosen chosen c g.begun))
    (after_groups ρ call c (g.text ++ path_or_none chosen) g.bags (issuer_or chosen g.begun))

-- no permutation is in progress
unfoldable pub between_permutations : Hashing → CountedCall → List ℕ → OpenGroup → Counted Outcome
between_permutations ρ call c g =
    let tried = counted_permutations call g.chosen c g.begun g.left in
    after tried.trace (after_choice ρ call c g tried.value)

abbrev pub with_choice : OpenGroup → Option Outcome → OpenGroup
with_choice g tried =
    record { text = g.text; bags = g.bags; begun = g.begun; chosen = choose g.chosen tried; left = g.left }

-- the permutation in progress has come to its end, or is skipped
abbrev pub after_permutation : Hashing → CountedCall → List ℕ → OpenGroup → Option Outcome → Counted Outcome
after_permutation ρ call c g tried = between_permutations ρ call c (with_choice g tried)

-- behind this path, with this issuer: the calls of these nodes of the recursion list are not made yet
unfoldable pub in_recursion : Hashing → CountedCall → List ℕ → OpenGroup → Text → List ℕ → List ℕ → Counted Outcome
in_recursion ρ call c g path i nodes =
    let tried = counted_recursion call (chosen_text g.chosen) c i path nodes in
    after tried.trace (after_permutation ρ call c g tried.value)

-- ---- a call that waits for one that it has made

-- the call was made behind this path, which ends in the called node's identifier and `<`, and those of `nodes` come
-- behind it
pub record Waiting : Type 0 where
  pub group : OpenGroup
  pub path : Text
  pub nodes : List ℕ

abbrev pub longer_path : Waiting → Outcome → Text
longer_path w o = w.path ++ (o.text ++ codes ">")

unfoldable pub resume : Hashing → CountedCall → List ℕ → Waiting → Outcome → Counted Outcome
resume ρ call c w o =
    if skips (chosen_text w.group.chosen) (longer_path w o) then after_permutation ρ call c w.group None
    else in_recursion ρ call c w.group (longer_path w o) o.issuer w.nodes

-- the call that is waited for, and what follows
abbrev pub resumed : Hashing → CountedCall → List ℕ → Waiting → Counted Outcome → Counted Outcome
resumed ρ call c w o = after o.trace (resume ρ call c w o.value)
