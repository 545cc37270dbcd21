-- What a frame stands for: the vector of frames, the innermost last, is the open calls of the counted run.
-- Throughout, t is the list of the one issuer, the trail, as it stands now.
use Rattle.std.specs.Prelude.{ℕ, ◌-◌, if◌then◌else◌, List, [], ◌∷◌, ◌++◌, map, take, drop, Option, Some, None}
use Rattle.canon_model.specs.Hashing.{Hashing}
use Rattle.canon_model.specs.CountedRun.{Counted, CountedCall, Outcome, Chosen, nothing}
use Rattle.ndegree_hash.specs.declared.frame.Frame.{Frame}
use Rattle.ndegree_hash.specs.declared.at.At.{At}
use Rattle.ndegree_hash.specs.declared.at.At.TheVariants.{Group, Begin, Recursion, Ended, Between, Close, Call, Return}
use Rattle.ndegree_hash.specs.Behind.{behind}
use Rattle.ndegree_hash.specs.Resume.{OpenGroup, Waiting, after_groups, after_choice, between_permutations, after_permutation, in_recursion, resumed}

abbrev pub chosen_issuer : List ℕ → Frame → List ℕ
chosen_issuer t f = if f.on_trail then t else take f.mark t ++ f.tail.items

abbrev pub other_issuers : List ℕ → Frame → List (List ℕ)
other_issuers t f = map (λ tail. take f.mark t ++ tail) f.others.items

abbrev pub choice_of : List ℕ → Frame → Option Chosen
choice_of t f =
    if f.paths.has_choice then Some
    (record { path = f.paths.chosen; issuer = chosen_issuer t f; others = other_issuers t f }) else None

abbrev pub group_of : List ℕ → Frame → List (List ℕ) → OpenGroup
group_of t f left =
    record { text = f.text.items; bags = f.groups; begun = take f.mark t; chosen = choice_of t f; left = left }

-- the nodes of the trail from one place up to another
unfoldable pub part : List ℕ → ℕ → ℕ → List ℕ
part t from to = take (to - from) (drop from t)

-- a frame that waits for a call
abbrev pub waiting_of : List ℕ → Frame → Waiting
waiting_of t f =
    record { group = group_of t f (behind f.arrangement); path = f.paths.path; nodes = part t f.next f.last }

abbrev pub rest_of : Hashing → CountedCall → List ℕ → List ℕ → Frame → At → Counted Outcome
rest_of ρ call c t f Group = after_groups ρ call c f.text.items f.groups t
rest_of ρ call c t f Begin = between_permutations ρ call c (group_of t f (f.arrangement ∷ behind f.arrangement))
rest_of ρ call c t f Recursion =
    in_recursion ρ call c (group_of t f (behind f.arrangement)) f.paths.path t (part t f.next f.last)
rest_of ρ call c t f Ended =
    after_permutation ρ call c (group_of t f (behind f.arrangement)) (Some (record { text = f.paths.path; issuer = t }))
rest_of ρ call c t f Between = between_permutations ρ call c (group_of t f (behind f.arrangement))
rest_of ρ call c t f Close = after_choice ρ call c (group_of t f []) (choice_of t f)
rest_of ρ call c t f (Call n) = resumed ρ call c (waiting_of t f) (call n t)
rest_of ρ call c t f Return = record { trace = nothing; value = record { text = ρ.hash f.text.items; issuer = t } }
