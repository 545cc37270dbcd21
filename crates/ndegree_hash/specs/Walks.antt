-- How the nodes of a permutation are written.
use Rattle.std.specs.Prelude.{◌≡◌, ◌<◌, ℕ, Bool, false, ◌++◌, List, [], take, length, Option}
use Rattle.rdf_terms.specs.Vocabulary.{Text, In, Dataset}
use Rattle.ndegree_hash.specs.KnownNodes.{IsTrail}
use Rattle.canon_model.specs.Walk.{issuer_copy_after, path_of_identifiers}
use Rattle.canon_model.specs.CountedRun.{is_skipped}

-- from the trail i the nodes p were written, up to the place where they are skipped if they are; the trail is then t
pub record Walks (c i p : List ℕ) (chosen : Option Text) (skipped : Bool) (t : List ℕ) (path : Text) : Type 0 where
  pub skipped_is : skipped ≡ is_skipped chosen c i [] p
  pub begins : take (length i) t ≡ i
  pub trail_is : skipped ≡ false → t ≡ issuer_copy_after c i p
  pub path_is : skipped ≡ false → path ≡ path_of_identifiers c i p

-- in the midst of that: the trail is t behind this path, and the nodes `rest` are left
pub record IsWalking (c i p : List ℕ) (chosen : Option Text) (t : List ℕ) (path : Text) (rest : List ℕ) : Type 0 where
  pub skipped : is_skipped chosen c i [] p ≡ is_skipped chosen c t path rest
  pub trail : issuer_copy_after c i p ≡ issuer_copy_after c t rest
  pub path_is : path_of_identifiers c i p ≡ path ++ path_of_identifiers c t rest
  pub begins : take (length i) t ≡ i

-- where the nodes p are nodes of the dataset, the trail t is a trail as i is
pub record KeepsTrail (c p i t : List ℕ) : Type 0 where
  pub keeps : (D : Dataset) → ((x : ℕ) → In x p → x < D.nodes) → IsTrail D c i → IsTrail D c t
