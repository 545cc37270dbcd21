-- What a comparison of two datasets answers.
use Rattle.std.specs.Prelude.{◌≡◌, ℕ, ◌⊎◌, List, map, Option, Some, None}
use Rattle.rdf_terms.specs.Vocabulary.{numbers_below, Dataset, Relabelling, Carries, AreIsomorphic}
use Rattle.canon_model.specs.Hashing.{Hashing}
use Rattle.canon_model.specs.JoinedTies.{IsSettled}
use Rattle.canon_model.specs.Output.{chosen_form, PassesLimit}
use Rattle.ndegree_hash.specs.declared.tie.Tie.{Tie}
use Rattle.canon_core.specs.Canonical.{IsUnsettledBy}
use Rattle.iso_compare.specs.declared.verdict.Verdict.{Verdict}
use Rattle.iso_compare.specs.declared.verdict.Verdict.TheVariants.{Same, Different, Undecided}

-- an isomorphism (RDF 1.1 Concepts, section 4.1) by its pairs: every node of A in order, each with the node of B that
-- it is carried to
pub record IsBijection (A B : Dataset) (pairs : List (ℕ × ℕ)) : Type 0 where
  pub relabelling : Relabelling A.nodes
  pub carries : Carries relabelling.to A B
  pub pairs_are : pairs ≡ map (λ n. (n, relabelling.to n)) (numbers_below A.nodes)

-- the bytes are equal, and the pairs carry the one dataset to the other
pub record AreSame (ρ : Hashing) (A B : Dataset) (pairs : List (ℕ × ℕ)) : Type 0 where
  pub bytes_equal : chosen_form ρ A ≡ chosen_form ρ B
  pub bijection : IsBijection A B pairs

-- the bytes differ, and one of the two runs has no tie that is not joined: so the datasets are not isomorphic
pub record AreDifferent (ρ : Hashing) (A B : Dataset) : Type 0 where
  pub bytes_differ : ¬ (chosen_form ρ A ≡ chosen_form ρ B)
  pub settled : IsSettled ρ A ⊎ IsSettled ρ B
  pub not_isomorphic : ¬ (AreIsomorphic A B)

-- the bytes differ, and each run has a tie that is not joined
pub record AreUndecided (ρ : Hashing) (A B : Dataset) (s t : Tie) : Type 0 where
  pub bytes_differ : ¬ (chosen_form ρ A ≡ chosen_form ρ B)
  pub first : IsUnsettledBy ρ A s
  pub second : IsUnsettledBy ρ B t

abbrev pub IsVerdict : Hashing → Dataset → Dataset → Verdict → Type 0
IsVerdict ρ A B (Same bijection) = AreSame ρ A B bijection.pairs
IsVerdict ρ A B Different = AreDifferent ρ A B
IsVerdict ρ A B (Undecided s t) = AreUndecided ρ A B s t

-- the counted run of one of the two passes the limit
abbrev pub OnePasses : Hashing → Dataset → Dataset → ℕ → Type 0
OnePasses ρ A B limit = PassesLimit ρ A limit ⊎ PassesLimit ρ B limit

-- what is answered where the bytes differ
abbrev pub AreApart : Option Tie → Option Tie → Verdict → Type 0
AreApart (Some s) (Some t) verdict = verdict ≡ Undecided s t
AreApart (Some s) None verdict = verdict ≡ Different
AreApart None other verdict = verdict ≡ Different
