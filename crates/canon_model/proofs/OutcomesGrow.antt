-- The issuer that any outcome returns begins with the one passed in, and has issued for each node once.
use Rattle.std.proofs.Common.{List, [], ap, append-nil, append_assoc, refl, subst, suc, sym, zero, ℕ, ◌++◌, ◌∙◌, ◌∷◌}
use Rattle.rdf_terms.proofs.Common.{Dataset, Text}
use Rattle.canon_model.specs.Groups.{groups}
use Rattle.canon_model.specs.Outcome.{ChosenPath, DataToHash, NDegreeWithin}
use Rattle.canon_model.specs.Hashing.{Hashing}
use Rattle.canon_model.specs.Walk.{CallRelation, PermutationPath, RecursionResults, issuer_copy_after, recursion_list}
use Rattle.canon_model.proofs.Issuers.{AreOnce, Grows, begins_refl, grows_trans, issuer_copy_after-grows}

module _ (c : List ℕ) where
  abbrev pub AllGrow : CallRelation → Type 0
  AllGrow R = (m : ℕ) (i : List ℕ) (h : Text) (j : List ℕ) → AreOnce i → R m i h j → Grows i j

  module _ (R : CallRelation) (grows : AllGrow R) where
    recursion_results-grows : (ms i : List ℕ) (π : Text) (j : List ℕ) → AreOnce i → RecursionResults R c ms i π j → Grows i j
    recursion_results-grows [] i π j d w = subst (Grows i) (sym w.1) (begins_refl i, d)
    recursion_results-grows (m ∷ ms) i π j d w = let g = grows m i w.hash w.issuer d w.result in grows_trans i w.issuer j g (recursion_results-grows ms w.issuer w.rest j g.1 w.following)

    pub permutation_path-grows : (i p : List ℕ) (π : Text) (j : List ℕ) → AreOnce i → PermutationPath R c i p π j → Grows i j
    permutation_path-grows i p π j d w =
        let g = issuer_copy_after-grows c i p d in
        grows_trans i (issuer_copy_after c i p) j g (recursion_results-grows (recursion_list c i p) (issuer_copy_after c i p) w.results j g.1 w.calls)

    pub chosen_path-grows : (nodes i : List ℕ) (π : Text) (j : List ℕ) → AreOnce i → ChosenPath R c nodes i π j → Grows i j
    chosen_path-grows nodes i π j d w =
        subst (Grows i) (sym w.issuer_is) (permutation_path-grows i w.chosen (w.paths.path w.chosen) (w.paths.issuer w.chosen) d (w.paths.walks w.chosen w.is_least.permutes))

    pub data_to_hash-grows : (nodes : Text → List ℕ) (hs : List Text) (i : List ℕ) (s : Text) (j : List ℕ) → AreOnce i → DataToHash R c nodes hs i s j → Grows i j
    data_to_hash-grows nodes [] i s j d w = subst (Grows i) (sym w.1) (begins_refl i, d)
    data_to_hash-grows nodes (h ∷ hs) i s j d w =
        let g = chosen_path-grows (nodes h) i w.path w.issuer d w.chosen_path in grows_trans i w.issuer j g (data_to_hash-grows nodes hs w.issuer w.rest j g.1 w.following)

  pub n_degree_within-grows : (ρ : Hashing) (D : Dataset) (k : ℕ) → AllGrow (NDegreeWithin k ρ D c)
  n_degree_within-grows ρ D zero m i h j d w = absurd w
  n_degree_within-grows ρ D (suc k) m i h j d w =
      data_to_hash-grows (NDegreeWithin k ρ D c) (n_degree_within-grows ρ D k) (groups ρ D c i m).nodes (groups ρ D c i m).hashes i w.text j d w.data_to_hash

-- one more group
pub data_to_hash-push : (R : CallRelation) (c : List ℕ) (nodes : Text → List ℕ) (before : List Text) (h : Text) (i : List ℕ) (s : Text) (k : List ℕ) (π : Text) (j : List ℕ)
    → DataToHash R c nodes before i s k → ChosenPath R c (nodes h) k π j → DataToHash R c nodes (before ++ h ∷ []) i (s ++ (h ++ π)) j
data_to_hash-push R c nodes [] h i s k π j w f = record {
  path = π;
  issuer = j;
  rest = [];
  chosen_path = subst (λ v. ChosenPath R c (nodes h) v π j) w.1 f;
  following = (refl, refl);
  text_is = ap (λ v. v ++ (h ++ π)) w.0 ∙ sym (append-nil (h ++ π));
}
data_to_hash-push R c nodes (g ∷ before) h i s k π j w f = record {
  path = w.path;
  issuer = w.issuer;
  rest = w.rest ++ (h ++ π);
  chosen_path = w.chosen_path;
  following = data_to_hash-push R c nodes before h w.issuer w.rest k π j w.following f;
  text_is = ap (λ v. v ++ (h ++ π)) w.text_is ∙ append_assoc (g ++ w.path) w.rest (h ++ π);
}
