-- A call may take either of two tied permutations, and what comes of the one is carried to what comes of the other only by a symmetry that joins them.
use Rattle.std.proofs.Common.{List, [], ap, append_assoc, arith, inl, inr, length, map, refl, subst, suc, sym, ℕ, ◌++◌, ◌<◌, ◌∙◌, ◌∷◌, ◌≡◌}
use Rattle.rdf_terms.proofs.Common.{AreDistinct-Permutes, In-Permutes, Permutes-sym, length-Permutes, Dataset, IsValid, Symmetry, AreDistinct, In, Text, is_before}
use Rattle.canon_model.specs.CountedRun.{counted_call_within, counted_groups}
use Rattle.canon_model.specs.Coverage.{BeginsWith}
use Rattle.canon_model.specs.Groups.{groups}
use Rattle.canon_model.specs.Outcome.{ChosenPath, DataToHash, HashNDegreeQuads}
use Rattle.canon_model.specs.Hashing.{Hashing}
use Rattle.canon_model.specs.Ties.{AreTiedPaths, Fixes, IsJoined, MayBeExchanged}
use Rattle.canon_model.specs.TwoOutcomes.{HasTwoOutcomes, UnjoinedGivesTwoOutcomes}
use Rattle.canon_model.specs.Walk.{CallRelation}
use Rattle.canon_model.proofs.CallTies.{outcome-counted}
use Rattle.canon_model.proofs.CanonicalLists.{AreCanonical}
use Rattle.canon_model.proofs.Coverage.{hash_n_degree_quads-covers}
use Rattle.canon_model.proofs.ExchangeSymmetry.{append_split, map_same_in}
use Rattle.canon_model.proofs.Issuers.{In-from_is_issued, are_once_from_distinct, is_issued-from_In}
use Rattle.canon_model.proofs.LocalSymmetry.{in_split}
use Rattle.canon_model.proofs.Maps.{map_identity}
use Rattle.canon_model.proofs.OutcomesGrow.{data_to_hash-grows}
use Rattle.canon_model.proofs.Recursion.{outcomes_of_outcomes}
use Rattle.canon_model.proofs.TieSymmetry.{joined_where_symmetric}
use Rattle.canon_model.proofs.TiedLists.{covered_alike, fits_data_to_hash, fits_issuer, outcomes_grow, tied_may_be_exchanged}
use Rattle.canon_model.proofs.Totality.{Fits, data_to_hash-counted, fits_valid_call, mentions_nodes, nodes_of_groups}
use Rattle.std.proofs.lemmas.List.{length-map, map-append}

-- ---- lists with the same nodes are as long

same_length : (xs ys : List ℕ) → AreDistinct xs → AreDistinct ys → ((x : ℕ) → In x xs → In x ys) → ((x : ℕ) → In x ys → In x xs) → length xs ≡ length ys
same_length [] [] d f to from = refl
same_length [] (y ∷ ys) d f to from = absurd (from y (inl refl))
same_length (x ∷ xs) ys d f to from =
    let r = in_split x ys (to x (inl refl)) in
    let g : AreDistinct (x ∷ r.0) = AreDistinct-Permutes r.1 f in
    ap suc (same_length xs r.0 d.1 g.1
    (λ z h. elim (In-Permutes z r.1 (to z (inr h))) [ inl q ↦ absurd (d.0 (subst (λ w. In w xs) q h)) | inr q ↦ q ])
    (λ z h. elim (from z (In-Permutes z (Permutes-sym r.1) (inr h))) [ inl q ↦ absurd (g.0 (subst (λ w. In w r.0) q h)) | inr q ↦ q ]))
    ∙ sym (length-Permutes r.1)

-- the groups one after another
data_to_hash-append : (R : CallRelation) (c : List ℕ) (nodes : Text → List ℕ) (hs gs : List Text) (i : List ℕ) (s : Text) (k : List ℕ) (t : Text) (j : List ℕ) → DataToHash R c nodes hs i s k
    → DataToHash R c nodes gs k t j → DataToHash R c nodes (hs ++ gs) i (s ++ t) j
data_to_hash-append R c nodes [] gs i s k t j v w = subst (λ x. DataToHash R c nodes gs i (x ++ t) j) (sym v.0) (subst (λ x. DataToHash R c nodes gs x t j) v.1 w)
data_to_hash-append R c nodes (h ∷ hs) gs i s k t j v w = record {
  path = v.path;
  issuer = v.issuer;
  rest = v.rest ++ t;
  chosen_path = v.chosen_path;
  following = data_to_hash-append R c nodes hs gs v.issuer v.rest k t j v.following w;
  text_is = ap (λ x. x ++ t) v.text_is ∙ append_assoc (h ++ v.path) v.rest t;
}

module _ (ρ : Hashing) (D : Dataset) (valid : IsValid D) (c i l m : List ℕ) (t : AreTiedPaths ρ D c i l m) where
  abbrev bag : Text → List ℕ
  bag = (groups ρ D c t.call_issuer t.node).nodes

  low : (h : Text) (x : ℕ) → In x (bag h) → x < D.nodes
  low = nodes_of_groups ρ D c (mentions_nodes D valid) t.call_issuer t.node

  begun : Fits ρ D c (mentions_nodes D valid) (suc (suc D.nodes)) i
  begun = fits_data_to_hash ρ D c (mentions_nodes D valid) (suc (suc D.nodes)) bag low t.begun.before t.call_issuer t.begun.text i
      (fits_valid_call ρ D c (mentions_nodes D valid) (suc (suc D.nodes)) t.node t.call_issuer t.begun.call (omega arith)) t.begun.begun

  canonical : AreCanonical D c
  canonical = record { once = are_once_from_distinct c t.begun.call.canonical_once; below = λ x h. t.begun.call.canonical_nodes x (In-from_is_issued x c h) }

  -- an outcome of the call whose issuer begins with this one
  record Ended (j : List ℕ) : Type 0 where
    hash : Text
    issuer : List ℕ
    outcome : HashNDegreeQuads ρ D c t.node t.call_issuer hash issuer
    begins : BeginsWith j issuer

  ended : (path : Text) (j : List ℕ) → ChosenPath (HashNDegreeQuads ρ D c) c (bag t.hash) i path j → Ended j
  ended path j w =
      let f : Fits ρ D c (mentions_nodes D valid) (suc (suc D.nodes)) j = subst (Fits ρ D c (mentions_nodes D valid) (suc (suc D.nodes))) (sym w.issuer_is)
      (fits_issuer ρ D c (mentions_nodes D valid) (suc (suc D.nodes)) (bag t.hash) i (low t.hash) begun w.paths w.chosen w.is_least.permutes) in
      let end = (counted_groups (counted_call_within (suc D.nodes) ρ D c) c bag t.begun.behind j).value in
      let rest = data_to_hash-counted ρ D c (mentions_nodes D valid) (suc D.nodes) (HashNDegreeQuads ρ D c) (hash_n_degree_quads-covers D c ρ)
      (outcome-counted ρ D c (mentions_nodes D valid) canonical (suc D.nodes)) bag low t.begun.behind j f in
      let group : DataToHash (HashNDegreeQuads ρ D c) c bag (t.hash ∷ t.begun.behind) i (t.hash ++ path ++ end.text) end.issuer =
      record { path = path; issuer = j; rest = end.text; chosen_path = w; following = rest; text_is = refl } in
      let all = data_to_hash-append (HashNDegreeQuads ρ D c) c bag t.begun.before (t.hash ∷ t.begun.behind) t.call_issuer t.begun.text i (t.hash ++ path ++ end.text) end.issuer t.begun.begun group in
      let text = t.begun.text ++ (t.hash ++ path ++ end.text) in
      record {
        hash = ρ.hash text;
        issuer = end.issuer;
        outcome = (outcomes_of_outcomes ρ D c t.node t.call_issuer valid t.begun.call (ρ.hash text) end.issuer).0 (record {
          text = text;
          data_to_hash = subst (λ hs. DataToHash (HashNDegreeQuads ρ D c) c bag hs t.call_issuer text end.issuer) (sym t.begun.hashes_are) all;
          hash_is = refl;
        });
        begins = (data_to_hash-grows c (HashNDegreeQuads ρ D c) (outcomes_grow ρ D c (mentions_nodes D valid)) bag t.begun.behind j end.text end.issuer f.distinct rest).0;
      }

  left_ended : Ended l
  left_ended = ended (t.paths.path t.first) l (record { paths = t.paths; chosen = t.first; is_least = t.first_is_least; path_is = refl; issuer_is = t.left_is })

  right_ended : Ended m
  right_ended = ended (t.paths.path t.other) m (record {
    paths = t.paths;
    chosen = t.other;
    is_least = record { permutes = t.other_permutes; least = λ q h. ap (λ w. is_before (t.paths.path q) w) (sym t.same_path) ∙ t.first_is_least.least q h };
    path_is = refl;
    issuer_is = t.right_is;
  })

  -- ---- a symmetry that carries the one to the other carries the one list to the other

  exchanged : MayBeExchanged D c i l m
  exchanged = tied_may_be_exchanged ρ D valid c i l m (inr t)

  -- both lists are walks over one bag, so their nodes are the same
  as_long : length l ≡ length m
  as_long =
      (λ k. length (t.left_is k)) ∙ same_length (t.paths.issuer t.first) (t.paths.issuer t.other) (subst AreDistinct t.left_is exchanged.left_once) (subst AreDistinct t.right_is exchanged.right_once)
      (covered_alike ρ D c (mentions_nodes D valid) (suc (suc D.nodes)) (bag t.hash) i (low t.hash) begun t.paths t.first t.other t.first_is_least.permutes t.other_permutes)
      (covered_alike ρ D c (mentions_nodes D valid) (suc (suc D.nodes)) (bag t.hash) i (low t.hash) begun t.paths t.other t.first t.other_permutes t.first_is_least.permutes)
      ∙ (λ k. length (sym t.right_is k))

  module _ (σ : Symmetry D) (fixes : Fixes σ.relabelling.to c) (us vs : List ℕ) (e : m ++ vs ≡ map σ.relabelling.to (l ++ us)) where
    abbrev to : ℕ → ℕ
    to = σ.relabelling.to

    right_is : m ≡ map σ.relabelling.to l
    right_is = (append_split m vs (map to l) (map to us) (sym as_long ∙ sym (length-map l to)) (e ∙ map-append to l us)).0

    front_is : i ≡ map σ.relabelling.to i
    front_is =
        (append_split i exchanged.right_tail (map to i) (map to exchanged.left_tail) (sym (length-map i to))
        (sym exchanged.right_is ∙ right_is ∙ ap (map to) exchanged.left_is ∙ map-append to i exchanged.left_tail)).0

    joined : IsJoined D c l m
    joined = (joined_where_symmetric ρ D valid c i l m (inr t)).1 (record {
      symmetry = σ;
      fixes_canonical = fixes;
      fixes_passed = λ x h. map_same_in to (λ y. y) i (sym front_is ∙ sym (map_identity (λ y. y) (λ y. refl) i)) x (is_issued-from_In x i h);
      right_is = right_is;
    })

  two_outcomes : ¬ (IsJoined D c l m) → HasTwoOutcomes ρ D c t.node t.call_issuer
  two_outcomes n = record {
    first_hash = left_ended.hash;
    first = left_ended.issuer;
    second_hash = right_ended.hash;
    second = right_ended.issuer;
    first_outcome = left_ended.outcome;
    second_outcome = right_ended.outcome;
    not_carried = λ σ fixes e. n (joined σ fixes left_ended.begins.tail right_ended.begins.tail (sym right_ended.begins.is ∙ e ∙ ap (map σ.relabelling.to) left_ended.begins.is));
  }

pub unjoined_gives_two_outcomes : UnjoinedGivesTwoOutcomes
unjoined_gives_two_outcomes ρ D valid c i l m t n = two_outcomes ρ D valid c i l m t n
