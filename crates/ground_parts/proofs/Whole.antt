-- The whole of parts is a dataset with the quads with nodes of its one part.
use Rattle.std.proofs.Common.{List, [], arith, inl, inr, refl, subst, sym, true, true≢false, ℕ, ◌<◌, ◌∙◌, ◌∷◌, ◌≡◌, ◌⊎◌}
use Rattle.rdf_terms.proofs.Common.{All-from_each, AreDistinct, AreDistinct-Permutes, AreDistinct-filter, Dataset, In, In-Permutes, In-filter, IsUsed, IsValid, IsValidStatement, Permutes, Permutes-sym, Statement, each-from_All, from_In-filter, permutes_cons, permutes_nil, permutes_trans}
use Rattle.rdf_terms.proofs.Naming.{IsValidStatement-more}
use Rattle.canon_model.proofs.LocalSymmetry.{in_split}
use Rattle.ground_parts.specs.Ground.{HaveSameQuadsWithNodes, IsGround, IsGroundQuad, has_blank_node, quads_with_nodes}
use Rattle.ground_parts.specs.Parts.{HasParts, IsQuadOfSome, PartsMakeOne, RunIsThatOfPart}
use Rattle.ground_parts.proofs.Ground.{same_quads_with_nodes_is_equivalence}
use Rattle.ground_parts.proofs.GroundTexts.{no_nodes}
use Rattle.ground_parts.proofs.SameRuns.{counted_runs_go_by_nodes}
use Rattle.ground_parts.proofs.SameSymmetries.{joins_go_by_nodes}

Permutes-from_same_members : {A : Type 0} (xs ys : List A) → AreDistinct xs → AreDistinct ys → ((x : A) → In x xs → In x ys) → ((x : A) → In x ys → In x xs) → Permutes xs ys
Permutes-from_same_members [] [] d e f g = permutes_nil
Permutes-from_same_members [] (y ∷ ys) d e f g = absurd (g y (inl refl))
Permutes-from_same_members {A} (x ∷ xs) ys d e f g =
    let r = in_split x ys (f x (inl refl)) in
    let once = AreDistinct-Permutes r.1 e in
    permutes_trans (permutes_cons (Permutes-from_same_members xs r.0 d.1 once.1
    (λ z h. behind r.0 z (λ q. d.0 (subst (λ w. In w xs) q h)) (In-Permutes z r.1 (f z (inr h))))
    (λ z h. behind xs z (λ q. once.0 (subst (λ w. In w r.0) q h)) (g z (In-Permutes z (Permutes-sym r.1) (inr h)))))) (Permutes-sym r.1)
  where
    behind : (zs : List A) (z : A) → ¬ (z ≡ x) → (z ≡ x) ⊎ In z zs → In z zs
    behind zs z different (inl q) = absurd (different q)
    behind zs z different (inr h) = h

module _ (D A : Dataset) (others : List Dataset) (p : HasParts D A others) where
  pub other_is_ground : (st : Statement) → IsQuadOfSome others st → IsGroundQuad st
  other_is_ground st w =
      each-from_All IsGroundQuad w.dataset.statements st (each-from_All IsGround others w.dataset p.others_ground w.there) w.has_quad

  other_is_valid : (st : Statement) → IsQuadOfSome others st → IsValidStatement D.nodes st
  other_is_valid st w =
      let G = w.dataset in
      let v = each-from_All IsValid others G p.others_valid w.there in
      let none = no_nodes G v (each-from_All IsGround others G p.others_ground w.there) in
      IsValidStatement-more G.nodes D.nodes (omega arith) st (each-from_All (IsValidStatement G.nodes) G.statements st v.valid w.has_quad)

  valid_quad : (st : Statement) → In st D.statements → IsValidStatement D.nodes st
  valid_quad st h = by ((p.quads st).0 h)
    where
      by : In st A.statements ⊎ IsQuadOfSome others st → IsValidStatement D.nodes st
      by (inl i) = subst (λ m. IsValidStatement m st) (sym p.nodes) (each-from_All (IsValidStatement A.nodes) A.statements st p.valid.valid i)
      by (inr w) = other_is_valid st w

  used_node : (n : ℕ) → n < D.nodes → IsUsed D.statements n
  used_node n h =
      let u = p.valid.used n (subst (λ m. n < m) p.nodes h) in
      record { statement = u.statement; there = (p.quads u.statement).1 (inl u.there); mentioned = u.mentioned }

  pub whole_is_valid : IsValid D
  whole_is_valid = record { valid = All-from_each (IsValidStatement D.nodes) D.statements valid_quad; distinct = p.distinct; used = used_node }

  to_whole : (st : Statement) → In st (quads_with_nodes A) → In st (quads_with_nodes D)
  to_whole st h = let r = from_In-filter has_blank_node st A.statements h in In-filter has_blank_node st D.statements ((p.quads st).1 (inl r.0)) r.1

  to_part : (st : Statement) → In st (quads_with_nodes D) → In st (quads_with_nodes A)
  to_part st h = by ((p.quads st).0 r.0)
    where
      r : In st D.statements × (has_blank_node st ≡ true)
      r = from_In-filter has_blank_node st D.statements h

      by : In st A.statements ⊎ IsQuadOfSome others st → In st (quads_with_nodes A)
      by (inl i) = In-filter has_blank_node st A.statements i r.1
      by (inr w) = absurd (true≢false (sym r.1 ∙ other_is_ground st w))

  pub whole_has_same_quads : HaveSameQuadsWithNodes A D
  whole_has_same_quads = record {
    nodes = p.nodes;
    statements =
        Permutes-from_same_members (quads_with_nodes A) (quads_with_nodes D) (AreDistinct-filter has_blank_node A.statements p.valid.distinct)
        (AreDistinct-filter has_blank_node D.statements p.distinct) to_whole to_part;
  }

pub parts_make_one : PartsMakeOne
parts_make_one D A others p = record { valid = whole_is_valid D A others p; same_quads = whole_has_same_quads D A others p }

pub run_is_that_of_part : RunIsThatOfPart
run_is_that_of_part ρ D A others p =
    let s = whole_has_same_quads D A others p in
    record { run = counted_runs_go_by_nodes ρ A D s; joins = joins_go_by_nodes ρ D A (same_quads_with_nodes_is_equivalence.symmetric A D s) }
