-- The nodes that are alone, class by class.
use Rattle.std.proofs.Common.{◌≡◌, ℕ, ◌<◌, List, ◌++◌, map, length, append_assoc, sym, ap, ◌∙◌, subst}
use Rattle.std.specs.List.{flat_map}
use Rattle.rdf_terms.specs.Lists.{Text}
use Rattle.canon_model.specs.Allowed.{single}
use Rattle.canon_model.specs.Groups.{each_text_once}
use Rattle.canon_core.specs.HashOrder.{IsRanked, behind_class, class_hash, front_class, hash_of, node_of, nodes_under}
use Rattle.canon_core.proofs.ClassSplit.{class-behind, class-is, class-once}

-- the nodes of these classes that are alone
abbrev pub alone_in : (ℕ → Text) → ℕ → List (Text × ℕ) → List ℕ
alone_in hash count nodes = flat_map (λ h. single (nodes_under hash count h)) (each_text_once (map hash_of nodes))

-- those found, followed by those of what is left, are all
pub record IsAloneSoFar (hash : ℕ → Text) (count : ℕ) (nodes : List (Text × ℕ)) (found : List ℕ) (left : List (Text × ℕ)) : Type 0 where
  pub ranked : IsRanked hash count left
  pub all : found ++ alone_in hash count left ≡ alone_in hash count nodes

module _ (hash : ℕ → Text) (count : ℕ) (nodes : List (Text × ℕ)) where
  pub alone-next : (found new : List ℕ) (left class behind : List (Text × ℕ)) → 0 < length left → class ≡ front_class (class_hash left) left → behind ≡ behind_class (class_hash left) left
      → new ≡ found ++ single (map node_of class)
      → IsAloneSoFar hash count nodes found left → IsAloneSoFar hash count nodes new behind
  alone-next found new left class behind l c b n a = record {
    ranked = subst (IsRanked hash count) (sym b) (class-behind hash count left l a.ranked);
    all =
        ap (λ w. w ++ alone_in hash count behind) (n ∙ ap (λ ps. found ++ single (map node_of ps)) c ∙ ap (λ ns. found ++ single ns) (class-is hash count left l a.ranked))
        ∙ ap (λ ps. (found ++ single (nodes_under hash count (class_hash left))) ++ alone_in hash count ps) b
        ∙ append_assoc found (single (nodes_under hash count (class_hash left))) (alone_in hash count (behind_class (class_hash left) left))
        ∙ ap (λ hs. found ++ flat_map (λ h. single (nodes_under hash count h)) hs) (sym (class-once left l))
        ∙ a.all;
  }
