-- Maps between lean graphs rename their nodes.
use Rattle.std.proofs.Common.{◌≡◌, ℕ, List, None, refl, sym, ap, ◌∙◌, subst}
use Rattle.rdf_terms.proofs.Common.{In, Statement, IsUsed, In-map, from_In-map, All-from_each, each-from_All}
use Rattle.rdf_terms.specs.declared.term.Term.{Term}
use Rattle.rdf_terms.specs.declared.term.Term.TheVariants.{Iri, Blank, Literal}
use Rattle.graph_model.specs.Graphs.{mapped, mapped_triple, composed, CarriesInto, IsGraph, IsLean, IsReached}
use Rattle.graph_model.proofs.Maps.{maps_compose, mapped_triple-same, mapped_triple-composed, image_lies_within}
use Rattle.equivalence.specs.Isomorphic.{AreIsomorphicGraphs}
use Rattle.equivalence.specs.Laws.{IsPermuted, IsRenaming, IsLeanImage}
use Rattle.equivalence.proofs.Permuting.{lean_is_permuted}

-- the node that a term is
node_or : Term → ℕ
node_or (Iri t) = 0
node_or (Blank n) = n
node_or (Literal l) = 0

module _ (L M : List Statement) (a b : ℕ → Term) (graph_L : IsGraph L) (graph_M : IsGraph M) (lean_L : IsLean L) (lean_M : IsLean M) (to : CarriesInto a L M) (back : CarriesInto b M L) where
  there_and_back : IsPermuted L (composed a b)
  there_and_back = lean_is_permuted L (composed a b) graph_L lean_L (maps_compose a b L M L to back)

  f : ℕ → ℕ
  f n = node_or (a n)

  still : (t : Term) (k : ℕ) → mapped b t ≡ Blank k → t ≡ Blank (node_or t)
  unfolding node_or
  still (Iri t) k e = absurd cc
  still (Blank n) k e = refl
  still (Literal l) k e = absurd cc

  says : (n : ℕ) → IsUsed L n → a n ≡ Blank (f n)
  unfolding f
  says n u = (let p = there_and_back.into n u in still (a n) p.0 p.2)

  same : (st : Statement) → In st L → mapped_triple a st ≡ mapped_triple (λ n. Blank (f n)) st
  same st i = mapped_triple-same a (λ n. Blank (f n)) st (λ n e. says n (record { statement = st; there = i; mentioned = e }))

  onto : (st : Statement) → In st M → IsReached (λ n. Blank (f n)) L st
  onto st i =
      let p = from_In-map (mapped_triple (composed b a)) M st (lean_M (composed b a) (maps_compose b a M L M back to) st i) in
      let j : In (mapped_triple b p.0) L = back p.0 p.1 in
      let e : st ≡ mapped_triple (λ n. Blank (f n)) (mapped_triple b p.0) = p.2 ∙ (mapped_triple-composed b a p.0 ∙ same (mapped_triple b p.0) j) in
      subst (IsReached (λ n. Blank (f n)) L) (sym e) (In-map (mapped_triple (λ n. Blank (f n))) L (mapped_triple b p.0) j)

  pub maps_of_lean_rename : IsRenaming a L M
  maps_of_lean_rename = record {
    f = f;
    says = says;
    carries = record {
      once = λ m n u v e. there_and_back.once m n u v (ap (mapped b) (says m u ∙ (ap Blank e ∙ sym (says n v))));
      into = λ st i. subst (λ x. In x M) (same st i) (to st i);
      onto = onto;
    };
  }

-- from the one lean image through the other graph to its lean image
pub lean_images_rename : (G H L M : List Statement) (μ ν : ℕ → Term) → IsGraph G → IsGraph H → CarriesInto μ G H → CarriesInto ν H G → IsLeanImage G L → (m : IsLeanImage H M)
    → IsRenaming (composed μ m.μ) L M
lean_images_rename G H L M μ ν graph_G graph_H to back l m = maps_of_lean_rename L M (composed μ m.μ) (composed ν l.μ) graph_L graph_M l.lean m.lean a b
  where
    within_G : (st : Statement) → In st L → In st G
    within_G = image_lies_within G L l.μ l.shrunk

    within_H : (st : Statement) → In st M → In st H
    within_H = image_lies_within H M m.μ m.shrunk

    graph_L : IsGraph L
    graph_L = All-from_each (λ st. st.graph_name ≡ None) L (λ st i. each-from_All (λ st. st.graph_name ≡ None) G st graph_G (within_G st i))

    graph_M : IsGraph M
    graph_M = All-from_each (λ st. st.graph_name ≡ None) M (λ st i. each-from_All (λ st. st.graph_name ≡ None) H st graph_H (within_H st i))

    a : CarriesInto (composed μ m.μ) L M
    a = maps_compose μ m.μ L H M (λ st i. to st (within_G st i)) m.shrunk.is_image.carried

    b : CarriesInto (composed ν l.μ) M L
    b = maps_compose ν l.μ M G L (λ st i. back st (within_H st i)) l.shrunk.is_image.carried

pub lean_images_are_isomorphic : (G H L M : List Statement) (μ ν : ℕ → Term) → IsGraph G → IsGraph H → CarriesInto μ G H → CarriesInto ν H G → IsLeanImage G L → IsLeanImage H M
    → AreIsomorphicGraphs L M
lean_images_are_isomorphic G H L M μ ν graph_G graph_H to back l m = (let r = lean_images_rename G H L M μ ν graph_G graph_H to back l m in (r.f, r.carries))
