-- Ground quads have one line under all names, and a ground dataset one text.
use Rattle.std.proofs.Common.{List, None, Option, Some, [], ap, arith, false, flat_map, map, refl, subst, suc, sym, true≢false, zero, ℕ, ◌++◌, ◌<◌, ◌∙◌, ◌≡◌, codes}
use Rattle.rdf_terms.proofs.Common.{Dataset, IsValid, Naming, Statement, canonical_graph_name, canonical_line, canonical_term, each-from_All, numbers_below, sorted}
use Rattle.rdf_terms.specs.declared.term.Term.{Term}
use Rattle.rdf_terms.specs.declared.term.Term.TheVariants.{Blank, Iri, Literal}
use Rattle.canon_model.specs.Hashing.{Hashing}
use Rattle.canon_model.specs.FirstDegree.{hash_first_degree_quads}
use Rattle.canon_model.specs.Groups.{each_text_once}
use Rattle.canon_model.specs.Issuer.{issue_each}
use Rattle.canon_model.specs.Allowed.{IsCanonicalList, IssuesForHashes, canonical_form, first_degree_hashes, issued_for_unique_hashes, nodes_with_hash, single}
use Rattle.ground_parts.specs.Ground.{IsGround, IsGroundQuad, is_blank_node, is_named_by_blank_node}
use Rattle.ground_parts.specs.Parts.{GroundHasOneOutput}
use Rattle.ground_parts.proofs.Ground.{ground_terms, has_blank_node-mentions}

-- ---- lines

term_text : (ν ν' : Naming) (t : Term) → is_blank_node t ≡ false → canonical_term ν t ≡ canonical_term ν' t
term_text ν ν' (Iri t) h = refl
term_text ν ν' (Blank n) h = absurd (true≢false h)
term_text ν ν' (Literal l) h = refl

graph_name_text : (ν ν' : Naming) (g : Option Term) → is_named_by_blank_node g ≡ false → canonical_graph_name ν g ≡ canonical_graph_name ν' g
graph_name_text ν ν' None h = refl
graph_name_text ν ν' (Some t) h = ap (λ w. w ++ codes " ") (term_text ν ν' t h)

pub canonical_line-ground : (ν ν' : Naming) (st : Statement) → IsGroundQuad st → canonical_line ν st ≡ canonical_line ν' st
unfolding canonical_line
canonical_line-ground ν ν' st h =
    let t = ground_terms st h in
    λ k. term_text ν ν' st.subject t.first k ++ (codes " " ++ (term_text ν ν' st.predicate t.second k
    ++ (codes " " ++ (term_text ν ν' st.object t.third k ++ (codes " " ++ (graph_name_text ν ν' st.graph_name t.fourth k ++ codes ".\n"))))))

-- ---- a ground dataset has no nodes

pub no_nodes : (G : Dataset) → IsValid G → IsGround G → G.nodes ≡ 0
no_nodes G v h = by G.nodes refl
  where
    by : (n : ℕ) → G.nodes ≡ n → G.nodes ≡ 0
    by zero e = e
    by (suc n) e =
        let low : 0 < G.nodes = omega arith in
        let u = v.used 0 low in
        absurd (true≢false (sym (has_blank_node-mentions 0 u.statement u.mentioned) ∙ each-from_All IsGroundQuad G.statements u.statement h u.there))

module _ (ρ : Hashing) (G : Dataset) (none : G.nodes ≡ 0) where
  no_hashes : first_degree_hashes ρ G ≡ []
  no_hashes = ap (λ m. each_text_once (sorted (map (hash_first_degree_quads ρ G) (numbers_below m)))) none

  none_issued : issued_for_unique_hashes ρ G ≡ []
  none_issued = ap (λ hs. issue_each [] (flat_map (λ h. single (nodes_with_hash ρ G h)) hs)) no_hashes

  pub empty_list : (list : List ℕ) → IsCanonicalList ρ G list → list ≡ []
  empty_list list w = subst (λ hs. IssuesForHashes ρ G hs (issued_for_unique_hashes ρ G) list) no_hashes w ∙ none_issued

  pub empty_list_is_allowed : IsCanonicalList ρ G []
  empty_list_is_allowed = subst (λ hs. IssuesForHashes ρ G hs (issued_for_unique_hashes ρ G) []) (sym no_hashes) (sym none_issued)

pub ground_has_one_output : GroundHasOneOutput
ground_has_one_output ρ G v h text =
    let none = no_nodes G v h in (
      (λ w. w.text_is ∙ ap (canonical_form G) (empty_list ρ G none w.list w.allowed)),
      (λ e. record { list = []; allowed = empty_list_is_allowed ρ G none; text_is = e }),
    )
