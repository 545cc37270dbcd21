-- Quads that mention a node have a blank node, whatever the node is, and whatever it is renamed to.
use Rattle.std.proofs.Common.{Bool, None, Option, Some, ap, false, filter, refl, sym, true, true≢false, ℕ, ◌++◌, ◌||◌, ◌∙◌, ◌≡◌, ◌⊎◌, inl, inr, append-nil}
use Rattle.std.proofs.lemmas.Bool.{or_cases, or_left, or_right}
use Rattle.rdf_terms.proofs.Common.{Permutes-from_equal, Permutes-refl, Permutes-sym, permutes_trans, Dataset, Statement, IsValid, IsValidStatement, IsUsed, is_named_by, is_node, mentions, statements_of, relabel_term, relabel_graph_name, relabel_statement, In-filter, AreDistinct-filter}
use Rattle.rdf_terms.specs.declared.term.Term.{Term}
use Rattle.rdf_terms.specs.declared.term.Term.TheVariants.{Blank, Iri, Literal}
use Rattle.std.proofs.lemmas.List.Elements.{All-filter, filter-append}
use Rattle.ground_parts.specs.Ground.{is_blank_node, is_named_by_blank_node, has_blank_node, IsGroundQuad, quads_with_nodes, without_ground_quads}
use Rattle.ground_parts.specs.Laws.{GroundQuadsMayBeAdded, GroundQuadsMayBeLeftOut, SameQuadsWithNodesIsEquivalence}
use Rattle.ground_parts.proofs.Filtered.{filter-filter, filter-none}

-- ---- one quad

node_is_blank : (n : ℕ) (t : Term) → is_node n t ≡ true → is_blank_node t ≡ true
node_is_blank n (Iri t) h = h
node_is_blank n (Blank m) h = refl
node_is_blank n (Literal l) h = h

name_is_blank : (n : ℕ) (g : Option Term) → is_named_by n g ≡ true → is_named_by_blank_node g ≡ true
name_is_blank n None h = h
name_is_blank n (Some t) h = node_is_blank n t h

pub has_blank_node-mentions : (n : ℕ) (st : Statement) → mentions n st ≡ true → has_blank_node st ≡ true
has_blank_node-mentions n st h = by (or_cases (is_node n st.subject) (is_node n st.object || is_named_by n st.graph_name) h)
  where
    behind : (is_blank_node st.object || is_named_by_blank_node st.graph_name) ≡ true → has_blank_node st ≡ true
    behind e =
        or_right (is_blank_node st.subject) (is_blank_node st.predicate || (is_blank_node st.object || is_named_by_blank_node st.graph_name))
        (or_right (is_blank_node st.predicate) (is_blank_node st.object || is_named_by_blank_node st.graph_name) e)

    later : (is_node n st.object ≡ true) ⊎ (is_named_by n st.graph_name ≡ true) → has_blank_node st ≡ true
    later (inl e) = behind (or_left (is_blank_node st.object) (is_named_by_blank_node st.graph_name) (node_is_blank n st.object e))
    later (inr e) = behind (or_right (is_blank_node st.object) (is_named_by_blank_node st.graph_name) (name_is_blank n st.graph_name e))

    by : (is_node n st.subject ≡ true) ⊎ ((is_node n st.object || is_named_by n st.graph_name) ≡ true) → has_blank_node st ≡ true
    by (inl e) =
        or_left (is_blank_node st.subject) (is_blank_node st.predicate || (is_blank_node st.object || is_named_by_blank_node st.graph_name))
        (node_is_blank n st.subject e)
    by (inr e) = later (or_cases (is_node n st.object) (is_named_by n st.graph_name) e)

pub statements_of-quads_with_nodes : (D : Dataset) (n : ℕ) → statements_of (without_ground_quads D) n ≡ statements_of D n
statements_of-quads_with_nodes D n = filter-filter has_blank_node (mentions n) (has_blank_node-mentions n) D.statements

-- ---- renamed nodes

blank-relabel : (σ : ℕ → ℕ) (t : Term) → is_blank_node (relabel_term σ t) ≡ is_blank_node t
blank-relabel σ (Iri t) = refl
blank-relabel σ (Blank m) = refl
blank-relabel σ (Literal l) = refl

name-relabel : (σ : ℕ → ℕ) (g : Option Term) → is_named_by_blank_node (relabel_graph_name σ g) ≡ is_named_by_blank_node g
name-relabel σ None = refl
name-relabel σ (Some t) = blank-relabel σ t

pub has_blank_node-relabel : (σ : ℕ → ℕ) (st : Statement) → has_blank_node (relabel_statement σ st) ≡ has_blank_node st
has_blank_node-relabel σ st =
    λ i. blank-relabel σ st.subject i || (blank-relabel σ st.predicate i || (blank-relabel σ st.object i || name-relabel σ st.graph_name i))

term_stays : (σ : ℕ → ℕ) (t : Term) → is_blank_node t ≡ false → relabel_term σ t ≡ t
term_stays σ (Iri t) h = refl
term_stays σ (Blank m) h = absurd (true≢false h)
term_stays σ (Literal l) h = refl

name_stays : (σ : ℕ → ℕ) (g : Option Term) → is_named_by_blank_node g ≡ false → relabel_graph_name σ g ≡ g
name_stays σ None h = refl
name_stays σ (Some t) h = ap Some (term_stays σ t h)

-- four tests of which none passes
pub record AreNone (a b c d : Bool) : Type 0 where
  pub first : a ≡ false
  pub second : b ≡ false
  pub third : c ≡ false
  pub fourth : d ≡ false

none_of : (a b c d : Bool) → (a || (b || (c || d))) ≡ false → AreNone a b c d
none_of true b c d h = absurd (true≢false h)
none_of false true c d h = absurd (true≢false h)
none_of false false true d h = absurd (true≢false h)
none_of false false false d h = record { first = refl; second = refl; third = refl; fourth = h }

pub ground_terms : (st : Statement) → IsGroundQuad st
    → AreNone (is_blank_node st.subject) (is_blank_node st.predicate) (is_blank_node st.object) (is_named_by_blank_node st.graph_name)
ground_terms st h = none_of (is_blank_node st.subject) (is_blank_node st.predicate) (is_blank_node st.object) (is_named_by_blank_node st.graph_name) h

pub relabel_statement-ground : (σ : ℕ → ℕ) (st : Statement) → IsGroundQuad st → relabel_statement σ st ≡ st
relabel_statement-ground σ st h =
    let t = ground_terms st h in
    λ i. record {
      subject = term_stays σ st.subject t.first i;
      predicate = term_stays σ st.predicate t.second i;
      object = term_stays σ st.object t.third i;
      graph_name = name_stays σ st.graph_name t.fourth i;
    }

-- ---- datasets

pub same_quads_with_nodes_is_equivalence : SameQuadsWithNodesIsEquivalence
same_quads_with_nodes_is_equivalence = record {
  reflexive = λ D. record { nodes = refl; statements = Permutes-refl (quads_with_nodes D) };
  symmetric = λ D E s. record { nodes = sym s.nodes; statements = Permutes-sym s.statements };
  transitive = λ D E F s t. record { nodes = t.nodes ∙ s.nodes; statements = permutes_trans s.statements t.statements };
}

pub ground_quads_may_be_added : GroundQuadsMayBeAdded
ground_quads_may_be_added D more h = record { nodes = refl; statements = Permutes-from_equal (sym same) }
  where
    same : filter has_blank_node (D.statements ++ more) ≡ quads_with_nodes D
    same = filter-append has_blank_node D.statements more ∙ (ap (λ w. quads_with_nodes D ++ w) (filter-none has_blank_node more h) ∙ append-nil (quads_with_nodes D))

left_out_used : (D : Dataset) (n : ℕ) → IsUsed D.statements n → IsUsed (quads_with_nodes D) n
left_out_used D n u = record {
  statement = u.statement;
  there = In-filter has_blank_node u.statement D.statements u.there (has_blank_node-mentions n u.statement u.mentioned);
  mentioned = u.mentioned;
}

pub ground_quads_may_be_left_out : GroundQuadsMayBeLeftOut
ground_quads_may_be_left_out D = (record { nodes = refl; statements = Permutes-from_equal (sym twice) }, valid)
  where
    twice : filter has_blank_node (quads_with_nodes D) ≡ quads_with_nodes D
    twice = filter-filter has_blank_node has_blank_node (λ x h. h) D.statements

    valid : IsValid D → IsValid (without_ground_quads D)
    valid v = record {
      valid = All-filter has_blank_node (IsValidStatement D.nodes) D.statements v.valid;
      distinct = AreDistinct-filter has_blank_node D.statements v.distinct;
      used = λ n h. left_out_used D n (v.used n h);
    }
