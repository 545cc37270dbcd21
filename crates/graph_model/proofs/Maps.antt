-- Maps of terms: equal where they agree on the nodes of a triple, and one after the other.
use Rattle.std.proofs.Common.{◌≡◌, ℕ, true, ◌||◌, ◌==◌, List, refl, sym, ap, ◌∙◌, subst, eq-eqb}
use Rattle.rdf_terms.proofs.Common.{In, Statement, mentions, is_node, is_named_by, In-map, from_In-map}
use Rattle.rdf_terms.specs.declared.term.Term.{Term}
use Rattle.rdf_terms.specs.declared.term.Term.TheVariants.{Iri, Blank, Literal}
use Rattle.graph_model.specs.Graphs.{mapped, mapped_triple, composed, CarriesInto, IsInstance, IsLean, IsProperPart, IsReached}
use Rattle.std.proofs.lemmas.Bool.{or_left, or_right}
use Rattle.graph_model.specs.Laws.{IsShrunk}

pub eqb-itself : (n : ℕ) → (n == n) ≡ true
eqb-itself n = eq-eqb n n refl

pub mapped-same : (μ ν : ℕ → Term) (t : Term) → ((n : ℕ) → is_node n t ≡ true → μ n ≡ ν n) → mapped μ t ≡ mapped ν t
mapped-same μ ν (Iri t) h = refl
mapped-same μ ν (Blank n) h = h n (eqb-itself n)
mapped-same μ ν (Literal l) h = refl

pub mapped-kept : (μ : ℕ → Term) (t : Term) → ((n : ℕ) → is_node n t ≡ true → μ n ≡ Blank n) → mapped μ t ≡ t
mapped-kept μ (Iri t) h = refl
mapped-kept μ (Blank n) h = h n (eqb-itself n)
mapped-kept μ (Literal l) h = refl

pub by_subject : (st : Statement) (n : ℕ) → is_node n st.subject ≡ true → mentions n st ≡ true
by_subject st n e = or_left (is_node n st.subject) (is_node n st.object || is_named_by n st.graph_name) e

pub by_object : (st : Statement) (n : ℕ) → is_node n st.object ≡ true → mentions n st ≡ true
by_object st n e = or_right (is_node n st.subject) (is_node n st.object || is_named_by n st.graph_name) (or_left (is_node n st.object) (is_named_by n st.graph_name) e)

pub by_name : (st : Statement) (n : ℕ) → is_named_by n st.graph_name ≡ true → mentions n st ≡ true
by_name st n e = or_right (is_node n st.subject) (is_node n st.object || is_named_by n st.graph_name) (or_right (is_node n st.object) (is_named_by n st.graph_name) e)

pub mapped_triple-same : (μ ν : ℕ → Term) (st : Statement) → ((n : ℕ) → mentions n st ≡ true → μ n ≡ ν n) → mapped_triple μ st ≡ mapped_triple ν st
mapped_triple-same μ ν st h =
    let s : mapped μ st.subject ≡ mapped ν st.subject = mapped-same μ ν st.subject (λ n e. h n (by_subject st n e)) in
    let o : mapped μ st.object ≡ mapped ν st.object = mapped-same μ ν st.object (λ n e. h n (by_object st n e)) in
    λ i. record { subject = s i; predicate = st.predicate; object = o i; graph_name = st.graph_name }

pub mapped_triple-kept : (μ : ℕ → Term) (st : Statement) → ((n : ℕ) → mentions n st ≡ true → μ n ≡ Blank n) → mapped_triple μ st ≡ st
mapped_triple-kept μ st h =
    let s : mapped μ st.subject ≡ st.subject = mapped-kept μ st.subject (λ n e. h n (by_subject st n e)) in
    let o : mapped μ st.object ≡ st.object = mapped-kept μ st.object (λ n e. h n (by_object st n e)) in
    λ i. record { subject = s i; predicate = st.predicate; object = o i; graph_name = st.graph_name }

mapped-composed : (μ ν : ℕ → Term) (t : Term) → mapped (composed μ ν) t ≡ mapped ν (mapped μ t)
mapped-composed μ ν (Iri t) = refl
mapped-composed μ ν (Blank n) = refl
mapped-composed μ ν (Literal l) = refl

pub mapped_triple-composed : (μ ν : ℕ → Term) (st : Statement) → mapped_triple (composed μ ν) st ≡ mapped_triple ν (mapped_triple μ st)
mapped_triple-composed μ ν st =
    let s : mapped (composed μ ν) st.subject ≡ mapped ν (mapped μ st.subject) = mapped-composed μ ν st.subject in
    let o : mapped (composed μ ν) st.object ≡ mapped ν (mapped μ st.object) = mapped-composed μ ν st.object in
    λ i. record { subject = s i; predicate = st.predicate; object = o i; graph_name = st.graph_name }

pub maps_compose : (μ ν : ℕ → Term) (G H I : List Statement) → CarriesInto μ G H → CarriesInto ν H I → CarriesInto (composed μ ν) G I
maps_compose μ ν G H I a b st there = subst (λ x. In x I) (sym (mapped_triple-composed μ ν st)) (b (mapped_triple μ st) (a st there))

pub image_lies_within : (G H : List Statement) (μ : ℕ → Term) → IsShrunk G μ H → (st : Statement) → In st H → In st G
image_lies_within G H μ a st there =
    let p = from_In-map (mapped_triple μ) G st (a.is_image.nothing_else st there) in
    subst (λ x. In x G) (sym p.2) (a.endomorphism p.0 p.1)

pub endomorphisms_compose : (G H I : List Statement) (μ ν : ℕ → Term) → IsShrunk G μ H → IsShrunk H ν I → IsShrunk G (composed μ ν) I
endomorphisms_compose G H I μ ν a b = record {
  endomorphism = λ st there. image_lies_within G H μ a (mapped_triple (composed μ ν) st) (maps_compose μ ν G H H a.is_image.carried b.endomorphism st there);
  is_image = record {
    distinct = b.is_image.distinct;
    carried = maps_compose μ ν G H I a.is_image.carried b.is_image.carried;
    nothing_else = reached;
  };
}
  where
    reached : (st : Statement) → In st I → IsReached (composed μ ν) G st
    reached st there =
        let p = from_In-map (mapped_triple ν) H st (b.is_image.nothing_else st there) in
        let q = from_In-map (mapped_triple μ) G p.0 (a.is_image.nothing_else p.0 p.1) in
        let e : st ≡ mapped_triple (composed μ ν) q.0 = p.2 ∙ ap (mapped_triple ν) q.2 ∙ sym (mapped_triple-composed μ ν q.0) in
        subst (IsReached (composed μ ν) G) (sym e) (In-map (mapped_triple (composed μ ν)) G q.0 q.1)

pub lean_has_no_proper_instance : (G I : List Statement) → IsLean G → IsInstance G I → ¬ (IsProperPart I G)
lean_has_no_proper_instance G I lean instance part =
    let r : IsReached instance.μ G part.triple = lean instance.μ (λ st there. part.within (mapped_triple instance.μ st) (instance.is_image.carried st there)) part.triple part.there in
    let p = from_In-map (mapped_triple instance.μ) G part.triple r in
    part.missing (subst (λ x. In x I) (sym p.2) (instance.is_image.carried p.0 p.1))
