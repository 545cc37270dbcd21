-- The nodes that a triple mentions are its ends.
use Rattle.std.proofs.Common.{◌≡◌, ℕ, ◌⊎◌, true, List, None, sym, ap, ◌∙◌, inl, inr, true≢false}
use Rattle.std.proofs.lemmas.Bool.{or_cases}
use Rattle.rdf_terms.proofs.Common.{mentions, is_node, is_named_by, statement, term_at, graph_name_at}
use Rattle.rdf_terms.specs.declared.term.Term.{Term}
use Rattle.rdf_terms.specs.declared.term.Term.TheVariants.{Blank}
use Rattle.rdf_terms.specs.declared.term.Quad.{Quad}
use Rattle.graph_model.proofs.Maps.{by_subject, by_object}
use Rattle.map_search.proofs.Bridging.{is_node-blank, blank-is_node}

module _ (terms : List Term) (q : Quad) (n : ℕ) where
  pub mentioned_end : q.g ≡ None → mentions n (statement terms q) ≡ true → (term_at terms q.s ≡ Blank n) ⊎ (term_at terms q.o ≡ Blank n)
  mentioned_end unnamed m =
      elim (or_cases (is_node n (term_at terms q.s)) _ m) [
        | inl s ↦ inl (is_node-blank n (term_at terms q.s) s)
        | inr r ↦ elim (or_cases (is_node n (term_at terms q.o)) (is_named_by n (graph_name_at terms q.g)) r) [
          | inl o ↦ inr (is_node-blank n (term_at terms q.o) o)
          | inr g ↦ absurd (true≢false (sym g ∙ ap (λ w. is_named_by n (graph_name_at terms w)) unnamed))
        ]
      ]

  pub end_mentioned : (term_at terms q.s ≡ Blank n) ⊎ (term_at terms q.o ≡ Blank n) → mentions n (statement terms q) ≡ true
  end_mentioned e = elim e [
    | inl s ↦ by_subject (statement terms q) n (blank-is_node n (term_at terms q.s) s)
    | inr o ↦ by_object (statement terms q) n (blank-is_node n (term_at terms q.o) o)
  ]
