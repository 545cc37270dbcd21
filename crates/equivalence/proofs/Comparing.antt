-- What the lean forms of two graphs and maps between the graphs give.
use Rattle.std.proofs.Common.{◌≡◌, ℕ, ◌↔◌, Bool, true, List, map, length, sym, subst, inl}
use Rattle.std.specs.List.{filter}
use Rattle.rdf_terms.proofs.Common.{IsUsed, Document, statements, numbers_below}
use Rattle.rdf_terms.specs.declared.term.Term.TheVariants.{Blank}
use Rattle.map_search.specs.Marks.{mark_at}
use Rattle.component_walk.specs.Image.{IsOneGraph}
use Rattle.component_walk.proofs.Walking.{mark_within}
use Rattle.lean_search.specs.Lean.{IsLeanForm, triples_of}
use Rattle.lean_search.specs.declared.form.LeanForm.{LeanForm}
use Rattle.entail.specs.Answers.{AreGraphs, IsMapFound, map_by}
use Rattle.entail.specs.Entailment.{Entails}
use Rattle.entail.proofs.Mapping.{is_graph}
use Rattle.entail.specs.declared.form.InstanceMap.{InstanceMap}
use Rattle.equivalence.specs.Answers.{IsEquivStop, IsIsomorphism, IsLeanCause}
use Rattle.equivalence.specs.Laws.{IsLeanImage, IsRenaming}
use Rattle.equivalence.specs.Pairs.{IsNode, taken}
use Rattle.equivalence.specs.declared.form.EquivStop.{EquivStop}
use Rattle.equivalence.specs.declared.form.EquivStop.TheVariants.{NotOneGraph, SearchLimit, EntailLimit, NoMemory}
use Rattle.equivalence.proofs.Ascending.{In-passing, passing-ascend}
use Rattle.equivalence.proofs.Renaming.{lean_images_rename}

lean_image : (d : Document) (limit : ℕ) (form : LeanForm) → IsLeanForm d limit form → IsLeanImage (statements d) (triples_of d form.quads)
lean_image d limit form is = record { μ = map_by d.terms form.map; shrunk = is.shrunk; lean = is.lean }

module _ (g h : Document) (form other : LeanForm) (limit most : ℕ) (is_form : IsLeanForm g limit form) (is_other : IsLeanForm h most other) (images : InstanceMap)
    (found : IsMapFound h g images) (back : Entails (statements g) (statements h)) where
  forms_rename : IsRenaming (taken h images.terms other.map) (triples_of g form.quads) (triples_of h other.quads)
  unfolding lean_image
  forms_rename =
      lean_images_rename (statements g) (statements h) (triples_of g form.quads) (triples_of h other.quads) (map_by h.terms images.terms) back.0
      is_form.graph is_other.graph found.is_map back.1 (lean_image g limit form is_form) (lean_image h most other is_other)

  module _ (marks : List Bool) (are : (k : ℕ) → (mark_at marks k ≡ true) ↔ IsUsed (triples_of g form.quads) k) (to onward : List ℕ) (e : to ≡ images.terms) (o : onward ≡ other.map) where
    renaming : IsRenaming (taken h to onward) (triples_of g form.quads) (triples_of h other.quads)
    renaming =
        subst (λ xs. IsRenaming (taken h xs onward) (triples_of g form.quads) (triples_of h other.quads)) (sym e)
        (subst (λ xs. IsRenaming (taken h images.terms xs) (triples_of g form.quads) (triples_of h other.quads)) (sym o) forms_rename)

    pub are_nodes : (n : ℕ) → mark_at marks n ≡ true → IsNode (taken h to onward n)
    are_nodes n m = (renaming.f n, renaming.says n ((are n).0 m))

    pub is_isomorphism : (pairs : List (ℕ × ℕ))
        → ((f : ℕ → ℕ) → ((n : ℕ) → mark_at marks n ≡ true → taken h to onward n ≡ Blank (f n)) → pairs ≡ map (λ n. (n, f n)) (filter (mark_at marks) (numbers_below (length marks))))
        → IsIsomorphism (triples_of g form.quads) (triples_of h other.quads) pairs
    is_isomorphism pairs by = record {
      f = renaming.f;
      carries = renaming.carries;
      nodes = filter (mark_at marks) (numbers_below (length marks));
      ascend = passing-ascend (mark_at marks) (length marks);
      are_nodes = λ n. (let p = In-passing (mark_at marks) (length marks) (mark_within marks) n in ((λ i. (are n).0 (p.0 i)), λ u. p.1 ((are n).1 u)));
      pairs_are = by renaming.f (λ n m. renaming.says n ((are n).0 m));
    }

-- ---- why there is no answer

pub graphs_of : (g h : Document) → IsOneGraph g → IsOneGraph h → AreGraphs g h
graphs_of g h one other = (is_graph g one, is_graph h other)

module _ (g h : Document) (limit : ℕ) (graphs : AreGraphs g h) where
  pub first_lean_cause : (stop : EquivStop) → IsLeanCause g limit 0 stop → IsEquivStop g h limit stop
  first_lean_cause (NotOneGraph f q) c = absurd c
  first_lean_cause (SearchLimit f image) c = (graphs, inl c)
  first_lean_cause (EntailLimit f n) c = absurd c
  first_lean_cause NoMemory c = tt
