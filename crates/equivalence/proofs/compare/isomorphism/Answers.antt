use Rattle.std.proofs.Common.{◌≡◌, ℕ, ◌↔◌, true, subst, sym}
use Rattle.rdf_terms.specs.Vocabulary.{In, IsUsed}
use Rattle.map_search.specs.Marks.{mark_at}
use Rattle.lean_search.specs.Lean.{triples_of}
use Rattle.equivalence.specs.Answers.{IsIsomorphism}
use Rattle.equivalence.proofs.Comparing.{are_nodes, is_isomorphism}
use Rattle.equivalence.proofs.compare.isomorphism.Goals as goal

pub nodes_of-requires-clause-there : goal.nodes_of-requires-clause-there
nodes_of-requires-clause-there c q i = c.requires.form.1.within q (subst (In q) c.as_slice.ensures i)

pub pairs_of-requires-clause-are_nodes : goal.pairs_of-requires-clause-are_nodes
pairs_of-requires-clause-are_nodes c =
    are_nodes c.args.g.now c.args.h.now c.args.form.now c.args.other.now c.requires.form.0 c.requires.other.0 c.requires.form.1 c.requires.other.1
    c.args.images.now c.requires.images c.requires.back
    c.as_slice-4.result.now
    (subst (λ m. (k : ℕ) → (mark_at m k ≡ true) ↔ IsUsed (triples_of c.args.g.now c.args.form.now.quads) k) (sym c.as_slice-4.ensures.value)
    (subst (λ qs. (k : ℕ) → (mark_at c.in_ok-marks.marks.items k ≡ true) ↔ IsUsed (triples_of c.args.g.now qs) k) c.as_slice.ensures c.in_ok-marks.ensures.marks))
    c.as_slice-2.result.now c.as_slice-3.result.now c.as_slice-2.ensures c.as_slice-3.ensures

pub returns : goal.returns
returns c =
    subst (IsIsomorphism (triples_of c.args.g.now c.args.form.now.quads) (triples_of c.args.h.now c.args.other.now.quads)) (sym c.new.ensures)
    (is_isomorphism c.args.g.now c.args.h.now c.args.form.now c.args.other.now c.requires.form.0 c.requires.other.0 c.requires.form.1 c.requires.other.1
    c.args.images.now c.requires.images c.requires.back
    c.as_slice-4.result.now
    (subst (λ m. (k : ℕ) → (mark_at m k ≡ true) ↔ IsUsed (triples_of c.args.g.now c.args.form.now.quads) k) (sym c.as_slice-4.ensures.value)
    (subst (λ qs. (k : ℕ) → (mark_at c.in_ok-marks.marks.items k ≡ true) ↔ IsUsed (triples_of c.args.g.now qs) k) c.as_slice.ensures c.in_ok-marks.ensures.marks))
    c.as_slice-2.result.now c.as_slice-3.result.now c.as_slice-2.ensures c.as_slice-3.ensures c.in_ok-pairs.pairs.items c.in_ok-pairs.ensures)
