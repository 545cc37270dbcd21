-- The quads that are left.
use Rattle.std.proofs.Common.{◌≡◌, ℕ, suc, ◌<◌, Bool, true, false, List, [], ◌∷◌, length, refl, sym, ap, subst, arith, true≢false}
use Rattle.rdf_terms.proofs.Common.{In, AreDistinct}
use Rattle.rdf_terms.specs.declared.term.Quad.{Quad}
use Rattle.map_search.specs.Index.{kept}
use Rattle.map_search.specs.Marks.{mark_at}
use Rattle.map_search.proofs.Indexing.{In-kept}
use Rattle.component_walk.proofs.AtNodes.{In-quad_at}

pub In-kept-quads : (q : Quad) (quads : List Quad) (live : List Bool) → In q (kept quads live) → In q quads
In-kept-quads q quads live i = (let p = In-kept q quads live i in subst (λ x. In x quads) p.2 (In-quad_at quads p.0 p.1))

pub AreDistinct-kept : (quads : List Quad) (live : List Bool) → AreDistinct quads → AreDistinct (kept quads live)
AreDistinct-kept [] live d = tt
AreDistinct-kept (q ∷ qs) [] d = tt
AreDistinct-kept (q ∷ qs) (true ∷ bs) d = (λ i. d.0 (In-kept-quads q qs bs i), AreDistinct-kept qs bs d.1)
AreDistinct-kept (q ∷ qs) (false ∷ bs) d = AreDistinct-kept qs bs d.1

pub kept-all : (quads : List Quad) (live : List Bool) → ((k : ℕ) → k < length quads → mark_at live k ≡ true) → kept quads live ≡ quads
kept-all [] live h = refl
kept-all (q ∷ qs) [] h = absurd (true≢false (sym (h 0 (omega arith))))
kept-all (q ∷ qs) (true ∷ bs) h = ap (λ l. q ∷ l) (kept-all qs bs (λ k l. h (suc k) (omega arith)))
kept-all (q ∷ qs) (false ∷ bs) h = absurd (true≢false (sym (h 0 (omega arith))))
