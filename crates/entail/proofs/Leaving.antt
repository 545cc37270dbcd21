-- What the search of a walk leaves.
use Rattle.std.proofs.Common.{◌≡◌, ℕ, ◌<◌, ◌↔◌, List, length, get_or, Result, Ok, Err, IfOk, refl, sym, ap, ◌∙◌, subst, arith}
use Rattle.std.specs.List.{All}
use Rattle.rdf_terms.proofs.Common.{In, AreDistinct, Statement, term_at, each-from_All, place_within}
use Rattle.rdf_terms.specs.declared.term.Term.{Term}
use Rattle.graph_model.specs.Components.{IsClosed}
use Rattle.map_search.specs.Pattern.{map_of}
use Rattle.map_search.specs.declared.search.Ending.{Ending}
use Rattle.map_search.specs.declared.search.Ending.TheVariants.{Found, Nothing, PastLimit}
use Rattle.map_search.proofs.Images.{map_of-at}
use Rattle.component_walk.specs.Walk.{IsWalkFrom}
use Rattle.entail.specs.Answers.{map_by}
use Rattle.entail.specs.Searched.{AreWritten, AreImagesInto, IfFound, IsComponentSearched, IsImaged, IsKept, IsWalkMapped, IsWalkSearched, MeansInto}
use Rattle.entail.specs.declared.component.Searched.{Searched}
use Rattle.entail.specs.declared.component.Searched.TheVariants.{Mapped, Unmapped, PastLimit as Stopped}
use Rattle.entail.proofs.Meaning.{maps_same}

module _ (E G : List Statement) (terms : List Term) (limit : ℕ) where
  module _ (walk before after : List ℕ) (closed : IsClosed E walk) (once : AreDistinct walk) (within : All (λ n. n < length before) walk) where
    mapped : (found : List ℕ) → AreImagesInto E G terms walk found → AreWritten walk found before after → IsWalkMapped E G terms walk before after
    mapped found into written = record {
      count = written.count;
      imaged = λ n i. imaged n i (place_within walk n 0 i);
      others = written.others;
      maps = maps_same E G walk (λ n. term_at terms (map_of walk found n)) (map_by terms after) closed (λ n i. ap (term_at terms) (image n (place_within walk n 0 i))) into.maps;
    }
      where
        imaged : (n : ℕ) → In n walk → (k : ℕ) × (k < length walk) × (get_or walk k 0 ≡ n) → IsImaged terms after n
        imaged n i p =
            let c = into.count in
            let e : get_or after n 0 ≡ get_or found p.0 0 = ap (λ x. get_or after x 0) (sym p.2) ∙ written.here p.0 p.1 in
            record {
              within = (let a = each-from_All (λ n. n < length before) walk n within i in let b = written.count in omega arith);
              image = subst (λ x. x < length terms) (sym e) (into.in_range p.0 0 (let a = p.1 in omega arith));
            }

        image : (n : ℕ) → (k : ℕ) × (k < length walk) × (get_or walk k 0 ≡ n) → map_of walk found n ≡ get_or after n 0
        image n p =
            let c = into.count in
            ap (map_of walk found) (sym p.2) ∙ (map_of-at walk found p.0 once (omega arith) (let a = p.1 in omega arith) ∙ (sym (written.here p.0 p.1) ∙ ap (λ x. get_or after x 0) p.2))

    pub walk_searched : (ending : Ending) (searched : Searched) → MeansInto E G terms walk limit ending → IsKept walk ending before after searched
        → IsWalkSearched E G terms walk limit before after searched
    walk_searched (Found found) searched means kept = subst (IsWalkSearched E G terms walk limit before after) (sym kept.0) (mapped found.items means kept.1)
    walk_searched Nothing searched means kept = subst (IsWalkSearched E G terms walk limit before after) (sym kept.0) means
    walk_searched PastLimit searched means kept = subst (IsWalkSearched E G terms walk limit before after) (sym kept.0) (kept.1, means)

  -- what was found of a walk was found of one with the same nodes, but for the measure of the search
  pub searched_same : (xs ys before after : List ℕ) (searched : Searched) → ((n : ℕ) → In n xs ↔ In n ys) → (¬ (searched ≡ Stopped)) → IsWalkSearched E G terms xs limit before after searched
      → IsWalkSearched E G terms ys limit before after searched
  searched_same xs ys before after Mapped same n s = record {
    count = s.count;
    imaged = λ n i. s.imaged n ((same n).1 i);
    others = λ n out. s.others n (λ i. out ((same n).0 i));
    maps = λ st t. s.maps st (t.0, record { node = t.1.node; there = (same t.1.node).1 t.1.there; mentioned = t.1.mentioned });
  }
  searched_same xs ys before after Unmapped same n s = λ μ maps. s μ (λ st t. maps st (t.0, record { node = t.1.node; there = (same t.1.node).0 t.1.there; mentioned = t.1.mentioned }))
  searched_same xs ys before after Stopped same n s = absurd (n refl)

pub found_count : (E G : List Statement) (terms : List Term) (walk : List ℕ) (limit : ℕ) (ending : Ending) → MeansInto E G terms walk limit ending
    → IfFound ending (λ found. length found ≡ length walk)
found_count E G terms walk limit (Found found) means = means.count
found_count E G terms walk limit Nothing means = tt
found_count E G terms walk limit PastLimit means = tt

pub component_searched : (E G : List Statement) (terms : List Term) (limit start : ℕ) (walk before mid after : List ℕ) → IsWalkFrom E start walk → mid ≡ before → {X : Type 0} (r : Result Searched X)
    → IfOk r (IsWalkSearched E G terms walk limit mid after) → IfOk r (IsComponentSearched E G terms start limit before after)
component_searched E G terms limit start walk before mid after w e (Ok s) h = record { walk = walk; is_walk = w; is_searched = subst (λ xs. IsWalkSearched E G terms walk limit xs after s) e h }
component_searched E G terms limit start walk before mid after w e (Err x) h = tt
