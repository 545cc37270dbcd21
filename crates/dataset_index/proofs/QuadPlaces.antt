-- What stands at those places of a list that pass a test, and the places of the quads that mention a node.
use Rattle.std.proofs.Common.{◌≡◌, ℕ, zero, suc, ◌<◌, ◌≤◌, Bool, true, false, cond, List, [], ◌∷◌, ◌++◌, map, filter, length, take, get_or, Option, Some, None, slice_get, add-one, refl, sym, ap, subst, ◌∙◌, arith, All}
use Rattle.std.proofs.lemmas.List.{length-map, map-append, take_all}
use Rattle.std.proofs.lemmas.List.Elements.{filter-append, filter_more, All-filter, All-get_or, All-append}
use Rattle.std.proofs.lemmas.Option.{slice_get-get_or}
use Rattle.rdf_terms.proofs.Common.{numbers_below, Statement, mentions, Document, statement, statements}
use Rattle.rdf_terms.specs.declared.term.Term.TheVariants.{Blank}
use Rattle.dataset_index.specs.Mentions.{mentioned_by, places_of}

module _ {X Y : Type 0} (f : ℕ → Y) (g : X → Y) where
  kept_one : (b : Bool) (k : ℕ) (x : X) → f k ≡ g x → map f (cond b (k ∷ []) []) ≡ map g (cond b (x ∷ []) [])
  kept_one true k x e = ap (λ y. y ∷ []) e
  kept_one false k x e = refl

  module _ (xs : List X) (d : X) (p : ℕ → Bool) (q : X → Bool)
      (tests : (k : ℕ) → k < length xs → p k ≡ q (get_or xs k d))
      (values : (k : ℕ) → k < length xs → f k ≡ g (get_or xs k d)) where
    -- the places that pass and the elements that pass, among the first
    kept_before : (end : ℕ) → end ≤ length xs → map f (filter p (numbers_below end)) ≡ map g (filter q (take end xs))
    kept_before zero h = refl
    kept_before (suc end) h =
        let l : end < length xs = omega arith in
        ap (map f) (filter-append p (numbers_below end) (end ∷ []))
        ∙ (map-append f (filter p (numbers_below end)) (filter p (end ∷ []))
        ∙ (ap (λ ys. ys ++ map f (filter p (end ∷ []))) (kept_before end (omega arith))
        ∙ (ap (λ b. map g (filter q (take end xs)) ++ map f (cond b (end ∷ []) [])) (tests end l)
        ∙ (ap (λ ys. map g (filter q (take end xs)) ++ ys) (kept_one (q (get_or xs end d)) end (get_or xs end d) (values end l))
        ∙ (sym (map-append g (filter q (take end xs)) (cond (q (get_or xs end d)) (get_or xs end d ∷ []) []))
        ∙ (sym (ap (map g) (filter_more q xs end d l))
        ∙ ap (λ n. map g (filter q (take n xs))) (add-one end)))))))

    kept_at_places : map f (filter p (numbers_below (length xs))) ≡ map g (filter q xs)
    kept_at_places = kept_before (length xs) (omega arith) ∙ ap (λ ys. map g (filter q ys)) (take_all (length xs) xs (omega arith))

no_statement : Statement
no_statement = record { subject = Blank 0; predicate = Blank 0; object = Blank 0; graph_name = None }

-- what is told of the quads at the places of those that mention a node is told of these quads
pub map_at_places : {Y : Type 0} (h : Option Statement → Y) (d : Document) (n : ℕ) → map (λ k. h (slice_get (statements d) k)) (places_of (statements d) n) ≡ map (λ (st : Statement). h (Some st))
    (filter (mentions n) (statements d))
map_at_places h d n =
    kept_at_places (λ k. h (slice_get (statements d) k)) (λ (st : Statement). h (Some st)) (statements d) no_statement (λ k. mentioned_by n (slice_get (statements d) k)) (mentions n)
    (λ k l. ap (mentioned_by n) (slice_get-get_or (statements d) k no_statement l))
    (λ k l. ap h (slice_get-get_or (statements d) k no_statement l))

below : (m n : ℕ) → n ≤ m → All (λ k. k < m) (numbers_below n)
below m zero h = λ k d l. absurd (omega arith)
below m (suc n) h = All-append (λ k. k < m) (numbers_below n) (n ∷ []) (below m n (omega arith)) one
  where
    one : All (λ k. k < m) (n ∷ [])
    one zero d l = omega arith
    one (suc k) d l = absurd (omega arith)

-- each place is that of a quad
pub place_of_quad : (d : Document) (n : ℕ) (places : List ℕ) (i : ℕ) → places ≡ places_of (statements d) n → i < length places → get_or places i 0 < length d.quads
place_of_quad d n places i e h =
    let sts = statements d in
    let a = All-filter (λ k. mentioned_by n (slice_get sts k)) (λ k. k < length sts) (numbers_below (length sts)) (below (length sts) (length sts) (omega arith)) in
    let b = subst (λ ps. All (λ k. k < length sts) ps) (sym e) a in
    let c : get_or places i 0 < length sts = All-get_or (λ k. k < length sts) places i 0 h b in
    subst (λ m. get_or places i 0 < m) (length-map d.quads (statement d.terms)) c
