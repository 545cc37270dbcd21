-- The map of nodes that takes one list of all nodes to another, place by place.
use Rattle.std.proofs.Common.{◌≡◌, ℕ, ◌<◌, ◌≤◌, List, Option, Some, None, map, length, get_or, refl, sym, ap, subst, ◌∙◌, arith}
use Rattle.std.proofs.lemmas.List.{get_or-map, get_or_default, length-map, same_lists}
use Rattle.rdf_terms.proofs.Common.{In, Relabelling, place_of, length-distinct_below, In-get_or}
use Rattle.canonical_writer.specs.Determined.{ListsNodes}
use Rattle.canonical_writer.proofs.Placing.{place-found, place-here, place-get_or, length-all_below}

-- the number at the place in the other list; a number with no place stays
abbrev at_place : List ℕ → Option ℕ → ℕ → ℕ
at_place d None n = n
at_place d (Some k) n = get_or d k n

abbrev pub partner : List ℕ → List ℕ → ℕ → ℕ
partner c d n = at_place d (place_of c n) n

pub length-listed : (nodes : ℕ) (c : List ℕ) → ListsNodes nodes c → length c ≡ nodes
length-listed nodes c l =
    let le : length c ≤ nodes = length-distinct_below c nodes l.distinct (λ n. (l.all n).0) in
    let ge : nodes ≤ length c = length-all_below c nodes (λ q h. (l.all q).1 h) in
    omega arith

module _ (nodes : ℕ) (c d : List ℕ) (lc : ListsNodes nodes c) (ld : ListsNodes nodes d) where
  as_long : length d ≡ length c
  as_long = length-listed nodes d ld ∙ sym (length-listed nodes c lc)

  pub partner-at : (n k : ℕ) → place_of c n ≡ Some k → k < length c → partner c d n ≡ get_or d k 0
  partner-at n k e h = ap (λ o. at_place d o n) e ∙ get_or_default d k n 0 (omega (arith, h, as_long))

  none_past : (n : ℕ) → place_of c n ≡ None → n < nodes → ⊥
  none_past n e h =
      let p = place-here c n ((lc.all n).1 h) in
      let k : None ≡ Some p.0 = sym e ∙ p.1 in
      cc

  pub back : (n : ℕ) → partner d c (partner c d n) ≡ n
  back n = by (place_of c n) refl
    where
      nowhere : (p : Option ℕ) → place_of d n ≡ p → (n < nodes → ⊥) → at_place c p n ≡ n
      nowhere None f past = refl
      nowhere (Some j) f past =
          let q = place-found d n j f in
          absurd (past ((ld.all n).0 (subst (λ m. In m d) q.1 (In-get_or d j 0 q.0))))

      by : (o : Option ℕ) → place_of c n ≡ o → partner d c (at_place d o n) ≡ n
      by None e = nowhere (place_of d n) refl (none_past n e)
      by (Some k) e =
          let q = place-found c n k e in
          let r : k < length d = omega (arith, q.0, as_long) in
          ap (partner d c) (get_or_default d k n 0 r)
          ∙ (ap (λ o. at_place c o (get_or d k 0)) (place-get_or d k ld.distinct r) ∙ (get_or_default c k (get_or d k 0) 0 q.0 ∙ q.1))

  pub below : (n : ℕ) → n < nodes → partner c d n < nodes
  below n h =
      let p = place-here c n ((lc.all n).1 h) in
      let q = place-found c n p.0 p.1 in
      let r : p.0 < length d = omega (arith, q.0, as_long) in
      subst (λ m. m < nodes) (sym (partner-at n p.0 p.1 q.0)) ((ld.all (get_or d p.0 0)).0 (In-get_or d p.0 0 r))

  pub map-partner : map (partner c d) c ≡ d
  map-partner =
      same_lists (map (partner c d) c) d (length-map c (partner c d) ∙ sym as_long)
      (λ k e h.
      let here : k < length c = subst (λ m. k < m) (length-map c (partner c d)) h in
      let there : k < length d = omega (arith, here, as_long) in
      get_or-map (partner c d) c k 0 e here ∙ (partner-at (get_or c k 0) k (place-get_or c k lc.distinct here) here ∙ get_or_default d k 0 e there))

module _ (nodes : ℕ) (c d : List ℕ) (lc : ListsNodes nodes c) (ld : ListsNodes nodes d) where
  abbrev pub partners : Relabelling nodes
  partners = record {
    to = partner c d;
    from = partner d c;
    from-to = back nodes c d lc ld;
    to-from = back nodes d c ld lc;
    to_node = below nodes c d lc ld;
    from_node = below nodes d c ld lc;
  }
