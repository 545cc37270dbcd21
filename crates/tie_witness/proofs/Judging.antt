-- The check of an exchange against what it is to say.
use Rattle.std.proofs.Common.{Bool, List, ap, arith, drop, false, length, length-append, length-drop, refl, subst, sym, take, take-append-drop, true, ℕ, ◌+◌, ◌++◌, ◌-◌, ◌<◌, ◌∙◌, ◌≡◌}
use Rattle.std.proofs.lemmas.List.{take_all}
use Rattle.rdf_terms.proofs.Common.{Dataset, Relabelling, relabel_statement, AreDistinct, In}
use Rattle.canon_model.specs.Issuer.{is_issued}
use Rattle.canon_model.specs.Ties.{IsJoined, MayBeExchanged, exchange}
use Rattle.canon_model.proofs.Issuers.{AreOnce, In-from_is_issued, are_distinct_from_once, are_once_from_distinct, is_issued-from_not_In}
use Rattle.canon_model.proofs.ExchangeSymmetry.{append_split, exchange-outside}
use Rattle.canon_model.proofs.LocalSymmetry.{AreQuads, carries_into}
use Rattle.tie_witness.specs.Moving.{AreMovedBy, CarriesQuadsOfMoved, image_in}
use Rattle.tie_witness.specs.Tails.{AreTails}
use Rattle.tie_witness.specs.Witness.{AscendByFirst, IsWitness, TailMayBeChecked, right_of}
use Rattle.tie_witness.proofs.Carrying.{all_carried, carried_by_symmetry}
use Rattle.tie_witness.proofs.Images.{image-told}
use Rattle.tie_witness.proofs.Exchanging.{AreSameOrApart, exchange-back, exchange-below, exchange-front, turned, are_once_behind}

module _ (D : Dataset) (c i l m : List ℕ) (e : MayBeExchanged D c i l m) where
  left_once : AreOnce (i ++ e.left_tail)
  left_once = are_once_from_distinct (i ++ e.left_tail) (subst AreDistinct e.left_is e.left_once)

  right_once : AreOnce (i ++ e.right_tail)
  right_once = are_once_from_distinct (i ++ e.right_tail) (subst AreDistinct e.right_is e.right_once)

  -- the exchange of the lists is that of their tails
  pub tails_exchange : exchange e.left_tail e.right_tail ≡ exchange l m
  tails_exchange = λ k x. (sym (exchange-front i e.left_tail e.right_tail left_once right_once x) ∙ ap (λ w. exchange w (i ++ e.right_tail) x) (sym e.left_is)
      ∙ ap (λ w. exchange l w x) (sym e.right_is)) k

  module _ (quads : AreQuads D) (long : length l ≡ length m) where
    moves : Relabelling D.nodes
    moves = record {
      to = exchange l m;
      from = exchange m l;
      from-to = exchange-back-whole;
      to-from = exchange-back-whole';
      to_node = exchange-below D.nodes l m (are_once_from_distinct l e.left_once) (are_once_from_distinct m e.right_once) long e.left_nodes e.right_nodes;
      from_node = exchange-below D.nodes m l (are_once_from_distinct m e.right_once) (are_once_from_distinct l e.left_once) (sym long) e.right_nodes e.left_nodes;
    }
      where
        tails_long : length e.left_tail ≡ length e.right_tail
        tails_long =
            let a : length l ≡ length i + length e.left_tail = ap length e.left_is ∙ length-append i e.left_tail in
            let b : length m ≡ length i + length e.right_tail = ap length e.right_is ∙ length-append i e.right_tail in
            omega (arith, long)

        tails_once : AreOnce e.left_tail
        tails_once = are_once_behind i e.left_tail left_once

        tails_once' : AreOnce e.right_tail
        tails_once' = are_once_behind i e.right_tail right_once

        back_path : exchange e.right_tail e.left_tail ≡ exchange m l
        back_path = λ k x. (sym (exchange-front i e.right_tail e.left_tail right_once left_once x) ∙ ap (λ w. exchange w (i ++ e.left_tail) x) (sym e.right_is)
            ∙ ap (λ w. exchange m w x) (sym e.left_is)) k

        exchange-back-whole : (x : ℕ) → exchange m l (exchange l m x) ≡ x
        exchange-back-whole x =
            subst (λ (f : ℕ → ℕ). f (exchange l m x) ≡ x) back_path
            (subst (λ (f : ℕ → ℕ). exchange e.right_tail e.left_tail (f x) ≡ x) tails_exchange (exchange-back e.left_tail e.right_tail tails_once tails_once' tails_long e.tails x))

        exchange-back-whole' : (x : ℕ) → exchange l m (exchange m l x) ≡ x
        exchange-back-whole' x =
            subst (λ (f : ℕ → ℕ). f (exchange m l x) ≡ x) tails_exchange
            (subst (λ (f : ℕ → ℕ). exchange e.left_tail e.right_tail (f x) ≡ x) back_path
            (exchange-back e.right_tail e.left_tail tails_once' tails_once (sym tails_long) (turned e.left_tail e.right_tail e.tails) x))

    module _ (pairs : List (ℕ × ℕ)) (moved : AreMovedBy (exchange l m) pairs) where
      pub joined_where_carried : CarriesQuadsOfMoved D (exchange l m) pairs → IsJoined D c l m
      unfolding moves
      joined_where_carried carries = record {
        as_long = long;
        symmetry = record { relabelling = moves; keeps = carries_into D quads moves (all_carried D quads (exchange l m) pairs moved carries) };
        is_exchange = λ x. refl;
        fixes_canonical = λ x h. exchange-outside l m x (is_issued-from_not_In x l (λ a. e.left_apart x a h)) (is_issued-from_not_In x m (λ a. e.right_apart x a h));
      }

      pub witness_where_carried : AscendByFirst pairs → CarriesQuadsOfMoved D (exchange l m) pairs → IsWitness D c l m pairs
      witness_where_carried ascend carries = record { joined = joined_where_carried carries; moved = moved; ascend = ascend }

      pub carried_where_joined : IsJoined D c l m → CarriesQuadsOfMoved D (exchange l m) pairs
      carried_where_joined j = λ x y h q there mentioned. subst (λ (f : ℕ → ℕ). In (relabel_statement f q) D.statements) (λ k z. j.is_exchange z k) (carried_by_symmetry D j.symmetry q there)

-- ---- what the code is given and what it answers

module _ (D : Dataset) (c : List ℕ) (passed : ℕ) (left tail : List ℕ) (given : TailMayBeChecked D c passed left tail) where
  cut-is : take (length left - passed) (drop passed left) ≡ given.exchanged.left_tail
  cut-is =
      let n : length (drop passed left) ≡ length left - passed = length-drop passed left in
      take_all (length left - passed) (drop passed left) (omega (arith, n))
      ∙ (append_split (take passed left) (drop passed left) (take passed left) given.exchanged.left_tail refl (take-append-drop passed left ∙ given.exchanged.left_is)).1

  tail-is : tail ≡ given.exchanged.right_tail
  tail-is = (append_split (take passed left) tail (take passed left) given.exchanged.right_tail refl given.exchanged.right_is).1

  pub tails-are : length (take (length left - passed) (drop passed left)) ≡ length tail → AreTails (take (length left - passed) (drop passed left)) tail
  tails-are long =
      let a = given.exchanged.left_tail in
      let b = given.exchanged.right_tail in
      let front = take passed left in
      record {
        as_long = long;
        left_once = subst AreDistinct (sym cut-is)
            (are_distinct_from_once a (are_once_behind front a (are_once_from_distinct (front ++ a) (subst AreDistinct given.exchanged.left_is given.exchanged.left_once))));
        right_once = subst AreDistinct (sym tail-is)
            (are_distinct_from_once b (are_once_behind front b (are_once_from_distinct (front ++ b) (subst AreDistinct given.exchanged.right_is given.exchanged.right_once))));
        tails = subst (λ l. AreSameOrApart l tail) (sym cut-is) (subst (AreSameOrApart a) (sym tail-is) given.exchanged.tails);
      }

  module _ (pairs : List (ℕ × ℕ)) (moved : AreMovedBy (exchange (take (length left - passed) (drop passed left)) tail) pairs)
      (long : length (take (length left - passed) (drop passed left)) ≡ length tail) where
    whole : exchange (take (length left - passed) (drop passed left)) tail ≡ exchange left (right_of passed left tail)
    whole = ap (λ w. exchange w tail) cut-is ∙ ap (exchange given.exchanged.left_tail) tail-is ∙ tails_exchange D c (take passed left) left (right_of passed left tail) given.exchanged

    whole_moved : AreMovedBy (exchange left (right_of passed left tail)) pairs
    whole_moved = subst (λ (f : ℕ → ℕ). AreMovedBy f pairs) whole moved

    whole_long : length left ≡ length (right_of passed left tail)
    whole_long =
        let a : length (take passed left ++ drop passed left) ≡ length (take passed left) + length (drop passed left) = length-append (take passed left) (drop passed left) in
        let b : length (take passed left ++ tail) ≡ length (take passed left) + length tail = length-append (take passed left) tail in
        let n : length (drop passed left) ≡ length left - passed = length-drop passed left in
        let k : take (length left - passed) (drop passed left) ≡ drop passed left = take_all (length left - passed) (drop passed left) (omega (arith, n)) in
        let m : length (drop passed left) ≡ length tail = ap length (sym k) ∙ long in
        ap length (sym (take-append-drop passed left)) ∙ a ∙ ap (λ z. length (take passed left) + z) m ∙ sym b

    pub pairs-of_nodes : (x y : ℕ) → In (x, y) pairs → (x < D.nodes) × (y < D.nodes)
    pairs-of_nodes x y h = by (is_issued x left) refl (is_issued x (right_of passed left tail)) refl
      where
        l_once : AreOnce left
        l_once = are_once_from_distinct left given.exchanged.left_once

        r_once : AreOnce (right_of passed left tail)
        r_once = are_once_from_distinct (right_of passed left tail) given.exchanged.right_once

        on : x < D.nodes → (x < D.nodes) × (y < D.nodes)
        on l = (
          l,
          subst (λ z. z < D.nodes) ((whole_moved x y).0 h).0
              (exchange-below D.nodes left (right_of passed left tail) l_once r_once whole_long given.exchanged.left_nodes given.exchanged.right_nodes x l),
        )

        by : (s : Bool) → is_issued x left ≡ s → (t : Bool) → is_issued x (right_of passed left tail) ≡ t → (x < D.nodes) × (y < D.nodes)
        by true a t b = on (given.exchanged.left_nodes x (In-from_is_issued x left a))
        by false a true b = on (given.exchanged.right_nodes x (In-from_is_issued x (right_of passed left tail) b))
        by false a false b = let r = (whole_moved x y).0 h in absurd (r.1 (sym (exchange-outside left (right_of passed left tail) x a b) ∙ r.0))

    pub not_joined : AreQuads D → ¬ (CarriesQuadsOfMoved D (image_in pairs) pairs) → ¬ (IsJoined D c left (right_of passed left tail))
    not_joined quads n j =
        n (subst (λ (f : ℕ → ℕ). CarriesQuadsOfMoved D f pairs) (sym (image-told (exchange left (right_of passed left tail)) pairs whole_moved))
        (carried_where_joined D c (take passed left) left (right_of passed left tail) given.exchanged quads whole_long pairs whole_moved j))

    pub is_witness : AreQuads D → AscendByFirst pairs → CarriesQuadsOfMoved D (image_in pairs) pairs → IsWitness D c left (right_of passed left tail) pairs
    is_witness quads ascend carries = witness_where_carried D c (take passed left) left (right_of passed left tail) given.exchanged quads whole_long pairs whole_moved ascend
        (subst (λ (f : ℕ → ℕ). CarriesQuadsOfMoved D f pairs) (image-told (exchange left (right_of passed left tail)) pairs whole_moved) carries)
