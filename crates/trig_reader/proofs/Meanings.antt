-- What the leaves of a document say, one leaf after the other, and its first use without a definition.
use Rattle.std.proofs.Common.{◌≡◌, List, [], ◌∷◌, ◌++◌, Option, Some, None, refl, sym, ap, subst, ◌∙◌, append_assoc, append-nil}
use Rattle.rdf_terms.specs.Lists.{Text}
use Rattle.trig_lexer.specs.declared.token.Token.{Token}
use Rattle.trig_terms.specs.declared.leaf.Leaf.{Leaf}
use Rattle.trig_terms.specs.Meaning.{State, Undefined, begin, meet_defined, step, run, says}
use Rattle.trig_terms.specs.Leaves.{IsLeaf}
use Rattle.trig_reader.specs.Document.{AreLeaves, IsFirstUndefined}
use Rattle.trig_reader.proofs.OneLeaf.{one_leaf, same_leaves, parted_leaves}

-- ---- one leaf after the other

run-append : (s : State) (one other : List Leaf) → run s (one ++ other) ≡ run (run s one) other
run-append s [] other = refl
run-append s (leaf ∷ one) other = run-append (step s leaf) one other

pub says-push : (base : Option Text) (leaves : List Leaf) (leaf : Leaf) → says base (leaves ++ leaf ∷ []) ≡ step (says base leaves) leaf
says-push base leaves leaf = run-append (begin base) leaves (leaf ∷ [])

-- behind a use without a definition nothing is said
pub step_undefined : (s : State) (leaf : Leaf) (why : Undefined) → s.undefined ≡ Some why → step s leaf ≡ s
unfolding step
step_undefined s leaf why e = ap (λ u. meet_defined u leaf s) e

run_undefined : (s : State) (leaves : List Leaf) (why : Undefined) → s.undefined ≡ Some why → (run s leaves).undefined ≡ Some why
run_undefined s [] why e = e
run_undefined s (leaf ∷ leaves) why e = run_undefined (step s leaf) leaves why (ap (λ (t : State). t.undefined) (step_undefined s leaf why e) ∙ e)

pub stays_undefined : (base : Option Text) (front more : List Leaf) (why : Undefined) → (says base front).undefined ≡ Some why → (says base (front ++ more)).undefined ≡ Some why
stays_undefined base front more why e = ap (λ (t : State). t.undefined) (run-append (begin base) front more) ∙ run_undefined (says base front) more why e

-- ---- the first use without a definition

-- some tokens that hold such a use behind their first ones say that it has none
pub undefined_within : (text : Text) (base : Option Text) (tokens : List Token) (why : Undefined) (use_at : Token) → IsFirstUndefined text base tokens why use_at
    → (more : List Token) (all : List Leaf) → AreLeaves text (tokens ++ more) all → (says base all).undefined ≡ Some why
undefined_within text base tokens why use_at first more all are =
    let whole : AreLeaves text (first.front ++ use_at ∷ (first.more ++ more)) all =
    subst (λ ts. AreLeaves text ts all) (ap (λ ts. ts ++ more) first.are ∙ append_assoc first.front (use_at ∷ first.more) more) are in
    let parted = parted_leaves text first.front (use_at ∷ (first.more ++ more)) all whole in
    let before : first.leaves ≡ parted.before = same_leaves text first.front first.leaves parted.before first.before parted.of_front in
    by parted.behind parted.of_more (parted.are ∙ ap (λ ls. ls ++ parted.behind) (sym before))
  where
    by : (behind : List Leaf) → AreLeaves text (use_at ∷ (first.more ++ more)) behind → all ≡ first.leaves ++ behind → (says base all).undefined ≡ Some why
    by [] none e = absurd none
    by (leaf ∷ behind) are e =
        let here : first.use_leaf ≡ leaf = one_leaf text use_at first.use_leaf leaf first.here are.0 in
        let parts : all ≡ (first.leaves ++ first.use_leaf ∷ []) ++ behind = e ∙ ap (λ l. first.leaves ++ l ∷ behind) (sym here) ∙ sym (append_assoc first.leaves (first.use_leaf ∷ []) behind) in
        subst (λ ls. (says base ls).undefined ≡ Some why) (sym parts) (stays_undefined base (first.leaves ++ first.use_leaf ∷ []) behind why first.undefined)

-- where two tokens stand in one list
pub data Places {A : Type 0} (front : List A) (x : A) (other : List A) (y : A) : Type 0 where
  at_once : front ≡ other → x ≡ y → Places front x other y
  stands_before : (rest : List A) → other ≡ front ++ x ∷ rest → Places front x other y
  stands_behind : (rest : List A) → front ≡ other ++ y ∷ rest → Places front x other y

module _ {A : Type 0} where
  also_first : (x y z w : A) (front other : List A) → z ≡ w → Places front x other y → Places (z ∷ front) x (w ∷ other) y
  also_first x y z w front other e (at_once p q) = at_once (λ i. e i ∷ p i) q
  also_first x y z w front other e (stands_before rest p) = stands_before rest (λ i. sym e i ∷ p i)
  also_first x y z w front other e (stands_behind rest p) = stands_behind rest (λ i. e i ∷ p i)

  pub places : (front : List A) (x : A) (more : List A) (other : List A) (y : A) (others : List A) → front ++ x ∷ more ≡ other ++ y ∷ others → Places front x other y
  places [] x more [] y others e = at_once refl (let head : x ≡ y = cc in head)
  places [] x more (w ∷ other) y others e = let head : x ≡ w = cc in stands_before other (ap (λ z. z ∷ other) (sym head))
  places (z ∷ front) x more [] y others e = let head : z ≡ y = cc in stands_behind front (ap (λ w. w ∷ front) head)
  places (z ∷ front) x more (w ∷ other) y others e =
      let head : z ≡ w = cc in
      let tail : front ++ x ∷ more ≡ other ++ y ∷ others = cc in
      also_first x y z w front other head (places front x more other y others tail)

-- before the one use there is no other
not_before : (text : Text) (base : Option Text) (tokens : List Token) (why whys : Undefined) (one other : Token) (x : IsFirstUndefined text base tokens why one)
    (y : IsFirstUndefined text base tokens whys other)
    (rest : List Token) → y.front ≡ x.front ++ one ∷ rest → ⊥
not_before text base tokens why whys one other x y rest e =
    let within : IsFirstUndefined text base y.front why one = record {
      front = x.front;
      more = rest;
      leaves = x.leaves;
      use_leaf = x.use_leaf;
      are = e;
      before = x.before;
      here = x.here;
      defined = x.defined;
      undefined = x.undefined;
    } in
    let none : (says base y.leaves).undefined ≡ Some why =
    undefined_within text base y.front why one within [] y.leaves (subst (λ ts. AreLeaves text ts y.leaves) (sym (append-nil y.front)) y.before) in
    let some : (says base y.leaves).undefined ≡ None = y.defined in
    cc

pub same_use : (text : Text) (base : Option Text) (tokens : List Token) (why whys : Undefined) (one other : Token) → IsFirstUndefined text base tokens why one
    → IsFirstUndefined text base tokens whys other
    → (why ≡ whys) × (one ≡ other)
same_use text base tokens why whys one other x y = by (places x.front one x.more y.front other y.more (sym x.are ∙ y.are))
  where
    by : Places x.front one y.front other → (why ≡ whys) × (one ≡ other)
    by (at_once front here) =
        let leaves : x.leaves ≡ y.leaves = same_leaves text y.front x.leaves y.leaves (subst (λ ts. AreLeaves text ts x.leaves) front x.before) y.before in
        let leaf : x.use_leaf ≡ y.use_leaf = one_leaf text other x.use_leaf y.use_leaf (subst (λ t. IsLeaf text t x.use_leaf) here x.here) y.here in
        let said : (says base (x.leaves ++ x.use_leaf ∷ [])).undefined ≡ (says base (y.leaves ++ y.use_leaf ∷ [])).undefined =
        λ i. (says base (leaves i ++ leaf i ∷ [])).undefined in
        let whole : Some why ≡ Some whys = sym x.undefined ∙ said ∙ y.undefined in
        let inside : why ≡ whys = cc in
        (inside, here)
    by (stands_before rest e) = absurd (not_before text base tokens why whys one other x y rest e)
    by (stands_behind rest e) = absurd (not_before text base tokens whys why other one y x rest e)

-- one more token behind such a use
pub use_stays : (text : Text) (base : Option Text) (tokens : List Token) (why : Undefined) (use_at next : Token) → IsFirstUndefined text base tokens why use_at
    → IsFirstUndefined text base (tokens ++ next ∷ []) why use_at
use_stays text base tokens why use_at next x = record {
  front = x.front;
  more = x.more ++ next ∷ [];
  leaves = x.leaves;
  use_leaf = x.use_leaf;
  are = ap (λ ts. ts ++ next ∷ []) x.are ∙ append_assoc x.front (use_at ∷ x.more) (next ∷ []);
  before = x.before;
  here = x.here;
  defined = x.defined;
  undefined = x.undefined;
}
