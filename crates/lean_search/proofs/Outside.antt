-- The steps of the search of a whole graph.
use Rattle.std.proofs.Common.{◌≡◌, ℕ, ◌+◌, ◌<◌, ◌≤◌, ◌⊎◌, Bool, true, false, List, refl, sym, ap, ◌∙◌, subst, inl, inr, true≢false, arith}
use Rattle.rdf_terms.proofs.Common.{In, AreDistinct, Statement, IsUsed, In-map}
use Rattle.rdf_terms.specs.declared.term.Term.{Term}
use Rattle.rdf_terms.specs.declared.term.Term.TheVariants.{Blank}
use Rattle.graph_model.specs.Graphs.{mapped_triple, composed, IsImage, IsLean, IsReached}
use Rattle.graph_model.specs.Components.{IsMapOf}
use Rattle.graph_model.specs.Counts.{IsWithinSearch}
use Rattle.graph_model.specs.Laws.{IsShrunk, IsSettled, IsInTight}
use Rattle.graph_model.proofs.Maps.{mapped_triple-kept, image_lies_within, endomorphisms_compose}
use Rattle.graph_model.proofs.Restricting.{settled_stays_settled, tight_components_are_lean}
use Rattle.lean_search.specs.Outer.{IsInSettled, IsSearching, Marks}

pub search_begins : (limit : ℕ) (G : List Statement) (settled : ℕ → Bool) → AreDistinct G → ((n : ℕ) → settled n ≡ false) → IsSearching limit G Blank G settled 0
search_begins limit G settled d none = record {
  shrunk = record {
    endomorphism = kept;
    is_image = record { distinct = d; carried = kept; nothing_else = λ st there. subst (IsReached Blank G) (mapped_triple-kept Blank st (λ n e. refl)) (In-map (mapped_triple Blank) G st there) };
  };
  settled_are = λ n e. absurd (true≢false (sym e ∙ none n));
  ahead = λ n u e. omega arith;
}
  where
    kept : (st : Statement) → In st G → In (mapped_triple Blank st) G
    kept st there = subst (λ x. In x G) (sym (mapped_triple-kept Blank st (λ n e. refl))) there

pub search_shrinks : (limit : ℕ) (G H I : List Statement) (μ ν : ℕ → Term) (settled : ℕ → Bool) (from : ℕ) (walk : List ℕ) → IsSearching limit G μ H settled from → IsMapOf H walk ν → IsImage ν H I
    → ((n : ℕ) → In n walk → settled n ≡ false) → IsSearching limit G (composed μ ν) I settled from
search_shrinks limit G H I μ ν settled from walk s m image unmarked = record {
  shrunk = endomorphisms_compose G H I μ ν s.shrunk second;
  settled_are = λ n e. moved n (s.settled_are n e);
  ahead = λ n u e. s.ahead n (record { statement = u.statement; there = image_lies_within H I ν second u.statement u.there; mentioned = u.mentioned }) e;
}
  where
    second : IsShrunk H ν I
    second = record { endomorphism = m.endomorphism; is_image = image }

    moved : (n : ℕ) → IsInSettled limit H settled n → IsInSettled limit I settled n
    moved n i = record {
      nodes = i.nodes;
      is_settled = settled_stays_settled H I limit walk i.nodes ν m image (λ k a b. true≢false (sym (i.all k a) ∙ unmarked k b)) i.is_settled;
      there = i.there;
      all = i.all;
    }

pub search_settles : (limit : ℕ) (G H : List Statement) (μ : ℕ → Term) (before after : ℕ → Bool) (from : ℕ) (walk : List ℕ) → IsSearching limit G μ H before from → IsSettled H limit walk
    → Marks walk before after → IsSearching limit G μ H after from
search_settles limit G H μ before after from walk s settled m = record {
  shrunk = s.shrunk;
  settled_are = λ n e. by n (m.only n e);
  ahead = λ n u e. unmarked n u e (before n) refl;
}
  where
    by : (n : ℕ) → (before n ≡ true) ⊎ In n walk → IsInSettled limit H after n
    by n (inl e) = let i = s.settled_are n e in record { nodes = i.nodes; is_settled = i.is_settled; there = i.there; all = λ k h. m.stays k (i.all k h) }
    by n (inr h) = record { nodes = walk; is_settled = settled; there = h; all = m.marks }

    unmarked : (n : ℕ) → IsUsed H n → after n ≡ false → (b : Bool) → before n ≡ b → from ≤ n
    unmarked n u e true f = absurd (true≢false (sym (m.stays n f) ∙ e))
    unmarked n u e false f = s.ahead n u f

above : (a b : ℕ) → a ≤ b → (a ≡ b) ⊎ (a + 1 ≤ b)
above a b l = grind arith

pub search_goes_on : (limit : ℕ) (G H : List Statement) (μ : ℕ → Term) (settled : ℕ → Bool) (from : ℕ) → IsSearching limit G μ H settled from → (settled from ≡ true) ⊎ (¬ (IsUsed H from))
    → IsSearching limit G μ H settled (from + 1)
search_goes_on limit G H μ settled from s passed = record {
  shrunk = s.shrunk;
  settled_are = s.settled_are;
  ahead = λ n u e. by n u e (above from n (s.ahead n u e)) passed;
}
  where
    by : (n : ℕ) → IsUsed H n → settled n ≡ false → (from ≡ n) ⊎ (from + 1 ≤ n) → (settled from ≡ true) ⊎ (¬ (IsUsed H from)) → from + 1 ≤ n
    by n u e (inr l) p = l
    by n u e (inl f) (inl m) = absurd (true≢false (sym m ∙ (ap settled f ∙ e)))
    by n u e (inl f) (inr none) = absurd (none (subst (IsUsed H) (sym f) u))

pub search_ends : (limit : ℕ) (G H : List Statement) (μ : ℕ → Term) (settled : ℕ → Bool) (nodes : ℕ) → IsSearching limit G μ H settled nodes → ((n : ℕ) → IsUsed H n → n < nodes)
    → IsLean H × ((n : ℕ) → IsUsed H n → IsWithinSearch H limit n)
search_ends limit G H μ settled nodes s bound =
    (tight_components_are_lean H (λ st n there e. tight n (is_in n (record { statement = st; there = there; mentioned = e }) (settled n) refl)), λ n u. searched n (is_in n u (settled n) refl))
  where
    is_in : (n : ℕ) → IsUsed H n → (b : Bool) → settled n ≡ b → IsInSettled limit H settled n
    is_in n u true f = s.settled_are n f
    is_in n u false f =
        let l : nodes ≤ n = s.ahead n u f in
        let k : n < nodes = bound n u in
        absurd (omega arith)

    tight : (n : ℕ) → IsInSettled limit H settled n → IsInTight H n
    tight n i = record { nodes = i.nodes; closed = i.is_settled.closed; there = i.there; tight = i.is_settled.tight }

    searched : (n : ℕ) → IsInSettled limit H settled n → IsWithinSearch H limit n
    searched n i = record { nodes = i.nodes; closed = i.is_settled.closed; there = i.there; few = i.is_settled.few }
