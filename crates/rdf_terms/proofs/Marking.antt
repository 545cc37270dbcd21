-- A table of marks: which blank nodes stand among the first terms of a table.
use Rattle.std.proofs.Common.{◌≡◌, ◌↔◌, ℕ, ◌+◌, ◌<◌, ◌⊎◌, Bool, true, false, List, [], ◌∷◌, ◌++◌, Some, slice_get, slice_set, length, take, inl, inr, refl, sym, ap, subst, ◌∙◌, true≢false, arith, get_or-set_same, get_or-set_other, length-set}
use Rattle.std.proofs.lemmas.List.{take_more}
use Rattle.std.proofs.lemmas.Option.{get_or_from_slice_get, slice_get_within}
use Rattle.rdf_terms.specs.Lists.{In}
use Rattle.rdf_terms.specs.Document.{mark_in, with_mark}
use Rattle.rdf_terms.specs.declared.term.Term.{Term}
use Rattle.rdf_terms.specs.declared.term.Term.TheVariants.{Iri, Blank, Literal}
use Rattle.rdf_terms.proofs.Membership.{In-append, In-append_left, In-append_right}

-- the marks are those of the blank nodes among the terms
pub record Marks (marks : List Bool) (nodes : ℕ) (terms : List Term) : Type 0 where
  pub len : length marks ≡ nodes
  pub marked : (n : ℕ) → mark_in marks n ≡ true → In (Blank n) terms
  pub all_marked : (n : ℕ) → In (Blank n) terms → mark_in marks n ≡ true

module _ (marks : List Bool) (nodes : ℕ) (terms : List Term) (k : ℕ) (t : Term) (at : slice_get terms k ≡ Some t) (h : Marks marks nodes (take k terms)) where
  more : take (k + 1) terms ≡ take k terms ++ t ∷ []
  more = take_more terms k t (slice_get_within terms k t at) ∙ ap (λ x. take k terms ++ x ∷ []) (get_or_from_slice_get terms k t t at)

  pub Marks-other : ((n : ℕ) → ¬ (t ≡ Blank n)) → Marks marks nodes (take (k + 1) terms)
  Marks-other other = record {
    len = h.len;
    marked = λ n m. subst (In (Blank n)) (sym more) (In-append_left (take k terms) (t ∷ []) (Blank n) (h.marked n m));
    all_marked = λ n i. by n (In-append (take k terms) (t ∷ []) (Blank n) (subst (In (Blank n)) more i));
  }
    where
      by : (n : ℕ) → In (Blank n) (take k terms) ⊎ In (Blank n) (t ∷ []) → mark_in marks n ≡ true
      by n (inl i) = h.all_marked n i
      by n (inr (inl e)) = absurd (other n (sym e))
      by n (inr (inr z)) = absurd z

  pub Marks-blank : (b : ℕ) (new : List Bool) → t ≡ Blank b → b < nodes → new ≡ slice_set marks b true → Marks new nodes (take (k + 1) terms)
  Marks-blank b new is low set = record {
    len = ap length set ∙ length-set marks b true ∙ h.len;
    marked = λ n m. subst (In (Blank n)) (sym more) (there n (same n b) m);
    all_marked = λ n i. by n (same n b) (In-append (take k terms) (t ∷ []) (Blank n) (subst (In (Blank n)) more i));
  }
    where
      same : (n b : ℕ) → (n ≡ b) ⊎ (¬ (n ≡ b))
      same n b = grind arith

      room : b < length marks
      room = omega (arith, h.len, low)

      at_b : (n : ℕ) → n ≡ b → mark_in new n ≡ true
      at_b n e = ap (mark_in new) e ∙ ap (λ l. mark_in l b) set ∙ get_or-set_same marks b true false room

      at_other : (n : ℕ) → (¬ (n ≡ b)) → mark_in new n ≡ mark_in marks n
      at_other n ne = ap (λ l. mark_in l n) set ∙ get_or-set_other marks b n true false ne

      there : (n : ℕ) → (n ≡ b) ⊎ (¬ (n ≡ b)) → mark_in new n ≡ true → In (Blank n) (take k terms ++ t ∷ [])
      there n (inl e) m = In-append_right (take k terms) (t ∷ []) (Blank n) (inl (ap Blank e ∙ sym is))
      there n (inr ne) m = In-append_left (take k terms) (t ∷ []) (Blank n) (h.marked n (sym (at_other n ne) ∙ m))

      blank_is : (n b : ℕ) → Blank n ≡ Blank b → n ≡ b
      blank_is n b e = cc

      by : (n : ℕ) → (n ≡ b) ⊎ (¬ (n ≡ b)) → In (Blank n) (take k terms) ⊎ In (Blank n) (t ∷ []) → mark_in new n ≡ true
      by n (inl e) i = at_b n e
      by n (inr ne) (inl i) = at_other n ne ∙ h.all_marked n i
      by n (inr ne) (inr (inl e)) = let x : n ≡ b = blank_is n b (e ∙ is) in absurd (ne x)
      by n (inr ne) (inr (inr z)) = absurd z

pub Marks-mark : (marks : List Bool) (nodes : ℕ) (terms : List Term) (k : ℕ) (t : Term) (new : List Bool) → slice_get terms k ≡ Some t → ((n : ℕ) → t ≡ Blank n → n < nodes)
    → new ≡ with_mark marks t → Marks marks nodes (take k terms) → Marks new nodes (take (k + 1) terms)
Marks-mark marks nodes terms k (Iri i) new at low e h = rw e (Marks-other marks nodes terms k (Iri i) at h (λ n x. cc))
Marks-mark marks nodes terms k (Blank b) new at low e h = Marks-blank marks nodes terms k (Blank b) at h b new refl (low b refl) e
Marks-mark marks nodes terms k (Literal l) new at low e h = rw e (Marks-other marks nodes terms k (Literal l) at h (λ n x. cc))

-- with no mark, none is set, and no node is there
pub mark_in-nil : (terms : List Term) → ((n : ℕ) → ¬ In (Blank n) terms) → (n : ℕ) → (mark_in [] n ≡ true) ↔ In (Blank n) terms
mark_in-nil terms none n = (λ m. absurd (true≢false (sym m)), λ i. absurd (none n i))
