-- What adding one quad after the other makes of a draft.
use Rattle.std.proofs.Common.{◌≡◌, ◌+◌, ◌≤◌, map, List, [], ◌∷◌, ◌++◌, length, refl, sym, ap, subst, arith, All}
use Rattle.std.proofs.lemmas.List.Elements.{All-head, All-tail, All-map}
use Rattle.std.proofs.lemmas.List.{length-map}
use Rattle.rdf_terms.specs.Lists.{AreDistinct}
use Rattle.rdf_terms.specs.Terms.{Statement, IsValidStatement}
use Rattle.rdf_terms.specs.Document.{Document, statements, Adds, AddsAll, Extends, Numbers, NumbersNext, NumbersAll, IsDraft}
use Rattle.rdf_terms.specs.declared.term.Term.{Term}
use Rattle.rdf_terms.specs.declared.term.Quad.{Quad}
use Rattle.rdf_terms.specs.declared.limits.TheConstants.{MOST_QUADS}
use Rattle.rdf_terms.specs.declared.term.Label.{Label}
use Rattle.rdf_terms.specs.declared.term_ref.StatementRef.{StatementRef}
use Rattle.rdf_terms.specs.References.{statement_of}
use Rattle.rdf_terms.proofs.Adding.{Added-adds}
use Rattle.rdf_terms.proofs.Membership.{length-adds}

pub AddsAll-push : {A : Type 0} (old xs mid : List A) (x : A) (new : List A) → AddsAll old xs mid → Adds mid x new → AddsAll old (xs ++ x ∷ []) new
AddsAll-push old [] mid x new h a = (new, subst (λ o. Adds o x new) h a, refl)
AddsAll-push old (y ∷ ys) mid x new h a = (h.0, h.1, AddsAll-push h.0 ys mid x new h.2 a)

pub NumbersAll-push : (old : List Term) (sts : List Statement) (qs : List Quad) (mid : List Term) (st : Statement) (q : Quad) (new : List Term) → NumbersAll old sts qs mid → Numbers mid new st q
    → Extends mid new → AreDistinct new
    → NumbersAll old (sts ++ st ∷ []) (qs ++ q ∷ []) new
NumbersAll-push old [] [] mid st q new h n e d = (new, subst (λ o. NumbersNext o st q new) h (record { numbers = n; extends = e; distinct = d }), refl)
NumbersAll-push old [] (p ∷ qs) mid st q new h n e d = absurd h
NumbersAll-push old (s ∷ sts) [] mid st q new h n e d = absurd h
NumbersAll-push old (s ∷ sts) (p ∷ qs) mid st q new h n e d = (h.0, h.1, NumbersAll-push h.0 sts qs mid st q new h.2 n e d)

module _ (labels : List Label) where
  abbrev draft_of : List Term → List Quad → Document
  draft_of terms quads = record { terms = terms; quads = quads; labels = labels }

  pub record AddedAll (ts us : List Term) (old new : List Quad) (sts : List Statement) : Type 0 where
    pub draft : IsDraft (draft_of us new)
    pub adds : AddsAll (statements (draft_of ts old)) sts (statements (draft_of us new))

  pub added_all : (ts us : List Term) (old new : List Quad) (sts : List Statement) (qs : List Quad) → IsDraft (draft_of ts old) → NumbersAll ts sts qs us → AddsAll old qs new
      → All (IsValidStatement (length labels)) sts → length old + length sts ≤ MOST_QUADS → AddedAll ts us old new sts
  added_all ts us old new [] [] d n a v room =
      let same : draft_of us new ≡ draft_of ts old = λ i. record { terms = n i; quads = a i; labels = labels } in
      record { draft = subst IsDraft (sym same) d; adds = ap statements same }
  added_all ts us old new [] (q ∷ qs) d n a v room = absurd n
  added_all ts us old new (st ∷ sts) [] d n a v room = absurd n
  added_all ts us old new (st ∷ sts) (q ∷ qs) d n a v room =
      let longer = length-adds old q a.0 a.1 in
      let one = Added-adds ts n.0 old a.0 labels q st d n.1.extends n.1.distinct n.1.numbers (All-head (IsValidStatement (length labels)) st sts v) (omega (arith, room)) a.1 in
      let rest = added_all n.0 us a.0 new sts qs one.draft n.2 a.2 (All-tail (IsValidStatement (length labels)) st sts v) (omega (arith, room, longer)) in
      record { draft = rest.draft; adds = (statements (draft_of n.0 a.0), one.adds, rest.adds) }

  pub all_valid : (qs : List StatementRef) → All (λ q. IsValidStatement (length labels) (statement_of q)) qs → All (IsValidStatement (length labels)) (map statement_of qs)
  all_valid qs h = All-map (IsValidStatement (length labels)) statement_of qs h

pub same_room : (old : List Quad) (qs : List StatementRef) → length old + length qs ≤ MOST_QUADS → length old + length (map statement_of qs) ≤ MOST_QUADS
same_room old qs h = omega (arith, h, length-map qs statement_of)
