-- The labels of several quads get their numbers one quad after the other.
use Rattle.std.proofs.Common.{◌≡◌, ℕ, ◌+◌, ◌<◌, List, [], ◌∷◌, ◌++◌, All, map, length, take, get_or, sym, ap, subst, ◌∙◌, add-one, append-nil}
use Rattle.std.specs.List.{flat_map, AllZip}
use Rattle.std.proofs.Math.Seq.{take-suc}
use Rattle.std.proofs.lemmas.Grind.{flat_map-append}
use Rattle.std.proofs.lemmas.List.{map-append}
use Rattle.std.proofs.lemmas.List.Elements.{All-nil, All-cons, All-head, All-tail}
use Rattle.rdf_terms.proofs.Common.{IsValidStatement, AddsAll, statement_of, AddsAll-append, AddsAll-extends}
use Rattle.rdf_terms.specs.declared.term.Label.{Label}
use Rattle.rdf_terms.specs.declared.term_ref.StatementRef.{StatementRef}
use Rattle.nquads_reader.specs.declared.quad.StatedQuad.{StatedQuad}
use Rattle.nquads_reader.specs.Document.{mentioned, IsStatementOf}
use Rattle.nquads_reader.specs.Reading.{IsValidQuad}
use Rattle.nquads_reader.proofs.Numbering.{statements_kept, statement_valid}

pub AllZip-append : {A B : Type 0} (R : A → B → Type 0) (xs : List A) (ys : List B) (more : List A) (others : List B) → AllZip R xs ys → AllZip R more others → AllZip R (xs ++ more) (ys ++ others)
AllZip-append R [] [] more others h k = k
AllZip-append R [] (y ∷ ys) more others h k = absurd h
AllZip-append R (x ∷ xs) [] more others h k = absurd h
AllZip-append R (x ∷ xs) (y ∷ ys) more others h k = (h.0, AllZip-append R xs ys more others h.1 k)

-- ---- one more quad

module _ (quads : List StatedQuad) (i : ℕ) (q : StatedQuad) (less : i < length quads) (is : q ≡ get_or quads i q) (start old new : List Label) (adds : AddsAll old (mentioned q) new) where
  take-next : take (i + 1) quads ≡ take i quads ++ q ∷ []
  take-next = ap (λ n. take n quads) (add-one i) ∙ take-suc quads i q less ∙ ap (λ x. take i quads ++ x ∷ []) (sym is)

  pub labels_next : AddsAll start (flat_map mentioned (take i quads)) old → AddsAll start (flat_map mentioned (take (i + 1) quads)) new
  labels_next h =
      let next : flat_map mentioned (take (i + 1) quads) ≡ flat_map mentioned (take i quads) ++ mentioned q =
      ap (flat_map mentioned) take-next ∙ flat_map-append mentioned (take i quads) (q ∷ []) ∙ ap (λ ls. flat_map mentioned (take i quads) ++ ls) (append-nil (mentioned q)) in
      subst (λ ls. AddsAll start ls new) (sym next) (AddsAll-append start (flat_map mentioned (take i quads)) old (mentioned q) new h adds)

  pub numbers_next : (refs : List StatementRef) (ref : StatementRef) → IsStatementOf new q (statement_of ref) → AllZip (IsStatementOf old) (take i quads) (map statement_of refs)
      → AllZip (IsStatementOf new) (take (i + 1) quads) (map statement_of (refs ++ ref ∷ []))
  numbers_next refs ref one h =
      let kept = statements_kept old new (AddsAll-extends old (mentioned q) new adds) (take i quads) (map statement_of refs) h in
      rw (take-next, map-append statement_of refs (ref ∷ [])) (AllZip-append (IsStatementOf new) (take i quads) (map statement_of refs) (q ∷ []) (statement_of ref ∷ []) kept (one, tt))

-- ---- all of them are valid

pub refs_valid : (labels : List Label) (quads : List StatedQuad) (refs : List StatementRef) → All IsValidQuad quads → AllZip (IsStatementOf labels) quads (map statement_of refs)
    → All (λ q. IsValidStatement (length labels) (statement_of q)) refs
refs_valid labels [] [] valid h = All-nil (λ q. IsValidStatement (length labels) (statement_of q))
refs_valid labels [] (r ∷ rs) valid h = absurd h
refs_valid labels (q ∷ qs) [] valid h = absurd h
refs_valid labels (q ∷ qs) (r ∷ rs) valid h =
    All-cons (λ s. IsValidStatement (length labels) (statement_of s)) r rs (statement_valid labels q (statement_of r) (All-head IsValidQuad q qs valid) h.0)
    (refs_valid labels qs rs (All-tail IsValidQuad q qs valid) h.1)
