-- The order of all nodes that begins with the lists of a tie.
use Rattle.std.proofs.Common.{◌≡◌, ℕ, suc, ◌+◌, ◌<◌, ◌⊎◌, true, List, [], ◌∷◌, ◌++◌, cond, take, get_or, length, All, inl, inr, refl, sym, ap, ◌∙◌, arith, true≢false}
use Rattle.std.proofs.lemmas.List.{take_more}
use Rattle.rdf_terms.proofs.Common.{In, numbers_below, each-from_All, from_In-numbers_below, In-numbers_below}
use Rattle.id_issuer.specs.IssuedList.{list_with}
use Rattle.canonical_writer.specs.Determined.{ListsNodes}
use Rattle.canon_model.specs.Issuer.{issue, issue_each, is_issued}
use Rattle.canon_model.proofs.Issuers.{is_issued-place_of, In-from_is_issued, is_issued-from_In, are_distinct_from_once}
use Rattle.canon_model.proofs.IssuedLists.{issue_each-once, issue_each-issued, issued_issue_each_from}
use Rattle.other_output.specs.Along.{nodes_along}

list_with-issue : (list : List ℕ) (n : ℕ) → list_with list n ≡ issue list n
list_with-issue list n = ap (λ b. cond b list (list ++ n ∷ [])) (sym (is_issued-place_of n list))

issue_each-append : (c xs ys : List ℕ) → issue_each c (xs ++ ys) ≡ issue_each (issue_each c xs) ys
issue_each-append c [] ys = refl
issue_each-append c (x ∷ xs) ys = issue_each-append (issue c x) xs ys

issued_one_more : (c xs list new : List ℕ) (n : ℕ) → list ≡ issue_each c xs → new ≡ list_with list n → new ≡ issue_each c (xs ++ n ∷ [])
issued_one_more c xs list new n h e = e ∙ list_with-issue list n ∙ ap (λ w. issue w n) h ∙ sym (issue_each-append c xs (n ∷ []))

pub issued_more : (c nodes list new : List ℕ) (i d : ℕ) → i < length nodes → list ≡ issue_each c (take i nodes) → new ≡ list_with list (get_or nodes i d)
    → new ≡ issue_each c (take (i + 1) nodes)
issued_more c nodes list new i d l h e = issued_one_more c (take i nodes) list new (get_or nodes i d) h e ∙ ap (issue_each c) (sym (take_more nodes i d l))

pub issued_below_more : (c list new : List ℕ) (n : ℕ) → list ≡ issue_each c (numbers_below n) → new ≡ list_with list n → new ≡ issue_each c (numbers_below (n + 1))
issued_below_more c list new n h e =
    let next : suc n ≡ n + 1 = omega arith in
    issued_one_more c (numbers_below n) list new n h e ∙ ap (λ k. issue_each c (numbers_below k)) next

-- where the lists hold nodes, the order has each node once
module _ (nodes : ℕ) (c r : List ℕ) (c_low : All (λ n. n < nodes) c) (r_low : All (λ n. n < nodes) r) where
  low_of_r : (n : ℕ) → (is_issued n (issue_each [] c) ≡ true) ⊎ In n r → n < nodes
  low_of_r n (inr h) = each-from_All (λ n. n < nodes) r n r_low h
  low_of_r n (inl h) = elim (issued_issue_each_from [] c n h) [ inl e ↦ absurd (true≢false (sym e)) | inr i ↦ each-from_All (λ n. n < nodes) c n c_low i ]

  low : (n : ℕ) → (is_issued n (issue_each (issue_each [] c) r) ≡ true) ⊎ In n (numbers_below nodes) → n < nodes
  low n (inr h) = from_In-numbers_below nodes n h
  low n (inl h) = low_of_r n (issued_issue_each_from (issue_each [] c) r n h)

  pub lists_nodes-along : ListsNodes nodes (nodes_along nodes c r)
  lists_nodes-along = record {
    distinct = are_distinct_from_once (nodes_along nodes c r) (issue_each-once _ (numbers_below nodes) (issue_each-once _ r (issue_each-once [] c tt)));
    all = λ n. (
      (λ h. low n (issued_issue_each_from _ (numbers_below nodes) n (is_issued-from_In n (nodes_along nodes c r) h))),
      (λ h. In-from_is_issued n (nodes_along nodes c r) (issue_each-issued _ (numbers_below nodes) n (In-numbers_below nodes n h))),
    );
  }
