-- Identifiers are issued one after the other.
use Rattle.std.proofs.Common.{◌≡◌, ℕ, ◌+◌, ◌<◌, List, [], ◌∷◌, ◌++◌, cond, length, take, get_or, sym, ap, ◌∙◌, refl}
use Rattle.std.proofs.lemmas.List.{take_more}
use Rattle.id_issuer.specs.IssuedList.{list_with}
use Rattle.canon_model.specs.Allowed.{HashPathResult, issue_results}
use Rattle.canon_model.specs.Issuer.{issue, issue_each}
use Rattle.canon_model.proofs.Issuers.{is_issued-place_of}
use Rattle.canon_model.proofs.TwoLists.{issue_results-append}

list_with-issue : (list : List ℕ) (n : ℕ) → list_with list n ≡ issue list n
list_with-issue list n = ap (λ b. cond b list (list ++ n ∷ [])) (sym (is_issued-place_of n list))

issue_each-append : (c xs ys : List ℕ) → issue_each c (xs ++ ys) ≡ issue_each (issue_each c xs) ys
issue_each-append c [] ys = refl
issue_each-append c (x ∷ xs) ys = issue_each-append (issue c x) xs ys

pub issue_each-more : (c nodes list new : List ℕ) (i d : ℕ) → i < length nodes → list ≡ issue_each c (take i nodes) → new ≡ list_with list (get_or nodes i d) → new ≡ issue_each c (take (i + 1) nodes)
issue_each-more c nodes list new i d l h e =
    e ∙ list_with-issue list (get_or nodes i d) ∙ ap (λ w. issue w (get_or nodes i d)) h ∙ sym (issue_each-append c (take i nodes) (get_or nodes i d ∷ []))
    ∙ ap (issue_each c) (sym (take_more nodes i d l))

pub issue_results-more : (c list new : List ℕ) (results : List HashPathResult) (i : ℕ) (r : HashPathResult) → i < length results → r ≡ get_or results i r → list ≡ issue_results c (take i results)
    → new ≡ issue_each list r.issuer
    → new ≡ issue_results c (take (i + 1) results)
issue_results-more c list new results i r l is h e =
    e ∙ ap (λ w. issue_each w r.issuer) h ∙ sym (issue_results-append c (take i results) (r ∷ []))
    ∙ ap (λ q. issue_results c (take i results ++ q ∷ [])) is ∙ ap (issue_results c) (sym (take_more results i r l))
