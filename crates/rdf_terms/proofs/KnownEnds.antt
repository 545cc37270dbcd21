-- A term's number stays its number as the table grows.
use Rattle.std.proofs.Common.{◌≡◌, ℕ, ◌<◌, List, Option, Some, None, IfSome, slice_get, sym, ap, ◌∙◌, map, length, get_or}
use Rattle.std.proofs.lemmas.List.{get_or-map}
use Rattle.rdf_terms.specs.Document.{Extends}
use Rattle.rdf_terms.specs.Ends.{number_of, known_in}
use Rattle.rdf_terms.specs.declared.term.Term.{Term}
use Rattle.rdf_terms.specs.declared.term_ref.StatementRef.{StatementRef}
use Rattle.rdf_terms.specs.declared.ends.KnownEnds.{KnownEnds}
use Rattle.rdf_terms.specs.contracts.term.TermPartialEq.TheImpl.{eq-value}
use Rattle.rdf_terms.proofs.Membership.{place_is}
use Rattle.rdf_terms.proofs.Growing.{kept}
use Rattle.rdf_terms.proofs.SameTerm.{terms_tell}

pub known_now : (ts : List Term) (t : Term) (known : Option ℕ) → known ≡ number_of ts t → IfSome known (λ n. slice_get ts n ≡ Some t)
known_now ts t None h = tt
known_now ts t (Some n) h = place_is eq-value.it terms_tell t ts n (sym h)

pub known_kept : (ts us : List Term) (t : Term) (known : Option ℕ) → Extends ts us → IfSome known (λ n. slice_get ts n ≡ Some t) → IfSome known (λ n. slice_get us n ≡ Some t)
known_kept ts us t None e h = tt
known_kept ts us t (Some n) e h = kept ts us n t e h

pub known_there : (ts us : List Term) (t : Term) (known : Option ℕ) → known ≡ number_of ts t → Extends ts us → IfSome known (λ n. slice_get us n ≡ Some t)
known_there ts us t known h e = known_kept ts us t known e (known_now ts t known h)

pub known_at : (ts : List Term) (qs : List StatementRef) (ks : List KnownEnds) (i : ℕ) (q : StatementRef) (d : KnownEnds) → ks ≡ map (known_in ts) qs → i < length qs
    → get_or ks i d ≡ known_in ts (get_or qs i q)
known_at ts qs ks i q d e l = ap (λ xs. get_or xs i d) e ∙ get_or-map (known_in ts) qs i q d l
