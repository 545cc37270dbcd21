-- What is resolved has a scheme: the reference's, where it has one, and else the base's.
use Rattle.std.proofs.Common.{◌≡◌, ℕ, Bool, not, true, false, [], ◌∷◌, ◌++◌, All, length, take, codes, refl, ap, subst, nat_eq, ◌∙◌, append_assoc, Some, is_some, if◌then◌else◌}
use Rattle.std.specs.List.{position_or_len}
use Rattle.std.proofs.lemmas.List.{take_at}
use Rattle.std.proofs.lemmas.List.Elements.{All-cons, All-weaker}
use Rattle.std.proofs.lemmas.Bool.{ne_eqb, false≢true}
use Rattle.rdf_terms.proofs.Common.{Text, is_scheme_byte, HasScheme}
use Rattle.iri_resolve.specs.Scheme.{begins_with_scheme}
use Rattle.iri_resolve.specs.Components.{Components, components, before, scheme_of}
use Rattle.iri_resolve.specs.Resolution.{target, behind, recomposed, resolved}
use Rattle.iri_resolve.proofs.Schemes.{prefix_len-stopped, may_stand, begins_with_scheme-HasScheme}
use Rattle.iri_resolve.proofs.Targets.{target-scheme, target-authority, target-empty, target-path}

HasScheme-append : (text more : Text) → HasScheme text → HasScheme (text ++ more)
HasScheme-append text more h = record {
  letter = h.letter;
  more = h.more;
  rest = h.rest ++ more;
  spelled = ap (λ t. t ++ more) h.spelled ∙ ap (λ t. h.letter ∷ t) (append_assoc h.more (58 ∷ h.rest) more);
  begins = h.begins;
  goes_on = h.goes_on;
}

-- no byte of a scheme is a `:`
not_colon : (c : ℕ) → is_scheme_byte c ≡ true → not (nat_eq c 58) ≡ true
not_colon c may = ap not (ne_eqb c 58 (λ e. false≢true (subst (λ x. is_scheme_byte x ≡ true) e may)))

-- the first `:` behind a scheme is its own
pub position-colon : (text : Text) (h : HasScheme text) (rest : Text) → position_or_len (λ c. nat_eq c 58) ((h.letter ∷ h.more) ++ 58 ∷ rest) ≡ length (h.letter ∷ h.more)
position-colon text h rest =
    let all : All (λ c. not (nat_eq c 58) ≡ true) (h.letter ∷ h.more) = All-cons (λ c. not (nat_eq c 58) ≡ true) h.letter h.more (not_colon h.letter (may_stand h.letter h.begins))
    (All-weaker (λ c. is_scheme_byte c ≡ true) (λ c. not (nat_eq c 58) ≡ true) not_colon h.more h.goes_on) in
    prefix_len-stopped (λ c. not (nat_eq c 58)) (h.letter ∷ h.more) rest 58 all refl

-- the scheme with its `:`
HasScheme-before_colon : (text : Text) → HasScheme text → HasScheme (before 58 text ++ codes ":")
HasScheme-before_colon text h =
    let front : before 58 text ≡ h.letter ∷ h.more = ap (before 58) h.spelled ∙ ap (λ m. take m ((h.letter ∷ h.more) ++ 58 ∷ h.rest)) (position-colon text h h.rest)
    ∙ take_at (h.letter ∷ h.more) (58 ∷ h.rest) (length (h.letter ∷ h.more)) refl in
    record { letter = h.letter; more = h.more; rest = []; spelled = ap (λ t. t ++ codes ":") front; begins = h.begins; goes_on = h.goes_on }

recomposed-HasScheme : (t : Components) (scheme : Text) → t.scheme ≡ Some scheme → HasScheme (scheme ++ codes ":") → HasScheme (recomposed t)
unfolding recomposed
recomposed-HasScheme t scheme e h =
    rw e
    (HasScheme-append _ (behind (codes "#") t.fragment)
    (HasScheme-append _ (behind (codes "?") t.query) (HasScheme-append _ t.path (HasScheme-append (scheme ++ codes ":") (behind (codes "//") t.authority) h))))

target_scheme : (base reference : Components) → (target base reference).scheme ≡ (if is_some reference.scheme then reference.scheme else base.scheme)
target_scheme base reference = by (is_some reference.scheme) (is_some reference.authority) (nat_eq (length reference.path) 0) refl refl refl
  where
    by : (b c d : Bool) → is_some reference.scheme ≡ b → is_some reference.authority ≡ c → nat_eq (length reference.path) 0 ≡ d
        → (target base reference).scheme ≡ (if is_some reference.scheme then reference.scheme else base.scheme)
    by true c d s a e = rw (← target-scheme base reference s, s) refl
    by false true d s a e = rw (← target-authority base reference s a, s) refl
    by false false true s a e = rw (← target-empty base reference s a e, s) refl
    by false false false s a e = rw (← target-path base reference s a e, s) refl

pub components_scheme : (text : Text) → (components text).scheme ≡ scheme_of text
unfolding components
components_scheme text = refl

pub resolved-HasScheme : (base reference : Text) → HasScheme base → HasScheme (resolved base reference)
unfolding resolved
resolved-HasScheme base reference h = by (begins_with_scheme reference) refl
  where
    base_scheme : begins_with_scheme base ≡ true
    base_scheme = (begins_with_scheme-HasScheme base).1 h

    by : (b : Bool) → begins_with_scheme reference ≡ b → HasScheme (recomposed (target (components base) (components reference)))
    by true e =
        recomposed-HasScheme (target (components base) (components reference)) (before 58 reference)
        (target_scheme (components base) (components reference) ∙ rw (components_scheme reference, e) refl)
        (HasScheme-before_colon reference ((begins_with_scheme-HasScheme reference).0 e))
    by false e =
        recomposed-HasScheme (target (components base) (components reference)) (before 58 base)
        (target_scheme (components base) (components reference) ∙ rw (components_scheme reference, e, components_scheme base, base_scheme) refl)
        (HasScheme-before_colon base h)
