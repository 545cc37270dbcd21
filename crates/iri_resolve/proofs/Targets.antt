-- The target by its cases, and the directory of a path.
use Rattle.std.proofs.Common.{◌≡◌, ◌≢◌, ℕ, ◌+◌, ◌<◌, Bool, true, false, ◌||◌, [], ◌∷◌, length, take, get_or, refl, sym, ◌∙◌, arith, nat_eq, Option, Some, None, is_some, if◌then◌else◌, Bor}
use Rattle.std.specs.List.{list_any}
use Rattle.std.specs.Option.{option_copied, option_or}
use Rattle.std.proofs.lemmas.List.{take_more, get_or_default}
use Rattle.std.proofs.lemmas.List.Folds.{list_any_at, list_any_none}
use Rattle.std.proofs.lemmas.Bool.{eq-eqb, ne_eqb, eqb-true, false≢true, or_parts}
use Rattle.rdf_terms.specs.Lists.{Text}
use Rattle.iri_resolve.specs.Components.{Components}
use Rattle.iri_resolve.specs.DotSegments.{without_dot_segments}
use Rattle.iri_resolve.specs.Resolution.{target, merged, up_to_last_slash, begins_with_slash}
use Rattle.iri_resolve.proofs.Turns.{last_place}

-- ---- parts of a text that may be missing

pub is_some-option_copied : (o : Option (Bor Text)) (b : Bool) → b ≡ is_some o → is_some (option_copied o) ≡ b
is_some-option_copied None b e = sym e
is_some-option_copied (Some x) b e = sym e

pub option_copied-or : (o p : Option (Bor Text)) → option_copied (option_or o p) ≡ (if is_some (option_copied o) then option_copied o else option_copied p)
option_copied-or None p = refl
option_copied-or (Some x) p = refl

-- ---- the directory

pub up_to_last_slash-found : (path : Text) (k : ℕ) → k < length path → get_or path k 0 ≡ 47 → ((i : ℕ) → k < i → i < length path → get_or path i 0 ≢ 47) → take (k + 1) path ≡ up_to_last_slash path
up_to_last_slash-found path k within at after =
    let some : list_any (λ b. nat_eq b 47) path ≡ true = list_any_at (λ b. nat_eq b 47) path k 0 within (eq-eqb (get_or path k 0) 47 at) in
    rw (some, ← last_place path k within at after, take_more path k 0 within, at) refl

pub up_to_last_slash-none : (path : Text) → ((i : ℕ) → i < length path → get_or path i 0 ≢ 47) → [] ≡ up_to_last_slash path
up_to_last_slash-none path none =
    let no : list_any (λ b. nat_eq b 47) path ≡ false = list_any_none (λ b. nat_eq b 47) path (λ k d l. ne_eqb (get_or path k d) 47 (λ e. none k l (get_or_default path k 0 d l ∙ e))) in rw no refl

-- ---- the target

empty_has_no_slash : (path : Text) → length path ≡ 0 → get_or path 0 0 ≡ 47 → ⊥
empty_has_no_slash [] empty slash = absurd (omega arith)
empty_has_no_slash (c ∷ cs) empty slash = absurd (omega arith)

module _ (base reference : Components) where
  abbrev with_path : Option Text → Option Text → Text → Option Text → Components
  with_path scheme authority path query = record { scheme = scheme; authority = authority; path = path; query = query; fragment = reference.fragment }

  pub target-scheme : is_some reference.scheme ≡ true → with_path reference.scheme reference.authority (target base reference).path reference.query ≡ target base reference
  unfolding target
  target-scheme s = rw s refl

  pub target-authority : is_some reference.scheme ≡ false → is_some reference.authority ≡ true
      → with_path base.scheme reference.authority (target base reference).path reference.query ≡ target base reference
  unfolding target
  target-authority s a = rw (s, a) refl

  pub target-empty : is_some reference.scheme ≡ false → is_some reference.authority ≡ false → nat_eq (length reference.path) 0 ≡ true →
      with_path base.scheme base.authority (target base reference).path (if is_some reference.query then reference.query else base.query) ≡ target base reference
  unfolding target
  target-empty s a e = rw (s, a, e) refl

  pub target-path : is_some reference.scheme ≡ false → is_some reference.authority ≡ false → nat_eq (length reference.path) 0 ≡ false
      → with_path base.scheme base.authority (target base reference).path reference.query ≡ target base reference
  unfolding target
  target-path s a e = by (begins_with_slash reference.path) refl
    where
      by : (b : Bool) → begins_with_slash reference.path ≡ b → with_path base.scheme base.authority (target base reference).path reference.query ≡ target base reference
      by true t = rw (s, a, e, t) refl
      by false t = rw (s, a, e, t) refl

  pub target-below : is_some reference.scheme ≡ false → is_some reference.authority ≡ false →
      with_path base.scheme base.authority (target base reference).path (if nat_eq (length reference.path) 0 then (if is_some reference.query then reference.query else base.query)
      else reference.query) ≡ target base reference
  target-below s a = by (nat_eq (length reference.path) 0) refl
    where
      by : (b : Bool) → nat_eq (length reference.path) 0 ≡ b → with_path base.scheme base.authority (target base reference).path
          (if nat_eq (length reference.path) 0 then (if is_some reference.query then reference.query else base.query) else reference.query) ≡ target base reference
      by true e = rw e (target-empty s a e)
      by false e = rw e (target-path s a e)

  pub path-own : (is_some reference.scheme || (is_some reference.authority || begins_with_slash reference.path)) ≡ true → without_dot_segments reference.path ≡ (target base reference).path
  unfolding target
  path-own own = by (is_some reference.scheme) (is_some reference.authority) (nat_eq (length reference.path) 0) (begins_with_slash reference.path) refl refl refl refl own
    where
      by : (b c d e : Bool) → is_some reference.scheme ≡ b → is_some reference.authority ≡ c → nat_eq (length reference.path) 0 ≡ d → begins_with_slash reference.path ≡ e
          → (is_some reference.scheme || (is_some reference.authority || begins_with_slash reference.path)) ≡ true → without_dot_segments reference.path ≡ (target base reference).path
      by true c d e s a l t own = rw s refl
      by false true d e s a l t own = rw (s, a) refl
      by false false true true s a l t own = absurd (empty_has_no_slash reference.path (eqb-true (length reference.path) 0 l) (eqb-true (get_or reference.path 0 0) 47 t))
      by false false true false s a l t own = absurd (false≢true (sym t ∙ rw (s, a) at own))
      by false false false true s a l t own = rw (s, a, l, t) refl
      by false false false false s a l t own = absurd (false≢true (sym t ∙ rw (s, a) at own))

  abbrev NotOwn : Type 0
  NotOwn = (is_some reference.scheme || (is_some reference.authority || begins_with_slash reference.path)) ≡ false

  pub path-empty : NotOwn → nat_eq (length reference.path) 0 ≡ true → base.path ≡ (target base reference).path
  unfolding target
  path-empty not_own e =
      let p = or_parts (is_some reference.scheme) (is_some reference.authority || begins_with_slash reference.path) not_own in
      let s = p.0 in
      let a = (or_parts (is_some reference.authority) (begins_with_slash reference.path) p.1).0 in
      rw (s, a, e) refl

  pub path-merged : NotOwn → nat_eq (length reference.path) 0 ≡ false → without_dot_segments (merged base reference.path) ≡ (target base reference).path
  unfolding target
  path-merged not_own e =
      let p = or_parts (is_some reference.scheme) (is_some reference.authority || begins_with_slash reference.path) not_own in
      let q = or_parts (is_some reference.authority) (begins_with_slash reference.path) p.1 in
      let s = p.0 in
      let a = q.0 in
      let t = q.1 in
      rw (s, a, e, t) refl
