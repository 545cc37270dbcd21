-- Paths without dot segments: they stay as they are, and one may be put behind the directory of another.
use Rattle.std.proofs.Common.{◌≡◌, ℕ, suc, ◌+◌, ◌<◌, ◌≤◌, Bool, true, false, [], ◌∷◌, ◌++◌, length, take, drop, get_or, refl, sym, ap, ◌∙◌, arith, nat_eq, not, subst, append_assoc}
use Rattle.std.specs.List.{position_or_len}
use Rattle.std.proofs.lemmas.List.{take-append-drop, take-append-le, drop-append-le, append-nil}
use Rattle.std.proofs.lemmas.List.Sums.{prefix_len-le-length}
use Rattle.std.proofs.lemmas.Bool.{true≢false, ne_eqb}
use Rattle.rdf_terms.specs.Lists.{Text}
use Rattle.iri_resolve.specs.DotSegments.{first_segment_len, without_dot_segments}
use Rattle.iri_resolve.specs.Resolution.{begins_with_slash}
use Rattle.iri_resolve.specs.PlainPaths.{IsPlainSegment, IsDotless}
use Rattle.iri_resolve.specs.PlainPaths.IsDotless.{Ended, Goes}
use Rattle.iri_resolve.proofs.Turns.{LeadsTo, LeadsTo-start, LeadsTo-turn, LeadsTo-end, turn_other, after-shorter}

-- ---- a path without dot segments stays as it is

moves : (path input output : Text) → IsDotless input → LeadsTo path input output → output ++ input ≡ without_dot_segments path
moves path input output Ended h = append-nil output ∙ LeadsTo-end path [] output refl h
moves path input output (Goes rest some is plain more) h =
    let segment : Text = take (first_segment_len input) input in
    let turned = turn_other input segment rest output refl is plain.dot plain.dots plain.slash_dot plain.slash_dots in
    let led = LeadsTo-turn path input output rest (output ++ segment) some (after-shorter input segment rest output refl is some) turned h in
    let whole : segment ++ rest ≡ input = ap (λ l. segment ++ l) is ∙ take-append-drop (first_segment_len input) input in
    ap (λ l. output ++ l) (sym whole) ∙ sym (append_assoc output segment rest) ∙ moves path rest (output ++ segment) more led

pub without_dot_segments-dotless : (path : Text) → IsDotless path → without_dot_segments path ≡ path
without_dot_segments-dotless path h = sym (moves path path [] h (LeadsTo-start path))

-- ---- a path behind a directory

abbrev pub is_slash : ℕ → Bool
is_slash b = nat_eq b 47

-- the first `/` is not looked for behind one that is there
position-append : (cs more : Text) → position_or_len is_slash (cs ++ 47 ∷ more) ≡ position_or_len is_slash cs
position-append [] more = refl
position-append (c ∷ cs) more = rw (position-append cs more) refl

-- a first segment that ends before a `/` does not see what stands behind that
same_len : (c : ℕ) (cs more : Text) → first_segment_len (c ∷ (cs ++ 47 ∷ more)) ≡ first_segment_len (c ∷ cs)
same_len c cs more = ap (λ n. 1 + n) (position-append cs more)

within : (c : ℕ) (cs : Text) → first_segment_len (c ∷ cs) ≤ length (c ∷ cs)
within c cs = omega (arith, prefix_len-le-length (λ b. not (is_slash b)) cs)

same_front : (c : ℕ) (cs more : Text) → take (first_segment_len (c ∷ (cs ++ 47 ∷ more))) (c ∷ (cs ++ 47 ∷ more)) ≡ take (first_segment_len (c ∷ cs)) (c ∷ cs)
same_front c cs more = ap (λ n. take n (c ∷ (cs ++ 47 ∷ more))) (same_len c cs more) ∙ take-append-le (first_segment_len (c ∷ cs)) (c ∷ cs) (47 ∷ more) (within c cs)

rest_behind : (c : ℕ) (cs more : Text) → drop (first_segment_len (c ∷ (cs ++ 47 ∷ more))) (c ∷ (cs ++ 47 ∷ more)) ≡ drop (first_segment_len (c ∷ cs)) (c ∷ cs) ++ 47 ∷ more
rest_behind c cs more = ap (λ n. drop n (c ∷ (cs ++ 47 ∷ more))) (same_len c cs more) ∙ drop-append-le (first_segment_len (c ∷ cs)) (c ∷ cs) (47 ∷ more) (within c cs)

pub IsDotless-behind : (path : Text) → IsDotless path → (front rest other : Text) → path ≡ front ++ 47 ∷ rest → IsDotless (47 ∷ other) → IsDotless (front ++ 47 ∷ other)
IsDotless-behind path h [] rest other e o = o
IsDotless-behind path Ended (c ∷ cs) rest other e o = absurd (omega (arith, ap length e))
IsDotless-behind path (Goes after some is plain more) (c ∷ cs) rest other e o =
    let left : after ≡ drop (first_segment_len (c ∷ cs)) (c ∷ cs) ++ 47 ∷ rest = is ∙ ap (λ p. drop (first_segment_len p) p) e ∙ rest_behind c cs rest in
    let front : take (first_segment_len path) path ≡ take (first_segment_len (c ∷ (cs ++ 47 ∷ other))) (c ∷ (cs ++ 47 ∷ other)) =
    ap (λ p. take (first_segment_len p) p) e ∙ same_front c cs rest ∙ sym (same_front c cs other) in
    Goes (drop (first_segment_len (c ∷ cs)) (c ∷ cs) ++ 47 ∷ other) (omega arith) (sym (rest_behind c cs other)) (subst IsPlainSegment front plain)
    (IsDotless-behind after more (drop (first_segment_len (c ∷ cs)) (c ∷ cs)) rest other left o)

-- ---- a path that begins with `/`

plain-slash : (segment : Text) → IsPlainSegment segment → IsPlainSegment (47 ∷ segment)
plain-slash segment p = record {
  dot = λ e. let head : 47 ≡ 46 = ap (λ t. get_or t 0 0) e in omega (arith, head);
  dots = λ e. let head : 47 ≡ 46 = ap (λ t. get_or t 0 0) e in omega (arith, head);
  slash_dot = λ e. p.dot (ap (drop 1) e);
  slash_dots = λ e. p.dots (ap (drop 1) e);
}

pub IsDotless-slash : (text : Text) → IsDotless text → 0 < length text → begins_with_slash text ≡ false → IsDotless (47 ∷ text)
IsDotless-slash [] h some below = absurd (omega arith)
IsDotless-slash (c ∷ cs) (Goes rest some' is plain more) some below =
    let n : first_segment_len (47 ∷ c ∷ cs) ≡ suc (first_segment_len (c ∷ cs)) = rw below (omega arith) in
    Goes rest (omega arith) (rw n is) (rw n (plain-slash (take (first_segment_len (c ∷ cs)) (c ∷ cs)) plain)) more

-- ---- segment by segment

pub IsDotless-goes : (path segment rest : Text) → nat_eq (length path) 0 ≡ false → segment ≡ take (first_segment_len path) path → rest ≡ drop (first_segment_len path) path → IsPlainSegment segment
    → IsDotless rest → IsDotless path
IsDotless-goes [] segment rest some s r plain more = absurd (true≢false some)
IsDotless-goes (c ∷ cs) segment rest some s r plain more = Goes rest (omega arith) r (subst IsPlainSegment s plain) more

pub IsDotless-empty : (path : Text) → nat_eq (length path) 0 ≡ true → IsDotless path
IsDotless-empty [] empty = Ended
IsDotless-empty (c ∷ cs) empty = absurd (true≢false (sym empty ∙ ne_eqb (length (c ∷ cs)) 0 (λ e. omega (arith, e))))

pub not_true : (b : Bool) → not b ≡ true → b ≡ false
not_true true e = absurd (true≢false (sym e))
not_true false e = refl
