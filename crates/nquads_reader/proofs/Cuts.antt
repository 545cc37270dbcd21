-- Bytes are cut behind their last line end, and further bytes end further lines.
use Rattle.std.proofs.Common.{◌≡◌, ℕ, ◌<◌, ◌≤◌, Bool, true, false, ◌||◌, ◌&&◌, ◌==◌, List, [], ◌∷◌, ◌++◌, All, length, drop, refl, sym, ap, subst, ◌∙◌, true≢false, arith, append_assoc, append-nil, length-drop, if◌then◌else◌}
use Rattle.std.proofs.lemmas.Bool.{eqb-true, or_parts}
use Rattle.std.proofs.lemmas.List.Elements.{All-nil, All-cons, All-head, All-tail, All-append}
use Rattle.rdf_terms.specs.Lists.{Text}
use Rattle.nquads_reader.specs.Lines.{lines_of, onto_first, begins_with_lf}
use Rattle.nquads_reader.specs.Pieces.{is_line_end, IsEnded, ends_with_cr, IsCut}
use Rattle.nquads_reader.specs.Feeding.{ended_lines, tail_behind, behind_line_end}

abbrev IsInside : ℕ → Type 0
IsInside c = is_line_end c ≡ false

-- ---- the first line

at_lf : (c : ℕ) (cs : Text) → (c == 10) ≡ true → lines_of (c ∷ cs) ≡ [] ∷ lines_of cs
at_lf c cs lf = rw lf refl

at_crlf : (c : ℕ) (cs : Text) → (c == 10) ≡ false → (c == 13) ≡ true → begins_with_lf cs ≡ true → lines_of (c ∷ cs) ≡ lines_of cs
at_crlf c cs lf cr next = rw (lf, cr, next) refl

at_cr : (c : ℕ) (cs : Text) → (c == 10) ≡ false → (c == 13) ≡ true → begins_with_lf cs ≡ false → lines_of (c ∷ cs) ≡ [] ∷ lines_of cs
at_cr c cs lf cr next = rw (lf, cr, next) refl

inside : (c : ℕ) (cs : Text) → (c == 10) ≡ false → (c == 13) ≡ false → lines_of (c ∷ cs) ≡ onto_first c (lines_of cs)
inside c cs lf cr = rw (lf, cr) refl

abbrev HasLine : List Text → Type 0
HasLine lines = (line : Text) × (more : List Text) × (lines ≡ line ∷ more)

onto_line : (c : ℕ) (lines : List Text) → HasLine (onto_first c lines)
onto_line c [] = (c ∷ [], [], refl)
onto_line c (l ∷ ls) = (c ∷ l, ls, refl)

next_line : (c : ℕ) (cs : Text) → HasLine (lines_of cs) → HasLine (lines_of (c ∷ cs))
next_line c cs more = by (c == 10) (c == 13) (begins_with_lf cs) refl refl refl
  where
    by : (x y z : Bool) → (c == 10) ≡ x → (c == 13) ≡ y → begins_with_lf cs ≡ z → HasLine (lines_of (c ∷ cs))
    by true y z e f g = ([], lines_of cs, at_lf c cs e)
    by false true true e f g = (more.0, more.1, at_crlf c cs e f g ∙ more.2)
    by false true false e f g = ([], lines_of cs, at_cr c cs e f g)
    by false false z e f g = let o = onto_line c (lines_of cs) in (o.0, o.1, inside c cs e f ∙ o.2)

one_byte : (c : ℕ) → HasLine (lines_of (c ∷ []))
one_byte c = by (c == 10) (c == 13) refl refl
  where
    by : (x y : Bool) → (c == 10) ≡ x → (c == 13) ≡ y → HasLine (lines_of (c ∷ []))
    by true y e f = ([], [], at_lf c [] e)
    by false true e f = ([], [], at_cr c [] e f refl)
    by false false e f = (c ∷ [], [], inside c [] e f)

some_line : (c : ℕ) (cs : Text) → HasLine (lines_of (c ∷ cs))
some_line c [] = one_byte c
some_line c (d ∷ ds) = next_line c (d ∷ ds) (some_line d ds)

onto_more : (c : ℕ) (lines more : List Text) → HasLine lines → onto_first c (lines ++ more) ≡ onto_first c lines ++ more
onto_more c [] more h = let e : [] ≡ h.0 ∷ h.1 = h.2 in cc
onto_more c (l ∷ ls) more h = refl

-- ---- lines behind a line end

lines_next : (c d : ℕ) (cs ys : Text) → lines_of ((d ∷ cs) ++ ys) ≡ lines_of (d ∷ cs) ++ lines_of ys → lines_of ((c ∷ (d ∷ cs)) ++ ys) ≡ lines_of (c ∷ (d ∷ cs)) ++ lines_of ys
lines_next c d cs ys more = by (c == 10) (c == 13) (d == 10) refl refl refl
  where
    rest : Text
    rest = d ∷ cs

    by : (x y z : Bool) → (c == 10) ≡ x → (c == 13) ≡ y → (d == 10) ≡ z → lines_of (c ∷ ((d ∷ cs) ++ ys)) ≡ lines_of (c ∷ (d ∷ cs)) ++ lines_of ys
    by true y z e f g = at_lf c ((d ∷ cs) ++ ys) e ∙ ap (λ ls. [] ∷ ls) more ∙ sym (ap (λ ls. ls ++ lines_of ys) (at_lf c (d ∷ cs) e))
    by false true true e f g = at_crlf c ((d ∷ cs) ++ ys) e f g ∙ more ∙ sym (ap (λ ls. ls ++ lines_of ys) (at_crlf c (d ∷ cs) e f g))
    by false true false e f g = at_cr c ((d ∷ cs) ++ ys) e f g ∙ ap (λ ls. [] ∷ ls) more ∙ sym (ap (λ ls. ls ++ lines_of ys) (at_cr c (d ∷ cs) e f g))
    by false false z e f g =
        inside c ((d ∷ cs) ++ ys) e f ∙ ap (onto_first c) more ∙ onto_more c (lines_of (d ∷ cs)) (lines_of ys) (some_line d cs)
        ∙ sym (ap (λ ls. ls ++ lines_of ys) (inside c (d ∷ cs) e f))

pub lines_append : (xs ys : Text) → IsEnded xs → (ends_with_cr xs ≡ true → begins_with_lf ys ≡ false) → lines_of (xs ++ ys) ≡ lines_of xs ++ lines_of ys
lines_append [] ys h apart = refl
lines_append (c ∷ []) ys h apart = by (c == 10) (c == 13) refl refl h
  where
    by : (x y : Bool) → (c == 10) ≡ x → (c == 13) ≡ y → (c == 10 || c == 13) ≡ true → lines_of (c ∷ ys) ≡ lines_of (c ∷ []) ++ lines_of ys
    by true y e f k = at_lf c ys e ∙ sym (ap (λ ls. ls ++ lines_of ys) (at_lf c [] e))
    by false true e f k = at_cr c ys e f (apart f) ∙ sym (ap (λ ls. ls ++ lines_of ys) (at_cr c [] e f refl))
    by false false e f k = let same : false ≡ true = rw (e, f) at k in absurd (true≢false (sym same))
lines_append (c ∷ (d ∷ cs)) ys h apart = lines_next c d cs ys (lines_append (d ∷ cs) ys h apart)

not_lf : (c : ℕ) → (c == 13) ≡ true → (c == 10) ≡ false
not_lf c h = let e : c ≡ 13 = eqb-true c 13 h in rw e refl

-- an LF behind a CR ends clean further line
lf_next : (c d : ℕ) (cs : Text) → lines_of ((d ∷ cs) ++ 10 ∷ []) ≡ lines_of (d ∷ cs) → lines_of ((c ∷ (d ∷ cs)) ++ 10 ∷ []) ≡ lines_of (c ∷ (d ∷ cs))
lf_next c d cs more = by (c == 10) (c == 13) (d == 10) refl refl refl
  where
    by : (x y z : Bool) → (c == 10) ≡ x → (c == 13) ≡ y → (d == 10) ≡ z → lines_of (c ∷ ((d ∷ cs) ++ 10 ∷ [])) ≡ lines_of (c ∷ (d ∷ cs))
    by true y z e f g = at_lf c ((d ∷ cs) ++ 10 ∷ []) e ∙ ap (λ ls. [] ∷ ls) more ∙ sym (at_lf c (d ∷ cs) e)
    by false true true e f g = at_crlf c ((d ∷ cs) ++ 10 ∷ []) e f g ∙ more ∙ sym (at_crlf c (d ∷ cs) e f g)
    by false true false e f g = at_cr c ((d ∷ cs) ++ 10 ∷ []) e f g ∙ ap (λ ls. [] ∷ ls) more ∙ sym (at_cr c (d ∷ cs) e f g)
    by false false z e f g = inside c ((d ∷ cs) ++ 10 ∷ []) e f ∙ ap (onto_first c) more ∙ sym (inside c (d ∷ cs) e f)

lines_lf : (xs : Text) → ends_with_cr xs ≡ true → lines_of (xs ++ 10 ∷ []) ≡ lines_of xs
lines_lf [] h = absurd (true≢false (sym h))
lines_lf (c ∷ []) h = at_crlf c (10 ∷ []) (not_lf c h) h refl ∙ sym (at_cr c [] (not_lf c h) h refl)
lines_lf (c ∷ (d ∷ cs)) h = lf_next c d cs (lines_lf (d ∷ cs) h)

-- ---- a line that is not ended

pub lines_onto : (tail more line : Text) (lines : List Text) → All IsInside tail → lines_of more ≡ line ∷ lines → lines_of (tail ++ more) ≡ (tail ++ line) ∷ lines
lines_onto [] more line lines clean h = h
lines_onto (c ∷ cs) more line lines clean h =
    let here = or_parts (c == 10) (c == 13) (All-head IsInside c cs clean) in
    inside c (cs ++ more) here.0 here.1 ∙ ap (onto_first c) (lines_onto cs more line lines (All-tail IsInside c cs clean) h)

pub one_line : (c : ℕ) (cs : Text) → All IsInside (c ∷ cs) → lines_of (c ∷ cs) ≡ (c ∷ cs) ∷ []
one_line c [] clean = let here = or_parts (c == 10) (c == 13) (All-head IsInside c [] clean) in inside c [] here.0 here.1
one_line c (d ∷ ds) clean =
    let here = or_parts (c == 10) (c == 13) (All-head IsInside c (d ∷ ds) clean) in
    inside c (d ∷ ds) here.0 here.1 ∙ ap (onto_first c) (one_line d ds (All-tail IsInside c (d ∷ ds) clean))

inside_lf : (tail : Text) → All IsInside tail → begins_with_lf tail ≡ false
inside_lf [] clean = refl
inside_lf (c ∷ cs) clean = (or_parts (c == 10) (c == 13) (All-head IsInside c cs clean)).0

inside_cr : (c : ℕ) (cs : Text) → All IsInside (c ∷ cs) → ends_with_cr (c ∷ cs) ≡ false
inside_cr c [] clean = (or_parts (c == 10) (c == 13) (All-head IsInside c [] clean)).1
inside_cr c (d ∷ ds) clean = inside_cr d ds (All-tail IsInside c (d ∷ ds) clean)

abbrev FirstInside : List Text → Type 0
FirstInside lines = (line : Text) (more : List Text) → lines ≡ line ∷ more → All IsInside line

onto_inside : (c : ℕ) (lines : List Text) → IsInside c → FirstInside lines → FirstInside (onto_first c lines)
onto_inside c [] here old line more h = let e : c ∷ [] ≡ line = cc in subst (All IsInside) e (All-cons IsInside c [] here (All-nil IsInside))
onto_inside c (l ∷ ls) here old line more h = let e : c ∷ l ≡ line = cc in subst (All IsInside) e (All-cons IsInside c l here (old l ls refl))

none_inside : (lines : List Text) → FirstInside ([] ∷ lines)
none_inside lines line more h = let e : [] ≡ line = cc in subst (All IsInside) e (All-nil IsInside)

next_inside : (c : ℕ) (cs : Text) → FirstInside (lines_of cs) → FirstInside (lines_of (c ∷ cs))
next_inside c cs old = by (c == 10) (c == 13) (begins_with_lf cs) refl refl refl
  where
    both : (x y : Bool) → x ≡ false → y ≡ false → (x || y) ≡ false
    both x y e f = rw (e, f) refl

    by : (x y z : Bool) → (c == 10) ≡ x → (c == 13) ≡ y → begins_with_lf cs ≡ z → FirstInside (lines_of (c ∷ cs))
    by true y z e f g = subst FirstInside (sym (at_lf c cs e)) (none_inside (lines_of cs))
    by false true true e f g = subst FirstInside (sym (at_crlf c cs e f g)) old
    by false true false e f g = subst FirstInside (sym (at_cr c cs e f g)) (none_inside (lines_of cs))
    by false false z e f g = subst FirstInside (sym (inside c cs e f)) (onto_inside c (lines_of cs) (both (c == 10) (c == 13) e f) old)

no_line : FirstInside []
no_line line more h = let e : [] ≡ line ∷ more = h in cc

first_inside : (bytes : Text) → FirstInside (lines_of bytes)
first_inside [] = no_line
first_inside (c ∷ cs) = next_inside c cs (first_inside cs)

-- the line that was begun is one by itself
pub lines_begun : (tail bytes line rest : Text) → 0 < length tail → All IsInside tail → lines_of bytes ≡ line ∷ lines_of rest → lines_of (tail ++ bytes) ≡ lines_of (tail ++ line) ++ lines_of rest
lines_begun [] bytes line rest some clean h = absurd (omega arith)
lines_begun (c ∷ cs) bytes line rest some clean h =
    let whole : All IsInside ((c ∷ cs) ++ line) = All-append IsInside (c ∷ cs) line clean (first_inside bytes line (lines_of rest) h) in
    lines_onto (c ∷ cs) bytes line (lines_of rest) clean h ∙ sym (ap (λ ls. ls ++ lines_of rest) (one_line c (cs ++ line) whole))

-- ---- the last byte

ended-append : (xs : Text) (d : ℕ) (ds : Text) → IsEnded (d ∷ ds) → IsEnded (xs ++ d ∷ ds)
ended-append [] d ds h = h
ended-append (c ∷ []) d ds h = h
ended-append (c ∷ (e ∷ cs)) d ds h = ended-append (e ∷ cs) d ds h

cr-append : (xs : Text) (d : ℕ) (ds : Text) → ends_with_cr (xs ++ d ∷ ds) ≡ ends_with_cr (d ∷ ds)
cr-append [] d ds = refl
cr-append (c ∷ []) d ds = refl
cr-append (c ∷ (e ∷ cs)) d ds = cr-append (e ∷ cs) d ds

pub ends_with_cr-append : (xs ys : Text) → 0 < length ys → ends_with_cr (xs ++ ys) ≡ ends_with_cr ys
ends_with_cr-append xs [] some = absurd (omega arith)
ends_with_cr-append xs (d ∷ ds) some = cr-append xs d ds

-- ---- each text has a cut

abbrev HasCut : Text → Type 0
HasCut bytes = (ended : Text) × (tail : Text) × IsCut bytes ended tail

cut_next : (c : ℕ) (cs ended tail : Text) → IsCut cs ended tail → HasCut (c ∷ cs)
cut_next c cs [] tail cut = by (is_line_end c) refl
  where
    by : (x : Bool) → is_line_end c ≡ x → HasCut (c ∷ cs)
    by true e = (c ∷ [], tail, record { whole = ap (λ bs. c ∷ bs) cut.whole; ends = e; no_end = cut.no_end })
    by false e = ([], c ∷ tail, record { whole = ap (λ bs. c ∷ bs) cut.whole; ends = tt; no_end = All-cons IsInside c tail e cut.no_end })
cut_next c cs (d ∷ ds) tail cut = (c ∷ (d ∷ ds), tail, record { whole = ap (λ bs. c ∷ bs) cut.whole; ends = cut.ends; no_end = cut.no_end })

pub find_cut : (bytes : Text) → HasCut bytes
find_cut [] = ([], [], record { whole = refl; ends = tt; no_end = All-nil IsInside })
find_cut (c ∷ cs) = let more = find_cut cs in cut_next c cs more.0 more.1 more.2

-- a document is what its ended lines are, and the line behind them
pub lines_cut : (bytes ended tail : Text) → IsCut bytes ended tail → lines_of bytes ≡ lines_of ended ++ lines_of tail
lines_cut bytes ended tail cut = ap lines_of cut.whole ∙ lines_append ended tail cut.ends (λ _. inside_lf tail cut.no_end)

-- ---- further bytes

-- the further bytes are clean LF that belongs to a CR
pub record IsFurther (so_far bytes closed unended ended tail : Text) : Type 0 where
  pub now_ended : Text
  pub cut : IsCut (so_far ++ bytes) now_ended (tail_behind tail closed ++ unended)
  pub lines : lines_of now_ended ≡ lines_of ended ++ ended_lines tail closed

further : (so_far ended tail : Text) → IsCut so_far ended tail → (bytes closed unended : Text) → IsCut bytes closed unended → (ends_with_cr so_far ≡ true → begins_with_lf bytes ≡ false)
    → IsFurther so_far bytes closed unended ended tail
further so_far ended tail cut bytes [] unended more apart = record {
  now_ended = ended;
  cut = record {
    whole = ap (λ s. s ++ bytes) cut.whole ∙ ap (λ b. (ended ++ tail) ++ b) more.whole ∙ append_assoc ended tail unended;
    ends = cut.ends;
    no_end = All-append IsInside tail unended cut.no_end more.no_end;
  };
  lines = sym (append-nil (lines_of ended));
}
further so_far ended tail cut bytes (c ∷ cs) unended more apart = record {
  now_ended = ended ++ (tail ++ c ∷ cs);
  cut = record {
    whole =
        ap (λ s. s ++ bytes) cut.whole ∙ ap (λ b. (ended ++ tail) ++ b) more.whole ∙ append_assoc ended tail ((c ∷ cs) ++ unended)
        ∙ ap (λ t. ended ++ t) (sym (append_assoc tail (c ∷ cs) unended)) ∙ sym (append_assoc ended (tail ++ c ∷ cs) unended);
    ends = both_ended tail (ended-append tail c cs more.ends);
    no_end = more.no_end;
  };
  lines = lines_append ended (tail ++ c ∷ cs) cut.ends (λ cr. no_lf tail cut.whole cut.no_end cr);
}
  where
    both_ended : (t : Text) → IsEnded (t ++ c ∷ cs) → IsEnded (ended ++ (t ++ c ∷ cs))
    both_ended [] h = ended-append ended c cs h
    both_ended (d ∷ ds) h = ended-append ended d (ds ++ c ∷ cs) h

    first : begins_with_lf bytes ≡ begins_with_lf (c ∷ cs)
    first = ap begins_with_lf more.whole

    no_lf : (t : Text) → so_far ≡ ended ++ t → All IsInside t → ends_with_cr ended ≡ true → begins_with_lf (t ++ c ∷ cs) ≡ false
    no_lf [] whole clean cr = sym first ∙ apart (ap ends_with_cr (whole ∙ append-nil ended) ∙ cr)
    no_lf (d ∷ ds) whole clean cr = inside_lf (d ∷ ds) clean

-- ---- an LF that belongs to a CR

record IsApart (so_far piece bytes ended tail : Text) : Type 0 where
  before : Text
  closed : Text
  cut : IsCut before closed tail
  whole : so_far ++ piece ≡ before ++ bytes
  lines : lines_of closed ≡ lines_of ended
  apart : ends_with_cr before ≡ true → begins_with_lf bytes ≡ false

no_tail : (so_far ended tail : Text) → IsCut so_far ended tail → ends_with_cr so_far ≡ true → (tail ≡ []) × (ends_with_cr ended ≡ true)
no_tail so_far ended [] cut cr = (refl, sym (ap ends_with_cr (cut.whole ∙ append-nil ended)) ∙ cr)
no_tail so_far ended (c ∷ cs) cut cr = absurd (true≢false (sym cr ∙ ap ends_with_cr cut.whole ∙ cr-append ended c cs ∙ inside_cr c cs cut.no_end))

without_lf : (so_far ended tail rest : Text) → IsCut so_far ended tail → ends_with_cr so_far ≡ true → IsApart so_far (10 ∷ rest) rest ended tail
without_lf so_far ended tail rest cut cr =
    let none = no_tail so_far ended tail cut cr in
    record {
      before = so_far ++ 10 ∷ [];
      closed = ended ++ 10 ∷ [];
      cut = record {
        whole = ap (λ s. s ++ 10 ∷ []) (cut.whole ∙ ap (λ t. ended ++ t) none.0 ∙ append-nil ended) ∙ sym (append-nil (ended ++ 10 ∷ [])) ∙ sym (ap (λ t. (ended ++ 10 ∷ []) ++ t) none.0);
        ends = ended-append ended 10 [] refl;
        no_end = cut.no_end;
      };
      whole = sym (append_assoc so_far (10 ∷ []) rest);
      lines = lines_lf ended none.1;
      apart = λ other. absurd (true≢false (sym other ∙ cr-append so_far 10 []));
    }

set_apart : (so_far ended tail : Text) → IsCut so_far ended tail → (piece : Text) → IsApart so_far piece (behind_line_end (ends_with_cr so_far) piece) ended tail
set_apart so_far ended tail cut [] = by (ends_with_cr so_far)
  where
    by : (x : Bool) → IsApart so_far [] (behind_line_end x []) ended tail
    by true = record { before = so_far; closed = ended; cut = cut; whole = refl; lines = refl; apart = λ _. refl }
    by false = record { before = so_far; closed = ended; cut = cut; whole = refl; lines = refl; apart = λ _. refl }
set_apart so_far ended tail cut (c ∷ cs) = by (ends_with_cr so_far) (c == 10) refl refl
  where
    whole_piece : (ends_with_cr so_far ≡ true → (c == 10) ≡ false) → IsApart so_far (c ∷ cs) (c ∷ cs) ended tail
    whole_piece apart = record { before = so_far; closed = ended; cut = cut; whole = refl; lines = refl; apart = apart }

    by : (x y : Bool) → ends_with_cr so_far ≡ x → (c == 10) ≡ y → IsApart so_far (c ∷ cs) (behind_line_end (ends_with_cr so_far) (c ∷ cs)) ended tail
    by false y e f = rw e (whole_piece (λ cr. absurd (true≢false (sym cr ∙ e))))
    by true false e f = rw (e, f) (whole_piece (λ _. f))
    by true true e f = rw (e, f) (let lf : c ≡ 10 = eqb-true c 10 f in subst (λ d. IsApart so_far (d ∷ cs) cs ended tail) (sym lf) (without_lf so_far ended tail cs cut e))

pub behind_short : (after_cr : Bool) (piece : Text) → length (behind_line_end after_cr piece) ≤ length piece
behind_short after_cr piece = by (after_cr && begins_with_lf piece)
  where
    by : (x : Bool) → length (if x then drop 1 piece else piece) ≤ length piece
    by true = omega (arith, length-drop 1 piece)
    by false = omega arith

-- ---- a piece

pub piece_cut : (so_far ended tail : Text) → IsCut so_far ended tail → (piece closed unended : Text) → IsCut (behind_line_end (ends_with_cr so_far) piece) closed unended
    → IsFurther so_far piece closed unended ended tail
piece_cut so_far ended tail cut piece closed unended more =
    let bytes : Text = behind_line_end (ends_with_cr so_far) piece in
    let set = set_apart so_far ended tail cut piece in
    let next = further set.before set.closed tail set.cut bytes closed unended more set.apart in
    record {
      now_ended = next.now_ended;
      cut = subst (λ s. IsCut s next.now_ended (tail_behind tail closed ++ unended)) (sym set.whole) next.cut;
      lines = next.lines ∙ ap (λ ls. ls ++ ended_lines tail closed) set.lines;
    }
