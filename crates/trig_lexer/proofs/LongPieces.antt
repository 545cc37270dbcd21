-- A long string is cut into its pieces in one way only.
use Rattle.std.proofs.Common.{◌≡◌, ◌≢◌, ℕ, zero, suc, ◌≤◌, false, ◌==◌, List, [], ◌∷◌, ◌++◌, All, length, refl, sym, ap, ◌∙◌, arith, inl, inr, true≢false}
use Rattle.std.specs.List.{concat}
use Rattle.std.proofs.lemmas.Bool.{eq-eqb, ne_eqb}
use Rattle.std.proofs.lemmas.List.{append_assoc, append-nil, append_cancel_left}
use Rattle.terminals.specs.declared.bodies.Quote.{Quote}
use Rattle.terminals.specs.declared.bodies.Quote.TheVariants.{Double, Single}
use Rattle.terminals.specs.declared.bodies.Body.{Body}
use Rattle.terminals.specs.declared.bodies.Body.TheVariants.{Short, Long}
use Rattle.terminals.specs.Terminal.{Characters}
use Rattle.terminals.specs.Spellings.{quote_mark, stands_for_itself, SpellsOne, Spells}
use Rattle.terminals.proofs.Escaping.{same_head, same_split}
use Rattle.terminals.proofs.Unique.{same_one, escape_front}
use Rattle.terminals.proofs.Labelling.{passing_within}
use Rattle.trig_lexer.specs.Strings.{three_marks, IsLongPiece, IsLongString}

-- ---- marks at the front

abbrev pub AreMarks : Quote → Characters → Type 0
AreMarks quote xs = All (λ m. m ≡ quote_mark quote) xs

abbrev pub NoMark : Quote → Characters → Type 0
NoMark quote xs = (more : Characters) → xs ≢ quote_mark quote ∷ more

pub marks_within : (quote : Quote) (xs other back rest : Characters) → xs ++ back ≡ other ++ rest → AreMarks quote other → NoMark quote back → length other ≤ length xs
marks_within quote xs other back rest e marks none =
    passing_within (λ c. c == quote_mark quote) xs other back rest e (λ k d l. eq-eqb _ _ (marks k d l))
    (λ c more f. ne_eqb c (quote_mark quote) (λ is. none more (f ∙ ap (λ d. d ∷ more) is)))

pub same_marks : (quote : Quote) (xs ys us vs : Characters) → xs ++ us ≡ ys ++ vs → AreMarks quote xs → AreMarks quote ys → NoMark quote us → NoMark quote vs → (xs ≡ ys) × (us ≡ vs)
same_marks quote xs ys us vs e x y no_u no_v =
    let at_most = marks_within quote xs ys us vs e y no_u in
    let at_least = marks_within quote ys xs vs us (sym e) x no_v in
    same_split xs ys us vs e (omega arith)

pub three_are_marks : (quote : Quote) → AreMarks quote (three_marks quote)
three_are_marks quote zero d l = refl
three_are_marks quote (suc zero) d l = refl
three_are_marks quote (suc (suc zero)) d l = refl
three_are_marks quote (suc (suc (suc k))) d l = absurd (omega arith)

-- ---- one spelled character of a string begins with no mark

abbrev IsStringBody : Quote → Body → Type 0
IsStringBody quote body = (stands_for_itself body (quote_mark quote) ≡ false) × (quote_mark quote ≢ 92)

mark_no_backslash : (quote : Quote) → quote_mark quote ≢ 92
mark_no_backslash Double e = omega arith
mark_no_backslash Single e = omega arith

pub long_body : (quote : Quote) → IsStringBody quote (Long quote)
long_body Double = (refl, mark_no_backslash Double)
long_body Single = (refl, mark_no_backslash Single)

pub short_body : (quote : Quote) → IsStringBody quote (Short quote)
short_body Double = (refl, mark_no_backslash Double)
short_body Single = (refl, mark_no_backslash Single)

pub one_no_mark : (quote : Quote) (body : Body) → IsStringBody quote body → (one rest : Characters) (c : ℕ) → SpellsOne body one c → NoMark quote (one ++ rest)
one_no_mark quote body is one rest c (inl (e, stands, s)) more f =
    let head : c ≡ quote_mark quote = same_head c (quote_mark quote) rest more (sym (ap (λ o. o ++ rest) e) ∙ f) in
    true≢false (sym stands ∙ ap (stands_for_itself body) head ∙ is.0)
one_no_mark quote body is one rest c (inr escape) more f =
    let front = escape_front body one c escape in
    is.1 (sym (same_head 92 (quote_mark quote) (front.0 ++ rest) more (sym (ap (λ o. o ++ rest) front.1) ∙ f)))

-- ---- one piece

piece_splits : (quote : Quote) (piece more : Characters) (is : IsLongPiece quote piece) → piece ++ more ≡ is.marks ++ (is.one ++ more)
piece_splits quote piece more is = ap (λ p. p ++ more) is.spelling ∙ append_assoc is.marks is.one more

pub piece_no_three : (quote : Quote) (piece more rest : Characters) → piece ++ more ≡ three_marks quote ++ rest → IsLongPiece quote piece → ⊥
piece_no_three quote piece more rest e is =
    let within = marks_within quote is.marks (three_marks quote) (is.one ++ more) rest (sym (piece_splits quote piece more is) ∙ e) (three_are_marks quote)
    (one_no_mark quote (Long quote) (long_body quote) is.one more is.c is.spells) in
    let few = is.at_most_two in
    omega arith

same_long_piece : (quote : Quote) (xs ys us vs : Characters) → xs ++ us ≡ ys ++ vs → IsLongPiece quote xs → IsLongPiece quote ys → (xs ≡ ys) × (us ≡ vs)
same_long_piece quote xs ys us vs e x y =
    let marks = same_marks quote x.marks y.marks (x.one ++ us) (y.one ++ vs) (sym (piece_splits quote xs us x) ∙ e ∙ piece_splits quote ys vs y) x.are_marks y.are_marks
    (one_no_mark quote (Long quote) (long_body quote) x.one us x.c x.spells) (one_no_mark quote (Long quote) (long_body quote) y.one vs y.c y.spells) in
    let one = same_one (Long quote) x.one y.one us vs x.c y.c marks.1 x.spells y.spells in
    let whole : xs ≡ ys = x.spelling ∙ (λ i. marks.0 i ++ one.0 i) ∙ sym y.spelling in
    (whole, append_cancel_left ys us vs (sym (ap (λ s. s ++ us) whole) ∙ e))

-- ---- pieces one behind the other

-- where pieces stand at the front, every reading up to three marks goes through them
pub pieces_through : (quote : Quote) (ps qs : List Characters) (us vs : Characters) → concat ps ++ us ≡ concat qs ++ (three_marks quote ++ vs)
    → All (IsLongPiece quote) ps → All (IsLongPiece quote) qs → (rs : List Characters) × (us ≡ concat rs ++ (three_marks quote ++ vs)) × All (IsLongPiece quote) rs × (qs ≡ ps ++ rs)
pieces_through quote [] qs us vs e x y = (qs, e, y, refl)
pieces_through quote (p ∷ ps) [] us vs e x y =
    absurd (piece_no_three quote p (concat ps ++ us) vs (sym (append_assoc p (concat ps) us) ∙ e) (x 0 [] (omega arith)))
pieces_through quote (p ∷ ps) (q ∷ qs) us vs e x y =
    let whole : p ++ (concat ps ++ us) ≡ q ++ (concat qs ++ (three_marks quote ++ vs)) =
    sym (append_assoc p (concat ps) us) ∙ e ∙ append_assoc q (concat qs) (three_marks quote ++ vs) in
    let same = same_long_piece quote p q (concat ps ++ us) (concat qs ++ (three_marks quote ++ vs)) whole (x 0 [] (omega arith)) (y 0 [] (omega arith)) in
    let more = pieces_through quote ps qs us vs same.1 (λ k d l. x (suc k) d (omega arith)) (λ k d l. y (suc k) d (omega arith)) in
    (more.0, more.1, more.2, λ i. sym same.0 i ∷ more.3 i)

pub long_splits : (quote : Quote) (xs us : Characters) (is : IsLongString quote xs) → xs ++ us ≡ three_marks quote ++ (concat is.pieces ++ (three_marks quote ++ us))
long_splits quote xs us is =
    ap (λ s. s ++ us) is.spelling ∙ append_assoc (three_marks quote) (concat is.pieces ++ three_marks quote) us
    ∙ ap (λ s. three_marks quote ++ s) (append_assoc (concat is.pieces) (three_marks quote) us)

-- a text begins with one long string
pub same_long : (quote : Quote) (xs ys us vs : Characters) → xs ++ us ≡ ys ++ vs → IsLongString quote xs → IsLongString quote ys → xs ≡ ys
same_long quote xs ys us vs e x y = by through.0 through.1 through.2 through.3
  where
    whole : concat x.pieces ++ (three_marks quote ++ us) ≡ concat y.pieces ++ (three_marks quote ++ vs)
    whole =
        append_cancel_left (three_marks quote) (concat x.pieces ++ (three_marks quote ++ us)) (concat y.pieces ++ (three_marks quote ++ vs))
        (sym (long_splits quote xs us x) ∙ e ∙ long_splits quote ys vs y)

    through : (rs : List Characters) × (three_marks quote ++ us ≡ concat rs ++ (three_marks quote ++ vs)) × All (IsLongPiece quote) rs × (y.pieces ≡ x.pieces ++ rs)
    through = pieces_through quote x.pieces y.pieces (three_marks quote ++ us) vs whole x.are_pieces y.are_pieces

    by : (rs : List Characters) → three_marks quote ++ us ≡ concat rs ++ (three_marks quote ++ vs) → All (IsLongPiece quote) rs → y.pieces ≡ x.pieces ++ rs → xs ≡ ys
    by [] f all g = x.spelling ∙ ap (λ ps. three_marks quote ++ (concat ps ++ three_marks quote)) (sym (g ∙ append-nil x.pieces)) ∙ sym y.spelling
    by (r ∷ rs) f all g =
        absurd (piece_no_three quote r (concat rs ++ (three_marks quote ++ vs)) us (sym (f ∙ append_assoc r (concat rs) (three_marks quote ++ vs))) (all 0 [] (omega arith)))

pub all_cons : (P : Characters → Type 0) (x : Characters) (xs : List Characters) → P x → All P xs → All P (x ∷ xs)
all_cons P x xs h all zero d l = h
all_cons P x xs h all (suc k) d l = all k d (omega arith)

-- a run of spelled characters is pieces without marks
pub run_pieces : (quote : Quote) (value spelled : Characters) → Spells (Long quote) spelled value → (ps : List Characters) × (spelled ≡ concat ps) × All (IsLongPiece quote) ps
run_pieces quote [] spelled nothing = ([], nothing, λ k d l. absurd (omega arith))
run_pieces quote (c ∷ cs) spelled (first, more, e, one, ones) =
    let rest = run_pieces quote cs more ones in (
      first ∷ rest.0,
      e ∙ ap (λ m. first ++ m) rest.1,
      all_cons (IsLongPiece quote) first rest.0
          (record { marks = []; one = first; c = c; spelling = refl; are_marks = λ k d l. absurd (omega arith); at_most_two = omega arith; spells = one }) rest.2,
    )
