-- The value of a long string: a mark stands for itself, and the runs between marks have the values of their spellings.
use Rattle.std.proofs.Common.{◌≡◌, ℕ, suc, ◌+◌, ◌-◌, ◌<◌, ◌≤◌, true, List, [], ◌∷◌, ◌++◌, All, length, take, drop, refl, sym, ap, subst, ◌∙◌, arith, inl, inr}
use Rattle.std.specs.Prelude.{encode_utf8, encode_utf8_all, slice_range}
use Rattle.std.specs.List.{concat}
use Rattle.std.specs.Str.{IsAscii, IsUtf8, IsCharBoundary, all_scalars}
use Rattle.std.proofs.lemmas.List.{append_assoc, append-nil, append_cancel_left, length-append, take_at}
use Rattle.std.proofs.lemmas.Str.{encodes-append, encodes_same, encodes-IsAscii, cons_from_encodes, length-encode, len_utf8_bounds, IsUtf8-from_ascii, IsCharBoundary-at_seam}
use Rattle.std.proofs.lemmas.Str.Ascii.{IsAscii-nil, IsAscii-cons}
use Rattle.rdf_terms.specs.Lists.{Text}
use Rattle.terminals.specs.declared.bodies.Quote.{Quote}
use Rattle.terminals.specs.declared.bodies.Quote.TheVariants.{Double, Single}
use Rattle.terminals.specs.declared.bodies.Body.{Body}
use Rattle.terminals.specs.declared.bodies.Body.TheVariants.{Long}
use Rattle.terminals.specs.declared.runs.Spelling.{Spelling}
use Rattle.terminals.specs.Terminal.{Characters}
use Rattle.terminals.specs.Terminals.{ShortString}
use Rattle.terminals.specs.Spellings.{quote_mark, Spells, SpellsNone, TextSpells, BeginsWithRun}
use Rattle.terminals.proofs.Unique.{same_one, none_at_mark}
use Rattle.terminals.proofs.Unescaping.{one_is_some, Left}
use Rattle.terminals.proofs.Running.{all_scalars-append_right}
use Rattle.trig_lexer.specs.Strings.{three_marks, IsLongPiece, IsLongString}
use Rattle.trig_lexer.proofs.LongPieces.{long_body}
use Rattle.trig_terms.specs.Leaves.{HasValue, Means, LongString, StringIn}
use Rattle.trig_terms.specs.Values.{IsWholeLong, TextMeans}
use Rattle.trig_terms.proofs.Whole.{nothing_encoded}

-- ---- what characters mean, one by one

-- no spelled character begins with the mark
pub no_mark : (quote : Quote) (rest : Characters) → SpellsNone (Long quote) (quote_mark quote ∷ rest)
no_mark quote rest = none_at_mark (Long quote) (quote_mark quote) rest (long_body quote).0 (long_body quote).1

-- what a front spells, the value begins with
means_behind : (quote : Quote) (front value xs ys zs : Characters) → zs ≡ xs ++ ys → Spells (Long quote) xs front → Means quote zs value
    → (more : Characters) × (value ≡ front ++ more) × Means quote ys more
means_behind quote [] value xs ys zs e x z = (value, refl, subst (λ s. Means quote s value) (e ∙ ap (λ s. s ++ ys) x) z)
means_behind quote (c ∷ front) [] xs ys zs e (f, m, p, one, ones) z =
    absurd (one_is_some (Long quote) f (m ++ ys) c one (sym z ∙ e ∙ ap (λ s. s ++ ys) p ∙ append_assoc f m ys))
means_behind quote (c ∷ front) (d ∷ ds) xs ys zs e (f, m, p, one, ones) (g, n, q, inl (mark, is), twos) =
    let whole : quote_mark quote ∷ n ≡ f ++ (m ++ ys) = ap (λ x. x ∷ n) (sym is) ∙ ap (λ s. s ++ n) (sym mark) ∙ sym q ∙ e ∙ ap (λ s. s ++ ys) p ∙ append_assoc f m ys in
    absurd (no_mark quote n f c (m ++ ys) whole one)
means_behind quote (c ∷ front) (d ∷ ds) xs ys zs e (f, m, p, one, ones) (g, n, q, inr two, twos) =
    let whole : f ++ (m ++ ys) ≡ g ++ n = sym (append_assoc f m ys) ∙ sym (ap (λ s. s ++ ys) p) ∙ sym e ∙ q in
    let same = same_one (Long quote) f g (m ++ ys) n c d whole one two in
    let behind : n ≡ m ++ ys = sym (append_cancel_left g (m ++ ys) n (sym (ap (λ s. s ++ (m ++ ys)) same.0) ∙ whole)) in
    let rest = means_behind quote front ds m ys n behind ones twos in
    (rest.0, (λ i. sym same.1 i ∷ rest.1 i), rest.2)

-- where no spelled character is at the front, a mark is there
means_mark : (quote : Quote) (rest value next : Characters) (c : ℕ) → rest ≡ c ∷ next → SpellsNone (Long quote) rest → Means quote rest value
    → (more : Characters) × (value ≡ c ∷ more) × Means quote next more
means_mark quote rest [] next c e none z = let whole : c ∷ next ≡ [] = sym e ∙ z in cc
means_mark quote rest (d ∷ ds) next c e none (g, n, q, inl (mark, is), more) =
    let whole : c ∷ next ≡ d ∷ n = sym e ∙ q ∙ ap (λ s. s ++ n) mark in
    let head : d ≡ c = cc in
    let tail : n ≡ next = cc in
    (ds, ap (λ x. x ∷ ds) head, subst (λ s. Means quote s ds) tail more)
means_mark quote rest (d ∷ ds) next c e none (g, n, q, inr one, more) = absurd (none g d n q one)

means_nothing : (quote : Quote) (rest value : Characters) → rest ≡ [] → Means quote rest value → value ≡ []
means_nothing quote rest [] e z = refl
means_nothing quote rest (d ∷ ds) e (g, n, q, inl (mark, is), more) = let whole : [] ≡ d ∷ n = sym e ∙ q ∙ ap (λ s. s ++ n) mark in cc
means_nothing quote rest (d ∷ ds) e (g, n, q, inr one, more) = absurd (one_is_some (Long quote) g n d one (sym e ∙ q))

-- ---- how the value is written

-- what a run stands for, and what is written for it
abbrev pub Writes : Spelling → Text → Type 0
Writes spelling piece = (value : Text) → TextSpells spelling.body spelling.text.now value → piece ≡ value

piece_is : (quote : Quote) (rest behind piece : Text) (spelling : Spelling) (x : BeginsWithRun (Long quote) rest spelling behind) → Writes spelling piece → piece ≡ encode_utf8_all x.value_characters
piece_is quote rest behind piece spelling x writes =
    writes (encode_utf8_all x.value_characters)
    (record {
      spelled_characters = x.spelled_characters;
      value_characters = x.value_characters;
      spelled_is = x.spelled_is;
      value_is = refl;
      spells = subst (λ b. Spells b x.spelled_characters x.value_characters) (sym x.body_is) x.spells;
    })

-- what the rest means, behind the run
record BehindRun (quote : Quote) (left piece behind : Text) : Type 0 where
  pub more : Characters
  pub left_is : left ≡ piece ++ encode_utf8_all more
  pub characters : Characters
  pub behind_is : behind ≡ encode_utf8_all characters
  pub none : SpellsNone (Long quote) characters
  pub means : Means quote characters more

behind_run : (quote : Quote) (rest behind piece left : Text) (spelling : Spelling) → BeginsWithRun (Long quote) rest spelling behind → Writes spelling piece → TextMeans quote rest left
    → BehindRun quote left piece behind
behind_run quote rest behind piece left spelling x writes means =
    let all : means.inside_characters ≡ x.spelled_characters ++ x.rest_characters = encodes_same _ _ (sym means.inside_is ∙ x.text_is) in
    let so = means_behind quote x.value_characters means.value_characters x.spelled_characters x.rest_characters means.inside_characters all x.spells means.means in
    record {
      more = so.0;
      left_is = means.value_is ∙ ap encode_utf8_all so.1 ∙ encodes-append x.value_characters so.0 ∙ ap (λ p. p ++ encode_utf8_all so.0) (sym (piece_is quote rest behind piece spelling x writes));
      characters = x.rest_characters;
      behind_is = x.rest_is;
      none = x.ends;
      means = so.2;
    }

pub left_step : (quote : Quote) (inside rest behind next written piece pushed : Text) (c : ℕ) (spelling : Spelling) → BeginsWithRun (Long quote) rest spelling behind → Writes spelling piece
    → behind ≡ encode_utf8 c ++ next → pushed ≡ (written ++ piece) ++ encode_utf8 c → Left (TextMeans quote) inside rest written → Left (TextMeans quote) inside next pushed
left_step quote inside rest behind next written piece pushed c spelling run writes first now left value means =
    let before = left value means in
    let so = behind_run quote rest behind piece before.0 spelling run writes before.2 in
    let back = cons_from_encodes so.characters next c (sym so.behind_is ∙ first) in
    let mark = means_mark quote so.characters so.more back.0 c back.1 so.none so.means in (
      encode_utf8_all mark.0,
      before.1 ∙ ap (λ l. written ++ l) (so.left_is ∙ ap (λ m. piece ++ encode_utf8_all m) mark.1 ∙ sym (append_assoc piece (encode_utf8 c) (encode_utf8_all mark.0)))
          ∙ sym (append_assoc written (piece ++ encode_utf8 c) (encode_utf8_all mark.0))
          ∙ ap (λ f. f ++ encode_utf8_all mark.0) (sym (append_assoc written piece (encode_utf8 c)) ∙ sym now),
      record { inside_characters = back.0; value_characters = mark.0; inside_is = sym back.2; value_is = refl; means = mark.2 },
    )

pub left_end : (quote : Quote) (inside rest behind written piece pushed : Text) (spelling : Spelling) → BeginsWithRun (Long quote) rest spelling behind → Writes spelling piece → behind ≡ []
    → pushed ≡ written ++ piece → Left (TextMeans quote) inside rest written → (value : Text) → TextMeans quote inside value → pushed ≡ value
left_end quote inside rest behind written piece pushed spelling run writes nothing now left value means =
    let before = left value means in
    let so = behind_run quote rest behind piece before.0 spelling run writes before.2 in
    let none : so.more ≡ [] = means_nothing quote so.characters so.more (nothing_encoded so.characters (sym so.behind_is ∙ nothing)) so.means in
    now ∙ ap (λ l. written ++ l) (sym (so.left_is ∙ ap (λ m. piece ++ encode_utf8_all m) none ∙ append-nil piece)) ∙ sym before.1

-- what follows the run is UTF-8
pub run_utf8 : (body : Body) (rest behind : Text) (spelling : Spelling) → BeginsWithRun body rest spelling behind → IsUtf8 rest → IsUtf8 behind
run_utf8 body rest behind spelling x utf8 =
    let same : x.spelled_characters ++ x.rest_characters ≡ utf8.0 = encodes_same _ _ (sym x.text_is ∙ sym utf8.1.1) in
    (x.rest_characters, (all_scalars-append_right x.spelled_characters x.rest_characters (ap all_scalars same ∙ utf8.1.0), sym x.rest_is))

-- the run and what follows it leave less
pub run_shorter : (quote : Quote) (rest behind next : Text) (c : ℕ) (spelling : Spelling) → BeginsWithRun (Long quote) rest spelling behind → behind ≡ encode_utf8 c ++ next → length next < length rest
run_shorter quote rest behind next c spelling x first =
    let whole : rest ≡ encode_utf8_all x.spelled_characters ++ behind = x.text_is ∙ encodes-append x.spelled_characters x.rest_characters
    ∙ ap (λ r. encode_utf8_all x.spelled_characters ++ r) (sym x.rest_is) in
    omega (arith, ap length whole, length-append (encode_utf8_all x.spelled_characters) behind, ap length first, length-append (encode_utf8 c) next, length-encode c, (len_utf8_bounds c).0)

-- ---- each long string has a value

means-append : (quote : Quote) (value other xs ys : Characters) → Means quote xs value → Means quote ys other → Means quote (xs ++ ys) (value ++ other)
means-append quote [] other xs ys x y = subst (λ f. Means quote (f ++ ys) other) (sym x) y
means-append quote (c ∷ cs) other xs ys (f, m, p, one, ones) y = (f, m ++ ys, ap (λ z. z ++ ys) p ∙ append_assoc f m ys, one, means-append quote cs other m ys ones y)

marks_mean : (quote : Quote) (marks : Characters) → All (λ m. m ≡ quote_mark quote) marks → Means quote marks marks
marks_mean quote [] all = refl
marks_mean quote (m ∷ ms) all = (m ∷ [], ms, refl, inl (refl, all 0 0 (omega arith)), marks_mean quote ms (λ k d l. all (suc k) d (omega arith)))

piece_means : (quote : Quote) (piece : Characters) (x : IsLongPiece quote piece) → Means quote piece (x.marks ++ x.c ∷ [])
piece_means quote piece x =
    subst (λ s. Means quote s (x.marks ++ x.c ∷ [])) (sym x.spelling)
    (means-append quote x.marks (x.c ∷ []) x.marks x.one (marks_mean quote x.marks x.are_marks) (x.one, [], sym (append-nil x.one), inr x.spells, refl))

pieces_mean : (quote : Quote) (pieces : List Characters) → All (IsLongPiece quote) pieces → (value : Characters) × Means quote (concat pieces) value
pieces_mean quote [] all = ([], refl)
pieces_mean quote (p ∷ ps) all =
    let first = all 0 [] (omega arith) in
    let more = pieces_mean quote ps (λ k d l. all (suc k) d (omega arith)) in
    ((first.marks ++ first.c ∷ []) ++ more.0, means-append quote (first.marks ++ first.c ∷ []) more.0 p (concat ps) (piece_means quote p first) more.1)

pub long_has_value : (quote : Quote) (spelled : Characters) → IsLongString quote spelled → (value : Characters) × LongString quote spelled value
long_has_value quote spelled x =
    let value = pieces_mean quote x.pieces x.are_pieces in
    (value.0, record { is_string = x; inside = concat x.pieces; marks = x.spelling; means = value.1 })

-- ---- the text between the marks

marks_ascii : (quote : Quote) → IsAscii (three_marks quote)
marks_ascii Double = IsAscii-cons 34 (34 ∷ 34 ∷ []) (omega arith) (IsAscii-cons 34 (34 ∷ []) (omega arith) (IsAscii-cons 34 [] (omega arith) IsAscii-nil))
marks_ascii Single = IsAscii-cons 39 (39 ∷ 39 ∷ []) (omega arith) (IsAscii-cons 39 (39 ∷ []) (omega arith) (IsAscii-cons 39 [] (omega arith) IsAscii-nil))

encoded_marks : (quote : Quote) → encode_utf8_all (three_marks quote) ≡ three_marks quote
encoded_marks quote = encodes-IsAscii (three_marks quote) (marks_ascii quote)

pub record IsInside (quote : Quote) (text : Text) : Type 0 where
  pub spelled : Characters
  pub value : Characters
  pub text_is : text ≡ encode_utf8_all spelled
  pub is_string : LongString quote spelled value
  pub splits : text ≡ three_marks quote ++ (encode_utf8_all is_string.inside ++ three_marks quote)

pub inside_of : (quote : Quote) (text : Text) → IsWholeLong quote text → IsInside quote text
inside_of quote text x =
    let string = long_has_value quote x.spelled x.is_string in
    let inside = string.1.inside in
    record {
      spelled = x.spelled;
      value = string.0;
      text_is = x.text_is;
      is_string = string.1;
      splits = x.text_is ∙ ap encode_utf8_all string.1.marks ∙ encodes-append (three_marks quote) (inside ++ three_marks quote)
          ∙ (λ i. encoded_marks quote i ++ (encodes-append inside (three_marks quote) ∙ ap (λ t. encode_utf8_all inside ++ t) (encoded_marks quote)) i);
    }

module _ (quote : Quote) (text : Text) (x : IsInside quote text) where
  abbrev pub inside : Text
  inside = encode_utf8_all x.is_string.inside

  inside_length : length text ≡ 6 + length inside
  inside_length = omega (arith, ap length x.splits, length-append inside (three_marks quote))

  pub inside_within : 3 ≤ length text - 3
  inside_within = omega (arith, inside_length)

  pub marks_within : 3 ≤ length text
  marks_within = omega (arith, inside_length)

  pub inside_cut : slice_range text 3 (length text - 3) ≡ inside
  inside_cut =
      ap (λ t. take (length text - 3 - 3) (drop 3 t)) x.splits
      ∙ take_at inside (three_marks quote) (length text - 3 - 3) (omega (arith, inside_length))

  scalars : all_scalars x.spelled ≡ true → IsUtf8 (inside ++ three_marks quote)
  scalars all = (
    x.is_string.inside ++ three_marks quote,
    (
      all_scalars-append_right (three_marks quote) (x.is_string.inside ++ three_marks quote) (ap all_scalars (sym x.is_string.marks) ∙ all),
      encodes-append x.is_string.inside (three_marks quote) ∙ ap (λ t. inside ++ t) (encoded_marks quote),
    ),
  )

  pub inside_begins : IsUtf8 text → IsCharBoundary text 3
  inside_begins utf8 =
      let same : x.spelled ≡ utf8.0 = encodes_same x.spelled utf8.0 (sym x.text_is ∙ sym utf8.1.1) in
      IsCharBoundary-at_seam text (three_marks quote) (inside ++ three_marks quote) x.splits (scalars (ap all_scalars same ∙ utf8.1.0))

  pub inside_ends : IsCharBoundary text (length text - 3)
  inside_ends =
      let len : length (three_marks quote ++ inside) ≡ length text - 3 = omega (arith, inside_length) in
      subst (IsCharBoundary text) len
      (IsCharBoundary-at_seam text (three_marks quote ++ inside) (three_marks quote) (x.splits ∙ sym (append_assoc (three_marks quote) inside (three_marks quote)))
      (IsUtf8-from_ascii (three_marks quote) (marks_ascii quote)))

  -- what stands between the marks means the value
  pub inside_means : (other : Quote) (cut : Text) → other ≡ quote → cut ≡ slice_range text 3 (length text - 3) → TextMeans other cut (encode_utf8_all x.value)
  inside_means other cut same is = record {
    inside_characters = x.is_string.inside;
    value_characters = x.value;
    inside_is = is ∙ inside_cut;
    value_is = refl;
    means = subst (λ q. Means q x.is_string.inside x.value) (sym same) x.is_string.means;
  }

  pub long_value_is : HasValue StringIn text (encode_utf8_all x.value)
  long_value_is = record { spelled = x.spelled; meant = x.value; bytes_are = x.text_is; value_is = refl; fits = (quote, inr x.is_string) }

pub short_value_is : (quote : Quote) (text value : Text) → HasValue (ShortString quote) text value → HasValue StringIn text value
short_value_is quote text value x = record { spelled = x.spelled; meant = x.meant; bytes_are = x.bytes_are; value_is = x.value_is; fits = (quote, inl x.fits) }
