-- Strings at the front of a text.
use Rattle.std.proofs.Common.{◌≡◌, ◌≢◌, zero, suc, ◌+◌, ◌<◌, ◌≤◌, List, [], ◌∷◌, ◌++◌, All, length, refl, sym, ap, subst, ◌∙◌, arith, ◌⊎◌, inl, inr}
use Rattle.std.proofs.lemmas.List.Folds.{concat-append}
use Rattle.std.proofs.lemmas.List.Elements.{All-append}
use Rattle.std.specs.Prelude.{encode_utf8_all}
use Rattle.std.specs.List.{concat}
use Rattle.std.specs.Str.{IsAscii, IsUtf8}
use Rattle.std.proofs.lemmas.List.{append_assoc, append_cancel_left, length-append}
use Rattle.std.proofs.lemmas.Str.{encodes_same, encodes-append, encodes-IsAscii, length-le-encodes}
use Rattle.std.proofs.lemmas.Str.Ascii.{IsAscii-from_all}
use Rattle.rdf_terms.specs.Lists.{Text}
use Rattle.terminals.specs.declared.bodies.Quote.{Quote}
use Rattle.terminals.specs.declared.bodies.Quote.TheVariants.{Double, Single}
use Rattle.terminals.specs.declared.bodies.Body.TheVariants.{Long}
use Rattle.terminals.specs.declared.runs.Spelling.{Spelling}
use Rattle.terminals.specs.Terminal.{Characters}
use Rattle.terminals.specs.Spellings.{quote_mark, Spells, BeginsWithRun}
use Rattle.terminals.proofs.Running.{front_from_encodes}
use Rattle.terminals.proofs.Tagging.{utf8_behind_mark}
use Rattle.trig_lexer.specs.Fronts.{BeginsWithShape, BeginsWithNoShape, TextReads, TextReadsNone}
use Rattle.trig_lexer.specs.Strings.{three_marks, IsLongPiece, IsLongString, BeginsWithMarks, AreLongPieces}
use Rattle.trig_lexer.proofs.Texts.{reads_at}
use Rattle.trig_lexer.proofs.LongPieces.{AreMarks, NoMark, same_marks, three_are_marks, long_body, one_no_mark, piece_no_three, pieces_through, long_splits, all_cons, run_pieces}

-- ---- marks

mark_ascii : (quote : Quote) → quote_mark quote < 128
mark_ascii Double = omega arith
mark_ascii Single = omega arith

marks_ascii : (quote : Quote) (marks : Characters) → AreMarks quote marks → IsAscii marks
marks_ascii quote marks all = IsAscii-from_all marks (λ k d l. subst (λ m. m < 128) (sym (all k d l)) (mark_ascii quote))

-- a step over marks, in characters
step_marks : (quote : Quote) (cs marks : Characters) (text rest : Text) → AreMarks quote marks → text ≡ encode_utf8_all cs → text ≡ marks ++ rest
    → (more : Characters) × (cs ≡ marks ++ more) × (rest ≡ encode_utf8_all more)
step_marks quote cs marks text rest all is front =
    let step = front_from_encodes cs marks rest (sym is ∙ front ∙ ap (λ m. m ++ rest) (sym (encodes-IsAscii marks (marks_ascii quote marks all)))) in
    (step.0, step.1, sym step.2)

marks_encoded : (quote : Quote) (marks more : Characters) → AreMarks quote marks → encode_utf8_all (marks ++ more) ≡ marks ++ encode_utf8_all more
marks_encoded quote marks more all = encodes-append marks more ∙ ap (λ m. m ++ encode_utf8_all more) (encodes-IsAscii marks (marks_ascii quote marks all))

pub utf8_behind_three : (quote : Quote) (text rest : Text) → text ≡ three_marks quote ++ rest → IsUtf8 text → IsUtf8 rest
utf8_behind_three quote text rest e utf8 =
    let m = quote_mark quote in
    utf8_behind_mark (m ∷ rest) rest m (mark_ascii quote) refl
    (utf8_behind_mark (m ∷ m ∷ rest) (m ∷ rest) m (mark_ascii quote) refl (utf8_behind_mark text (m ∷ m ∷ rest) m (mark_ascii quote) e utf8))

pub no_marks : (quote : Quote) (text : Text) → ((rest : Text) → text ≢ quote_mark quote ∷ rest) → BeginsWithMarks quote text text
no_marks quote text none = record { marks = []; splits = refl; are_marks = λ k d l. absurd (omega arith); at_most_two = omega arith; ends = inr none }

pub one_mark : (quote : Quote) (text one : Text) → text ≡ quote_mark quote ∷ one → ((rest : Text) → one ≢ quote_mark quote ∷ rest) → BeginsWithMarks quote text one
one_mark quote text one e none = record { marks = quote_mark quote ∷ []; splits = e; are_marks = all; at_most_two = omega arith; ends = inr none }
  where
    all : AreMarks quote (quote_mark quote ∷ [])
    all zero d l = refl
    all (suc k) d l = absurd (omega arith)

pub two_marks : (quote : Quote) (text one two : Text) → text ≡ quote_mark quote ∷ one → one ≡ quote_mark quote ∷ two → BeginsWithMarks quote text two
two_marks quote text one two e f =
    record { marks = quote_mark quote ∷ quote_mark quote ∷ []; splits = e ∙ ap (λ o. quote_mark quote ∷ o) f; are_marks = all; at_most_two = omega arith; ends = inl refl }
  where
    all : AreMarks quote (quote_mark quote ∷ quote_mark quote ∷ [])
    all zero d l = refl
    all (suc zero) d l = refl
    all (suc (suc k)) d l = absurd (omega arith)

-- ---- pieces

module _ (quote : Quote) (text bare rest : Text) (spelling : Spelling) (marks : BeginsWithMarks quote text bare) (run : BeginsWithRun (Long quote) bare spelling rest) where
  bare_len : length bare ≡ length (encode_utf8_all run.spelled_characters) + length rest
  bare_len = ap length (run.text_is ∙ encodes-append run.spelled_characters run.rest_characters)
      ∙ length-append (encode_utf8_all run.spelled_characters) (encode_utf8_all run.rest_characters) ∙ ap (λ r. length (encode_utf8_all run.spelled_characters) + length r) (sym run.rest_is)

  first_pieces : (value spelled : Characters) → Spells (Long quote) spelled value → 0 < length (encode_utf8_all spelled) → AreLongPieces quote (marks.marks ++ spelled)
  first_pieces [] spelled nothing some = absurd (omega (arith, ap (λ s. length (encode_utf8_all s)) nothing))
  first_pieces (c ∷ cs) spelled (first, more, e, one, ones) some =
      let rest = run_pieces quote cs more ones in
      record {
        pieces = (marks.marks ++ first) ∷ rest.0;
        spelling = ap (λ s. marks.marks ++ s) (e ∙ ap (λ m. first ++ m) rest.1) ∙ sym (append_assoc marks.marks first (concat rest.0));
        are_pieces = all_cons (IsLongPiece quote) (marks.marks ++ first) rest.0
            (record { marks = marks.marks; one = first; c = c; spelling = refl; are_marks = marks.are_marks; at_most_two = marks.at_most_two; spells = one }) rest.2;
        some = omega arith;
      }

  pub pieces_found : length rest < length bare → TextReads (BeginsWithShape (AreLongPieces quote)) text rest
  pieces_found short = record {
    text_characters = marks.marks ++ (run.spelled_characters ++ run.rest_characters);
    rest_characters = run.rest_characters;
    text_is = marks.splits ∙ ap (λ b. marks.marks ++ b) run.text_is ∙ sym (marks_encoded quote marks.marks (run.spelled_characters ++ run.rest_characters) marks.are_marks);
    rest_is = run.rest_is;
    reads = record {
      front = marks.marks ++ run.spelled_characters;
      splits = sym (append_assoc marks.marks run.spelled_characters run.rest_characters);
      fits = first_pieces run.value_characters run.spelled_characters run.spells (omega (arith, bare_len));
    };
  }

  pub pieces_none : length bare ≤ length rest → ((more : Text) → text ≢ three_marks quote ++ more) → TextReadsNone (BeginsWithNoShape (IsLongPiece quote)) text
  pieces_none nothing goes_on cs text_is piece more e is =
      let step = step_marks quote cs marks.marks text bare marks.are_marks text_is marks.splits in
      let splits : is.marks ++ (is.one ++ more) ≡ marks.marks ++ step.0 =
      sym (e ∙ ap (λ p. p ++ more) is.spelling ∙ append_assoc is.marks is.one more) ∙ step.1 in
      let no_mark : NoMark quote step.0 = λ after f. bare_no_mark marks.ends (encode_utf8_all after) (step.2 ∙ ap encode_utf8_all f ∙ marks_encoded quote (quote_mark quote ∷ []) after one_is_mark) in
      let same = same_marks quote is.marks marks.marks (is.one ++ more) step.0 splits is.are_marks marks.are_marks (one_no_mark quote (Long quote) (long_body quote) is.one more is.c is.spells) no_mark
      in
      let empty : run.spelled_characters ≡ [] = no_bytes run.spelled_characters (omega (arith, bare_len)) in
      let behind : step.0 ≡ run.rest_characters = encodes_same step.0 run.rest_characters (sym step.2 ∙ run.text_is ∙ ap (λ s. encode_utf8_all (s ++ run.rest_characters)) empty) in
      run.ends is.one is.c more (sym behind ∙ sym same.1) is.spells
    where
      one_is_mark : AreMarks quote (quote_mark quote ∷ [])
      one_is_mark zero d l = refl
      one_is_mark (suc k) d l = absurd (omega arith)

      no_bytes : (xs : Characters) → length (encode_utf8_all xs) ≡ 0 → xs ≡ []
      no_bytes [] h = refl
      no_bytes (x ∷ xs) h = absurd (omega (arith, length-le-encodes (x ∷ xs)))

      two_are : (ms : Characters) → AreMarks quote ms → length ms ≡ 2 → ms ≡ quote_mark quote ∷ quote_mark quote ∷ []
      two_are [] all len = absurd (omega arith)
      two_are (a ∷ []) all len = absurd (omega arith)
      two_are (a ∷ b ∷ []) all len = λ i. all 0 0 (omega arith) i ∷ all 1 0 (omega arith) i ∷ []
      two_are (a ∷ b ∷ c ∷ ms) all len = absurd (omega arith)

      bare_no_mark : (length marks.marks ≡ 2) ⊎ ((after : Text) → ¬ (bare ≡ quote_mark quote ∷ after)) → (after : Text) → bare ≡ quote_mark quote ∷ after → ⊥
      bare_no_mark (inr none) after f = none after f
      bare_no_mark (inl two) after f =
          goes_on after (marks.splits ∙ ap (λ b. marks.marks ++ b) f ∙ ap (λ m. m ++ quote_mark quote ∷ after) (two_are marks.marks marks.are_marks two))

-- ---- a long string: three marks, the pieces that stand behind them, and what is left

pub record Longing (quote : Quote) (text rest : Text) : Type 0 where
  pub pieces : List Characters
  pub behind : Characters
  pub text_is : text ≡ encode_utf8_all (three_marks quote ++ (concat pieces ++ behind))
  pub rest_is : rest ≡ encode_utf8_all behind
  pub are_pieces : All (IsLongPiece quote) pieces

pub longing_start : (quote : Quote) (text rest : Text) → text ≡ three_marks quote ++ rest → IsUtf8 text → Longing quote text rest
longing_start quote text rest e utf8 =
    let step = step_marks quote utf8.0 (three_marks quote) text rest (three_are_marks quote) (sym utf8.1.1) e in
    record { pieces = []; behind = step.0; text_is = sym utf8.1.1 ∙ ap encode_utf8_all step.1; rest_is = step.2; are_pieces = λ k d l. absurd (omega arith) }

pub longing_more : (quote : Quote) (text rest next : Text) → Longing quote text rest → TextReads (BeginsWithShape (AreLongPieces quote)) rest next → Longing quote text next
longing_more quote text rest next so x =
    let at = reads_at (BeginsWithShape (AreLongPieces quote)) rest next so.behind x so.rest_is in
    record {
      pieces = so.pieces ++ at.2.fits.pieces;
      behind = at.0;
      text_is = so.text_is ∙ ap (λ b. encode_utf8_all (three_marks quote ++ b))
          (ap (λ b. concat so.pieces ++ b) (at.2.splits ∙ ap (λ f. f ++ at.0) at.2.fits.spelling) ∙ sym (append_assoc (concat so.pieces) (concat at.2.fits.pieces) at.0)
          ∙ ap (λ f. f ++ at.0) (sym (concat-append so.pieces at.2.fits.pieces)));
      rest_is = at.1;
      are_pieces = All-append (IsLongPiece quote) so.pieces at.2.fits.pieces so.are_pieces at.2.fits.are_pieces;
    }

pub longing_end : (quote : Quote) (text rest end : Text) → Longing quote text rest → rest ≡ three_marks quote ++ end → TextReads (BeginsWithShape (IsLongString quote)) text end
longing_end quote text rest end so e =
    let step = step_marks quote so.behind (three_marks quote) rest end (three_are_marks quote) so.rest_is e in
    record {
      text_characters = three_marks quote ++ (concat so.pieces ++ so.behind);
      rest_characters = step.0;
      text_is = so.text_is;
      rest_is = step.2;
      reads = record {
        front = three_marks quote ++ (concat so.pieces ++ three_marks quote);
        splits = ap (λ b. three_marks quote ++ (concat so.pieces ++ b)) step.1
            ∙ ap (λ s. three_marks quote ++ s) (sym (append_assoc (concat so.pieces) (three_marks quote) step.0))
            ∙ sym (append_assoc (three_marks quote) (concat so.pieces ++ three_marks quote) step.0);
        fits = record { pieces = so.pieces; spelling = refl; are_pieces = so.are_pieces };
      };
    }

pub longing_none : (quote : Quote) (text rest : Text) → Longing quote text rest → ((more : Text) → rest ≢ three_marks quote ++ more)
    → TextReadsNone (BeginsWithNoShape (IsLongPiece quote)) rest → TextReadsNone (BeginsWithNoShape (IsLongString quote)) text
longing_none quote text rest so unclosed none cs text_is front more e is = by through.0 through.1 through.2
  where
    whole : concat so.pieces ++ so.behind ≡ concat is.pieces ++ (three_marks quote ++ more)
    whole = append_cancel_left (three_marks quote) (concat so.pieces ++ so.behind) (concat is.pieces ++ (three_marks quote ++ more))
        (encodes_same (three_marks quote ++ (concat so.pieces ++ so.behind)) cs (sym so.text_is ∙ text_is) ∙ e ∙ long_splits quote front more is)

    through : (rs : List Characters) × (so.behind ≡ concat rs ++ (three_marks quote ++ more)) × All (IsLongPiece quote) rs × (is.pieces ≡ so.pieces ++ rs)
    through = pieces_through quote so.pieces is.pieces so.behind more whole so.are_pieces is.are_pieces

    by : (rs : List Characters) → so.behind ≡ concat rs ++ (three_marks quote ++ more) → All (IsLongPiece quote) rs → ⊥
    by [] f all = unclosed (encode_utf8_all more) (so.rest_is ∙ ap encode_utf8_all f ∙ marks_encoded quote (three_marks quote) more (three_are_marks quote))
    by (r ∷ rs) f all = none so.behind so.rest_is r (concat rs ++ (three_marks quote ++ more)) (f ∙ append_assoc r (concat rs) (three_marks quote ++ more)) (all 0 [] (omega arith))

pub pieces_smaller : (quote : Quote) (rest next : Text) → TextReads (BeginsWithShape (AreLongPieces quote)) rest next → length next < length rest
pieces_smaller quote rest next x = omega (arith, bytes, some_characters x.reads.fits.pieces x.reads.fits.are_pieces x.reads.fits.some, length-le-encodes x.reads.front, ap length x.reads.fits.spelling)
  where
    bytes : length rest ≡ length (encode_utf8_all x.reads.front) + length next
    bytes = ap length (x.text_is ∙ ap encode_utf8_all x.reads.splits ∙ encodes-append x.reads.front x.rest_characters)
        ∙ length-append (encode_utf8_all x.reads.front) (encode_utf8_all x.rest_characters) ∙ ap (λ r. length (encode_utf8_all x.reads.front) + length r) (sym x.rest_is)

    some_characters : (ps : List Characters) → All (IsLongPiece quote) ps → 0 < length ps → 0 < length (concat ps)
    some_characters [] all some = absurd (omega arith)
    some_characters (p ∷ ps) all some = by p (all 0 [] (omega arith))
      where
        by : (p : Characters) → IsLongPiece quote p → 0 < length (p ++ concat ps)
        by [] is = absurd (piece_no_three quote [] (three_marks quote) [] refl is)
        by (c ∷ cs) is = omega arith
