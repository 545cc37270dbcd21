-- The longest string at the front of a text.
use Rattle.std.proofs.Common.{◌≡◌, ◌≤◌, [], ◌∷◌, ◌++◌, length, refl, sym, ap, subst, ◌∙◌, arith, inl, inr}
use Rattle.std.specs.List.{concat}
use Rattle.std.proofs.lemmas.List.{append_assoc, length-append}
use Rattle.rdf_terms.specs.Lists.{Text}
use Rattle.terminals.specs.declared.bodies.Quote.{Quote}
use Rattle.terminals.specs.declared.bodies.Quote.TheVariants.{Double, Single}
use Rattle.terminals.specs.declared.bodies.Body.TheVariants.{Short}
use Rattle.terminals.specs.declared.runs.Spelling.{Spelling}
use Rattle.terminals.specs.Terminal.{Characters, TextBeginsWithNone}
use Rattle.terminals.specs.Spellings.{quote_mark, Spells}
use Rattle.terminals.specs.Terminals.{ShortString, ReadsSpelling}
use Rattle.terminals.proofs.Escaping.{same_head, same_tail}
use Rattle.trig_lexer.specs.declared.kind.Kind.{Kind}
use Rattle.trig_lexer.specs.declared.kind.Kind.TheVariants.{Quoted}
use Rattle.trig_lexer.specs.Longest.{TextBeginsWithLongest, TextBeginsWithNoToken}
use Rattle.trig_lexer.specs.Fronts.{BeginsWithShape, BeginsWithNoShape, BeginsWithLongestShape, TextReads, TextReadsNone}
use Rattle.trig_lexer.specs.Strings.{three_marks, IsLongString, IsQuotedBy, IsQuoted, QuotedShapes}
use Rattle.trig_lexer.proofs.LongPieces.{short_body, one_no_mark, long_splits, same_long}
use Rattle.trig_lexer.proofs.Texts.{reads_then, terminal_then}

-- ---- strings with one mark

-- a short string where three marks stand is empty
short_at_three : (quote : Quote) (other other_rest rest value : Characters) → three_marks quote ++ rest ≡ other ++ other_rest → ShortString quote other value → length other ≡ 2
short_at_three quote other other_rest rest value e is = by value is.spells
  where
    whole : three_marks quote ++ rest ≡ quote_mark quote ∷ ((is.inner ++ quote_mark quote ∷ []) ++ other_rest)
    whole = e ∙ ap (λ s. s ++ other_rest) is.marks

    behind : quote_mark quote ∷ quote_mark quote ∷ rest ≡ is.inner ++ quote_mark quote ∷ other_rest
    behind = same_tail (quote_mark quote) (quote_mark quote) (quote_mark quote ∷ quote_mark quote ∷ rest) ((is.inner ++ quote_mark quote ∷ []) ++ other_rest) whole
        ∙ append_assoc is.inner (quote_mark quote ∷ []) other_rest

    by : (value : Characters) → Spells (Short quote) is.inner value → length other ≡ 2
    by [] nothing = omega (arith, ap length is.marks, length-append is.inner (quote_mark quote ∷ []), ap length nothing)
    by (c ∷ cs) (first, more, f, one, ones) =
        absurd (one_no_mark quote (Short quote) (short_body quote) first (more ++ quote_mark quote ∷ other_rest) c one (quote_mark quote ∷ rest)
        (sym (behind ∙ ap (λ s. s ++ quote_mark quote ∷ other_rest) f ∙ append_assoc first more (quote_mark quote ∷ other_rest))))

pub long_found : (quote : Quote) (text rest : Text) → TextReads (BeginsWithShape (IsLongString quote)) text rest → TextReads (BeginsWithLongestShape (IsQuotedBy quote)) text rest
long_found quote text rest x = reads_then x (record { front = x.reads.front; splits = x.reads.splits; fits = inr x.reads.fits; longest = longest })
  where
    longest : (other other_rest : Characters) → x.text_characters ≡ other ++ other_rest → IsQuotedBy quote other → length other ≤ length x.reads.front
    longest other other_rest e (inr long) =
        omega (arith, ap length (same_long quote x.reads.front other x.rest_characters other_rest (sym x.reads.splits ∙ e) x.reads.fits long))
    longest other other_rest e (inl (value, short)) =
        omega (
          arith,
          short_at_three quote other other_rest (concat x.reads.fits.pieces ++ (three_marks quote ++ x.rest_characters)) value
              (sym (long_splits quote x.reads.front x.rest_characters x.reads.fits) ∙ sym x.reads.splits ∙ e) short,
          ap length x.reads.fits.spelling,
        )

pub short_found : (quote : Quote) (text rest : Text) (spelling : Spelling) → TextReadsNone (BeginsWithNoShape (IsLongString quote)) text → ReadsSpelling (ShortString quote) text spelling rest
    → TextReads (BeginsWithLongestShape (IsQuotedBy quote)) text rest
short_found quote text rest spelling no_long x =
    terminal_then x.begins
    (record { front = x.begins.begins.spelled; splits = x.begins.begins.splits; fits = inl (x.begins.value_characters, x.begins.begins.fits); longest = longest })
  where
    longest : (other other_rest : Characters) → x.begins.text_characters ≡ other ++ other_rest → IsQuotedBy quote other → length other ≤ length x.begins.begins.spelled
    longest other other_rest e (inr long) = absurd (no_long x.begins.text_characters x.begins.text_is other other_rest e long)
    longest other other_rest e (inl (value, short)) = x.begins.begins.longest other value other_rest e short

pub quoted_by_none : (quote : Quote) (text : Text) → TextReadsNone (BeginsWithNoShape (IsLongString quote)) text → TextBeginsWithNone (ShortString quote) text
    → TextReadsNone (BeginsWithNoShape (IsQuotedBy quote)) text
quoted_by_none quote text no_long no_short cs is front rest e (inl (value, short)) = no_short cs is front value rest e short
quoted_by_none quote text no_long no_short cs is front rest e (inr long) = no_long cs is front rest e long

-- ---- strings with either mark

quoted_is : (kind : Kind) (xs : Characters) → QuotedShapes kind xs → IsQuoted xs
quoted_is Quoted xs is = is
quoted_is _ xs is = absurd is

mark_front : (quote : Quote) (xs : Characters) → IsQuotedBy quote xs → (more : Characters) × (xs ≡ quote_mark quote ∷ more)
mark_front quote xs (inl (value, short)) = (short.inner ++ quote_mark quote ∷ [], short.marks)
mark_front quote xs (inr long) = (quote_mark quote ∷ quote_mark quote ∷ (concat long.pieces ++ three_marks quote), long.spelling)

pub same_quote : (p q : Quote) → quote_mark p ≡ quote_mark q → p ≡ q
same_quote Double Double e = refl
same_quote Double Single e = absurd (omega arith)
same_quote Single Double e = absurd (omega arith)
same_quote Single Single e = refl

pub quoted_found : (quote : Quote) (text rest : Text) → TextReads (BeginsWithLongestShape (IsQuotedBy quote)) text rest → TextBeginsWithLongest QuotedShapes text Quoted rest
quoted_found quote text rest x =
    reads_then x (record {
      spelled = x.reads.front;
      splits = x.reads.splits;
      fits = (quote, x.reads.fits);
      longest = λ kind others other_rest e is. longest others other_rest e (quoted_is kind others is);
    })
  where
    longest : (others other_rest : Characters) → x.text_characters ≡ others ++ other_rest → IsQuoted others → length others ≤ length x.reads.front
    longest others other_rest e (other, is) =
        let here = mark_front quote x.reads.front x.reads.fits in
        let there = mark_front other others is in
        let whole : quote_mark other ∷ (there.0 ++ other_rest) ≡ quote_mark quote ∷ (here.0 ++ x.rest_characters) =
        sym (ap (λ s. s ++ other_rest) there.1) ∙ sym e ∙ x.reads.splits ∙ ap (λ s. s ++ x.rest_characters) here.1 in
        let same = same_quote other quote (same_head (quote_mark other) (quote_mark quote) (there.0 ++ other_rest) (here.0 ++ x.rest_characters) whole) in
        x.reads.longest others other_rest e (subst (λ q. IsQuotedBy q others) same is)

pub quoted_none : (text : Text) → TextReadsNone (BeginsWithNoShape (IsQuotedBy Double)) text → TextReadsNone (BeginsWithNoShape (IsQuotedBy Single)) text → TextBeginsWithNoToken QuotedShapes text
quoted_none text no_double no_single cs text_is kind xs rest e is = by (quoted_is kind xs is)
  where
    by : IsQuoted xs → ⊥
    by (Double, q) = no_double cs text_is xs rest e q
    by (Single, q) = no_single cs text_is xs rest e q
