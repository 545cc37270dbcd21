-- The longest token of two families from the longest of each.
use Rattle.std.proofs.Common.{◌≡◌, ◌≤◌, ℕ, List, [], ◌∷◌, ◌++◌, length, Option, Some, None, sym, ap, subst, ◌∙◌, arith, inl, inr}
use Rattle.std.specs.Prelude.{encode_utf8, encode_utf8_all}
use Rattle.std.specs.Option.{IfSome, IfNone}
use Rattle.std.proofs.lemmas.List.{length-append}
use Rattle.std.proofs.lemmas.Str.{encodes-append, encodes_same, length-encode, len_utf8_bounds}
use Rattle.rdf_terms.specs.Lists.{Text}
use Rattle.terminals.specs.Terminal.{Characters}
use Rattle.trig_lexer.specs.declared.kind.Kind.{Kind}
use Rattle.trig_lexer.specs.declared.found.Found.{Found}
use Rattle.trig_lexer.specs.Longest.{TextBeginsWithLongest, TextBeginsWithNoToken, Either}
use Rattle.trig_lexer.specs.Longer.{IsLonger, Finds}
use Rattle.trig_lexer.proofs.Texts.{reads_then}

pub finds_from : (shapes : Kind → Characters → Type 0) (text : Text) (found : Option Found)
    → IfSome found (λ x. TextBeginsWithLongest shapes text x.kind x.rest.now) → IfNone found (TextBeginsWithNoToken shapes text) → Finds shapes text found
finds_from shapes text None some none = none
finds_from shapes text (Some x) some none = some

-- a front that leaves no more bytes is no shorter
front_reaches : (xs ys us vs : List ℕ) → xs ++ us ≡ ys ++ vs → length (encode_utf8_all us) ≤ length (encode_utf8_all vs) → length ys ≤ length xs
front_reaches [] [] us vs e h = omega arith
front_reaches [] (y ∷ ys) us vs e h =
    let bytes : encode_utf8_all us ≡ encode_utf8 y ++ (encode_utf8_all (ys ++ vs)) = ap encode_utf8_all e in
    absurd (omega (
      arith,
      ap length bytes,
      length-append (encode_utf8 y) (encode_utf8_all (ys ++ vs)),
      ap length (encodes-append ys vs),
      length-append (encode_utf8_all ys) (encode_utf8_all vs),
      length-encode y,
      (len_utf8_bounds y).0,
    ))
front_reaches (x ∷ xs) [] us vs e h = omega arith
front_reaches (x ∷ xs) (y ∷ ys) us vs e h =
    let tail : xs ++ us ≡ ys ++ vs = cc in
    let more = front_reaches xs ys us vs tail h in
    omega arith

-- a token does not change with the way in which the shapes are told
pub longest_same : (one other : Kind → Characters → Type 0) → ((kind : Kind) (spelled : Characters) → one kind spelled → other kind spelled)
    → ((kind : Kind) (spelled : Characters) → other kind spelled → one kind spelled) → (text : Text) (kind : Kind) (rest : Text) → TextBeginsWithLongest one text kind rest
    → TextBeginsWithLongest other text kind rest
longest_same one other to from text kind rest p =
    reads_then p (record {
      spelled = p.reads.spelled;
      splits = p.reads.splits;
      fits = to kind p.reads.spelled p.reads.fits;
      longest = λ k others more e is. p.reads.longest k others more e (from k others is);
    })

module _ (one other : Kind → Characters → Type 0) (text : Text) where
  -- a token of the first of two families, where none of the second is longer
  among_both : (x : Found) (p : TextBeginsWithLongest one text x.kind x.rest.now)
      → ((k : Kind) (others more : Characters) → p.text_characters ≡ others ++ more → other k others → length others ≤ length p.reads.spelled)
      → TextBeginsWithLongest (Either one other) text x.kind x.rest.now
  among_both x p within = reads_then p (record { spelled = p.reads.spelled; splits = p.reads.splits; fits = inl p.reads.fits; longest = longest })
    where
      longest : (k : Kind) (others more : Characters) → p.text_characters ≡ others ++ more → Either one other k others → length others ≤ length p.reads.spelled
      longest k others more e (inl is) = p.reads.longest k others more e is
      longest k others more e (inr is) = within k others more e is

  first_of_both : (x y : Found) → TextBeginsWithLongest one text x.kind x.rest.now → TextBeginsWithLongest other text y.kind y.rest.now
      → length x.rest.now ≤ length y.rest.now → TextBeginsWithLongest (Either one other) text x.kind x.rest.now
  first_of_both x y p q leaves = among_both x p (λ k others more e is. let within = q.reads.longest k others more (sym same ∙ e) is in omega (arith, reaches))
    where
      same : p.text_characters ≡ q.text_characters
      same = encodes_same p.text_characters q.text_characters (sym p.text_is ∙ q.text_is)

      reaches : length q.reads.spelled ≤ length p.reads.spelled
      reaches = front_reaches p.reads.spelled q.reads.spelled p.rest_characters q.rest_characters (sym p.reads.splits ∙ same ∙ q.reads.splits)
          (omega (arith, ap length p.rest_is, ap length q.rest_is))

  first_alone : (x : Found) → TextBeginsWithLongest one text x.kind x.rest.now → TextBeginsWithNoToken other text → TextBeginsWithLongest (Either one other) text x.kind x.rest.now
  first_alone x p none = among_both x p (λ k others more e is. absurd (none p.text_characters p.text_is k others more e is))

-- the order of two families never matters
swapped : (one other : Kind → Characters → Type 0) (text : Text) (kind : Kind) (rest : Text) → TextBeginsWithLongest (Either one other) text kind rest
    → TextBeginsWithLongest (Either other one) text kind rest
swapped one other = longest_same (Either one other) (Either other one) (turned one other) (turned other one)
  where
    turned : (one other : Kind → Characters → Type 0) (kind : Kind) (spelled : Characters) → Either one other kind spelled → Either other one kind spelled
    turned one other kind spelled (inl is) = inr is
    turned one other kind spelled (inr is) = inl is

pub finds_either : (one other : Kind → Characters → Type 0) (text : Text) (x y result : Option Found) → Finds one text x → Finds other text y → IsLonger x y result
    → Finds (Either one other) text result
finds_either one other text None None result p q is = subst (Finds (Either one other) text) (sym is) none
  where
    none : TextBeginsWithNoToken (Either one other) text
    none characters e kind spelled rest splits (inl fits) = p characters e kind spelled rest splits fits
    none characters e kind spelled rest splits (inr fits) = q characters e kind spelled rest splits fits
finds_either one other text None (Some y) result p q is =
    subst (Finds (Either one other) text) (sym is) (swapped other one text y.kind y.rest.now (first_alone other one text y q p))
finds_either one other text (Some x) None result p q is = subst (Finds (Either one other) text) (sym is) (first_alone one other text x p q)
finds_either one other text (Some x) (Some y) result p q (inl (is, leaves)) =
    subst (Finds (Either one other) text) (sym is) (first_of_both one other text x y p q leaves)
finds_either one other text (Some x) (Some y) result p q (inr (is, leaves)) =
    subst (Finds (Either one other) text) (sym is) (swapped other one text y.kind y.rest.now (first_of_both other one text y x q p leaves))
