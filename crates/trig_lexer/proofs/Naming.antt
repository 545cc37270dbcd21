-- Prefixed names: what stands before the first `:` and behind it.
use Rattle.std.proofs.Common.{◌≡◌, ◌≢◌, ℕ, suc, ◌≤◌, Bool, true, false, not, ◌==◌, List, [], ◌∷◌, ◌++◌, All, length, refl, sym, ap, subst, ◌∙◌, arith, ◌⊎◌, inl, inr, true≢false}
use Rattle.std.proofs.lemmas.List.Elements.{All-append}
use Rattle.std.specs.Prelude.{encode_utf8_all}
use Rattle.std.specs.List.{concat}
use Rattle.std.specs.Str.{IsUtf8}
use Rattle.std.proofs.lemmas.Bool.{cases_Bool, eqb-true}
use Rattle.std.proofs.lemmas.List.{append_assoc, append-nil, length-append}
use Rattle.rdf_terms.specs.Lists.{Text}
use Rattle.terminals.specs.Terminal.{Characters}
use Rattle.terminals.proofs.Escaping.{same_head, same_split}
use Rattle.terminals.proofs.Plain.{all_one}
use Rattle.terminals.proofs.Marks.{encodes_ascii_front}
use Rattle.terminals.proofs.Labelling.{passing_within}
use Rattle.trig_lexer.specs.declared.kind.Kind.{Kind}
use Rattle.trig_lexer.specs.declared.kind.Kind.TheVariants.{PnameNs, PnameLn}
use Rattle.trig_lexer.specs.declared.parts.Part.TheVariants.{Prefix, Local}
use Rattle.trig_lexer.specs.declared.parts.Place.{Place}
use Rattle.trig_lexer.specs.declared.parts.Place.TheVariants.{First, Later}
use Rattle.trig_lexer.specs.Longest.{TextBeginsWithLongest}
use Rattle.trig_lexer.specs.Fronts.{BeginsWithShape, BeginsWithNoShape, BeginsWithLongestShape, TextReads, TextReadsNone}
use Rattle.trig_lexer.specs.Names.{takes, IsPiece, GoesOnAsPart, IsPart, IsPnameNs, IsPnameLn, NameShapes}
use Rattle.trig_lexer.proofs.Texts.{step_mark, reads_at, reads_then}
use Rattle.trig_lexer.proofs.Pieces.{IsInner}

-- ---- no `:` stands in a prefix

abbrev pub is_no_colon : ℕ → Bool
is_no_colon c = not (c == 58)

abbrev pub HasNoColon : Characters → Type 0
HasNoColon xs = All (λ c. is_no_colon c ≡ true) xs

untaken_colon : (p : ℕ → Bool) (c : ℕ) → p 58 ≡ false → p c ≡ true → is_no_colon c ≡ true
untaken_colon p c none taken = by (cases_Bool (c == 58))
  where
    by : (c == 58 ≡ true) ⊎ (c == 58 ≡ false) → is_no_colon c ≡ true
    by (inl colon) = absurd (true≢false (sym taken ∙ ap p (eqb-true c 58 colon) ∙ none))
    by (inr other) = ap not other

colon_not_taken : (place : Place) → takes Prefix place 58 ≡ false
colon_not_taken First = refl
colon_not_taken Later = refl

piece_no_colon : (place : Place) (piece : Characters) → IsPiece Prefix place piece → HasNoColon piece
piece_no_colon place piece (inl (c, e, t)) = subst HasNoColon (sym e) (all_one (λ d. is_no_colon d ≡ true) c (untaken_colon (takes Prefix place) c (colon_not_taken place) t))
piece_no_colon place piece (inr escape) = absurd escape

inner_no_colon : (piece : Characters) → IsInner Prefix piece → HasNoColon piece
inner_no_colon piece (inl is) = piece_no_colon Later piece is
inner_no_colon piece (inr dot) = subst HasNoColon (sym dot) (all_one (λ d. is_no_colon d ≡ true) 46 refl)

pieces_no_colon : (pieces : List Characters) → All (IsInner Prefix) pieces → HasNoColon (concat pieces)
pieces_no_colon [] all = λ k d l. absurd (omega arith)
pieces_no_colon (p ∷ ps) all =
    All-append (λ c. is_no_colon c ≡ true) p (concat ps) (inner_no_colon p (all 0 [] (omega arith))) (pieces_no_colon ps (λ k d l. all (suc k) d (omega arith)))

more_no_colon : (more : Characters) → GoesOnAsPart Prefix more → HasNoColon more
more_no_colon more (inl nothing) = subst HasNoColon (sym nothing) (λ k d l. absurd (omega arith))
more_no_colon more (inr (inner, last, e, all, ends)) =
    subst HasNoColon (sym e) (All-append (λ c. is_no_colon c ≡ true) (concat inner) last (pieces_no_colon inner all) (piece_no_colon Later last ends))

part_no_colon : (xs : Characters) → IsPart Prefix xs → HasNoColon xs
part_no_colon xs is =
    subst HasNoColon (sym is.spelling) (All-append (λ c. is_no_colon c ≡ true) is.first is.more (piece_no_colon First is.first is.begins) (more_no_colon is.more is.goes_on))

pub prefix_no_colon : (xs : Characters) → (xs ≡ []) ⊎ IsPart Prefix xs → HasNoColon xs
prefix_no_colon xs (inl nothing) = subst HasNoColon (sym nothing) (λ k d l. absurd (omega arith))
prefix_no_colon xs (inr is) = part_no_colon xs is

-- what has no `:` reaches no further than to one
colon_within : (xs other us vs : Characters) → xs ++ 58 ∷ us ≡ other ++ vs → HasNoColon other → length other ≤ length xs
colon_within xs other us vs e none =
    passing_within is_no_colon xs other (58 ∷ us) vs e none (λ c more f. subst (λ d. is_no_colon d ≡ false) (same_head 58 c us more f) refl)

-- ---- the prefix and its `:`

namespace_splits : (xs us : Characters) (is : IsPnameNs xs) → xs ++ us ≡ is.prefix ++ 58 ∷ us
namespace_splits xs us is = ap (λ s. s ++ us) is.spelling ∙ append_assoc is.prefix (58 ∷ []) us

same_namespace : (xs ys us vs : Characters) → xs ++ us ≡ ys ++ vs → IsPnameNs xs → IsPnameNs ys → (xs ≡ ys) × (us ≡ vs)
same_namespace xs ys us vs e x y =
    let whole : x.prefix ++ 58 ∷ us ≡ y.prefix ++ 58 ∷ vs = sym (namespace_splits xs us x) ∙ e ∙ namespace_splits ys vs y in
    let at_most = colon_within x.prefix y.prefix us (58 ∷ vs) whole (prefix_no_colon y.prefix y.is_prefix) in
    let at_least = colon_within y.prefix x.prefix vs (58 ∷ us) (sym whole) (prefix_no_colon x.prefix x.is_prefix) in
    same_split xs ys us vs e (omega (arith, ap length x.spelling, ap length y.spelling, length-append x.prefix (58 ∷ []), length-append y.prefix (58 ∷ [])))

pub namespace_found : (text rest behind : Text) → TextReads (BeginsWithLongestShape (IsPart Prefix)) text rest → rest ≡ 58 ∷ behind → TextReads (BeginsWithShape IsPnameNs) text behind
namespace_found text rest behind x colon =
    let step = step_mark x.rest_characters rest behind 58 (omega arith) x.rest_is colon in
    record {
      text_characters = x.text_characters;
      rest_characters = step.0;
      text_is = x.text_is;
      rest_is = step.2;
      reads = record {
        front = x.reads.front ++ 58 ∷ [];
        splits = x.reads.splits ∙ ap (λ r. x.reads.front ++ r) step.1 ∙ sym (append_assoc x.reads.front (58 ∷ []) step.0);
        fits = record { prefix = x.reads.front; spelling = refl; is_prefix = inr x.reads.fits };
      };
    }

pub namespace_none : (text rest : Text) → TextReads (BeginsWithLongestShape (IsPart Prefix)) text rest → ((behind : Text) → rest ≢ 58 ∷ behind) → TextReadsNone (BeginsWithNoShape IsPnameNs) text
namespace_none text rest x none cs text_is front more e is =
    let at = reads_at (BeginsWithLongestShape (IsPart Prefix)) text rest cs x text_is in
    let whole : at.2.front ++ at.0 ≡ is.prefix ++ 58 ∷ more = sym at.2.splits ∙ e ∙ namespace_splits front more is in
    let at_most = other_within at.2.front at.0 more is.prefix (at.2.longest is.prefix (58 ∷ more) (at.2.splits ∙ whole)) is.is_prefix in
    let at_least = colon_within is.prefix at.2.front more at.0 (sym whole) (part_no_colon at.2.front at.2.fits) in
    let same = same_split at.2.front is.prefix at.0 (58 ∷ more) whole (omega arith) in
    none (encode_utf8_all more) (at.1 ∙ ap encode_utf8_all same.1 ∙ encodes_ascii_front 58 more (omega arith))
  where
    other_within : (xs us more prefix : Characters) → (IsPart Prefix prefix → length prefix ≤ length xs) → (prefix ≡ []) ⊎ IsPart Prefix prefix → length prefix ≤ length xs
    other_within xs us more prefix longest (inl nothing) = omega (arith, ap length nothing)
    other_within xs us more prefix longest (inr part) = longest part

pub bare_found : (text behind : Text) → IsUtf8 text → text ≡ 58 ∷ behind → TextReads (BeginsWithShape IsPnameNs) text behind
bare_found text behind utf8 colon =
    let step = step_mark utf8.0 text behind 58 (omega arith) (sym utf8.1.1) colon in
    record {
      text_characters = utf8.0;
      rest_characters = step.0;
      text_is = sym utf8.1.1;
      rest_is = step.2;
      reads = record { front = 58 ∷ []; splits = step.1; fits = record { prefix = []; spelling = refl; is_prefix = inl refl } };
    }

-- ---- the name

name_is : (kind : Kind) (xs : Characters) → NameShapes kind xs → IsPnameNs xs ⊎ IsPnameLn xs
name_is PnameNs xs is = inl is
name_is PnameLn xs is = inr is
name_is _ xs is = absurd is

-- each name begins with its namespace
namespace_front : (xs : Characters) → IsPnameNs xs ⊎ IsPnameLn xs → (more : Characters) × (namespace : Characters) × (xs ≡ namespace ++ more) × IsPnameNs namespace
namespace_front xs (inl is) = ([], xs, sym (append-nil xs), is)
namespace_front xs (inr is) = (is.local, is.namespace, is.spelling, is.is_namespace)

module _ (text behind : Text) (namespace : TextReads (BeginsWithShape IsPnameNs) text behind) where
  same_front : (xs rest : Characters) → namespace.text_characters ≡ xs ++ rest → IsPnameNs xs → (namespace.reads.front ≡ xs) × (namespace.rest_characters ≡ rest)
  same_front xs rest e is = same_namespace namespace.reads.front xs namespace.rest_characters rest (sym namespace.reads.splits ∙ e) namespace.reads.fits is

  -- the local part of another name at the front
  same_local : (xs rest : Characters) → namespace.text_characters ≡ xs ++ rest → (is : IsPnameLn xs) → (namespace.reads.front ≡ is.namespace) × (namespace.rest_characters ≡ is.local ++ rest)
  same_local xs rest e is =
      same_front is.namespace (is.local ++ rest) (e ∙ ap (λ s. s ++ rest) is.spelling ∙ append_assoc is.namespace is.local rest) is.is_namespace

  pub local_found : (rest : Text) → TextReads (BeginsWithLongestShape (IsPart Local)) behind rest → TextBeginsWithLongest NameShapes text PnameLn rest
  local_found rest x =
      let at = reads_at (BeginsWithLongestShape (IsPart Local)) behind rest namespace.rest_characters x namespace.rest_is in
      record {
        text_characters = namespace.text_characters;
        rest_characters = at.0;
        text_is = namespace.text_is;
        rest_is = at.1;
        reads = record {
          spelled = namespace.reads.front ++ at.2.front;
          splits = namespace.reads.splits ∙ ap (λ r. namespace.reads.front ++ r) at.2.splits ∙ sym (append_assoc namespace.reads.front at.2.front at.0);
          fits = record { namespace = namespace.reads.front; local = at.2.front; spelling = refl; is_namespace = namespace.reads.fits; is_local = at.2.fits };
          longest = λ kind others other_rest e is.
              elim (name_is kind others is) [
                | inl ns ↦ omega (arith, ap length (same_front others other_rest e ns).0, length-append namespace.reads.front at.2.front)
                | inr ln ↦ omega (
                  arith,
                  ap length (same_local others other_rest e ln).0,
                  ap length ln.spelling,
                  length-append ln.namespace ln.local,
                  at.2.longest ln.local other_rest (same_local others other_rest e ln).1 ln.is_local,
                  length-append namespace.reads.front at.2.front,
                )
              ];
        };
      }

  pub local_none : TextReadsNone (BeginsWithNoShape (IsPart Local)) behind → TextBeginsWithLongest NameShapes text PnameNs behind
  local_none none =
      reads_then namespace (record {
        spelled = namespace.reads.front;
        splits = namespace.reads.splits;
        fits = namespace.reads.fits;
        longest = λ kind others other_rest e is.
            elim (name_is kind others is) [
              | inl ns ↦ omega (arith, ap length (same_front others other_rest e ns).0)
              | inr ln ↦ absurd (none namespace.rest_characters namespace.rest_is ln.local other_rest (same_local others other_rest e ln).1 ln.is_local)
            ];
      })
