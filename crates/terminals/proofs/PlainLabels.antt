-- Letters and digits make a label of N-Quads, and no label has a space.
use Rattle.std.proofs.Common.{◌≡◌, ◌≢◌, ℕ, ◌<◌, true, ◌==◌, [], ◌∷◌, All, length, refl, sym, ap, subst, ◌∙◌, arith, ◌⊎◌, inl, inr, true≢false}
use Rattle.std.specs.Char.{is_ascii_digit, is_ascii_alphanumeric}
use Rattle.std.proofs.lemmas.Bool.{or_cases, or_left, or_right}
use Rattle.std.proofs.lemmas.List.Elements.{All-nil, All-cons, All-head, All-tail}
use Rattle.rdf_terms.proofs.Common.{Text, In, In-append_right}
use Rattle.char_tables.specs.Rows.{Rows, row_holds, is_in}
use Rattle.char_tables.specs.Classes.{pn_chars_u_trig, pn_chars_u_nquads, pn_chars}
use Rattle.terminals.specs.Terminal.{Characters}
use Rattle.terminals.specs.Terminals.{BlankNodeLabel, GoesOnAsLabel, begins_label, ends_label}
use Rattle.terminals.specs.declared.labels.Grammar.TheVariants.{NQuads}
use Rattle.terminals.proofs.Labelling.{goes_on_all, is_inner}

is_in-row : (row : ℕ × ℕ) (rows : Rows) (c : ℕ) → In row rows → row_holds row c ≡ true → is_in rows c ≡ true
is_in-row row [] c there h = absurd there
is_in-row row (r ∷ rows) c (inl e) h = or_left (row_holds r c) (is_in rows c) (subst (λ x. row_holds x c ≡ true) e h)
is_in-row row (r ∷ rows) c (inr there) h = or_right (row_holds r c) (is_in rows c) (is_in-row row rows c there h)

abbrev IsPlain : ℕ → Type 0
IsPlain c = is_ascii_alphanumeric c ≡ true

-- a digit, an upper case letter or a lower case letter
plain_cases : (c : ℕ) → IsPlain c → (row_holds (0x30, 0x39) c ≡ true) ⊎ ((row_holds (0x41, 0x5A) c ≡ true) ⊎ (row_holds (0x61, 0x7A) c ≡ true))
plain_cases c h =
    elim (or_cases _ (row_holds (0x61, 0x7A) c) h) [
      | inl a ↦ elim (or_cases (row_holds (0x30, 0x39) c) (row_holds (0x41, 0x5A) c) a) [ inl d ↦ inl d | inr u ↦ inr (inl u) ]
      | inr l ↦ inr (inr l)
    ]

plain_begins : (c : ℕ) → IsPlain c → begins_label NQuads c ≡ true
plain_begins c h = by (plain_cases c h)
  where
    by : (row_holds (0x30, 0x39) c ≡ true) ⊎ ((row_holds (0x41, 0x5A) c ≡ true) ⊎ (row_holds (0x61, 0x7A) c ≡ true)) → begins_label NQuads c ≡ true
    by (inl d) = or_right (is_in pn_chars_u_nquads c) (is_ascii_digit c) d
    by (inr (inl u)) = or_left (is_in pn_chars_u_nquads c) (is_ascii_digit c) (is_in-row (0x41, 0x5A) pn_chars_u_nquads c (inl refl) u)
    by (inr (inr l)) = or_left (is_in pn_chars_u_nquads c) (is_ascii_digit c) (is_in-row (0x61, 0x7A) pn_chars_u_nquads c (inr (inl refl)) l)

plain_ends : (c : ℕ) → IsPlain c → ends_label NQuads c ≡ true
plain_ends c h = by (plain_cases c h)
  where
    holds : is_in pn_chars c ≡ true → ends_label NQuads c ≡ true
    holds e = or_left (is_in pn_chars c) (c == 58) e

    by : (row_holds (0x30, 0x39) c ≡ true) ⊎ ((row_holds (0x41, 0x5A) c ≡ true) ⊎ (row_holds (0x61, 0x7A) c ≡ true)) → ends_label NQuads c ≡ true
    by (inl d) =
        holds (is_in-row (0x30, 0x39) pn_chars c (In-append_right pn_chars_u_trig ((0x2D, 0x2D) ∷ (0x30, 0x39) ∷ (0xB7, 0xB7) ∷ (0x300, 0x36F) ∷ (0x203F, 0x2040) ∷ []) (0x30, 0x39)
        (inr (inl refl))) d)
    by (inr (inl u)) = holds (is_in-row (0x41, 0x5A) pn_chars c (inl refl) u)
    by (inr (inr l)) = holds (is_in-row (0x61, 0x7A) pn_chars c (inr (inl refl)) l)

plain_inner : (c : ℕ) → IsPlain c → is_inner NQuads c ≡ true
plain_inner c h = or_left (ends_label NQuads c) (c == 46) (plain_ends c h)

plain_goes_on : (more : Text) → All IsPlain more → GoesOnAsLabel NQuads more
plain_goes_on [] all = inl refl
plain_goes_on (c ∷ cs) all = by (plain_goes_on cs (All-tail IsPlain c cs all))
  where
    here : IsPlain c
    here = All-head IsPlain c cs all

    by : GoesOnAsLabel NQuads cs → GoesOnAsLabel NQuads (c ∷ cs)
    by (inl none) = inr ([], c, ap (λ t. c ∷ t) none, All-nil _, plain_ends c here)
    by (inr (inner, last, e, inners, ends)) = inr (c ∷ inner, last, ap (λ t. c ∷ t) e, All-cons (λ d. is_inner NQuads d ≡ true) c inner (plain_inner c here) inners, ends)

pub label_spaceless : (spelled value : Characters) → BlankNodeLabel NQuads spelled value → All (λ c. c ≢ 32) spelled
label_spaceless spelled value is =
    subst (All (λ c. c ≢ 32)) (sym (is.mark ∙ ap (λ v. 95 ∷ 58 ∷ v) is.label))
    (All-cons (λ c. c ≢ 32) 95 (58 ∷ is.first ∷ is.more) (λ e. omega arith) (All-cons (λ c. c ≢ 32) 58 (is.first ∷ is.more) (λ e. omega arith)
    (All-cons (λ c. c ≢ 32) is.first is.more (λ e. true≢false (sym is.begins ∙ ap (begins_label NQuads) e)) inner)))
  where
    inner : All (λ c. c ≢ 32) is.more
    inner = λ k d l e. true≢false (sym (goes_on_all NQuads is.more is.goes_on k d l) ∙ ap (is_inner NQuads) e)

pub is_label : (name : Text) → 0 < length name → All IsPlain name → BlankNodeLabel NQuads (95 ∷ 58 ∷ name) name
is_label [] some all = absurd (omega arith)
is_label (c ∷ cs) some all = record {
  first = c;
  more = cs;
  mark = refl;
  label = refl;
  begins = plain_begins c (All-head IsPlain c cs all);
  goes_on = plain_goes_on cs (All-tail IsPlain c cs all);
}
