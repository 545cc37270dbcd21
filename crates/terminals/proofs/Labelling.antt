-- How far a label goes.
use Rattle.std.proofs.Common.{◌≡◌, ◌≢◌, ℕ, suc, ◌+◌, ◌-◌, ◌<◌, ◌≤◌, Bool, true, false, not, ◌||◌, ◌==◌, List, [], ◌∷◌, ◌++◌, All, length, drop, get_or, nat_lt, refl, sym, ap, subst, ◌∙◌, arith, ◌⊎◌, inl, inr, true≢false}
use Rattle.std.specs.Prelude.{encode_utf8, encode_utf8_all}
use Rattle.std.specs.List.{prefix_len}
use Rattle.std.proofs.lemmas.Bool.{and_parts, or_left, or_right, or_from, eq-eqb, ne_eqb, ltb-true, cases_Bool, cases_lt}
use Rattle.std.proofs.lemmas.List.{append_assoc, length-append, get_or_at, get_or-append_right, get_or_append_left}
use Rattle.std.proofs.lemmas.List.Elements.{All-push, All-append}
use Rattle.std.proofs.lemmas.Str.{cons_from_encodes, encode_ascii, encode_same, encodes-append, length-encode, len_utf8_bounds}
use Rattle.char_tables.specs.Rows.{is_in}
use Rattle.char_tables.specs.Classes.{pn_chars, is_ascii_pn}
use Rattle.terminals.specs.declared.labels.Grammar.{Grammar}
use Rattle.terminals.specs.declared.labels.Grammar.TheVariants.{NQuads, TriG}
use Rattle.terminals.specs.Terminal.{Characters, BeginsWith}
use Rattle.terminals.specs.Terminals.{ends_label, GoesOnAsLabel, GoesOnAsLabelIn}

abbrev pub is_inner : Grammar → ℕ → Bool
is_inner grammar c = ends_label grammar c || c == 46

-- characters that pass reach no further than to one that does not
pub passing_within : (p : ℕ → Bool) (xs other back rest : List ℕ) → xs ++ back ≡ other ++ rest → All (λ c. p c ≡ true) other
    → ((c : ℕ) (more : List ℕ) → back ≡ c ∷ more → p c ≡ false) → length other ≤ length xs
passing_within p xs [] back rest e all stops = omega arith
passing_within p [] (c ∷ other) back rest e all stops = absurd (true≢false (sym (all 0 0 (omega arith)) ∙ stops c (other ++ rest) e))
passing_within p (x ∷ xs) (c ∷ other) back rest e all stops =
    let tail : xs ++ back ≡ other ++ rest = cc in
    let more = passing_within p xs other back rest tail (λ k d l. all (suc k) d (omega arith)) stops in
    omega arith

-- a terminal that never holds a mark is the longest front that ends before the mark
pub BeginsWith-before : (mark : ℕ) (terminal : Characters → Characters → Type 0) → ((spelled value : Characters) → terminal spelled value → All (λ c. c ≢ mark) spelled)
    → (spelled value rest : Characters) → terminal spelled value → BeginsWith terminal (spelled ++ mark ∷ rest) value (mark ∷ rest)
BeginsWith-before mark terminal without spelled value rest fits = record {
  spelled = spelled;
  splits = refl;
  fits = fits;
  longest = λ other other_value other_rest e is.
      passing_within (λ c. not (c == mark)) spelled other (mark ∷ rest) other_rest e
      (λ k d l. ap not (ne_eqb (get_or other k d) mark (without other other_value is k d l)))
      (λ c more f. let same : mark ≡ c = cc in ap not (eq-eqb c mark (sym same)));
}

pub goes_on_all : (grammar : Grammar) (more : List ℕ) → GoesOnAsLabel grammar more → All (λ c. is_inner grammar c ≡ true) more
goes_on_all grammar more (inl e) = subst (All (λ c. is_inner grammar c ≡ true)) (sym e) (λ k d l. absurd (omega arith))
goes_on_all grammar more (inr (inner, last, e, all, ends)) =
    subst (All (λ c. is_inner grammar c ≡ true)) (sym e)
    (All-push (λ c. is_inner grammar c ≡ true) inner last all (or_left (ends_label grammar last) (last == 46) ends))

dot_ends_none : (grammar : Grammar) → ends_label grammar 46 ≡ false
dot_ends_none NQuads = refl
dot_ends_none TriG = refl

-- a front that may stand in a label, dots behind it, and the rest
pub record Labelled (grammar : Grammar) (text end rest : List ℕ) : Type 0 where
  pub front : List ℕ
  pub dots : List ℕ
  pub behind : List ℕ
  pub text_is : text ≡ encode_utf8_all front ++ end
  pub end_is : end ≡ encode_utf8_all (dots ++ behind)
  pub rest_is : rest ≡ encode_utf8_all behind
  pub fits : GoesOnAsLabel grammar front
  pub all_dots : All (λ c. c ≡ 46) dots

pub labelled_start : (grammar : Grammar) (text characters : List ℕ) → encode_utf8_all characters ≡ text → Labelled grammar text text text
labelled_start grammar text characters is = record {
  front = [];
  dots = [];
  behind = characters;
  text_is = refl;
  end_is = sym is;
  rest_is = sym is;
  fits = inl refl;
  all_dots = λ k d l. absurd (omega arith);
}

dots_inner : (grammar : Grammar) (dots : List ℕ) → All (λ c. c ≡ 46) dots → All (λ c. is_inner grammar c ≡ true) dots
dots_inner grammar dots all = λ k d l. or_right (ends_label grammar (get_or dots k d)) (get_or dots k d == 46) (eq-eqb _ _ (all k d l))

pub labelled_more : (grammar : Grammar) (text end rest next : List ℕ) (c : ℕ) → Labelled grammar text end rest → rest ≡ encode_utf8 c ++ next → ends_label grammar c ≡ true
    → Labelled grammar text next next
labelled_more grammar text end rest next c so first ends =
    let back = cons_from_encodes so.behind next c (sym so.rest_is ∙ first) in
    let split : end ≡ encode_utf8_all (so.dots ++ c ∷ []) ++ next =
    so.end_is ∙ ap (λ b. encode_utf8_all (so.dots ++ b)) back.1 ∙ ap encode_utf8_all (sym (append_assoc so.dots (c ∷ []) back.0))
    ∙ encodes-append (so.dots ++ c ∷ []) back.0 ∙ ap (λ n. encode_utf8_all (so.dots ++ c ∷ []) ++ n) back.2 in
    record {
      front = (so.front ++ so.dots) ++ c ∷ [];
      dots = [];
      behind = back.0;
      text_is = so.text_is ∙ ap (λ t. encode_utf8_all so.front ++ t) split ∙ sym (append_assoc (encode_utf8_all so.front) (encode_utf8_all (so.dots ++ c ∷ [])) next)
          ∙ ap (λ f. f ++ next) (sym (encodes-append so.front (so.dots ++ c ∷ [])) ∙ ap encode_utf8_all (sym (append_assoc so.front so.dots (c ∷ []))));
      end_is = sym back.2;
      rest_is = sym back.2;
      fits = inr (so.front ++ so.dots, c, refl, All-append (λ x. is_inner grammar x ≡ true) so.front so.dots (goes_on_all grammar so.front so.fits) (dots_inner grammar so.dots so.all_dots), ends);
      all_dots = λ k d l. absurd (omega arith);
    }

pub pn_ascii : (c : ℕ) → is_ascii_pn c ≡ true → c < 128
pn_ascii c h = ltb-true c 128 (and_parts (nat_lt c 128) (is_in pn_chars c) h).0

pn_ends : (grammar : Grammar) (c : ℕ) → is_ascii_pn c ≡ true → ends_label grammar c ≡ true
pn_ends grammar c h = by grammar (and_parts (nat_lt c 128) (is_in pn_chars c) h).1
  where
    by : (g : Grammar) → is_in pn_chars c ≡ true → ends_label g c ≡ true
    by NQuads in_class = or_left (is_in pn_chars c) (c == 58) in_class
    by TriG in_class = in_class

-- a label goes on over ASCII characters of PN_CHARS
pub labelled_ascii : (grammar : Grammar) (text rest next : List ℕ) → Labelled grammar text rest rest → next ≡ drop (prefix_len is_ascii_pn rest) rest → Labelled grammar text next next
labelled_ascii grammar text [] next so cut = subst (λ r. Labelled grammar text r r) (sym cut) so
labelled_ascii grammar text (c ∷ cs) next so cut = by (cases_Bool (is_ascii_pn c)) (labelled_ascii grammar text cs next)
  where
    by : (is_ascii_pn c ≡ true) ⊎ (is_ascii_pn c ≡ false) → (Labelled grammar text cs cs → next ≡ drop (prefix_len is_ascii_pn cs) cs → Labelled grammar text next next)
        → Labelled grammar text next next
    by (inr stops) onward = subst (λ r. Labelled grammar text r r) (sym (rw stops at cut)) so
    by (inl passes) onward =
        let one : c ∷ cs ≡ encode_utf8 c ++ cs = ap (λ f. f ++ cs) (sym (encode_ascii c (pn_ascii c passes))) in
        let len : prefix_len is_ascii_pn (c ∷ cs) ≡ suc (prefix_len is_ascii_pn cs) = rw passes (omega arith) in
        onward (labelled_more grammar text (c ∷ cs) (c ∷ cs) cs c so one (pn_ends grammar c passes)) (cut ∙ ap (λ n. drop n (c ∷ cs)) len)

pub labelled_dot : (grammar : Grammar) (text end rest next : List ℕ) (c : ℕ) → Labelled grammar text end rest → rest ≡ encode_utf8 c ++ next → c ≡ 46 → Labelled grammar text end next
labelled_dot grammar text end rest next c so first dot =
    let back = cons_from_encodes so.behind next c (sym so.rest_is ∙ first) in
    record {
      front = so.front;
      dots = so.dots ++ c ∷ [];
      behind = back.0;
      text_is = so.text_is;
      end_is = so.end_is ∙ ap (λ b. encode_utf8_all (so.dots ++ b)) back.1 ∙ ap encode_utf8_all (sym (append_assoc so.dots (c ∷ []) back.0));
      rest_is = sym back.2;
      fits = so.fits;
      all_dots = All-push (λ x. x ≡ 46) so.dots c so.all_dots dot;
    }

-- what ends the loop: no text, or a character that may not stand in a label
pub labelled_end : (grammar : Grammar) (text end rest : List ℕ) (so : Labelled grammar text end rest)
    → ((c : ℕ) (more : List ℕ) → so.behind ≡ c ∷ more → is_inner grammar c ≡ false) → GoesOnAsLabelIn grammar text end
labelled_end grammar text end rest so stops = record {
  more = so.front;
  rest_characters = so.dots ++ so.behind;
  text_is = so.text_is;
  rest_is = so.end_is;
  fits = so.fits;
  longest = longest;
}
  where
    longest : (other other_rest : List ℕ) → so.front ++ (so.dots ++ so.behind) ≡ other ++ other_rest → GoesOnAsLabel grammar other → length other ≤ length so.front
    longest other other_rest e (inl nothing) = omega (arith, ap length nothing)
    longest other other_rest e (inr (inner, last, is, all, ends)) = by (cases_lt (length so.front) (length other))
      where
        reach : length other ≤ length (so.front ++ so.dots)
        reach = passing_within (is_inner grammar) (so.front ++ so.dots) other so.behind other_rest (append_assoc so.front so.dots so.behind ∙ e)
            (goes_on_all grammar other (inr (inner, last, is, all, ends))) stops

        len : length other ≡ length inner + 1
        len = ap length is ∙ length-append inner (last ∷ [])

        here : get_or (so.front ++ (so.dots ++ so.behind)) (length inner) 0 ≡ last
        here = ap (λ t. get_or t (length inner) 0) (e ∙ ap (λ o. o ++ other_rest) is ∙ append_assoc inner (last ∷ []) other_rest) ∙ get_or_at inner last other_rest 0 (length inner) refl

        by : (length so.front < length other) ⊎ (length other ≤ length so.front) → length other ≤ length so.front
        by (inr within) = within
        by (inl past) =
            let k = length inner - length so.front in
            let short : k < length so.dots = omega (arith, reach, len, length-append so.front so.dots) in
            let dot : get_or (so.front ++ (so.dots ++ so.behind)) (length inner) 0 ≡ 46 =
            get_or-append_right so.front (so.dots ++ so.behind) (length so.front) (length inner) 0 refl (omega (arith, len)) ∙ get_or_append_left so.dots so.behind 0 k short ∙ so.all_dots k 0 short in
            absurd (true≢false (sym ends ∙ ap (ends_label grammar) (sym here ∙ dot) ∙ dot_ends_none grammar))

pub stops_at_end : (grammar : Grammar) (text end rest : List ℕ) (so : Labelled grammar text end rest) → rest ≡ []
    → (c : ℕ) (more : List ℕ) → so.behind ≡ c ∷ more → is_inner grammar c ≡ false
stops_at_end grammar text end rest so nothing c more e =
    let whole : [] ≡ encode_utf8 c ++ encode_utf8_all more = sym nothing ∙ so.rest_is ∙ ap encode_utf8_all e in
    absurd (omega (arith, ap length whole, length-append (encode_utf8 c) (encode_utf8_all more), length-encode c, (len_utf8_bounds c).0))

pub stops_at_other : (grammar : Grammar) (text end rest next : List ℕ) (d : ℕ) (so : Labelled grammar text end rest) → rest ≡ encode_utf8 d ++ next
    → ends_label grammar d ≡ false → d ≢ 46 → (c : ℕ) (more : List ℕ) → so.behind ≡ c ∷ more → is_inner grammar c ≡ false
stops_at_other grammar text end rest next d so first none no_dot c more e =
    let same = encode_same d c next (encode_utf8_all more) (sym first ∙ so.rest_is ∙ ap encode_utf8_all e) in
    subst (λ x. is_inner grammar x ≡ false) same.0 (or_from (ends_label grammar d) (d == 46) none (ne_eqb d 46 no_dot))

pub rest_smaller : (rest next : List ℕ) (c : ℕ) → rest ≡ encode_utf8 c ++ next → length next < length rest
rest_smaller rest next c first = omega (arith, ap length first, length-append (encode_utf8 c) next, length-encode c, (len_utf8_bounds c).0)
