-- How a run of spelled characters grows.
use Rattle.std.proofs.Common.{◌≡◌, ℕ, ◌-◌, ◌<◌, Bool, true, false, List, [], ◌∷◌, ◌++◌, length, take, drop, refl, sym, ap, subst, ◌∙◌, arith, inl, inr, true≢false}
use Rattle.std.specs.Prelude.{encode_utf8, encode_utf8_all, slice_range}
use Rattle.std.specs.List.{prefix_len}
use Rattle.std.specs.Str.{IsUtf8, IsCharBoundary, all_scalars}
use Rattle.std.proofs.lemmas.Bool.{and_parts}
use Rattle.std.proofs.lemmas.Grind.{common_steps}
use Rattle.std.proofs.lemmas.List.{append_assoc, length-append, length-drop, take_at}
use Rattle.std.proofs.lemmas.Str.{cons_from_encodes, encodes-append, encodes-IsAscii, IsCharBoundary-at_seam}
use Rattle.terminals.specs.declared.bodies.Body.{Body}
use Rattle.terminals.specs.declared.runs.Spelling.{Spelling}
use Rattle.terminals.specs.Escapes.{BeginsWithOne, BeginsWithNoOne}
use Rattle.terminals.specs.Spellings.{stands_for_itself, IsEscape, Spells, SpellsNone, BeginsWithRun}
use Rattle.terminals.proofs.Plain.{plain_front, behind_plain, PlainFront}
use Rattle.terminals.proofs.Unique.{spells-append, spells_escape, escape_ascii, escape_front}
use Rattle.rdf_terms.proofs.Common.{In, In-append_left, In-append_right}

-- characters whose bytes begin with those of others begin with these
pub front_from_encodes : (cs front : List ℕ) (rest : List ℕ) → encode_utf8_all cs ≡ encode_utf8_all front ++ rest
    → (back : List ℕ) × (cs ≡ front ++ back) × (encode_utf8_all back ≡ rest)
front_from_encodes cs [] rest e = (cs, refl, e)
front_from_encodes cs (c ∷ front) rest e =
    let one = cons_from_encodes cs (encode_utf8_all front ++ rest) c (e ∙ append_assoc (encode_utf8 c) (encode_utf8_all front) rest) in
    let more = front_from_encodes one.0 front rest one.2 in
    (more.0, one.1 ∙ ap (λ l. c ∷ l) more.1, more.2)

pub all_scalars-append_right : (xs ys : List ℕ) → all_scalars (xs ++ ys) ≡ true → all_scalars ys ≡ true
all_scalars-append_right [] ys h = h
all_scalars-append_right (x ∷ xs) ys h = all_scalars-append_right xs ys (and_parts _ (all_scalars (xs ++ ys)) h).1

-- spelled characters and then the rest, which begins with none that stands for itself
pub record Ran (body : Body) (text rest : List ℕ) (has_escapes : Bool) : Type 0 where
  pub spelled : List ℕ
  pub value : List ℕ
  pub behind : List ℕ
  pub text_is : text ≡ encode_utf8_all spelled ++ rest
  pub rest_is : rest ≡ encode_utf8_all behind
  pub scalars : all_scalars behind ≡ true
  pub spells : Spells body spelled value
  pub plain : has_escapes ≡ false → spelled ≡ value
  pub escaped : has_escapes ≡ true → In 92 spelled
  pub stops : (c : ℕ) (more : List ℕ) → behind ≡ c ∷ more → stands_for_itself body c ≡ false

-- a text, its front of characters that stand for themselves, and what follows them
after_plain : (body : Body) (characters text rest : List ℕ) (plain : PlainFront body characters) → encode_utf8_all characters ≡ text
    → rest ≡ drop (prefix_len (stands_for_itself body) text) text → (text ≡ encode_utf8_all plain.front ++ rest) × (rest ≡ encode_utf8_all plain.back)
after_plain body characters text rest plain is cut =
    let rest_is : rest ≡ encode_utf8_all plain.back = cut ∙ behind_plain body text characters plain is in
    (sym is ∙ ap encode_utf8_all plain.splits ∙ encodes-append plain.front plain.back ∙ ap (λ r. encode_utf8_all plain.front ++ r) (sym rest_is), rest_is)

pub ran_start : (body : Body) (text rest : List ℕ) → IsUtf8 text → rest ≡ drop (prefix_len (stands_for_itself body) text) text → Ran body text rest false
ran_start body text rest utf8 cut =
    let plain = plain_front body utf8.0 utf8.1.0 in
    let parts = after_plain body utf8.0 text rest plain utf8.1.1 cut in
    record {
      spelled = plain.front;
      value = plain.front;
      behind = plain.back;
      text_is = parts.0;
      rest_is = parts.1;
      scalars = plain.scalars;
      spells = plain.spells;
      plain = λ h. refl;
      escaped = λ h. absurd (true≢false (sym h));
      stops = plain.stops;
    }

-- the escape behind a run, in characters
pub escape_behind : (body : Body) (text rest after : List ℕ) (c : ℕ) (h : Bool) (ran : Ran body text rest h) (one : BeginsWithOne (IsEscape body) rest c after)
    → (back : List ℕ) × (ran.behind ≡ one.spelled ++ back) × (encode_utf8_all back ≡ after)
escape_behind body text rest after c h ran one =
    let ascii : encode_utf8_all one.spelled ≡ one.spelled = encodes-IsAscii one.spelled (escape_ascii body one.spelled c one.fits) in
    front_from_encodes ran.behind one.spelled after (sym ran.rest_is ∙ one.splits ∙ ap (λ s. s ++ after) (sym ascii))

pub ran_step : (body : Body) (text rest after next : List ℕ) (c : ℕ) (h : Bool) → Ran body text rest h → BeginsWithOne (IsEscape body) rest c after
    → next ≡ drop (prefix_len (stands_for_itself body) after) after → Ran body text next true
ran_step body text rest after next c h ran one cut =
    let ascii : encode_utf8_all one.spelled ≡ one.spelled = encodes-IsAscii one.spelled (escape_ascii body one.spelled c one.fits) in
    let split = escape_behind body text rest after c h ran one in
    let plain = plain_front body split.0 (all_scalars-append_right one.spelled split.0 (ap all_scalars (sym split.1) ∙ ran.scalars)) in
    let parts = after_plain body split.0 after next plain split.2 cut in
    record {
      spelled = (ran.spelled ++ one.spelled) ++ plain.front;
      value = (ran.value ++ c ∷ []) ++ plain.front;
      behind = plain.back;
      text_is = ran.text_is ∙ ap (λ r. encode_utf8_all ran.spelled ++ r) (one.splits ∙ (λ i. sym ascii i ++ parts.0 i))
          ∙ sym (append_assoc (encode_utf8_all ran.spelled) (encode_utf8_all one.spelled) (encode_utf8_all plain.front ++ next))
          ∙ ap (λ f. f ++ (encode_utf8_all plain.front ++ next)) (sym (encodes-append ran.spelled one.spelled))
          ∙ sym (append_assoc (encode_utf8_all (ran.spelled ++ one.spelled)) (encode_utf8_all plain.front) next)
          ∙ ap (λ f. f ++ next) (sym (encodes-append (ran.spelled ++ one.spelled) plain.front));
      rest_is = parts.1;
      scalars = plain.scalars;
      spells = spells-append body (ran.value ++ c ∷ []) plain.front (ran.spelled ++ one.spelled) plain.front
          (spells-append body ran.value (c ∷ []) ran.spelled one.spelled ran.spells (spells_escape body one.spelled c one.fits)) plain.spells;
      plain = λ e. absurd (true≢false e);
      escaped =
          λ _. In-append_left (ran.spelled ++ one.spelled) plain.front 92 (In-append_right ran.spelled one.spelled 92 (subst (In 92) (sym (escape_front body one.spelled c one.fits).1) (inl refl)));
      stops = plain.stops;
    }

-- the text may be cut behind the run
pub cut_behind_run : (body : Body) (text rest : List ℕ) (h : Bool) → Ran body text rest h → IsCharBoundary text (length text - length rest)
cut_behind_run body text rest h ran =
    let len : length (encode_utf8_all ran.spelled) ≡ length text - length rest = omega (arith, ap length ran.text_is, length-append (encode_utf8_all ran.spelled) rest) in
    subst (IsCharBoundary text) len (IsCharBoundary-at_seam text (encode_utf8_all ran.spelled) rest ran.text_is (ran.behind, (ran.scalars, sym ran.rest_is)))

pub slice_front : (text : List ℕ) (n : ℕ) → slice_range text 0 n ≡ take n text
slice_front text n = grind (arith, common_steps)

-- the bytes of the run
pub ran_front : (body : Body) (text rest : List ℕ) (h : Bool) (ran : Ran body text rest h) → slice_range text 0 (length text - length rest) ≡ encode_utf8_all ran.spelled
ran_front body text rest h ran =
    slice_front text (length text - length rest) ∙ ap (take (length text - length rest)) ran.text_is ∙ take_at (encode_utf8_all ran.spelled) rest (length text - length rest) len
  where
    len : length (encode_utf8_all ran.spelled) ≡ length text - length rest
    len = omega (arith, ap length ran.text_is, length-append (encode_utf8_all ran.spelled) rest)

-- where no escape follows, nothing more is spelled
pub ran_ends : (body : Body) (text rest : List ℕ) (h : Bool) (ran : Ran body text rest h) → BeginsWithNoOne (IsEscape body) rest → SpellsNone body ran.behind
ran_ends body text rest h ran none first c more e (inl (x, stands, s)) = true≢false (sym stands ∙ ran.stops c more (e ∙ ap (λ f. f ++ more) x))
ran_ends body text rest h ran none first c more e (inr escape) =
    none first c (encode_utf8_all more)
    (ran.rest_is ∙ ap encode_utf8_all e ∙ encodes-append first more ∙ ap (λ f. f ++ encode_utf8_all more) (encodes-IsAscii first (escape_ascii body first c escape)))
    escape

pub ran_to_end : (body : Body) (text rest : List ℕ) (spelling : Spelling) → Ran body text rest spelling.has_escapes → BeginsWithNoOne (IsEscape body) rest
    → spelling.text.now ≡ slice_range text 0 (length text - length rest) → spelling.body ≡ body → BeginsWithRun body text spelling rest
ran_to_end body text rest spelling ran none cut same = record {
  spelled_characters = ran.spelled;
  value_characters = ran.value;
  rest_characters = ran.behind;
  text_is = ran.text_is ∙ ap (λ r. encode_utf8_all ran.spelled ++ r) ran.rest_is ∙ sym (encodes-append ran.spelled ran.behind);
  spelled_is = cut ∙ ran_front body text rest spelling.has_escapes ran;
  rest_is = ran.rest_is;
  body_is = same;
  spells = ran.spells;
  plain = ran.plain;
  escaped = ran.escaped;
  ends = ran_ends body text rest spelling.has_escapes ran none;
}

-- each step leaves less
pub ran_smaller : (body : Body) (rest after next : List ℕ) (c : ℕ) → BeginsWithOne (IsEscape body) rest c after → next ≡ drop (prefix_len (stands_for_itself body) after) after
    → length next < length rest
ran_smaller body rest after next c one cut =
    let front = escape_front body one.spelled c one.fits in
    let whole = ap length one.splits ∙ length-append one.spelled after in
    let mark = ap length front.1 in
    omega (arith, ap length cut, length-drop (prefix_len (stands_for_itself body) after) after)

pub utf8_behind_escape : (body : Body) (text rest after : List ℕ) (c : ℕ) (h : Bool) → Ran body text rest h → BeginsWithOne (IsEscape body) rest c after → IsUtf8 after
utf8_behind_escape body text rest after c h ran one =
    let back = escape_behind body text rest after c h ran one in
    (back.0, (all_scalars-append_right one.spelled back.0 (ap all_scalars (sym back.1) ∙ ran.scalars), back.2))
