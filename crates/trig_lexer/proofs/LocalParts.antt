-- The parts of prefixed names: where the first `:` stands, and what a local part is without its escapes.
use Rattle.std.proofs.Common.{◌≡◌, ◌≢◌, ℕ, suc, ◌<◌, ◌≤◌, Bool, true, false, not, ◌==◌, ◌&&◌, List, [], ◌∷◌, ◌++◌, All, length, get_or, refl, sym, ap, subst, ◌∙◌, arith, ◌⊎◌, inl, inr, true≢false, if◌then◌else◌}
use Rattle.std.proofs.lemmas.List.Elements.{All-append}
use Rattle.std.specs.Prelude.{encode_utf8, encode_utf8_all}
use Rattle.std.specs.List.{concat}
use Rattle.std.proofs.lemmas.Bool.{cases_lt, ne_eqb, eq-eqb, eqb-true, and_parts, and_from}
use Rattle.std.proofs.lemmas.Bool.Decides.{nat_tests}
use Rattle.std.proofs.lemmas.List.{append_assoc, append-nil, get_or_default}
use Rattle.std.proofs.lemmas.Str.{encodes-append, encode_ascii, encodes-IsAscii, length-encode, len_utf8_bounds}
use Rattle.std.proofs.lemmas.Str.Ascii.{IsAscii-nil, IsAscii-cons}
use Rattle.rdf_terms.proofs.Common.{Text, is_excluded}
use Rattle.char_tables.specs.Rows.{is_in}
use Rattle.char_tables.specs.Classes.{hex}
use Rattle.terminals.specs.Terminal.{Characters}
use Rattle.terminals.proofs.Marks.{encodes_ascii_front}
use Rattle.terminals.proofs.Plain.{byte_past_ascii, all_one}
use Rattle.trig_lexer.specs.declared.parts.Part.TheVariants.{Local}
use Rattle.trig_lexer.specs.declared.parts.Place.{Place}
use Rattle.trig_lexer.specs.declared.parts.Place.TheVariants.{First, Later}
use Rattle.trig_lexer.specs.Names.{takes, escaped_in_local, IsPlx, IsPiece, GoesOnAsPart, IsPart, IsPnameNs, IsPnameLn, unescaped, unescaped_behind}
use Rattle.trig_lexer.proofs.Naming.{prefix_no_colon}

-- ---- bytes of characters

-- what holds of the characters and of all bytes that are no ASCII holds of the bytes
bytes_all : (P : ℕ → Type 0) → ((b : ℕ) → 128 ≤ b → P b) → (cs : Characters) → All P cs → All P (encode_utf8_all cs)
bytes_all P past [] all = λ k d l. absurd (omega arith)
bytes_all P past (c ∷ cs) all = All-append P (encode_utf8 c) (encode_utf8_all cs) (one (cases_lt c 128)) (bytes_all P past cs (λ k d l. all (suc k) d (omega arith)))
  where
    one : (c < 128) ⊎ (128 ≤ c) → All P (encode_utf8 c)
    one (inl ascii) = subst (All P) (sym (encode_ascii c ascii)) (all_one P c (all 0 0 (omega arith)))
    one (inr more) = λ k d l. subst P (get_or_default (encode_utf8 c) k 0 d l) (past (get_or (encode_utf8 c) k 0) (byte_past_ascii c k more l))

-- ---- the first `:`

pub record HasParts (text : Text) (local : Characters) : Type 0 where
  pub prefix : Characters
  pub splits : text ≡ encode_utf8_all prefix ++ 58 ∷ encode_utf8_all local
  pub no_colon : (k : ℕ) → k < length (encode_utf8_all prefix) → get_or (encode_utf8_all prefix) k 0 ≢ 58

parts_of : (text : Text) (spelled namespace local : Characters) → text ≡ encode_utf8_all spelled → spelled ≡ namespace ++ local → IsPnameNs namespace → HasParts text local
parts_of text spelled namespace local is splits name = record {
  prefix = name.prefix;
  splits = is ∙ ap encode_utf8_all (splits ∙ ap (λ n. n ++ local) name.spelling ∙ append_assoc name.prefix (58 ∷ []) local) ∙ encodes-append name.prefix (58 ∷ local)
      ∙ ap (λ r. encode_utf8_all name.prefix ++ r) (encodes_ascii_front 58 local (omega arith));
  no_colon = λ k l e. no_byte k l e;
}
  where
    bytes : All (λ b. b ≢ 58) (encode_utf8_all name.prefix)
    bytes = bytes_all (λ b. b ≢ 58) (λ b past e. absurd (omega arith)) name.prefix (λ k d l e. no_char k d l e)
      where
        no_char : (k d : ℕ) → k < length name.prefix → get_or name.prefix k d ≢ 58
        no_char k d l e = true≢false (sym (prefix_no_colon name.prefix name.is_prefix k d l) ∙ ap (λ c. not (c == 58)) e)

    no_byte : (k : ℕ) → k < length (encode_utf8_all name.prefix) → get_or (encode_utf8_all name.prefix) k 0 ≢ 58
    no_byte k l = bytes k 0 l

pub namespace_parts : (text : Text) (spelled : Characters) → text ≡ encode_utf8_all spelled → IsPnameNs spelled → HasParts text []
namespace_parts text spelled is name = parts_of text spelled spelled [] is (sym (append-nil spelled)) name

-- a text without the byte at any place has it nowhere
pub none_anywhere : (byte : ℕ) (xs : Text) → ((k : ℕ) → k < length xs → get_or xs k 0 ≢ byte) → All (λ b. b ≢ byte) xs
none_anywhere byte xs none k d l = subst (λ b. b ≢ byte) (get_or_default xs k 0 d l) (none k l)

-- ---- a text without its escapes

-- bytes of which none is a `\`
abbrev pub HasNoBackslash : Text → Type 0
HasNoBackslash xs = All (λ b. b ≢ 92) xs

pub unescaped-plain : (xs ys : Text) → HasNoBackslash xs → unescaped (xs ++ ys) ≡ xs ++ unescaped ys
unescaped-plain [] ys all = refl
unescaped-plain (x ∷ xs) ys all = rw (ne_eqb x 92 (all 0 0 (omega arith))) (ap (λ r. x ∷ r) (unescaped-plain xs ys (λ k d l. all (suc k) d (omega arith))))

pub unescaped-alone : (xs : Text) → HasNoBackslash xs → unescaped xs ≡ xs
unescaped-alone xs all = ap unescaped (sym (append-nil xs)) ∙ unescaped-plain xs [] all ∙ append-nil xs

and-false : (b : Bool) → (b && false) ≡ false
and-false true = refl
and-false false = refl

-- a character behind a `\`, whose further bytes are no ASCII
unescaped-escaped : (c : ℕ) (ys : Text) → unescaped_behind true (encode_utf8 c ++ ys) ≡ encode_utf8 c ++ unescaped ys
unescaped-escaped c ys = by (cases_lt c 128)
  where
    past : 128 ≤ c → (xs : Text) → encode_utf8 c ≡ xs → unescaped_behind true (xs ++ ys) ≡ xs ++ unescaped ys
    past more [] e = absurd (omega (arith, ap length e, length-encode c, (len_utf8_bounds c).0))
    past more (x ∷ xs) e = ap (λ r. x ∷ r) (unescaped-plain xs ys (λ k d l same.
        let inside : suc k < length (encode_utf8 c) = omega (arith, ap length e) in
        let high = byte_past_ascii c (suc k) more inside in
        let is : get_or (encode_utf8 c) (suc k) 0 ≡ get_or xs k d = ap (λ l. get_or l (suc k) 0) e ∙ get_or_default xs k 0 d l in
        omega arith))

    by : (c < 128) ⊎ (128 ≤ c) → unescaped_behind true (encode_utf8 c ++ ys) ≡ encode_utf8 c ++ unescaped ys
    by (inl ascii) = rw (encode_ascii c ascii) refl
    by (inr more) = past more (encode_utf8 c) refl

-- a character that is no `\`
unescaped-char : (c : ℕ) (ys : Text) → c ≢ 92 → unescaped (encode_utf8 c ++ ys) ≡ encode_utf8 c ++ unescaped ys
unescaped-char c ys other =
    unescaped-plain (encode_utf8 c) ys (subst HasNoBackslash (append-nil (encode_utf8 c)) (bytes_all (λ b. b ≢ 92) (λ b past e. absurd (omega arith)) (c ∷ []) (all_one (λ b. b ≢ 92) c other)))

-- one character at the front, which is left out where it escapes the next one
pub unescaped-step : (escaped escapes : Bool) (c : ℕ) (text next : Text) → escapes ≡ (c == 92 && not escaped) → text ≡ encode_utf8 c ++ next
    → unescaped_behind escaped text ≡ (if escapes then [] else encode_utf8 c) ++ unescaped_behind escapes next
unescaped-step true escapes c text next is first =
    let none : escapes ≡ false = is ∙ and-false (c == 92) in
    rw none (ap (unescaped_behind true) first ∙ unescaped-escaped c next)
unescaped-step false true c text next is first =
    let same : c ≡ 92 = eqb-true c 92 (and_parts (c == 92) true (sym is)).0 in
    ap unescaped (first ∙ ap (λ d. encode_utf8 d ++ next) same ∙ ap (λ e. e ++ next) (encode_ascii 92 (omega arith)))
unescaped-step false false c text next is first = ap unescaped first ∙ unescaped-char c next (λ e. true≢false (sym (and_from (c == 92) true (eq-eqb c 92 e) refl) ∙ sym is))

-- ---- no excluded character stands in a local part without its escapes

abbrev pub IsAllowed : ℕ → Type 0
IsAllowed b = is_excluded b ≡ false

abbrev pub AreAllowed : Text → Type 0
AreAllowed xs = All IsAllowed xs

past_allowed : (b : ℕ) → 128 ≤ b → IsAllowed b
past_allowed b past = grind (arith, nat_tests)

-- what the front is without its escapes, and that nothing excluded is in it
record Unescapes (front : Text) : Type 0 where
  value : Text
  allowed : AreAllowed value
  unescapes : (rest : Text) → unescaped (front ++ rest) ≡ value ++ unescaped rest

nothing_unescapes : Unescapes []
nothing_unescapes = record { value = []; allowed = λ k d l. absurd (omega arith); unescapes = λ rest. refl }

append_unescapes : (xs ys : Text) → Unescapes xs → Unescapes ys → Unescapes (xs ++ ys)
append_unescapes xs ys x y = record {
  value = x.value ++ y.value;
  allowed = All-append IsAllowed x.value y.value x.allowed y.allowed;
  unescapes = λ rest. ap unescaped (append_assoc xs ys rest) ∙ x.unescapes (ys ++ rest) ∙ ap (λ r. x.value ++ r) (y.unescapes rest) ∙ sym (append_assoc x.value y.value (unescaped rest));
}

-- a character that is allowed and no `\`
char_unescapes : (c : ℕ) → IsAllowed c → Unescapes (encode_utf8_all (c ∷ []))
char_unescapes c allowed = record {
  value = encode_utf8_all (c ∷ []);
  allowed = bytes_all IsAllowed past_allowed (c ∷ []) (all_one IsAllowed c allowed);
  unescapes = λ rest. unescaped-plain (encode_utf8_all (c ∷ [])) rest
      (bytes_all (λ b. b ≢ 92) (λ b past e. absurd (omega arith)) (c ∷ []) (all_one (λ b. b ≢ 92) c (λ e. true≢false (ap is_excluded (sym e) ∙ allowed))));
}

escape_unescapes : (c : ℕ) → is_in escaped_in_local c ≡ true → Unescapes (encode_utf8_all (92 ∷ c ∷ []))
escape_unescapes c escaped = by (cases_lt c 128)
  where
    is_allowed : IsAllowed c
    is_allowed = grind (arith, nat_tests)

    by : (c < 128) ⊎ (128 ≤ c) → Unescapes (encode_utf8_all (92 ∷ c ∷ []))
    by (inl ascii) = record {
      value = c ∷ [];
      allowed = all_one IsAllowed c is_allowed;
      unescapes = λ rest. ap (λ e. unescaped (e ++ rest)) (encodes-IsAscii (92 ∷ c ∷ []) (IsAscii-cons 92 (c ∷ []) (omega arith) (IsAscii-cons c [] ascii IsAscii-nil)));
    }
    by (inr past) = absurd (true≢false (sym escaped ∙ not_past))
      where
        not_past : is_in escaped_in_local c ≡ false
        not_past = grind (arith, nat_tests)

hex_allowed : (c : ℕ) → is_in hex c ≡ true → IsAllowed c
hex_allowed c h = grind (arith, nat_tests)

plx_unescapes : (spelled : Characters) → IsPlx spelled → Unescapes (encode_utf8_all spelled)
plx_unescapes spelled (inl p) =
    subst (λ s. Unescapes (encode_utf8_all s)) (sym p.spelling)
    (subst Unescapes (sym (encodes-append (37 ∷ []) (p.first ∷ p.second ∷ [])))
    (append_unescapes (encode_utf8_all (37 ∷ [])) (encode_utf8_all (p.first ∷ p.second ∷ [])) (char_unescapes 37 refl)
    (subst Unescapes (sym (encodes-append (p.first ∷ []) (p.second ∷ [])))
    (append_unescapes (encode_utf8_all (p.first ∷ [])) (encode_utf8_all (p.second ∷ [])) (char_unescapes p.first (hex_allowed p.first p.first_hex))
    (char_unescapes p.second (hex_allowed p.second p.second_hex))))))
plx_unescapes spelled (inr e) = subst (λ s. Unescapes (encode_utf8_all s)) (sym e.spelling) (escape_unescapes e.c e.escaped)

-- what may stand in a local part is not excluded
taken_allowed : (place : Place) (c : ℕ) → takes Local place c ≡ true → IsAllowed c
taken_allowed First c h = grind (arith, nat_tests)
taken_allowed Later c h = grind (arith, nat_tests)

piece_unescapes : (place : Place) (piece : Characters) → IsPiece Local place piece → Unescapes (encode_utf8_all piece)
piece_unescapes place piece (inl (c, e, t)) = subst (λ s. Unescapes (encode_utf8_all s)) (sym e) (char_unescapes c (taken_allowed place c t))
piece_unescapes place piece (inr escape) = plx_unescapes piece escape

inner_unescapes : (piece : Characters) → IsPiece Local Later piece ⊎ (piece ≡ 46 ∷ []) → Unescapes (encode_utf8_all piece)
inner_unescapes piece (inl is) = piece_unescapes Later piece is
inner_unescapes piece (inr dot) = subst (λ s. Unescapes (encode_utf8_all s)) (sym dot) (char_unescapes 46 refl)

both_unescape : (xs ys : Characters) → Unescapes (encode_utf8_all xs) → Unescapes (encode_utf8_all ys) → Unescapes (encode_utf8_all (xs ++ ys))
both_unescape xs ys x y = subst Unescapes (sym (encodes-append xs ys)) (append_unescapes (encode_utf8_all xs) (encode_utf8_all ys) x y)

pieces_unescape : (pieces : List Characters) → All (λ piece. IsPiece Local Later piece ⊎ (piece ≡ 46 ∷ [])) pieces → Unescapes (encode_utf8_all (concat pieces))
pieces_unescape [] all = nothing_unescapes
pieces_unescape (p ∷ ps) all = both_unescape p (concat ps) (inner_unescapes p (all 0 [] (omega arith))) (pieces_unescape ps (λ k d l. all (suc k) d (omega arith)))

more_unescapes : (more : Characters) → GoesOnAsPart Local more → Unescapes (encode_utf8_all more)
more_unescapes more (inl nothing) = subst (λ m. Unescapes (encode_utf8_all m)) (sym nothing) nothing_unescapes
more_unescapes more (inr (inner, last, e, all, ends)) =
    subst (λ m. Unescapes (encode_utf8_all m)) (sym e) (both_unescape (concat inner) last (pieces_unescape inner all) (piece_unescapes Later last ends))

local_allowed : (local : Characters) → IsPart Local local → AreAllowed (unescaped (encode_utf8_all local))
local_allowed local is =
    let whole = subst (λ l. Unescapes (encode_utf8_all l)) (sym is.spelling) (both_unescape is.first is.more (piece_unescapes First is.first is.begins) (more_unescapes is.more is.goes_on)) in
    let value_is : unescaped (encode_utf8_all local) ≡ whole.value ++ [] = ap unescaped (sym (append-nil (encode_utf8_all local))) ∙ whole.unescapes [] in
    subst AreAllowed (sym (value_is ∙ append-nil whole.value)) whole.allowed

pub record HasLocal (text : Text) : Type 0 where
  pub local : Characters
  pub parts : HasParts text local
  pub allowed : AreAllowed (unescaped (encode_utf8_all local))

pub name_parts : (text : Text) (spelled : Characters) → text ≡ encode_utf8_all spelled → IsPnameLn spelled → HasLocal text
name_parts text spelled is name = record {
  local = name.local;
  parts = parts_of text spelled name.namespace name.local is name.spelling name.is_namespace;
  allowed = local_allowed name.local name.is_local;
}
