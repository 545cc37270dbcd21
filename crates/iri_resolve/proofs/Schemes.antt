-- A text has a scheme exactly where its bytes that may stand in one are followed by `:`, the first of them a letter.
use Rattle.std.proofs.Common.{◌≡◌, ◌↔◌, ℕ, suc, ◌+◌, ◌<◌, Bool, true, false, [], ◌∷◌, ◌++◌, All, length, take, drop, get_or, refl, sym, ap, subst, nat_lt, nat_eq, ◌&&◌, ◌∙◌, arith, length-take, length-append}
use Rattle.std.specs.List.{prefix_len, position_or_len}
use Rattle.std.specs.Char.{is_ascii_alphabetic}
use Rattle.std.proofs.lemmas.List.{take-append-drop, get_or-take, get_or_at, drop_more}
use Rattle.std.proofs.lemmas.List.Sums.{prefix_len_passes}
use Rattle.std.proofs.lemmas.Bool.{and_parts, ltb-true, eqb-true, lt-ltb}
use Rattle.char_tables.proofs.LaneLengths.{prefix_len-append}
use Rattle.rdf_terms.proofs.Common.{Text, is_scheme_byte, HasScheme}
use Rattle.iri_resolve.proofs.FirstPlaces.{first_place-end}
use Rattle.iri_resolve.specs.Scheme.{begins_with_scheme}

-- the bytes at the front that may stand in a scheme
abbrev pub scheme_len : Text → ℕ
scheme_len text = prefix_len is_scheme_byte text

pub record EndsScheme (text : Text) : Type 0 where
  pub within : scheme_len text < length text
  pub colon : get_or text (scheme_len text) 0 ≡ 58
  pub letter : is_ascii_alphabetic (get_or text 0 0) ≡ true

-- bytes that pass, and then one that does not
pub prefix_len-stopped : (p : ℕ → Bool) (front rest : Text) (x : ℕ) → All (λ c. p c ≡ true) front → p x ≡ false → prefix_len p (front ++ x ∷ rest) ≡ length front
prefix_len-stopped p front rest x passes stops = prefix_len-append p front (x ∷ rest) passes ∙ rw stops (omega arith)

-- a letter may stand in a scheme
pub may_stand : (c : ℕ) → is_ascii_alphabetic c ≡ true → is_scheme_byte c ≡ true
may_stand c letter = grind (arith, letter)

pub EndsScheme-from_HasScheme : (text : Text) → HasScheme text → EndsScheme text
EndsScheme-from_HasScheme text h =
    let n : scheme_len (h.letter ∷ (h.more ++ 58 ∷ h.rest)) ≡ suc (length h.more) =
    rw (may_stand h.letter h.begins) (omega (arith, prefix_len-stopped is_scheme_byte h.more h.rest 58 h.goes_on refl)) in
    rw h.spelled (record {
      within = rw n (omega (arith, length-append h.more (58 ∷ h.rest)));
      colon = rw n (get_or_at (h.letter ∷ h.more) 58 h.rest 0 _ refl);
      letter = h.begins;
    })

pub HasScheme-from_ends : (text : Text) → scheme_len text < length text → get_or text (scheme_len text) 0 ≡ 58 → is_ascii_alphabetic (get_or text 0 0) ≡ true → HasScheme text
HasScheme-from_ends [] within colon letter = absurd (omega arith)
HasScheme-from_ends (c ∷ cs) within colon letter =
    let n : scheme_len (c ∷ cs) ≡ 1 + scheme_len cs = rw (may_stand c letter) refl in
    let e : ℕ = scheme_len cs in
    let l : e < length cs = omega arith in
    let same : scheme_len (c ∷ cs) ≡ suc e = omega arith in
    let at : get_or cs e 0 ≡ 58 = subst (λ i. get_or (c ∷ cs) i 0 ≡ 58) same colon in
    record {
      letter = c;
      more = take e cs;
      rest = drop (e + 1) cs;
      spelled = ap (λ t. c ∷ t) (sym (take-append-drop e cs) ∙ (λ i. take e cs ++ (drop_more cs e 0 l ∙ (λ j. at j ∷ drop (e + 1) cs)) i));
      begins = letter;
      goes_on = λ k d below. let m : k < e = omega (arith, length-take e cs) in rw (get_or-take e cs k d m) (prefix_len_passes is_scheme_byte cs k d m);
    }

pub begins_with_scheme-HasScheme : (text : Text) → (begins_with_scheme text ≡ true) ↔ HasScheme text
begins_with_scheme-HasScheme text = (
  (λ t.
      let p = and_parts (nat_lt (scheme_len text) (length text)) (nat_eq (get_or text (scheme_len text) 0) 58 && is_ascii_alphabetic (get_or text 0 0)) t in
      let q = and_parts (nat_eq (get_or text (scheme_len text) 0) 58) (is_ascii_alphabetic (get_or text 0 0)) p.1 in
      HasScheme-from_ends text (ltb-true (scheme_len text) (length text) p.0) (eqb-true (get_or text (scheme_len text) 0) 58 q.0) q.1),
  (λ h.
      let e = EndsScheme-from_HasScheme text h in
      rw (lt-ltb (scheme_len text) (length text) e.within, e.colon, e.letter) refl),
)

-- a text with a scheme has a `:`
pub scheme_has_colon : (text : Text) → begins_with_scheme text ≡ true → position_or_len (λ b. nat_eq b 58) text ≡ length text → ⊥
scheme_has_colon text t =
    let e = EndsScheme-from_HasScheme text ((begins_with_scheme-HasScheme text).0 t) in
    first_place-end 58 text (scheme_len text) e.within e.colon
