-- Lines are counted byte by byte, where it is kept whether a CR was the last one.
use Rattle.std.proofs.Common.{◌≡◌, ℕ, suc, ◌+◌, ◌<◌, Bool, true, false, not, ◌==◌, ◌&&◌, ◌||◌, true≢false, [], ◌∷◌, length, drop, get_or, drop-cons, add-one, refl, sym, ap, ◌∙◌, arith, if◌then◌else◌}
use Rattle.std.proofs.lemmas.Bool.{eqb-true}
use Rattle.rdf_terms.specs.Lists.{Text}
use Rattle.trig_reader.specs.Lines.{begins_with_lf, line_ends, ends_line}

-- the line ends of what follows, where the last byte was a CR or not
abbrev pub ends_from : Bool → Text → ℕ
ends_from after_cr [] = 0
ends_from after_cr (c ∷ cs) = if ends_line after_cr c then suc (ends_from (c == 13) cs) else ends_from (c == 13) cs

not_both : (c : ℕ) → (c == 13) ≡ true → (c == 10) ≡ false
not_both c cr = ap (λ d. d == 10) (eqb-true c 13 cr)

-- one more byte, by whether it is CR or LF, and whether an LF follows
counted_plain : (cr lf followed : Bool) (n : ℕ) (ends : Bool → ℕ) → (cr ≡ true → lf ≡ false) → ends false ≡ n → suc (ends true) ≡ (if followed then n else suc n)
    → (if cr || (lf && not false) then suc (ends cr) else ends cr) ≡ (if lf then suc n else if cr then (if followed then n else suc n) else n)
counted_plain true true followed n ends one plain behind = absurd (true≢false (one refl))
counted_plain true false followed n ends one plain behind = behind
counted_plain false true followed n ends one plain behind = ap suc plain
counted_plain false false followed n ends one plain behind = plain

counted_behind : (cr lf followed : Bool) (n : ℕ) (ends : Bool → ℕ) → (cr ≡ true → lf ≡ false) → ends false ≡ n → suc (ends true) ≡ (if followed then n else suc n)
    → suc (if cr || (lf && not true) then suc (ends cr) else ends cr)
    ≡ (if lf then (if lf then suc n else if cr then (if followed then n else suc n) else n) else suc (if lf then suc n else if cr then (if followed then n else suc n) else n))
counted_behind true true followed n ends one plain behind = absurd (true≢false (one refl))
counted_behind true false followed n ends one plain behind = ap suc behind
counted_behind false true followed n ends one plain behind = ap suc plain
counted_behind false false followed n ends one plain behind = ap suc plain

both : (text : Text) → (ends_from false text ≡ line_ends text) × (suc (ends_from true text) ≡ (if begins_with_lf text then line_ends text else suc (line_ends text)))
both [] = (refl, refl)
both (c ∷ cs) =
    let more = both cs in (
      counted_plain (c == 13) (c == 10) (begins_with_lf cs) (line_ends cs) (λ after. ends_from after cs) (not_both c) more.0 more.1,
      counted_behind (c == 13) (c == 10) (begins_with_lf cs) (line_ends cs) (λ after. ends_from after cs) (not_both c) more.0 more.1,
    )

pub ends_are : (text : Text) → ends_from false text ≡ line_ends text
ends_are text = (both text).0

if_counted : (b : Bool) (n : ℕ) → (if b then suc n else n) ≡ (if b then 1 else 0) + n
if_counted true n = omega arith
if_counted false n = omega arith

-- one byte after the other
pub ends_step : (after_cr : Bool) (c : ℕ) (cs : Text) → ends_from after_cr (c ∷ cs) ≡ (if ends_line after_cr c then 1 else 0) + ends_from (c == 13) cs
ends_step after_cr c cs = if_counted (ends_line after_cr c) (ends_from (c == 13) cs)

pub counted_more : (front : Text) (i line ended : ℕ) (after_cr : Bool) → i < length front → ended ≡ (if ends_line after_cr (get_or front i 0) then 1 else 0)
    → line + ends_from after_cr (drop i front) ≡ suc (line_ends front) → (line + ended) + ends_from (get_or front i 0 == 13) (drop (i + 1) front) ≡ suc (line_ends front)
counted_more front i line ended after_cr less is counted =
    let c = get_or front i 0 in
    let here : drop i front ≡ c ∷ drop (i + 1) front = drop-cons front i 0 less ∙ ap (λ k. c ∷ drop k front) (sym (add-one i)) in
    let step = ap (ends_from after_cr) here ∙ ends_step after_cr c (drop (i + 1) front) in
    omega (arith, step, is, counted)
