-- A run of bytes that stand as they are goes on at a byte that needs no escape, and ends at one that does.
use Rattle.std.proofs.Common.{◌≡◌, ℕ, ◌+◌, ◌-◌, ◌<◌, ◌≤◌, false, List, [], ◌∷◌, ◌++◌, length, take, drop, get_or, refl, sym, ap, ◌∙◌, append_assoc, append-nil, length-drop, arith}
use Rattle.std.specs.List.{flat_map}
use Rattle.std.proofs.lemmas.List.{take_more, get_or-drop, flat_map_more}
use Rattle.std.proofs.lemmas.Bool.Decides.{nat_tests}
use Rattle.rdf_terms.specs.CanonicalForm.{escaped}
use Rattle.canonical_writer.specs.Escapes.{is_escaped}

pub escaped-plain : (c : ℕ) → is_escaped c ≡ false → escaped c ≡ c ∷ []
unfolding escaped
escaped-plain c h = grind (arith, nat_tests)

-- the text so far with its escapes, and one byte more
flat_more : (old text : List ℕ) (i d : ℕ) → i < length text → (old ++ flat_map escaped (take i text)) ++ escaped (get_or text i d) ≡ old ++ flat_map escaped (take (i + 1) text)
flat_more old text i d h = rw (take_more text i d h) (flat_map_more escaped old (take i text) (get_or text i d))

run_more : (text : List ℕ) (start i d : ℕ) → start ≤ i → i < length text → take ((i + 1) - start) (drop start text) ≡ take (i - start) (drop start text) ++ get_or text i d ∷ []
run_more text start i d le h =
    let e : (i + 1) - start ≡ (i - start) + 1 = omega arith in
    let l : i - start < length (drop start text) = omega (arith, length-drop start text) in
    let g : get_or (drop start text) (i - start) d ≡ get_or text i d = get_or-drop start text (i - start) d ∙ ap (λ k. get_or text k d) (let s : start + (i - start) ≡ i = omega arith in s) in
    rw (e, take_more (drop start text) (i - start) d l, g) refl

pub run_goes_on : (out old text : List ℕ) (start i d : ℕ) → start ≤ i → i < length text → is_escaped (get_or text i d) ≡ false
    → out ++ take (i - start) (drop start text) ≡ old ++ flat_map escaped (take i text)
    → out ++ take ((i + 1) - start) (drop start text) ≡ old ++ flat_map escaped (take (i + 1) text)
run_goes_on out old text start i d le h plain e =
    rw (run_more text start i d le h, ← append_assoc, e)
    (ap (λ t. (old ++ flat_map escaped (take i text)) ++ t) (sym (escaped-plain (get_or text i d) plain)) ∙ flat_more old text i d h)

pub run_ends : (out run new old text : List ℕ) (start i d : ℕ) → i < length text
    → out ++ take (i - start) (drop start text) ≡ old ++ flat_map escaped (take i text)
    → run ≡ out ++ take (i - start) (drop start text)
    → new ≡ run ++ escaped (get_or text i d)
    → new ++ take ((i + 1) - (i + 1)) (drop (i + 1) text) ≡ old ++ flat_map escaped (take (i + 1) text)
run_ends out run new old text start i d h e r n =
    let z : (i + 1) - (i + 1) ≡ 0 = omega arith in
    let w : new ≡ old ++ flat_map escaped (take (i + 1) text) = n ∙ (ap (λ t. t ++ escaped (get_or text i d)) (r ∙ e) ∙ flat_more old text i d h) in
    rw z (append-nil new ∙ w)
