-- Bytes that are put in several calls.
use Rattle.std.proofs.Common.{◌≡◌, ℕ, ◌+◌, ◌<◌, List, [], ◌∷◌, ◌++◌, Option, Result, ◌⊎◌, inl, inr, Ok, Err, eqb, true, length, length-append, map, take, drop, get_or, refl, sym, ap, ◌∙◌, append_assoc, arith, add-one, drop-cons}
use Rattle.std.proofs.lemmas.List.{take-append-drop}
use Rattle.std.proofs.KnownBytes.{Appends-trans}
use Rattle.std.specs.Io.KnownBytes.{Appends}
use Rattle.rdf_terms.specs.Lists.{joined}
use Rattle.outside.specs.Faults.{Rose, HasCause}
use Rattle.rdfc_cli.specs.Puts.{IsCutShort, Puts}

pub cut : (front rest bytes : List ℕ) (n : ℕ) → bytes ≡ front ++ rest → bytes ≡ (front ++ take n rest) ++ drop n rest
cut front rest bytes n e = e ∙ ap (λ l. front ++ l) (sym (take-append-drop n rest)) ∙ sym (append_assoc front (take n rest) (drop n rest))

pub some_left : (bs : List ℕ) → (eqb (length bs) 0 ≡ true → ⊥) → 0 < length bs
some_left [] h = absurd (h refl)
some_left (c ∷ cs) h = omega arith

-- ---- some bytes, and then others

-- other bytes were to follow
pub IsCutShort-append : (before now : Option (List ℕ)) (bytes more : List ℕ) → IsCutShort before now bytes → IsCutShort before now (bytes ++ more)
IsCutShort-append before now bytes more c = record {
  front = c.front;
  rest = c.rest ++ more;
  parts = ap (λ l. l ++ more) c.parts ∙ append_assoc c.front c.rest more;
  some = omega (arith, c.some, length-append c.rest more);
  appends = c.appends;
}

-- other bytes were taken before
pub IsCutShort-behind : (before between now : Option (List ℕ)) (front bytes : List ℕ) → Appends before between front → IsCutShort between now bytes → IsCutShort before now (front ++ bytes)
IsCutShort-behind before between now front bytes a c = record {
  front = front ++ c.front;
  rest = c.rest;
  parts = ap (λ l. front ++ l) c.parts ∙ sym (append_assoc front c.front c.rest);
  some = c.some;
  appends = Appends-trans before between now front c.front a c.appends;
}

pub Puts-behind : {T E : Type 0} (before between now : Option (List ℕ)) (r : Result T E) (front bytes : List ℕ) → Appends before between front → Puts between now r bytes
    → Puts before now r (front ++ bytes)
Puts-behind before between now (Ok x) front bytes a p = Appends-trans before between now front bytes a p
Puts-behind before between now (Err e) front bytes a p = IsCutShort-behind before between now front bytes a p

-- a line was put, or was cut short by a call that failed
pub puts_line : {T E : Type 0} (before now : Option (List ℕ)) (faults later : ℕ) (r : Result T E) (line : List ℕ) → Puts before now r line → HasCause faults later r
    → Appends before now line ⊎ (IsCutShort before now line × Rose faults later)
puts_line before now faults later (Ok x) line p c = inl p
puts_line before now faults later (Err e) line p c = inr (p, c.rose)

-- ---- parts one after the other

module _ {X : Type 0} (text : X → List ℕ) where
  -- the texts of the parts, of which those before a place make up the front
  pub record IsPutTo (before now : Option (List ℕ)) (parts : List X) (i : ℕ) : Type 0 where
    pub front : List ℕ
    pub whole : joined (map text parts) ≡ front ++ joined (map text (drop i parts))
    pub appends : Appends before now front

  part_at : (parts : List X) (i : ℕ) (d : X) → i < length parts → joined (map text (drop i parts)) ≡ text (get_or parts i d) ++ joined (map text (drop (i + 1) parts))
  part_at parts i d within = ap (λ ps. joined (map text ps)) (drop-cons parts i d within) ∙ ap (λ k. text (get_or parts i d) ++ joined (map text (drop k parts))) (sym (add-one i))

  pub IsPutTo-next : (before between now : Option (List ℕ)) (parts : List X) (i : ℕ) (d : X) → i < length parts → IsPutTo before between parts i → Appends between now (text (get_or parts i d))
      → IsPutTo before now parts (i + 1)
  IsPutTo-next before between now parts i d within p a =
      let part = text (get_or parts i d) in
      let rest = joined (map text (drop (i + 1) parts)) in
      record {
        front = p.front ++ part;
        whole = p.whole ∙ ap (λ l. p.front ++ l) (part_at parts i d within) ∙ sym (append_assoc p.front part rest);
        appends = Appends-trans before between now p.front part p.appends a;
      }

  pub IsPutTo-cut : (before between now : Option (List ℕ)) (parts : List X) (i : ℕ) (d : X) → i < length parts → IsPutTo before between parts i → IsCutShort between now (text (get_or parts i d))
      → IsCutShort before now (joined (map text parts))
  IsPutTo-cut before between now parts i d within p c =
      let part = text (get_or parts i d) in
      let rest = joined (map text (drop (i + 1) parts)) in
      rw (p.whole, part_at parts i d within) (IsCutShort-behind before between now p.front (part ++ rest) p.appends (IsCutShort-append between now part rest c))
