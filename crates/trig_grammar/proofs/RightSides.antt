-- Where a name stands in right sides.
use Rattle.std.proofs.Common.{◌≡◌, Bool, true, false, ◌||◌, ◌==◌, ◌⊎◌, inl, inr, List, [], ◌∷◌, ◌++◌, refl, sym, ap, ◌∙◌}
use Rattle.std.proofs.lemmas.Bool.{eqb-true, or_cases}
use Rattle.rdf_terms.proofs.Common.{In, In-append}
use Rattle.trig_grammar.specs.declared.symbol.Symbol.{Symbol}
use Rattle.trig_grammar.specs.declared.symbol.Symbol.TheVariants.{Token, Name}
use Rattle.trig_grammar.specs.declared.nonterminal.Nonterminal.{Nonterminal}
use Rattle.trig_grammar.specs.Grammar.{Rule, rule}
use Rattle.trig_grammar.specs.Places.{row}
use Rattle.trig_grammar.proofs.Computed.{same_row}

-- ---- where a name stands in right sides

unfoldable pub add : Bool → Rule → List Rule → List Rule
add false r rs = rs
add true r rs = r ∷ rs

-- the head, and what stands behind the name
unfoldable pub spots_in : Nonterminal → Nonterminal → List Symbol → List Rule
spots_in n head [] = []
spots_in n head (Token kind ∷ symbols) = spots_in n head symbols
spots_in n head (Name m ∷ symbols) = add (row m == row n) (rule head symbols) (spots_in n head symbols)

unfoldable pub spots : Nonterminal → List Rule → List Rule
spots n [] = []
spots n (r ∷ rs) = spots_in n r.head r.body ++ spots n rs

unfoldable pub some : (Rule → Bool) → List Rule → Bool
some f [] = false
some f (r ∷ rs) = f r || some f rs

pub some_found : (f : Rule → Bool) (rs : List Rule) → some f rs ≡ true → (r : Rule) × In r rs × (f r ≡ true)
unfolding some
some_found f [] h = cc
some_found f (r ∷ rs) h = elim (or_cases (f r) (some f rs) h) [
  | inl e ↦ (r, inl refl, e)
  | inr e ↦ let more = some_found f rs e in (more.0, inr more.1, more.2)
]

of_add : (b : Bool) (s r : Rule) (rs : List Rule) → In s (add b r rs) → ((b ≡ true) × (s ≡ r)) ⊎ In s rs
unfolding add
of_add false s r rs i = inr i
of_add true s r rs (inl e) = inl (refl, e)
of_add true s r rs (inr i) = inr i

record Stands (n head : Nonterminal) (body : List Symbol) (s : Rule) : Type 0 where
  front : List Symbol
  whole : body ≡ front ++ Name n ∷ s.body
  same : s.head ≡ head

spot_in : (n head : Nonterminal) (body : List Symbol) (s : Rule) → In s (spots_in n head body) → Stands n head body s
unfolding spots_in
spot_in n head [] s i = absurd i
spot_in n head (Token kind ∷ body) s i =
    let more = spot_in n head body s i in
    record { front = Token kind ∷ more.front; whole = ap (λ xs. Token kind ∷ xs) more.whole; same = more.same }
spot_in n head (Name m ∷ body) s i = elim (of_add (row m == row n) s (rule head body) (spots_in n head body) i) [
  | inl h ↦ record {
    front = [];
    whole = ap (λ x. Name x ∷ body) (same_row m n (eqb-true (row m) (row n) h.0)) ∙ ap (λ (r : Rule). Name n ∷ r.body) (sym h.1);
    same = ap (λ (r : Rule). r.head) h.1;
  }
  | inr j ↦
      let more = spot_in n head body s j in
      record { front = Name m ∷ more.front; whole = ap (λ xs. Name m ∷ xs) more.whole; same = more.same }
]

pub spot_of : (n : Nonterminal) (rs : List Rule) (s : Rule) → In s (spots n rs) → (front : List Symbol) × In (rule s.head (front ++ Name n ∷ s.body)) rs
unfolding spots
spot_of n [] s i = absurd i
spot_of n (r ∷ rs) s i = elim (In-append (spots_in n r.head r.body) (spots n rs) s i) [
  | inl j ↦
      let at = spot_in n r.head r.body s j in
      (at.front, inl (sym (ap (λ h. rule h r.body) (sym at.same) ∙ ap (λ xs. rule s.head xs) at.whole)))
  | inr j ↦ let more = spot_of n rs s j in (more.0, inr more.1)
]
