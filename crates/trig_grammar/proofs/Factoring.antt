-- The published grammar and the productions have the same sentences. Each name stands for a part or for an operator with what it stands over.
use Rattle.std.proofs.Common.{◌≡◌, ◌↔◌, true, false, inl, inr, List, [], ◌∷◌, ◌++◌, refl, sym, ap, subst, ◌∙◌, append_assoc}
use Rattle.std.proofs.lemmas.List.{map-append}
use Rattle.rdf_terms.proofs.Common.{In, In-append, In-append_left, In-append_right}
use Rattle.trig_lexer.specs.declared.kind.Kind.{Kind}
use Rattle.trig_lexer.specs.declared.kind.Kind.TheVariants.{End}
use Rattle.trig_grammar.specs.declared.symbol.Symbol.{Symbol}
use Rattle.trig_grammar.specs.declared.symbol.Symbol.TheVariants.{Token, Name}
use Rattle.trig_grammar.specs.declared.nonterminal.Nonterminal.{Nonterminal}
use Rattle.trig_grammar.specs.Grammar.{rule, rules, Derives, start, IsSentence}
use Rattle.trig_grammar.specs.Grammar.Derives.{nothing, takes, expands}
use Rattle.trig_grammar.specs.Published.{Part, Expression, is, Tree, IsPublishedSentence}
use Rattle.trig_grammar.specs.Published.Part.{trigDoc}
use Rattle.trig_grammar.specs.Published.Expression.{token, part, ◌⨾◌, ◌∣◌, maybe, many}
use Rattle.trig_grammar.specs.Published.Tree.{leaf, node, both, first, second, without, with, no_more, one_more}
use Rattle.trig_grammar.proofs.Alternatives.{means, standing, spelled, unfolded, factors, choices, alternatives, is_token, no_token, halves, spells_nothing, is_alternative, HasAll, has_all}

-- ---- trees one behind the other

abbrev Trees : List Expression → List Kind → List Kind → Type 0
Trees [] all rest = all ≡ rest
Trees (e ∷ es) all rest = (middle : List Kind) × Tree e all middle × Trees es middle rest

split_trees : (es fs : List Expression) (all rest : List Kind) → Trees (es ++ fs) all rest → (middle : List Kind) × Trees es all middle × Trees fs middle rest
split_trees [] fs all rest ts = (all, refl, ts)
split_trees (e ∷ es) fs all rest ts = let s = split_trees es fs ts.0 rest ts.2 in (s.0, (ts.0, ts.1, s.1), s.2)

of_factors : (e : Expression) (all rest : List Kind) → Trees (factors e) all rest → Tree e all rest
of_factors (one ⨾ other) all rest ts =
    let s = split_trees (factors one) (factors other) all rest ts in
    both (of_factors one all s.0 s.1) (of_factors other s.0 rest s.2)
of_factors e all rest ts = subst (λ r. Tree e all r) ts.2 ts.1

of_only : (e : Expression) (es : List Expression) (all rest : List Kind) → In es (factors e ∷ []) → Trees es all rest → Tree e all rest
of_only e es all rest (inl same) ts = of_factors e all rest (subst (λ fs. Trees fs all rest) same ts)
of_only e es all rest (inr i) ts = absurd i

of_none : (e : Expression) (es : List Expression) (all rest : List Kind) → ((kinds : List Kind) → Tree e kinds kinds) → es ≡ [] → Trees es all rest → Tree e all rest
of_none e es all rest none same ts = let stays : all ≡ rest = subst (λ fs. Trees fs all rest) same ts in subst (λ r. Tree e all r) stays (none all)

of_choices : (e : Expression) (es : List Expression) (all rest : List Kind) → In es (choices e) → Trees es all rest → Tree e all rest
of_choices (one ∣ other) es all rest i ts = elim (In-append (choices one) (choices other) es i) [
  | inl j ↦ first (of_choices one es all rest j ts)
  | inr j ↦ second (of_choices other es all rest j ts)
]
of_choices (maybe one) es all rest (inl same) ts = of_none (maybe one) es all rest (λ kinds. without) same ts
of_choices (maybe one) es all rest (inr i) ts = with (of_choices one es all rest i ts)
of_choices e es all rest i ts = of_only e es all rest i ts

of_many : (self one : Expression) (es : List Expression) (all rest : List Kind) → ((x y : List Kind) → Tree self x y → Tree (many one) x y)
    → In es (alternatives self (many one)) → Trees es all rest → Tree (many one) all rest
of_many self one es all rest opens (inl same) ts = of_none (many one) es all rest (λ kinds. no_more) same ts
of_many self one es all rest opens (inr (inl same)) ts =
    let s = split_trees (factors one) (self ∷ []) all rest (subst (λ fs. Trees fs all rest) same ts) in
    one_more (of_factors one all s.0 s.1) (opens s.0 rest (subst (λ r. Tree self s.0 r) s.2.2 s.2.1))
of_many self one es all rest opens (inr (inr i)) ts = absurd i

of_alternatives : (self e : Expression) (es : List Expression) (all rest : List Kind) → ((x y : List Kind) → Tree self x y → Tree e x y)
    → In es (alternatives self e) → Trees es all rest → Tree e all rest
of_alternatives self (many one) es all rest opens i ts = of_many self one es all rest opens i ts
of_alternatives self e es all rest opens i ts = of_choices e es all rest i ts

opened : (e : Expression) (all rest : List Kind) → Tree e all rest → Tree (unfolded e) all rest
opened (part name) all rest (node t) = t
opened e all rest t = t

closed : (e : Expression) (all rest : List Kind) → Tree (unfolded e) all rest → Tree e all rest
closed (part name) all rest t = node t
closed e all rest t = t

-- ---- what the productions derive has a tree

sound : {symbols : List Symbol} {kinds : List Kind} → Derives symbols kinds → Trees (spelled symbols) kinds []
sound nothing = refl
sound (takes {kind} {symbols} {kinds} d) = (kinds, leaf, sound d)
sound (expands {head} body {symbols} {kinds} i d) =
    let s = split_trees (spelled body) (spelled symbols) kinds [] (subst (λ es. Trees es kinds []) (map-append standing body symbols) (sound d)) in
    (s.0, closed (means head) kinds s.0 (of_alternatives (means head) (unfolded (means head)) (spelled body) kinds s.0 (opened (means head)) (is_alternative head body i) s.1), s.2)

-- ---- what has a tree is derived by the productions

abbrev Row : List Expression → List Kind → List Kind → Type 0
Row es all rest = (xs symbols : List Symbol) → es ≡ spelled xs → Derives symbols rest → Derives (xs ++ symbols) all

abbrev Choice : Expression → List Kind → List Kind → Type 0
Choice e all rest = (n : Nonterminal) (symbols : List Symbol) → HasAll n (choices e) → Derives symbols rest → Derives (Name n ∷ symbols) all

abbrev Top : Expression → List Kind → List Kind → Type 0
Top e all rest = (n : Nonterminal) (symbols : List Symbol) → unfolded (means n) ≡ e → Derives symbols rest → Derives (Name n ∷ symbols) all

record Goes (e : Expression) (all rest : List Kind) : Type 0 where
  row_of : Row (factors e) all rest
  choice : Choice e all rest
  top : Top e all rest

none_row : (all : List Kind) → Row [] all all
none_row all xs symbols e d = subst (λ ys. Derives (ys ++ symbols) all) (sym (spells_nothing xs e)) d

token_row : (kind : Kind) (rest : List Kind) → Row (token kind ∷ []) (kind ∷ rest) rest
token_row kind rest [] symbols e d = cc
token_row kind rest (Token other ∷ []) symbols e d = let same : kind ≡ other = cc in subst (λ k. Derives (Token k ∷ symbols) (kind ∷ rest)) same (takes d)
token_row kind rest (Name n ∷ []) symbols e d =
    let same : token kind ≡ means n = cc in
    let no : true ≡ false = ap is_token same ∙ no_token n in
    cc
token_row kind rest (x ∷ y ∷ xs) symbols e d = cc

name_row : (e : Expression) (all rest : List Kind) → is_token e ≡ false
    → ((n : Nonterminal) (symbols : List Symbol) → means n ≡ e → Derives symbols rest → Derives (Name n ∷ symbols) all) → Row (e ∷ []) all rest
name_row e all rest not_token goes [] symbols same d = cc
name_row e all rest not_token goes (Token kind ∷ []) symbols same d =
    let is_one : e ≡ token kind = cc in
    let wrong : false ≡ true = sym not_token ∙ ap is_token is_one in
    cc
name_row e all rest not_token goes (Name n ∷ []) symbols same d = let is_one : e ≡ means n = cc in goes n symbols (sym is_one) d
name_row e all rest not_token goes (x ∷ y ∷ xs) symbols same d = cc

both_row : (es fs : List Expression) (all middle rest : List Kind) → Row es all middle → Row fs middle rest → Row (es ++ fs) all rest
both_row es fs all middle rest one other xs symbols e d =
    let h = halves es fs xs e in
    subst (λ ys. Derives (ys ++ symbols) all) (sym h.whole)
    (subst (λ ys. Derives ys all) (sym (append_assoc h.front h.back symbols)) (one h.front (h.back ++ symbols) h.spells_front (other h.back symbols h.spells_back d)))

by_body : (n : Nonterminal) (es : List Expression) (all rest : List Kind) (symbols : List Symbol) → ((body : List Symbol) × In (rule n body) rules × (es ≡ spelled body))
    → Row es all rest → Derives symbols rest → Derives (Name n ∷ symbols) all
by_body n es all rest symbols b goes d = expands b.0 b.1 (goes b.0 symbols b.2 d)

-- an expression that is the only choice
one_choice : (e : Expression) (all rest : List Kind) → choices e ≡ factors e ∷ [] → Row (factors e) all rest → Choice e all rest
one_choice e all rest only goes n symbols has d = by_body n (factors e) all rest symbols (has (factors e) (subst (In (factors e)) (sym only) (inl refl))) goes d

of_choice : (e : Expression) (all rest : List Kind) → ((self : Expression) → alternatives self e ≡ choices e) → Choice e all rest → Top e all rest
of_choice e all rest only goes n symbols stands d = goes n symbols (subst (HasAll n) (only (means n)) (subst (λ f. HasAll n (alternatives (means n) f)) stands (has_all n))) d

abbrev more_top : (one : Expression) (all middle rest : List Kind) → Row (factors one) all middle → Top (many one) middle rest → Top (many one) all rest
more_top one all middle rest goes more n symbols stands d =
    by_body n (factors one ++ means n ∷ []) all rest symbols (subst (λ f. HasAll n (alternatives (means n) f)) stands (has_all n) (factors one ++ means n ∷ []) (inr (inl refl)))
    (both_row (factors one) (means n ∷ []) all middle rest goes (name_row (means n) middle rest (no_token n) (λ m symbols same d. more m symbols (ap unfolded same ∙ stands) d))) d

none_top : (one : Expression) (all : List Kind) → Top (many one) all all
none_top one all n symbols stands d =
    by_body n [] all all symbols (subst (λ f. HasAll n (alternatives (means n) f)) stands (has_all n) [] (inl refl)) (none_row all) d

goes_many : (one : Expression) (all rest : List Kind) → Top (many one) all rest → Goes (many one) all rest
goes_many one all rest top =
    let row_of : Row (many one ∷ []) all rest = name_row (many one) all rest refl (λ n symbols stands d. top n symbols (ap unfolded stands) d) in
    record { row_of = row_of; choice = one_choice (many one) all rest refl row_of; top = top }

goes_maybe : (one : Expression) (all rest : List Kind) → Choice (maybe one) all rest → Goes (maybe one) all rest
goes_maybe one all rest choice =
    let top : Top (maybe one) all rest = of_choice (maybe one) all rest (λ self. refl) choice in
    record { row_of = name_row (maybe one) all rest refl (λ n symbols stands d. top n symbols (ap unfolded stands) d); choice = choice; top = top }

goes_either : (one other : Expression) (all rest : List Kind) → Choice (one ∣ other) all rest → Goes (one ∣ other) all rest
goes_either one other all rest choice =
    let top : Top (one ∣ other) all rest = of_choice (one ∣ other) all rest (λ self. refl) choice in
    record { row_of = name_row (one ∣ other) all rest refl (λ n symbols stands d. top n symbols (ap unfolded stands) d); choice = choice; top = top }

goes_both : (one other : Expression) (all rest : List Kind) → Row (factors (one ⨾ other)) all rest → Goes (one ⨾ other) all rest
goes_both one other all rest row_of =
    let choice : Choice (one ⨾ other) all rest = one_choice (one ⨾ other) all rest refl row_of in
    record { row_of = row_of; choice = choice; top = of_choice (one ⨾ other) all rest (λ self. refl) choice }

goes_part : (name : Part) (all rest : List Kind) → Top (is name) all rest → Goes (part name) all rest
goes_part name all rest below =
    let row_of : Row (part name ∷ []) all rest = name_row (part name) all rest refl (λ n symbols stands d. below n symbols (ap unfolded stands) d) in
    let choice : Choice (part name) all rest = one_choice (part name) all rest refl row_of in
    record { row_of = row_of; choice = choice; top = of_choice (part name) all rest (λ self. refl) choice }

goes_token : (kind : Kind) (rest : List Kind) → Goes (token kind) (kind ∷ rest) rest
goes_token kind rest =
    let choice : Choice (token kind) (kind ∷ rest) rest = one_choice (token kind) (kind ∷ rest) rest refl (token_row kind rest) in
    record { row_of = token_row kind rest; choice = choice; top = of_choice (token kind) (kind ∷ rest) rest (λ self. refl) choice }

goes : {e : Expression} {all rest : List Kind} → Tree e all rest → Goes e all rest
goes (leaf {kind} {rest}) = goes_token kind rest
goes (node {name} {all} {rest} t) = goes_part name all rest (goes t).top
goes (both {one} {other} {all} {middle} {rest} t u) = goes_both one other all rest (both_row (factors one) (factors other) all middle rest (goes t).row_of (goes u).row_of)
goes (first {one} {other} {all} {rest} t) = goes_either one other all rest (λ n symbols has d. (goes t).choice n symbols (λ es i. has es (In-append_left (choices one) (choices other) es i)) d)
goes (second {one} {other} {all} {rest} t) = goes_either one other all rest (λ n symbols has d. (goes t).choice n symbols (λ es i. has es (In-append_right (choices one) (choices other) es i)) d)
goes (without {one} {all}) = goes_maybe one all all (λ n symbols has d. by_body n [] all all symbols (has [] (inl refl)) (none_row all) d)
goes (with {one} {all} {rest} t) = goes_maybe one all rest (λ n symbols has d. (goes t).choice n symbols (λ es i. has es (inr i)) d)
goes (no_more {one} {all}) = goes_many one all all (none_top one all)
goes (one_more {one} {all} {middle} {rest} t u) = goes_many one all rest (more_top one all middle rest (goes t).row_of (goes u).top)

-- ---- both have the same sentences

pub same_sentences : (kinds : List Kind) → IsPublishedSentence kinds ↔ IsSentence kinds
same_sentences kinds = (
  (λ t. (goes t).row_of start [] refl nothing),
  (λ d. of_factors (part trigDoc ⨾ token End) kinds [] (sound d)),
)
