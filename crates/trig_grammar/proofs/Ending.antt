-- A sentence ends with the end of the text, and has it nowhere else.
use Rattle.std.proofs.Common.{◌≡◌, Bool, true, false, ◌&&◌, List, [], ◌∷◌, ◌++◌, refl, sym, ap, subst, ◌∙◌, arith, length, append_assoc, append-nil}
use Rattle.std.proofs.lemmas.Bool.{and_from}
use Rattle.std.proofs.lemmas.List.{length-append}
use Rattle.trig_lexer.specs.declared.kind.Kind.{Kind}
use Rattle.trig_lexer.specs.declared.kind.Kind.TheVariants.{End}
use Rattle.trig_grammar.specs.declared.symbol.Symbol.{Symbol}
use Rattle.trig_grammar.specs.declared.symbol.Symbol.TheVariants.{Token, Name}
use Rattle.trig_grammar.specs.declared.nonterminal.Nonterminal.TheVariants.{Document}
use Rattle.trig_grammar.specs.Grammar.{rule, rules, Derives, IsSentence, BeginsSentence}
use Rattle.trig_grammar.specs.Grammar.Derives.{nothing, takes, expands}
use Rattle.trig_grammar.proofs.Tests.{every, every_in, and_left, and_right}

abbrev is_no_end : Kind → Bool
is_no_end End = false
is_no_end _ = true

abbrev have_no_end : List Symbol → Bool
have_no_end [] = true
have_no_end (Token kind ∷ symbols) = is_no_end kind && have_no_end symbols
have_no_end (Name n ∷ symbols) = have_no_end symbols

all_endless : every (λ r. have_no_end r.body) rules ≡ true
unfolding rules
all_endless = refl

have_no_end-append : (one other : List Symbol) → have_no_end one ≡ true → have_no_end other ≡ true → have_no_end (one ++ other) ≡ true
have_no_end-append [] other h k = k
have_no_end-append (Token kind ∷ one) other h k =
    and_from (is_no_end kind) (have_no_end (one ++ other)) (and_left (is_no_end kind) (have_no_end one) h) (have_no_end-append one other (and_right (is_no_end kind) (have_no_end one) h) k)
have_no_end-append (Name n ∷ one) other h k = have_no_end-append one other h k

nothing_left : {symbols : List Symbol} {kinds : List Kind} → Derives symbols kinds → symbols ≡ [] → kinds ≡ []
nothing_left nothing e = refl
nothing_left (takes d) e = cc
nothing_left (expands body i d) e = cc

end_alone : (kind : Kind) (kinds before more : List Kind) → kinds ≡ [] → kind ∷ kinds ≡ before ++ End ∷ more → more ≡ []
end_alone kind kinds [] more none e = let same : kinds ≡ more = cc in sym same ∙ none
end_alone kind kinds (b ∷ before) more none e =
    let same : kinds ≡ before ++ End ∷ more = cc in
    absurd (omega (arith, ap length (sym none ∙ same), length-append before (End ∷ more)))

no_end_first : (kind : Kind) (symbols : List Symbol) → kind ≡ End → have_no_end (Token kind ∷ symbols) ≡ true → ⊥
no_end_first kind symbols e h = let at : is_no_end kind ≡ true = and_left (is_no_end kind) (have_no_end symbols) h in let not : is_no_end kind ≡ false = ap is_no_end e in cc

ends_once : {symbols : List Symbol} {kinds : List Kind} → Derives symbols kinds → (front : List Symbol) → symbols ≡ front ++ Token End ∷ [] → have_no_end front ≡ true
    → (before more : List Kind) → kinds ≡ before ++ End ∷ more → more ≡ []
ends_once nothing [] e h before more k = cc
ends_once nothing (x ∷ front) e h before more k = cc
ends_once (takes {kind} {symbols} {kinds} d) [] e h before more k =
    let none : symbols ≡ [] = cc in
    end_alone kind kinds before more (nothing_left d none) k
ends_once (takes {kind} {symbols} {kinds} d) (x ∷ front) e h [] more k =
    let same : Token kind ≡ x = cc in
    let end : kind ≡ End = cc in
    absurd (no_end_first kind front end (subst (λ y. have_no_end (y ∷ front) ≡ true) (sym same) h))
ends_once (takes {kind} {symbols} {kinds} d) (x ∷ front) e h (b ∷ before) more k =
    let same : Token kind ≡ x = cc in
    let behind : symbols ≡ front ++ Token End ∷ [] = cc in
    let next : kinds ≡ before ++ End ∷ more = cc in
    ends_once d front behind (and_right (is_no_end kind) (have_no_end front) (subst (λ y. have_no_end (y ∷ front) ≡ true) (sym same) h)) before more next
ends_once (expands body i d) [] e h before more k = cc
ends_once (expands {head} body {symbols} i d) (x ∷ front) e h before more k =
    let same : Name head ≡ x = cc in
    let behind : symbols ≡ front ++ Token End ∷ [] = cc in
    let endless : have_no_end front ≡ true = subst (λ y. have_no_end (y ∷ front) ≡ true) (sym same) h in
    ends_once d (body ++ front) (ap (λ s. body ++ s) behind ∙ sym (append_assoc body front (Token End ∷ [])))
    (have_no_end-append body front (every_in (λ r. have_no_end r.body) rules (rule head body) all_endless i) endless) before more k

last_is_end : {symbols : List Symbol} {kinds : List Kind} → Derives symbols kinds → (front : List Symbol) → symbols ≡ front ++ Token End ∷ [] → (before : List Kind) × (kinds ≡ before ++ End ∷ [])
last_is_end nothing [] e = cc
last_is_end nothing (x ∷ front) e = cc
last_is_end (takes {kind} {symbols} {kinds} d) [] e =
    let end : kind ≡ End = cc in
    let none : symbols ≡ [] = cc in
    ([], ap (λ k. k ∷ kinds) end ∙ ap (λ ks. End ∷ ks) (nothing_left d none))
last_is_end (takes {kind} {symbols} {kinds} d) (x ∷ front) e =
    let behind : symbols ≡ front ++ Token End ∷ [] = cc in
    let more = last_is_end d front behind in
    (kind ∷ more.0, ap (λ ks. kind ∷ ks) more.1)
last_is_end (expands body {symbols} i d) [] e = cc
last_is_end (expands body {symbols} i d) (x ∷ front) e =
    let behind : symbols ≡ front ++ Token End ∷ [] = cc in
    last_is_end d (body ++ front) (ap (λ s. body ++ s) behind ∙ sym (append_assoc body front (Token End ∷ [])))

pub sentence_ends : (kinds : List Kind) → IsSentence kinds → (front : List Kind) × (kinds ≡ front ++ End ∷ [])
sentence_ends kinds d = last_is_end d (Name Document ∷ []) refl

pub end_comes_last : (front more : List Kind) → IsSentence (front ++ End ∷ more) → more ≡ []
end_comes_last front more d = ends_once d (Name Document ∷ []) refl refl front more refl

-- what begins a sentence and ends with the end of the text is one
pub begun_is_whole : (front : List Kind) → BeginsSentence (front ++ End ∷ []) → IsSentence (front ++ End ∷ [])
begun_is_whole front (more, d) =
    let none : more ≡ [] = end_comes_last front more (subst IsSentence (append_assoc front (End ∷ []) more) d) in
    subst IsSentence (ap (λ m. (front ++ End ∷ []) ++ m) none ∙ append-nil (front ++ End ∷ [])) d
