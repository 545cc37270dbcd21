-- What each name of the productions stands for in the published grammar, and that its productions are the right sides of that.
use Rattle.std.proofs.Common.{◌≡◌, Bool, true, false, ◌==◌, if◌then◌else◌, ◌⊎◌, inl, inr, List, [], ◌∷◌, ◌++◌, refl, sym, ap, subst, ◌∙◌, map}
use Rattle.std.proofs.lemmas.Bool.{eq-eqb, eqb-true}
use Rattle.rdf_terms.specs.Lists.{In}
use Rattle.trig_lexer.specs.declared.kind.Kind.TheVariants.{Dot, Semicolon, Comma, Carets, LangTag}
use Rattle.trig_grammar.specs.declared.symbol.Symbol.{Symbol}
use Rattle.trig_grammar.specs.declared.symbol.Symbol.TheVariants.{Token, Name}
use Rattle.trig_grammar.specs.declared.nonterminal.Nonterminal.{Nonterminal}
use Rattle.trig_grammar.specs.declared.nonterminal.Nonterminal.TheVariants.{Document, Statement, Block, TriplesOrGraph, AfterLabel, Triples2, WrappedGraph, MaybeTriples, TriplesBlock, MoreTriples, LabelOrSubject, Directive, PrefixId, Base, SparqlPrefix, SparqlBase, Triples, MaybePredicates, Predicates, MorePredicates, MaybePredicate, Objects, MoreObjects, Verb, Subject, Object, Literal, RdfLiteral, Suffix, PropertyList, Collection, Items, Iri, BlankNode}
use Rattle.trig_grammar.specs.Grammar.{Rule, rule, rules}
use Rattle.trig_grammar.specs.Places.{row}
use Rattle.trig_grammar.specs.Published.{Expression, is}
use Rattle.trig_grammar.specs.Published.Part.{trigDoc, block, triplesOrGraph, triples2, wrappedGraph, triplesBlock, labelOrSubject, directive, prefixID, base, sparqlPrefix, sparqlBase, triples, predicateObjectList, objectList, verb, subject, object, literal, rdfLiteral, blankNodePropertyList, collection, iri, blankNode}
use Rattle.trig_grammar.specs.Published.Expression.{token, part, ◌⨾◌, ◌∣◌, maybe, many}
use Rattle.trig_grammar.proofs.Computed.{same_row}

-- ---- what each name stands for

abbrev pub means : Nonterminal → Expression
means Document = part trigDoc
means Statement = part directive ∣ part block
means Block = part block
means TriplesOrGraph = part triplesOrGraph
means AfterLabel = part wrappedGraph ∣ part predicateObjectList ⨾ token Dot
means Triples2 = part triples2
means WrappedGraph = part wrappedGraph
means MaybeTriples = maybe (part triplesBlock)
means TriplesBlock = part triplesBlock
means MoreTriples = maybe (token Dot ⨾ maybe (part triplesBlock))
means LabelOrSubject = part labelOrSubject
means Directive = part directive
means PrefixId = part prefixID
means Base = part base
means SparqlPrefix = part sparqlPrefix
means SparqlBase = part sparqlBase
means Triples = part triples
means MaybePredicates = maybe (part predicateObjectList)
means Predicates = part predicateObjectList
means MorePredicates = many (token Semicolon ⨾ maybe (part verb ⨾ part objectList))
means MaybePredicate = maybe (part verb ⨾ part objectList)
means Objects = part objectList
means MoreObjects = many (token Comma ⨾ part object)
means Verb = part verb
means Subject = part subject
means Object = part object
means Literal = part literal
means RdfLiteral = part rdfLiteral
means Suffix = maybe (token LangTag ∣ token Carets ⨾ part iri)
means PropertyList = part blankNodePropertyList
means Collection = part collection
means Items = many (part object)
means Iri = part iri
means BlankNode = part blankNode

abbrev pub standing : Symbol → Expression
standing (Token kind) = token kind
standing (Name n) = means n

abbrev pub spelled : List Symbol → List Expression
spelled xs = map standing xs

abbrev pub unfolded : Expression → Expression
unfolded (part name) = is name
unfolded e = e

-- what stands one behind the other in it
abbrev pub factors : Expression → List Expression
factors (one ⨾ other) = factors one ++ factors other
factors e = e ∷ []

abbrev pub choices : Expression → List (List Expression)
choices (one ∣ other) = choices one ++ choices other
choices (maybe one) = [] ∷ choices one
choices e = factors e ∷ []

-- the right sides of a name that stands for it
abbrev pub alternatives : Expression → Expression → List (List Expression)
alternatives self (many one) = [] ∷ (factors one ++ self ∷ []) ∷ []
alternatives self e = choices e

-- the right sides of a name
abbrev bodies : Nonterminal → List Rule → List (List Expression)
bodies n [] = []
bodies n (r ∷ rs) = if row r.head == row n then spelled r.body ∷ bodies n rs else bodies n rs

same_choices : (n : Nonterminal) → bodies n rules ≡ alternatives (means n) (unfolded (means n))
unfolding rules
same_choices Document = refl
same_choices _ = refl

abbrev pub is_token : Expression → Bool
is_token (token kind) = true
is_token e = false

pub no_token : (n : Nonterminal) → is_token (means n) ≡ false
no_token Document = refl
no_token _ = refl

-- ---- lists

pub record Halves (es fs : List Expression) (xs : List Symbol) : Type 0 where
  pub front : List Symbol
  pub back : List Symbol
  pub whole : xs ≡ front ++ back
  pub spells_front : es ≡ spelled front
  pub spells_back : fs ≡ spelled back

pub halves : (es fs : List Expression) (xs : List Symbol) → es ++ fs ≡ spelled xs → Halves es fs xs
halves [] fs xs e = record { front = []; back = xs; whole = refl; spells_front = refl; spells_back = e }
halves (e ∷ es) fs [] same = cc
halves (e ∷ es) fs (x ∷ xs) same =
    let head : e ≡ standing x = cc in
    let tail : es ++ fs ≡ spelled xs = cc in
    let h = halves es fs xs tail in
    record {
      front = x ∷ h.front;
      back = h.back;
      whole = ap (λ ys. x ∷ ys) h.whole;
      spells_front = ap (λ f. f ∷ es) head ∙ ap (λ ys. standing x ∷ ys) h.spells_front;
      spells_back = h.spells_back;
    }

pub spells_nothing : (xs : List Symbol) → [] ≡ spelled xs → xs ≡ []
spells_nothing [] e = refl
spells_nothing (x ∷ xs) e = cc

-- ---- the productions of a name are its right sides

body_here : (b : Bool) (es : List Expression) (more : List (List Expression)) → b ≡ true → In es (if b then es ∷ more else more)
body_here false es more e = cc
body_here true es more e = inl refl

body_there : (b : Bool) (es fs : List Expression) (more : List (List Expression)) → In es more → In es (if b then fs ∷ more else more)
body_there false es fs more i = i
body_there true es fs more i = inr i

body_case : (b : Bool) (es fs : List Expression) (more : List (List Expression)) → In es (if b then fs ∷ more else more) → ((b ≡ true) × (es ≡ fs)) ⊎ In es more
body_case false es fs more i = inr i
body_case true es fs more (inl e) = inl (refl, e)
body_case true es fs more (inr i) = inr i

in_bodies : (n : Nonterminal) (body : List Symbol) (rs : List Rule) → In (rule n body) rs → In (spelled body) (bodies n rs)
in_bodies n body [] i = absurd i
in_bodies n body (r ∷ rs) (inl e) = subst (λ x. In (spelled body) (bodies n (x ∷ rs))) e (body_here (row n == row n) (spelled body) (bodies n rs) (eq-eqb (row n) (row n) refl))
in_bodies n body (r ∷ rs) (inr i) = body_there (row r.head == row n) (spelled body) (spelled r.body) (bodies n rs) (in_bodies n body rs i)

of_bodies : (n : Nonterminal) (es : List Expression) (rs : List Rule) → In es (bodies n rs) → (body : List Symbol) × In (rule n body) rs × (es ≡ spelled body)
of_bodies n es [] i = absurd i
of_bodies n es (r ∷ rs) i = elim (body_case (row r.head == row n) es (spelled r.body) (bodies n rs) i) [
  | inl h ↦ (r.body, inl (ap (λ m. rule m r.body) (sym (same_row r.head n (eqb-true (row r.head) (row n) h.0)))), h.1)
  | inr j ↦ let more = of_bodies n es rs j in (more.0, inr more.1, more.2)
]

pub is_alternative : (n : Nonterminal) (body : List Symbol) → In (rule n body) rules → In (spelled body) (alternatives (means n) (unfolded (means n)))
is_alternative n body i = subst (In (spelled body)) (same_choices n) (in_bodies n body rules i)

abbrev pub HasAll : Nonterminal → List (List Expression) → Type 0
HasAll n all = (es : List Expression) → In es all → (body : List Symbol) × In (rule n body) rules × (es ≡ spelled body)

pub has_all : (n : Nonterminal) → HasAll n (alternatives (means n) (unfolded (means n)))
has_all n es i = of_bodies n es rules (subst (In es) (sym (same_choices n)) i)
