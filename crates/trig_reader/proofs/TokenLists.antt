-- The tokens of a text, one behind the other, are told by the text.
use Rattle.std.proofs.Common.{◌≡◌, ◌≢◌, ℕ, Bool, false, List, [], ◌∷◌, ◌++◌, length, All, refl, sym, ap, subst, ◌∙◌, arith, inl, inr, append_assoc, append-nil}
use Rattle.std.proofs.lemmas.List.{map-append, length-append}
use Rattle.std.proofs.lemmas.List.Elements.{All-head, All-tail}
use Rattle.rdf_terms.specs.Lists.{Text}
use Rattle.terminals.proofs.Escaping.{same_head, same_tail}
use Rattle.trig_lexer.specs.declared.kind.Kind.{Kind}
use Rattle.trig_lexer.specs.declared.kind.Kind.TheVariants.{End}
use Rattle.trig_lexer.specs.declared.token.Token.{Token}
use Rattle.trig_lexer.specs.Tokens.{IsTokenAt}
use Rattle.trig_lexer.proofs.OneToken.{one_token, token_or_none, one_start}
use Rattle.trig_grammar.specs.Grammar.{IsSentence, BeginsSentence}
use Rattle.trig_grammar.specs.Published.{IsPublishedSentence}
use Rattle.trig_grammar.proofs.Factoring.{same_sentences}
use Rattle.trig_grammar.proofs.Ending.{begun_is_whole}
use Rattle.trig_reader.specs.Tokens.{is_string, Follow, place_behind, is_behind_string, BeginsWith, IsNextBehind, AreTokens, kinds, AreSentence, BeginDocument}
use Rattle.trig_reader.specs.Document.{IsBadNext}

-- ---- lists

-- one list goes on where the other ends, or they are the same
pub data Compared {A : Type 0} (xs ys : List A) : Type 0 where
  as_long : xs ≡ ys → Compared xs ys
  shorter : (y : A) (rest : List A) → ys ≡ xs ++ y ∷ rest → Compared xs ys
  longer : (x : A) (rest : List A) → xs ≡ ys ++ x ∷ rest → Compared xs ys

module _ {A : Type 0} where
  also_first : (x y : A) (xs ys : List A) → x ≡ y → Compared xs ys → Compared (x ∷ xs) (y ∷ ys)
  also_first x y xs ys e (as_long p) = as_long (λ i. e i ∷ p i)
  also_first x y xs ys e (shorter z rest p) = shorter z rest (λ i. sym e i ∷ p i)
  also_first x y xs ys e (longer z rest p) = longer z rest (λ i. e i ∷ p i)

  pub at_place : (P : A → Type 0) (xs : List A) (x : A) (rest : List A) → All P (xs ++ x ∷ rest) → P x
  at_place P [] x rest all = All-head P x rest all
  at_place P (y ∷ xs) x rest all = at_place P xs x rest (All-tail P y (xs ++ x ∷ rest) all)

  -- what stands before the last but one stands before the last
  before_last : (P : A → Type 0) (front : List A) (x y : A) (rest others : List A) (last : A) → front ++ x ∷ y ∷ rest ≡ others ++ last ∷ [] → All P others → P x
  before_last P [] x y rest [] last e all = absurd (omega (arith, ap length e))
  before_last P [] x y rest (z ∷ others) last e all = subst P (sym (same_head x z (y ∷ rest) (others ++ last ∷ []) e)) (All-head P z others all)
  before_last P (w ∷ front) x y rest [] last e all = absurd (omega (arith, ap length e, length-append front (x ∷ y ∷ rest)))
  before_last P (w ∷ front) x y rest (z ∷ others) last e all =
      before_last P front x y rest others last (same_tail w z (front ++ x ∷ y ∷ rest) (others ++ last ∷ []) e) (All-tail P z others all)

-- ---- one token behind the other

compared_from : (text : Text) (place : ℕ) (after_string : Bool) (xs ys : List Token) → Follow text place after_string xs → Follow text place after_string ys → Compared xs ys
compared_from text place after_string [] [] h k = as_long refl
compared_from text place after_string [] (y ∷ ys) h k = shorter y ys refl
compared_from text place after_string (x ∷ xs) [] h k = longer x xs refl
compared_from text place after_string (x ∷ xs) (y ∷ ys) h k =
    let one : x ≡ y = one_token after_string text place x y h.0 k.0 in
    also_first x y xs ys one (compared_from text y.end (is_string y.kind) xs ys (subst (λ (t : Token). Follow text t.end (is_string t.kind) xs) one h.1) k.1)

pub compared : (text : Text) (xs ys : List Token) → BeginsWith text xs → BeginsWith text ys → Compared xs ys
compared text xs ys h k = compared_from text 0 false xs ys h k

next_from : (text : Text) (place : ℕ) (after_string : Bool) (front : List Token) (next : Token) (rest : List Token) → Follow text place after_string (front ++ next ∷ rest)
    → IsTokenAt (is_behind_string after_string front) text (place_behind place front) next
next_from text place after_string [] next rest h = h.0
next_from text place after_string (t ∷ front) next rest h = next_from text t.end (is_string t.kind) front next rest h.1

pub next_behind : (text : Text) (front : List Token) (next : Token) (rest : List Token) → BeginsWith text (front ++ next ∷ rest) → IsNextBehind text front next
next_behind text front next rest h = next_from text 0 false front next rest h

pub push_token : (text : Text) (place : ℕ) (after_string : Bool) (tokens : List Token) (next : Token) → Follow text place after_string tokens
    → IsTokenAt (is_behind_string after_string tokens) text (place_behind place tokens) next → Follow text place after_string (tokens ++ next ∷ [])
push_token text place after_string [] next h is = (is, tt)
push_token text place after_string (t ∷ tokens) next h is = (h.0, push_token text t.end (is_string t.kind) tokens next h.1 is)

pub place_behind-push : (place : ℕ) (tokens : List Token) (next : Token) → place_behind place (tokens ++ next ∷ []) ≡ next.end
place_behind-push place [] next = refl
place_behind-push place (t ∷ tokens) next = place_behind-push t.end tokens next

pub is_behind_string-push : (after_string : Bool) (tokens : List Token) (next : Token) → is_behind_string after_string (tokens ++ next ∷ []) ≡ is_string next.kind
is_behind_string-push after_string [] next = refl
is_behind_string-push after_string (t ∷ tokens) next = is_behind_string-push (is_string t.kind) tokens next

pub kinds-append : (xs ys : List Token) → kinds (xs ++ ys) ≡ kinds xs ++ kinds ys
kinds-append xs ys = map-append (λ (t : Token). t.kind) xs ys

-- a text has one list of tokens
pub same_tokens : (text : Text) (xs ys : List Token) → AreTokens text xs → AreTokens text ys → xs ≡ ys
same_tokens text xs ys h k = by (compared text xs ys h.begins k.begins)
  where
    past : (one other : List Token) (x : AreTokens text one) (y : AreTokens text other) (t : Token) (rest : List Token) → other ≡ one ++ t ∷ rest → ⊥
    past one other x y t rest e =
        before_last (λ (token : Token). token.kind ≢ End) x.front x.last t rest y.front y.last
        (sym (append_assoc x.front (x.last ∷ []) (t ∷ rest)) ∙ ap (λ l. l ++ t ∷ rest) (sym x.are) ∙ sym e ∙ y.are) y.goes_on x.ends

    by : Compared xs ys → xs ≡ ys
    by (as_long e) = e
    by (shorter t rest e) = absurd (past xs ys h k t rest e)
    by (longer t rest e) = absurd (past ys xs k h t rest e)

-- ---- by the grammar, as it is published and in its productions

pub document_begins : (front : List Kind) → BeginDocument front → BeginsSentence front
document_begins front (more, published) = (more, (same_sentences (front ++ more)).0 published)

pub sentence_begins : (front : List Kind) → BeginsSentence front → BeginDocument front
sentence_begins front (more, sentence) = (more, (same_sentences (front ++ more)).1 sentence)

shorter_begins : (front more : List Kind) → BeginDocument (front ++ more) → BeginDocument front
shorter_begins front more (rest, published) = (more ++ rest, subst IsPublishedSentence (append_assoc front more rest) published)

pub sentence_is_begun : (kinds : List Kind) → IsPublishedSentence kinds → BeginDocument kinds
sentence_is_begun kinds published = ([], subst IsPublishedSentence (sym (append-nil kinds)) published)

-- what begins a document and has the end of the text as its last token is one
pub begun_tokens_are : (text : Text) (tokens : List Token) → AreTokens text tokens → BeginsSentence (kinds tokens) → AreSentence tokens
begun_tokens_are text tokens are begins =
    let last : kinds tokens ≡ kinds are.front ++ End ∷ [] = ap kinds are.are ∙ kinds-append are.front (are.last ∷ []) ∙ ap (λ k. kinds are.front ++ k ∷ []) are.ends in
    (same_sentences (kinds tokens)).1 (subst IsSentence (sym last) (begun_is_whole (kinds are.front) (subst BeginsSentence last begins)))

-- ---- where a document ends to begin

-- behind the tokens with which none goes on no token stands that is taken
pub none_goes_on : (text : Text) (front : List Token) (start : ℕ) (next : Token) (rest : List Token) → IsBadNext text front start → BeginsWith text (front ++ next ∷ rest)
    → BeginDocument (kinds (front ++ next ∷ rest)) → ⊥
none_goes_on text front start next rest (inl (bad, is, at, none)) begins sentence =
    let one : bad ≡ next = one_token (is_behind_string false front) text (place_behind 0 front) bad next is (next_behind text front next rest begins) in
    let parts : kinds (front ++ next ∷ rest) ≡ kinds (front ++ next ∷ []) ++ kinds rest =
    ap kinds (sym (append_assoc front (next ∷ []) rest)) ∙ kinds-append (front ++ next ∷ []) rest in
    none (subst (λ (t : Token). BeginDocument (kinds (front ++ t ∷ []))) (sym one) (shorter_begins (kinds (front ++ next ∷ [])) (kinds rest) (subst BeginDocument parts sentence)))
none_goes_on text front start next rest (inr (none, at)) begins sentence =
    token_or_none (is_behind_string false front) text (place_behind 0 front) next (next_behind text front next rest begins) none

pub same_bad_start : (text : Text) (front : List Token) (one other : ℕ) → IsBadNext text front one → IsBadNext text front other → one ≡ other
same_bad_start text front one other (inl (x, is, at, none)) (inl (y, also, there, not)) =
    at ∙ ap (λ (t : Token). t.start) (one_token (is_behind_string false front) text (place_behind 0 front) x y is also) ∙ sym there
same_bad_start text front one other (inl (x, is, at, none)) (inr (nothing, there)) = absurd (token_or_none (is_behind_string false front) text (place_behind 0 front) x is nothing)
same_bad_start text front one other (inr (nothing, at)) (inl (y, also, there, not)) = absurd (token_or_none (is_behind_string false front) text (place_behind 0 front) y also nothing)
same_bad_start text front one other (inr (nothing, at)) (inr (also, there)) = one_start text (place_behind 0 front) one other at there
