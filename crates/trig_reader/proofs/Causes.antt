-- A document that is read has no fault, and bytes that are not read have one cause.
use Rattle.std.proofs.Common.{◌≡◌, ◌≢◌, ℕ, ◌≤◌, inl, inr, List, [], ◌∷◌, ◌++◌, Option, Some, None, length, refl, sym, ap, subst, ◌∙◌, arith, append-nil, append_assoc}
use Rattle.std.specs.Str.{IsValidUpTo}
use Rattle.std.proofs.lemmas.Bool.{cases_lt}
use Rattle.rdf_terms.proofs.Common.{Text, Statement}
use Rattle.rdf_terms.specs.declared.term.Label.{Label}
use Rattle.trig_lexer.specs.declared.kind.Kind.TheVariants.{End}
use Rattle.trig_lexer.specs.declared.token.Token.{Token}
use Rattle.trig_terms.specs.Meaning.{Undefined, says}
use Rattle.trig_terms.specs.Meaning.Undefined.{NoPrefix, NoBase as HasNoBase}
use Rattle.trig_builder.specs.declared.TheConstants.{MAX_QUADS}
use Rattle.trig_reader.specs.Lines.{line_at}
use Rattle.trig_reader.specs.Tokens.{BeginsWith, AreTokens, kinds, HaveNoEnd, AreSentence, BeginDocument}
use Rattle.trig_reader.specs.Document.{AreLeaves, AreStated, IsTriG, IsNotUtf8, IsBadNext, IsBad, IsFirstUndefined, IsUndefined, IsTooMany, IsCauseOf}
use Rattle.trig_reader.specs.declared.fault.TrigFault.{TrigFault}
use Rattle.trig_reader.specs.declared.fault.TrigFault.TheVariants.{NotUtf8, BadTrig, UnknownPrefix, NoBase, TooManyQuads, NoMemory}
use Rattle.trig_reader.proofs.OneLeaf.{same_leaves}
use Rattle.trig_reader.proofs.TokenLists.{Compared, at_place, compared, same_tokens, sentence_is_begun, none_goes_on, same_bad_start}
use Rattle.trig_reader.proofs.TokenLists.Compared.{as_long, shorter, longer}
use Rattle.trig_reader.proofs.Meanings.{undefined_within, same_use}
use Rattle.trig_reader.proofs.Numbering.{stated-same}

module _ (bytes : Text) where
  -- ---- bytes that are not UTF-8

  same_front : (m n : ℕ) → IsValidUpTo bytes m → IsValidUpTo bytes n → m ≡ n
  same_front m n x y =
      elim (cases_lt m n) as (λ _. m ≡ n) [
        | inl less ↦ absurd (x.longest n less y.front)
        | inr more ↦ elim (cases_lt n m) as (λ _. m ≡ n) [
          | inl less ↦ absurd (y.longest m less x.front)
          | inr least ↦ omega arith
        ]
      ]

  same_not_utf8 : (m n : ℕ) → IsNotUtf8 bytes m → IsNotUtf8 bytes n → m ≡ n
  same_not_utf8 m n x y = x.line_is ∙ ap (line_at bytes) (same_front x.valid_len y.valid_len x.longest y.longest) ∙ sym y.line_is

  -- ---- tokens that are no document

  goes_on : (front tokens : List Token) (start : ℕ) → IsBadNext bytes front start → BeginsWith bytes tokens → BeginDocument (kinds tokens) → (next : Token) (rest : List Token)
      → tokens ≡ front ++ next ∷ rest → ⊥
  goes_on front tokens start bad begins sentence next rest e =
      none_goes_on bytes front start next rest bad (subst (BeginsWith bytes) e begins) (subst (λ ts. BeginDocument (kinds ts)) e sentence)

  same_bad : (m n : ℕ) → IsBad bytes m → IsBad bytes n → m ≡ n
  same_bad m n x y = by (compared bytes x.front y.front x.begins y.begins)
    where
      by : Compared x.front y.front → m ≡ n
      by (as_long e) =
          let start = same_bad_start bytes y.front x.start y.start (subst (λ ts. IsBadNext bytes ts x.start) e x.bad) y.bad in
          x.line_is ∙ ap (line_at bytes) start ∙ sym y.line_is
      by (shorter next rest e) = absurd (goes_on x.front y.front x.start x.bad y.begins y.sentence next rest e)
      by (longer next rest e) = absurd (goes_on y.front x.front y.start y.bad x.begins x.sentence next rest e)

  no_sentence : (n : ℕ) (tokens : List Token) → IsBad bytes n → AreTokens bytes tokens → AreSentence tokens → ⊥
  no_sentence n tokens bad are sentence = by (compared bytes bad.front tokens bad.begins are.begins)
    where
      past : (rest : List Token) → bad.front ≡ are.front ++ are.last ∷ rest → ⊥
      past rest e = at_place (λ (t : Token). t.kind ≢ End) are.front are.last rest (subst HaveNoEnd e bad.goes_on) are.ends

      by : Compared bad.front tokens → ⊥
      by (as_long e) = past [] (e ∙ are.are)
      by (shorter next rest e) = goes_on bad.front tokens bad.start bad.bad are.begins (sentence_is_begun (kinds tokens) sentence) next rest e
      by (longer next rest e) = past (next ∷ rest) (e ∙ ap (λ ts. ts ++ next ∷ rest) are.are ∙ append_assoc are.front (are.last ∷ []) (next ∷ rest))

module _ (bytes : Text) (base : Option Text) where
  -- ---- uses without a definition

  same_undefined : (why whys : Undefined) (m n : ℕ) → IsUndefined bytes base why m → IsUndefined bytes base whys n → (why ≡ whys) × (m ≡ n)
  same_undefined why whys m n x y =
      let tokens = same_tokens bytes x.tokens y.tokens x.are_tokens y.are_tokens in
      let one = same_use bytes base y.tokens why whys x.use_at y.use_at (subst (λ ts. IsFirstUndefined bytes base ts why x.use_at) tokens x.first) y.first in
      (one.0, x.line_is ∙ ap (λ (t : Token). line_at bytes t.start) one.1 ∙ sym y.line_is)

  all_defined : (why : Undefined) (n : ℕ) (labels : List Label) (sts : List Statement) → IsUndefined bytes base why n → IsTriG bytes base labels sts → ⊥
  all_defined why n labels sts x read =
      let tokens : read.tokens ≡ x.tokens ++ [] = same_tokens bytes read.tokens x.tokens read.are_tokens x.are_tokens ∙ sym (append-nil x.tokens) in
      let some : (says base read.leaves).undefined ≡ Some why = undefined_within bytes base x.tokens why x.use_at x.first [] read.leaves
      (subst (λ ts. AreLeaves bytes ts read.leaves) tokens read.are_leaves) in
      let none : (says base read.leaves).undefined ≡ None = read.defined in
      cc

  -- ---- a document that is read

  pub same_document : (labels others : List Label) (one other : List Statement) → IsTriG bytes base labels one → IsTriG bytes base others other → (labels ≡ others) × (one ≡ other)
  same_document labels others one other x y =
      let tokens = same_tokens bytes x.tokens y.tokens x.are_tokens y.are_tokens in
      let leaves = same_leaves bytes y.tokens x.leaves y.leaves (subst (λ ts. AreLeaves bytes ts x.leaves) tokens x.are_leaves) y.are_leaves in
      stated-same (says base y.leaves).told labels others one other (subst (λ ls. AreStated (says base ls).told labels one) leaves x.states) y.states

  pub no_cause : (labels : List Label) (sts : List Statement) → IsTriG bytes base labels sts → length sts ≤ MAX_QUADS → (cause : TrigFault) → IsCauseOf bytes base cause → cause ≡ NoMemory
  no_cause labels sts read within (NotUtf8 n) h = absurd (h.invalid read.utf8)
  no_cause labels sts read within (BadTrig n) h = absurd (no_sentence bytes n read.tokens h read.are_tokens read.sentence)
  no_cause labels sts read within (UnknownPrefix n) h = absurd (all_defined NoPrefix n labels sts h read)
  no_cause labels sts read within (NoBase n) h = absurd (all_defined HasNoBase n labels sts h read)
  no_cause labels sts read within TooManyQuads h =
      let one = (same_document labels h.labels sts h.statements read h.is).1 in
      absurd (omega (arith, ap length one, h.many))
  no_cause labels sts read within NoMemory h = refl

  -- ---- one that is not

  undefined_not_bad : (why : Undefined) (m n : ℕ) → IsUndefined bytes base why m → IsBad bytes n → ⊥
  undefined_not_bad why m n x bad = no_sentence bytes n x.tokens bad x.are_tokens x.sentence

  many_not_bad : (n : ℕ) → IsTooMany bytes base → IsBad bytes n → ⊥
  many_not_bad n x bad = no_sentence bytes n x.is.tokens bad x.is.are_tokens x.is.sentence

  no_prefix_no_base : (m n : ℕ) → IsUndefined bytes base NoPrefix m → IsUndefined bytes base HasNoBase n → ⊥
  no_prefix_no_base m n x y = let one : NoPrefix ≡ HasNoBase = (same_undefined NoPrefix HasNoBase m n x y).0 in cc

  pub same_cause : (x y : TrigFault) → IsCauseOf bytes base x → IsCauseOf bytes base y → x ≢ NoMemory → y ≢ NoMemory → x ≡ y
  same_cause NoMemory y h k memory other = absurd (memory refl)
  same_cause x NoMemory h k memory other = absurd (other refl)
  same_cause (NotUtf8 m) (NotUtf8 n) h k memory other = ap NotUtf8 (same_not_utf8 bytes m n h k)
  same_cause (NotUtf8 m) (BadTrig n) h k memory other = absurd (h.invalid k.utf8)
  same_cause (NotUtf8 m) (UnknownPrefix n) h k memory other = absurd (h.invalid k.utf8)
  same_cause (NotUtf8 m) (NoBase n) h k memory other = absurd (h.invalid k.utf8)
  same_cause (NotUtf8 m) TooManyQuads h k memory other = absurd (h.invalid k.is.utf8)
  same_cause (BadTrig m) (NotUtf8 n) h k memory other = absurd (k.invalid h.utf8)
  same_cause (BadTrig m) (BadTrig n) h k memory other = ap BadTrig (same_bad bytes m n h k)
  same_cause (BadTrig m) (UnknownPrefix n) h k memory other = absurd (undefined_not_bad NoPrefix n m k h)
  same_cause (BadTrig m) (NoBase n) h k memory other = absurd (undefined_not_bad HasNoBase n m k h)
  same_cause (BadTrig m) TooManyQuads h k memory other = absurd (many_not_bad m k h)
  same_cause (UnknownPrefix m) (NotUtf8 n) h k memory other = absurd (k.invalid h.utf8)
  same_cause (UnknownPrefix m) (BadTrig n) h k memory other = absurd (undefined_not_bad NoPrefix m n h k)
  same_cause (UnknownPrefix m) (UnknownPrefix n) h k memory other = ap UnknownPrefix (same_undefined NoPrefix NoPrefix m n h k).1
  same_cause (UnknownPrefix m) (NoBase n) h k memory other = absurd (no_prefix_no_base m n h k)
  same_cause (UnknownPrefix m) TooManyQuads h k memory other = absurd (all_defined NoPrefix m k.labels k.statements h k.is)
  same_cause (NoBase m) (NotUtf8 n) h k memory other = absurd (k.invalid h.utf8)
  same_cause (NoBase m) (BadTrig n) h k memory other = absurd (undefined_not_bad HasNoBase m n h k)
  same_cause (NoBase m) (UnknownPrefix n) h k memory other = absurd (no_prefix_no_base n m k h)
  same_cause (NoBase m) (NoBase n) h k memory other = ap NoBase (same_undefined HasNoBase HasNoBase m n h k).1
  same_cause (NoBase m) TooManyQuads h k memory other = absurd (all_defined HasNoBase m k.labels k.statements h k.is)
  same_cause TooManyQuads (NotUtf8 n) h k memory other = absurd (k.invalid h.is.utf8)
  same_cause TooManyQuads (BadTrig n) h k memory other = absurd (many_not_bad n h k)
  same_cause TooManyQuads (UnknownPrefix n) h k memory other = absurd (all_defined NoPrefix n h.labels h.statements k h.is)
  same_cause TooManyQuads (NoBase n) h k memory other = absurd (all_defined HasNoBase n h.labels h.statements k h.is)
  same_cause TooManyQuads TooManyQuads h k memory other = refl
