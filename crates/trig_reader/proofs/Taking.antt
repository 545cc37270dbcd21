-- What taking one token does, and what is known once the last one was taken.
use Rattle.std.proofs.Common.{◌≡◌, ◌≢◌, ℕ, ◌-◌, Bool, false, List, [], ◌∷◌, ◌++◌, Option, Some, None, length, take, drop, refl, sym, ap, subst, ◌∙◌, arith, inl, inr}
use Rattle.std.specs.Prelude.{IsUtf8, encode_utf8_all}
use Rattle.std.specs.Str.{IsCharBoundary}
use Rattle.std.proofs.lemmas.List.{length-append, length-drop, take_at}
use Rattle.std.proofs.lemmas.Str.{encodes-append}
use Rattle.rdf_terms.proofs.Common.{Text, Document}
use Rattle.terminals.specs.Terminal.{Characters}
use Rattle.trig_lexer.specs.declared.kind.Kind.{Kind}
use Rattle.trig_lexer.specs.declared.kind.Kind.TheVariants.{End}
use Rattle.trig_lexer.specs.declared.token.Token.{Token}
use Rattle.trig_lexer.specs.Tokens.{IsToken, IsNext, IsTokenAt, IsTokenStart, HasNoTokenAt}
use Rattle.trig_grammar.specs.Grammar.{BeginsSentence}
use Rattle.trig_grammar.specs.Stack.{IsBehind}
use Rattle.trig_terms.specs.declared.leaf.Leaf.{Leaf}
use Rattle.trig_terms.specs.Leaves.{IsSpelled, IsLeaf, bytes_of}
use Rattle.trig_terms.specs.Meaning.{State, Undefined, begin, step, says}
use Rattle.trig_terms.specs.Meaning.Undefined.{NoPrefix, NoBase as HasNoBase}
use Rattle.trig_builder.specs.Building.{IsReady, Builds, undefined_of}
use Rattle.trig_builder.specs.Telling.{Drafts}
use Rattle.trig_builder.specs.declared.builder.Builder.{Builder}
use Rattle.trig_builder.specs.declared.builder.Missing.{Missing}
use Rattle.trig_builder.specs.declared.builder.Missing.TheVariants.{Prefix, Base}
use Rattle.trig_reader.specs.Lines.{line_at}
use Rattle.trig_reader.specs.Tokens.{IsNextBehind, HasNoneBehind, HaveNoEnd, AreTokens, kinds, place_behind, is_behind_string}
use Rattle.trig_reader.specs.Document.{AreLeaves, IsUndefined, IsCauseOf}
use Rattle.trig_reader.specs.Reading.{IsCut, IsUseAt, HasTold, HasTaken, HasTakenAll, IsDraftOf, fault_at, place_told}
use Rattle.trig_reader.specs.declared.reading.Reading.{Reading}
use Rattle.trig_reader.specs.declared.fault.TrigFault.TheVariants.{BadTrig}
use Rattle.trig_reader.proofs.OneLeaf.{push_leaf}
use Rattle.trig_reader.proofs.TokenLists.{push_token, kinds-append, document_begins, sentence_begins, begun_tokens_are}
use Rattle.trig_reader.proofs.Meanings.{says-push, step_undefined, use_stays}

-- ---- the bytes of a token

next_spelled : (after_string : Bool) (kind : Kind) (characters rest : Characters) → kind ≢ End → IsNext after_string kind characters rest
    → (spelled : Characters) × (characters ≡ spelled ++ rest) × IsToken after_string kind spelled
next_spelled after_string kind [] rest some is = absurd (some is.0)
next_spelled after_string kind (c ∷ more) rest some is = (is.spelled, is.splits, is.fits)

spelled_bytes : (after_string : Bool) (text : Text) (place : ℕ) (token : Token) → IsTokenAt after_string text place token → token.kind ≢ End → IsSpelled token.kind (bytes_of text token)
spelled_bytes after_string text place token is some =
    let x = is.is_next in
    let next = next_spelled after_string token.kind x.text_characters x.rest_characters some x.reads in
    let whole : drop token.start text ≡ encode_utf8_all next.0 ++ drop token.end text =
    x.text_is ∙ ap encode_utf8_all next.1 ∙ encodes-append next.0 x.rest_characters ∙ ap (λ r. encode_utf8_all next.0 ++ r) (sym x.rest_is) in
    let within = is.within in
    let ordered = is.ordered in
    let long : length (encode_utf8_all next.0) ≡ token.end - token.start =
    omega (arith, ap length whole, length-append (encode_utf8_all next.0) (drop token.end text), length-drop token.start text, length-drop token.end text) in
    record {
      after_string = after_string;
      spelled = next.0;
      bytes_are = ap (take (token.end - token.start)) whole ∙ take_at (encode_utf8_all next.0) (drop token.end text) (token.end - token.start) long;
      fits = next.2;
    }

pub cut_out : (after_string : Bool) (text : Text) (place : ℕ) (token : Token) → IsTokenAt after_string text place token → IsCharBoundary text token.start → IsCharBoundary text token.end
    → IsCut text token
cut_out after_string text place token is starts ends = record { starts = starts; ends = ends; ordered = is.ordered; spelled = λ some. spelled_bytes after_string text place token is some }

-- ---- what the token says

module _ (text : Text) (base : Option Text) (tokens : List Token) (token : Token) (leaf : Leaf) (here : IsLeaf text token leaf) (leaves : List Leaf) (before : AreLeaves text tokens leaves) where
  first_here : (why : Undefined) → (says base leaves).undefined ≡ None → (says base (leaves ++ leaf ∷ [])).undefined ≡ Some why → IsUseAt text base (tokens ++ token ∷ []) why token.start
  first_here why none some = record {
    use_at = token;
    first = record { front = tokens; more = []; leaves = leaves; use_leaf = leaf; are = refl; before = before; here = here; defined = none; undefined = some };
    place_is = refl;
  }

  first_before : (why earlier : Undefined) (place : ℕ) → ((w : Undefined) → (says base leaves).undefined ≡ Some w → IsUseAt text base tokens w place) → (says base leaves).undefined ≡ Some earlier
      → (says base (leaves ++ leaf ∷ [])).undefined ≡ Some why → IsUseAt text base (tokens ++ token ∷ []) why place
  first_before why earlier place old was now =
      let stays : (says base (leaves ++ leaf ∷ [])).undefined ≡ (says base leaves).undefined =
      ap (λ (s : State). s.undefined) (says-push base leaves leaf ∙ step_undefined (says base leaves) leaf earlier was) in
      let at = old why (sym stays ∙ now) in
      record { use_at = at.use_at; first = use_stays text base tokens why at.use_at token at.first; place_is = at.place_is }

  first_use : (missing : Option Missing) (place : ℕ) → undefined_of missing ≡ (says base leaves).undefined
      → ((w : Undefined) → (says base leaves).undefined ≡ Some w → IsUseAt text base tokens w place)
      → (why : Undefined) → (says base (leaves ++ leaf ∷ [])).undefined ≡ Some why → IsUseAt text base (tokens ++ token ∷ []) why (place_told missing place token.start)
  first_use None place is old why now = first_here why (sym is) now
  first_use (Some Prefix) place is old why now = first_before why NoPrefix place old (sym is) now
  first_use (Some Base) place is old why now = first_before why HasNoBase place old (sym is) now

pub told_more : (text : Text) (base : Option Text) (tokens : List Token) (token : Token) (leaf : Leaf) (missing : Option Missing) (old new : Builder) (last now : ℕ) → IsLeaf text token leaf
    → ((s : State) → Builds old s → Builds new (step s leaf)) → ((s : State) → Builds old s → undefined_of missing ≡ s.undefined) → now ≡ place_told missing last token.start
    → HasTold text base tokens old last → HasTold text base (tokens ++ token ∷ []) new now
told_more text base tokens token leaf missing old new last now here builds is place told = record {
  leaves = told.leaves ++ leaf ∷ [];
  are_leaves = push_leaf text tokens told.leaves token leaf told.are_leaves here;
  builds = subst (Builds new) (sym (says-push base told.leaves leaf)) (builds (says base told.leaves) told.builds);
  use_at = λ why some. subst (IsUseAt text base (tokens ++ token ∷ []) why) (sym place)
      (first_use text base tokens token leaf here told.leaves told.are_leaves missing last (is (says base told.leaves) told.builds) told.use_at why some);
}

-- ---- the token is taken, or none goes on with it

pub taken_more : (text : Text) (first : Reading) (tokens : List Token) (token : Token) (old new : Reading) → HasTaken text first tokens old → IsNextBehind text tokens token
    → ((front : List Kind) → IsBehind front old.parser → IsBehind (front ++ token.kind ∷ []) new.parser) → IsReady new.builder
    → ((base : Option Text) → HasTold text base tokens old.builder old.last_told → HasTold text base (tokens ++ token ∷ []) new.builder new.last_told) → HasTaken text first (tokens ++ token ∷ []) new
taken_more text first tokens token old new taken next goes_on ready told = record {
  begins = push_token text 0 false tokens token taken.begins next;
  behind = subst (λ ks. IsBehind ks new.parser) (sym (kinds-append tokens (token ∷ []))) (goes_on (kinds tokens) taken.behind);
  ready = ready;
  told = λ base builds. told base (taken.told base builds);
}

pub bad_token : (text : Text) (base : Option Text) (first : Reading) (tokens : List Token) (token : Token) (old : Reading) (line : ℕ) → IsUtf8 text → HasTaken text first tokens old → HaveNoEnd tokens
    → IsNextBehind text tokens token → ((front : List Kind) → IsBehind front old.parser → ¬ (BeginsSentence (front ++ token.kind ∷ []))) → line ≡ line_at text token.start
    → IsCauseOf text base (BadTrig line)
bad_token text base first tokens token old line utf8 taken no_end next none line_is = record {
  utf8 = utf8;
  front = tokens;
  start = token.start;
  begins = taken.begins;
  goes_on = no_end;
  sentence = sentence_begins (kinds tokens) taken.behind.begins;
  bad = inl (token, next, refl, λ more. none (kinds tokens) taken.behind (subst BeginsSentence (kinds-append tokens (token ∷ [])) (document_begins (kinds (tokens ++ token ∷ [])) more)));
  line_is = line_is;
}

pub bad_place : (text : Text) (base : Option Text) (first : Reading) (tokens : List Token) (old : Reading) (place start line : ℕ) → IsUtf8 text → HasTaken text first tokens old → HaveNoEnd tokens
    → place ≡ place_behind 0 tokens
    → HasNoneBehind text tokens → IsTokenStart text place start → line ≡ line_at text start → IsCauseOf text base (BadTrig line)
bad_place text base first tokens old place start line utf8 taken no_end here none at line_is = record {
  utf8 = utf8;
  front = tokens;
  start = start;
  begins = taken.begins;
  goes_on = no_end;
  sentence = sentence_begins (kinds tokens) taken.behind.begins;
  bad = inr (none, subst (λ (p : ℕ). IsTokenStart text p start) here at);
  line_is = line_is;
}

-- ---- all tokens were taken

pub taken_all : (text : Text) (first : Reading) (tokens : List Token) (last : Token) (reading : Reading) → HasTaken text first (tokens ++ last ∷ []) reading → HaveNoEnd tokens → last.kind ≡ End
    → HasTakenAll text first reading
taken_all text first tokens last reading taken no_end end =
    let are : AreTokens text (tokens ++ last ∷ []) = record { front = tokens; last = last; are = refl; begins = taken.begins; goes_on = no_end; ends = end } in
    record { tokens = tokens ++ last ∷ []; are_tokens = are; sentence = begun_tokens_are text (tokens ++ last ∷ []) are taken.behind.begins; told = taken.told }

pub missing_cause : (text : Text) (first : Reading) (base : Option Text) (reading : Reading) (missing : Missing) (line : ℕ) → IsUtf8 text → HasTakenAll text first reading
    → Builds first.builder (begin base)
    → ((s : State) → Builds reading.builder s → undefined_of (Some missing) ≡ s.undefined) → line ≡ line_at text reading.last_told → IsCauseOf text base (fault_at missing line)
missing_cause text first base reading missing line utf8 all begins is line_is = by missing (is (says base told.leaves) told.builds)
  where
    told : HasTold text base all.tokens reading.builder reading.last_told
    told = all.told base begins

    use_in : (why : Undefined) → (says base told.leaves).undefined ≡ Some why → IsUndefined text base why line
    use_in why now =
        let at = told.use_at why now in
        record {
          utf8 = utf8;
          tokens = all.tokens;
          use_at = at.use_at;
          are_tokens = all.are_tokens;
          sentence = all.sentence;
          first = at.first;
          line_is = line_is ∙ ap (line_at text) at.place_is;
        }

    by : (m : Missing) → undefined_of (Some m) ≡ (says base told.leaves).undefined → IsCauseOf text base (fault_at m line)
    by Prefix e = use_in NoPrefix (sym e)
    by Base e = use_in HasNoBase (sym e)

pub whole_draft : (text : Text) (first : Reading) (base : Option Text) (reading : Reading) (draft : Document) → HasTakenAll text first reading → Builds first.builder (begin base)
    → ((s : State) → Builds reading.builder s → None ≡ s.undefined) → ((s : State) → Builds reading.builder s → Drafts draft s.told) → IsDraftOf text base draft
whole_draft text first base reading draft all begins is drafts =
    let told = all.told base begins in
    record {
      tokens = all.tokens;
      leaves = told.leaves;
      are_tokens = all.are_tokens;
      sentence = all.sentence;
      are_leaves = told.are_leaves;
      defined = sym (is (says base told.leaves) told.builds);
      drafts = drafts (says base told.leaves) told.builds;
    }

-- ---- where the next token is looked for

pub next_at : (text : Text) (tokens : List Token) (place : ℕ) (after_string : Bool) (token : Token) → place ≡ place_behind 0 tokens → after_string ≡ is_behind_string false tokens
    → IsTokenAt after_string text place token → IsNextBehind text tokens token
next_at text tokens place after_string token at after is =
    subst (λ (a : Bool). IsTokenAt a text (place_behind 0 tokens) token) after (subst (λ (p : ℕ). IsTokenAt after_string text p token) at is)

pub none_at : (text : Text) (tokens : List Token) (place : ℕ) (after_string : Bool) → place ≡ place_behind 0 tokens → after_string ≡ is_behind_string false tokens
    → HasNoTokenAt after_string text place → HasNoneBehind text tokens
none_at text tokens place after_string at after none =
    subst (λ (a : Bool). HasNoTokenAt a text (place_behind 0 tokens)) after (subst (λ (p : ℕ). HasNoTokenAt after_string text p) at none)
