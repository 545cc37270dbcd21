-- What the answer of a run says of `canon`, what a file is read as, and why it is refused.
use Rattle.std.proofs.Common.{◌≡◌, ℕ, ◌<◌, ◌≤◌, List, length, Option, Some, None, IfSome, ◌⊎◌, inl, inr, refl, sym, ap, ◌∙◌, subst, arith}
use Rattle.rdf_terms.proofs.Common.{Text, permutes_trans, Permutes-sym, Permutes-from_equal, Statement}
use Rattle.rdf_terms.specs.declared.term.Label.{Label}
use Rattle.nquads_reader.specs.Document.{IsCauseOf as IsLineCauseOf}
use Rattle.nquads_reader.specs.declared.TheConstants.{MAX_QUADS}
use Rattle.nquads_reader.specs.Lines.{lines_of}
use Rattle.nquads_reader.specs.declared.fault.ReadFault.{ReadFault as ReaderFault}
use Rattle.nquads_reader.specs.declared.fault.ReadFault.TheVariants.{NotUtf8 as NotUtf8Fault, BadLine as BadLineFault, RelativeIri as RelativeIriFault, TooManyQuads as TooManyQuadsFault, NoMemory as NoMemoryFault}
use Rattle.nquads_reader.proofs.OneReading.{AreRead-same}
use Rattle.nquads_reader.proofs.Causes.{causes_same, no_cause as no_line_cause}
use Rattle.trig_reader.specs.Document.{IsCauseOf as IsTriGCauseOf}
use Rattle.trig_reader.specs.declared.fault.TrigFault.{TrigFault}
use Rattle.trig_reader.specs.declared.fault.TrigFault.TheVariants.{NotUtf8 as NotUtf8Token, BadTrig as BadToken, UnknownPrefix as UnknownPrefixToken, NoBase as NoBaseToken, TooManyQuads as TooManyTriGQuads, NoMemory as NoMemoryToken}
use Rattle.trig_reader.proofs.Causes.{same_document, same_cause, no_cause as no_token_cause}
use Rattle.canon_model.specs.Hashing.{Hashing}
use Rattle.canon_model.specs.QuadOrder.{HaveSameQuads}
use Rattle.canon_model.specs.Output.{units_of, IsOutputOf}
use Rattle.canon_model.proofs.QuadOrder.{counted_run_of_quads}
use Rattle.ndegree_hash.specs.declared.tie.Tie.{Tie}
use Rattle.rdfc_cli.specs.Answers.{Answers, Content, IsDocumentIn, Accepts, FileSeen, IsReaderCause, IsCause, IsRunText, IsWritten, hashing_of}
use Rattle.rdfc_cli.specs.Words.{Syntax}
use Rattle.rdfc_cli.specs.Words.Command.{on_file}
use Rattle.rdfc_cli.specs.Words.Syntax.{nquads, trig}
use Rattle.rdfc_cli.specs.declared.files.TheConstants.{FILE_LIMIT}
use Rattle.rdfc_cli.specs.Headline.{IsOutputFor, Says, Headline, CausesExclude}
use Rattle.rdfc_cli.specs.declared.options.Settings.{Settings}
use Rattle.rdfc_cli.specs.declared.words.Task.TheVariants.{Canon}
use Rattle.rdfc_cli.specs.declared.status.Status.{Status}
use Rattle.rdfc_cli.specs.declared.status.Status.TheVariants.{Done, Unsettled, Refused, ReadFault, WriteFault, WorkLimit, NoMemory, SearchLimit}
use Rattle.rdfc_cli.specs.declared.status.Cause.{Cause}
use Rattle.rdfc_cli.specs.declared.status.Cause.TheVariants.{TooLong, NotUtf8, BadLine, RelativeIri, BadTrig, UnknownPrefix, NoBase, TooManyQuads}

-- ---- what a file is read as

same_documents : (syntax : Syntax) (bytes : Text) (labels others : List Label) (one other : List Statement) → IsDocumentIn syntax bytes labels one → IsDocumentIn syntax bytes others other
    → (labels ≡ others) × (one ≡ other)
same_documents nquads bytes labels others one other x y = AreRead-same (lines_of bytes) labels others one other x y
same_documents (trig base) bytes labels others one other x y = same_document bytes base labels others one other x y

-- the quads are the same, whichever way the file is read
pub same_quads : (syntax : Syntax) (bytes : Text) (a b : Content) → Accepts syntax bytes a → Accepts syntax bytes b → HaveSameQuads a.dataset b.dataset
same_quads syntax bytes a b x y =
    let same = same_documents syntax bytes a.labels b.labels x.stated y.stated x.states.reads y.states.reads in
    record {
      nodes = y.nodes_are ∙ ap length (sym same.0) ∙ sym x.nodes_are;
      statements = permutes_trans (Permutes-sym x.quads_are) (permutes_trans (Permutes-from_equal same.1) y.quads_are);
    }

-- and so is what the file calls its nodes
pub same_labels : (syntax : Syntax) (bytes : Text) (a b : Content) → Accepts syntax bytes a → Accepts syntax bytes b → a.labels ≡ b.labels
same_labels syntax bytes a b x y = (same_documents syntax bytes a.labels b.labels x.stated y.stated x.states.reads y.states.reads).0

pub same_units : (ρ : Hashing) (syntax : Syntax) (bytes : Text) (a b : Content) → Accepts syntax bytes a → Accepts syntax bytes b → units_of ρ b.dataset ≡ units_of ρ a.dataset
same_units ρ syntax bytes a b x y = ap (λ run. run.trace.units) (counted_run_of_quads ρ a.dataset b.dataset (same_quads syntax bytes a b x y))

-- what is known of the file that is told
pub of_told : (told : Option Text) (bytes : Text) (Fact : Text → Type 0) → told ≡ Some bytes → IfSome told Fact → Fact bytes
of_told told bytes Fact e f = subst (λ t. IfSome t Fact) e f

-- ---- causes

pub not_both : (n limit : ℕ) → limit < n → ¬ (n ≤ limit)
not_both n limit l m = omega arith

-- the cause comes from a fault of a reader, which is not want of memory
record IsFaultOf {F : Type 0} (Holds : F → Type 0) (memory : F) (cause_of : F → Cause) (cause : Cause) : Type 0 where
  fault : F
  holds : Holds fault
  wanted : ¬ (fault ≡ memory)
  cause_is : cause ≡ cause_of fault

one_of : {F : Type 0} (Holds : F → Type 0) (memory : F) (cause_of : F → Cause) → ((x y : F) → Holds x → Holds y → ¬ (x ≡ memory) → ¬ (y ≡ memory) → x ≡ y)
    → (cause other : Cause) → IsFaultOf Holds memory cause_of cause → IsFaultOf Holds memory cause_of other → cause ≡ other
one_of Holds memory cause_of same cause other x y = x.cause_is ∙ ap cause_of (same x.fault y.fault x.holds y.holds x.wanted y.wanted) ∙ sym y.cause_is

cause_of_line : ReaderFault → Cause
cause_of_line NoMemoryFault = TooLong
cause_of_line (NotUtf8Fault line) = NotUtf8 line
cause_of_line (BadLineFault line) = BadLine line
cause_of_line (RelativeIriFault line) = RelativeIri line
cause_of_line TooManyQuadsFault = TooManyQuads

cause_of_token : TrigFault → Cause
cause_of_token NoMemoryToken = TooLong
cause_of_token (NotUtf8Token line) = NotUtf8 line
cause_of_token (BadToken line) = BadTrig line
cause_of_token (UnknownPrefixToken line) = UnknownPrefix line
cause_of_token (NoBaseToken line) = NoBase line
cause_of_token TooManyTriGQuads = TooManyQuads

line_fault : (bytes : Text) (cause : Cause) → IsReaderCause nquads bytes cause → IsFaultOf (IsLineCauseOf bytes) NoMemoryFault cause_of_line cause
unfolding cause_of_line
line_fault bytes (NotUtf8 line) h = record { fault = NotUtf8Fault line; holds = h; wanted = λ e. cc; cause_is = refl }
line_fault bytes (BadLine line) h = record { fault = BadLineFault line; holds = h; wanted = λ e. cc; cause_is = refl }
line_fault bytes (RelativeIri line) h = record { fault = RelativeIriFault line; holds = h; wanted = λ e. cc; cause_is = refl }
line_fault bytes TooManyQuads h = record { fault = TooManyQuadsFault; holds = h; wanted = λ e. cc; cause_is = refl }
line_fault bytes cause h = absurd h

token_fault : (bytes : Text) (base : Option Text) (cause : Cause) → IsReaderCause (trig base) bytes cause → IsFaultOf (IsTriGCauseOf bytes base) NoMemoryToken cause_of_token cause
unfolding cause_of_token
token_fault bytes base (NotUtf8 line) h = record { fault = NotUtf8Token line; holds = h; wanted = λ e. cc; cause_is = refl }
token_fault bytes base (BadTrig line) h = record { fault = BadToken line; holds = h; wanted = λ e. cc; cause_is = refl }
token_fault bytes base (UnknownPrefix line) h = record { fault = UnknownPrefixToken line; holds = h; wanted = λ e. cc; cause_is = refl }
token_fault bytes base (NoBase line) h = record { fault = NoBaseToken line; holds = h; wanted = λ e. cc; cause_is = refl }
token_fault bytes base TooManyQuads h = record { fault = TooManyTriGQuads; holds = h; wanted = λ e. cc; cause_is = refl }
token_fault bytes base cause h = absurd h

-- each cause but that of length is one of the reader, of bytes within the limit
by_reader : (syntax : Syntax) (bytes : Text) (cause : Cause) → IsCause syntax bytes cause
    → ((FILE_LIMIT < length bytes) × (cause ≡ TooLong)) ⊎ ((length bytes ≤ FILE_LIMIT) × IsReaderCause syntax bytes cause)
by_reader syntax bytes TooLong h = inl (h, refl)
by_reader syntax bytes cause h = inr h

one_reader_cause : (syntax : Syntax) (bytes : Text) (cause other : Cause) → IsReaderCause syntax bytes cause → IsReaderCause syntax bytes other → cause ≡ other
one_reader_cause nquads bytes cause other h k = one_of (IsLineCauseOf bytes) NoMemoryFault cause_of_line (causes_same bytes) cause other (line_fault bytes cause h) (line_fault bytes other k)
one_reader_cause (trig base) bytes cause other h k =
    one_of (IsTriGCauseOf bytes base) NoMemoryToken cause_of_token (same_cause bytes base) cause other (token_fault bytes base cause h) (token_fault bytes base other k)

pub one_cause : (syntax : Syntax) (bytes : Text) (cause other : Cause) → IsCause syntax bytes cause → IsCause syntax bytes other → cause ≡ other
one_cause syntax bytes cause other h k = by (by_reader syntax bytes cause h) (by_reader syntax bytes other k)
  where
    by : ((FILE_LIMIT < length bytes) × (cause ≡ TooLong)) ⊎ ((length bytes ≤ FILE_LIMIT) × IsReaderCause syntax bytes cause)
        → ((FILE_LIMIT < length bytes) × (other ≡ TooLong)) ⊎ ((length bytes ≤ FILE_LIMIT) × IsReaderCause syntax bytes other) → cause ≡ other
    by (inl a) (inl b) = a.1 ∙ sym b.1
    by (inl a) (inr b) = absurd (not_both (length bytes) FILE_LIMIT a.0 b.0)
    by (inr a) (inl b) = absurd (not_both (length bytes) FILE_LIMIT b.0 a.0)
    by (inr a) (inr b) = one_reader_cause syntax bytes cause other a.1 b.1

no_reader_cause : (syntax : Syntax) (bytes : Text) (labels : List Label) (stated : List Statement) → IsDocumentIn syntax bytes labels stated → length stated ≤ MAX_QUADS → (cause : Cause)
    → ¬ (IsReaderCause syntax bytes cause)
no_reader_cause nquads bytes labels stated reads few cause h = (let f = line_fault bytes cause h in f.wanted (no_line_cause bytes labels stated reads few f.fault f.holds))
no_reader_cause (trig base) bytes labels stated reads few cause h = (let f = token_fault bytes base cause h in f.wanted (no_token_cause bytes base labels stated reads few f.fault f.holds))

pub no_cause_if_accepted : (syntax : Syntax) (bytes : Text) (content : Content) (cause : Cause) → Accepts syntax bytes content → ¬ (IsCause syntax bytes cause)
no_cause_if_accepted syntax bytes content cause a h = by (by_reader syntax bytes cause h)
  where
    by : ((FILE_LIMIT < length bytes) × (cause ≡ TooLong)) ⊎ ((length bytes ≤ FILE_LIMIT) × IsReaderCause syntax bytes cause) → ⊥
    by (inl b) = not_both (length bytes) FILE_LIMIT b.0 a.states.within
    by (inr b) = no_reader_cause syntax bytes content.labels a.stated a.states.reads a.states.few cause b.1

pub causes_exclude : CausesExclude
causes_exclude = record { one = one_cause; none = no_cause_if_accepted }

-- ---- the headline

module _ {K : Type 0} (taken : K → Option Text) (faults : K → ℕ) (file : Text → FileSeen) (word bytes : Text) (settings : Settings) (told : (file word).told ≡ Some bytes) where
  -- the text of `canon`, and what its run found
  record IsCanonText (found : Option Tie) (text : Text) : Type 0 where
    content : Content
    accepts : Accepts (file word).syntax bytes content
    run : IsRunText settings found (λ ρ. IsOutputOf ρ content.dataset) content.dataset text

  canon_text : (found : Option Tie) (text : Text) → IsWritten file (on_file Canon word) settings found text → IsCanonText found text
  canon_text found text w =
      let f = of_told (file word).told bytes (λ bytes. (content : Content) × Accepts (file word).syntax bytes content
      × IsRunText settings found (λ ρ. IsOutputOf ρ content.dataset) content.dataset text) told w in
      record { content = f.0; accepts = f.1; run = f.2 }

  is_output : (found : Option Tie) (text : Text) → (t : IsCanonText found text) → IsOutputFor (file word).syntax bytes settings t.content text
  is_output found text t = record {
    accepts = t.accepts;
    allowed = t.run.is_text.allowed;
    tells = t.run.is_text.tells;
    within = λ other accepts. subst (λ n. n ≤ settings.limit) (sym (same_units (hashing_of settings) (file word).syntax bytes t.content other t.accepts accepts)) t.run.within;
  }

  says : (old new : K) (status : Status) → Answers taken faults file (on_file Canon word) settings old new status → Says taken faults (file word) bytes settings old new status
  says old new Done a =
      let t = canon_text None a.0 a.2 in
      record {
        content = t.content;
        text = a.0;
        grown = a.1;
        is_output = is_output None a.0 t;
        only = λ E isomorphic other allowed. subst (λ w. other ≡ w) (sym t.run.is_text.chosen) (t.run.finds.only E isomorphic other allowed);
      }
  says old new (Unsettled tie) a =
      let t = canon_text (Some tie) a.0 a.2 in
      record {
        content = t.content;
        text = a.0;
        grown = a.1;
        is_output = is_output (Some tie) a.0 t;
        first = t.run.finds.first;
        tied = t.run.finds.tie.tied;
        not_joined = t.run.finds.not_joined;
        not_carried = t.run.finds.not_carried;
      }
  says old new WriteFault a =
      let t = canon_text a.1.1 a.1.0 a.1.3 in
      (a.0, record { content = t.content; text = a.1.0; cut = a.1.2; is_output = is_output a.1.1 a.1.0 t })
  says old new (WorkLimit place limit) a =
      let f = of_told (file word).told bytes (λ bytes. (content : Content) × Accepts (file word).syntax bytes content
      × (settings.limit < units_of (hashing_of settings) content.dataset)) told a.1.1.1 in (
        a.0,
        a.1.1.0,
        record {
          limit_is = a.1.0;
          content = f.0;
          accepts = f.1;
          passes = λ other accepts. subst (λ n. settings.limit < n) (sym (same_units (hashing_of settings) (file word).syntax bytes f.0 other f.1 accepts)) f.2;
        },
      )
  says old new (Refused refusal) a = elim a.1 [
    | inl r ↦ (a.0, r.0, of_told (file word).told bytes (λ bytes. IsCause (file word).syntax bytes refusal.cause) told r.1)
    | inr r ↦ absurd r.1
  ]
  says old new (ReadFault place) a = (a.0, a.1.0, a.1.1)
  says old new NoMemory a = a.0
  says old new (SearchLimit limit image) a = absurd a.1.1
  says old new status a = absurd a.1

pub headline : {K : Type 0} (taken : K → Option Text) (faults : K → ℕ) → Headline taken faults
headline taken faults file word bytes settings old new status told a = says taken faults file word bytes settings told old new status a
