-- The families of shapes of the kinds that are read together. Those of all groups are the shapes of all tokens.
use Rattle.std.specs.Prelude.{◌≡◌, ◌≢◌, ℕ, Bool, false, [], ◌∷◌, codes}
use Rattle.rdf_terms.specs.Lists.{Text, In}
use Rattle.terminals.specs.Terminal.{Characters}
use Rattle.terminals.specs.Terminals.{IriRef as Iri, BlankNodeLabel}
use Rattle.terminals.specs.declared.labels.Grammar.TheVariants.{TriG}
use Rattle.trig_lexer.specs.declared.kind.Kind.{Kind}
use Rattle.trig_lexer.specs.declared.kind.Kind.TheVariants.{AtPrefix, AtBase, WordPrefix, WordBase, WordGraph, WordA, WordTrue, WordFalse, Carets, IriRef, BlankLabel, Anon, LangTag}
use Rattle.trig_lexer.specs.Longest.{Only, Either}
use Rattle.trig_lexer.specs.Words.{IsInAnyCase, HasValue, IsAtPrefix, IsAtBase, IsLangTag, IsAnon, marks}
use Rattle.trig_lexer.specs.Numbers.{NumberShapes}
use Rattle.trig_lexer.specs.Strings.{QuotedShapes}
use Rattle.trig_lexer.specs.Names.{NameShapes}

-- marks of one character
abbrev pub MarkShapes : Kind → Characters → Type 0
MarkShapes kind spelled = (c : ℕ) × (spelled ≡ c ∷ []) × In (c, kind) marks

-- a word or a mark of some characters
abbrev pub ExactShapes : Text → Kind → Kind → Characters → Type 0
ExactShapes word kind = Only kind (λ spelled. spelled ≡ word)

-- a word in any case
abbrev pub AnyCaseShapes : Text → Kind → Kind → Characters → Type 0
AnyCaseShapes word kind = Only kind (IsInAnyCase word)

-- words, and the mark of two characters
abbrev pub WordShapes : Kind → Characters → Type 0
WordShapes =
    Either (ExactShapes (codes "^^") Carets)
    (Either (ExactShapes (codes "a") WordA)
    (Either (ExactShapes (codes "true") WordTrue)
    (Either (ExactShapes (codes "false") WordFalse)
    (Either (AnyCaseShapes (codes "PREFIX") WordPrefix)
    (Either (AnyCaseShapes (codes "BASE") WordBase)
    (AnyCaseShapes (codes "GRAPH") WordGraph))))))

-- what begins with `@`
abbrev pub AtShapes : Bool → Kind → Characters → Type 0
AtShapes after_string AtPrefix spelled = IsAtPrefix after_string spelled
AtShapes after_string AtBase spelled = IsAtBase after_string spelled
AtShapes after_string LangTag spelled = IsLangTag after_string spelled
AtShapes after_string _ spelled = ⊥

-- the kind of what is written as `@` and the tag
abbrev pub IsKindOfTag : Bool → Text → Kind → Type 0
IsKindOfTag after_string tag AtPrefix = (after_string ≡ false) × (tag ≡ codes "prefix")
IsKindOfTag after_string tag AtBase = (after_string ≡ false) × (tag ≡ codes "base")
IsKindOfTag after_string tag LangTag = after_string ≡ false → (tag ≢ codes "prefix") × (tag ≢ codes "base")
IsKindOfTag after_string tag _ = ⊥

-- IRIREF alone
abbrev pub IriShapes : Kind → Characters → Type 0
IriShapes = Only IriRef (HasValue Iri)

-- BLANK_NODE_LABEL alone
abbrev pub LabelShapes : Kind → Characters → Type 0
LabelShapes = Only BlankLabel (HasValue (BlankNodeLabel TriG))

-- ANON alone
abbrev pub AnonShapes : Kind → Characters → Type 0
AnonShapes = Only Anon IsAnon

-- all groups
abbrev pub GroupShapes : Bool → Kind → Characters → Type 0
GroupShapes after_string =
    Either MarkShapes
    (Either WordShapes
    (Either (AtShapes after_string)
    (Either IriShapes
    (Either LabelShapes
    (Either AnonShapes
    (Either NumberShapes
    (Either QuotedShapes NameShapes)))))))
