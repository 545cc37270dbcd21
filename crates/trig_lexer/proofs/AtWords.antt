-- What begins with `@`: each of the words is a language tag too.
use Rattle.std.proofs.Common.{◌≡◌, Bool, [], ◌∷◌, refl, sym, ap, subst, ◌∙◌, arith, rules}
use Rattle.std.specs.Prelude.{codes}
use Rattle.std.proofs.lemmas.Str.{encodes-IsAscii}
use Rattle.rdf_terms.proofs.Common.{Text, IsLanguageTag}
use Rattle.terminals.specs.Terminal.{Characters, TextBeginsWith, TextBeginsWithNone}
use Rattle.terminals.specs.Terminals.{LangTag as Tag}
use Rattle.terminals.proofs.Escaping.{same_tail}
use Rattle.terminals.proofs.Tagging.{tag_ascii}
use Rattle.trig_lexer.specs.declared.kind.Kind.{Kind}
use Rattle.trig_lexer.specs.declared.kind.Kind.TheVariants.{AtPrefix, AtBase, LangTag}
use Rattle.trig_lexer.specs.Longest.{TextBeginsWithLongest, TextBeginsWithNoToken}
use Rattle.trig_lexer.specs.Words.{HasValue}
use Rattle.trig_lexer.specs.Groups.{AtShapes, IsKindOfTag}
use Rattle.trig_lexer.proofs.Longest.{terminal_found, terminal_none}

prefix_tag : IsLanguageTag (codes "prefix")
prefix_tag = record { primary = codes "prefix"; subtags = []; spelled = refl; is_primary = record { some = omega arith; letters = search rules }; are_subtags = λ k d l. absurd (omega arith) }

base_tag : IsLanguageTag (codes "base")
base_tag = record { primary = codes "base"; subtags = []; spelled = refl; is_primary = record { some = omega arith; letters = search rules }; are_subtags = λ k d l. absurd (omega arith) }

at_tag : (after_string : Bool) (kind : Kind) (spelled : Characters) → AtShapes after_string kind spelled → HasValue Tag spelled
at_tag after_string AtPrefix spelled is = (codes "prefix", record { mark = is.1; tag = prefix_tag })
at_tag after_string AtBase spelled is = (codes "base", record { mark = is.1; tag = base_tag })
at_tag after_string LangTag spelled is = is.0
at_tag after_string _ spelled is = absurd is

shape_of_tag : (after_string : Bool) (tag spelled : Characters) (kind : Kind) → Tag spelled tag → IsKindOfTag after_string tag kind → AtShapes after_string kind spelled
shape_of_tag after_string tag spelled AtPrefix x is = (is.0, x.mark ∙ ap (λ t. 64 ∷ t) is.1)
shape_of_tag after_string tag spelled AtBase x is = (is.0, x.mark ∙ ap (λ t. 64 ∷ t) is.1)
shape_of_tag after_string tag spelled LangTag x is = (
  (tag, x),
  λ no_string. (
    (λ e. (is no_string).0 (same_tail 64 64 tag (codes "prefix") (sym x.mark ∙ e))),
    (λ e. (is no_string).1 (same_tail 64 64 tag (codes "base") (sym x.mark ∙ e))),
  ),
)
shape_of_tag after_string tag spelled _ x is = absurd is

pub at_found : (after_string : Bool) (text tag rest : Text) (kind : Kind) → TextBeginsWith Tag text tag rest → IsKindOfTag after_string tag kind
    → TextBeginsWithLongest (AtShapes after_string) text kind rest
at_found after_string text tag rest kind x is =
    terminal_found (AtShapes after_string) Tag (at_tag after_string) text kind tag rest x
    (shape_of_tag after_string x.value_characters x.begins.spelled kind x.begins.fits (subst (λ t. IsKindOfTag after_string t kind) same is))
  where
    same : tag ≡ x.value_characters
    same = x.value_is ∙ encodes-IsAscii x.value_characters (tag_ascii x.value_characters x.begins.fits.tag)

pub at_none : (after_string : Bool) (text : Text) → TextBeginsWithNone Tag text → TextBeginsWithNoToken (AtShapes after_string) text
at_none after_string = terminal_none (AtShapes after_string) Tag (at_tag after_string)
