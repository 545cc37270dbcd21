-- The shapes of all groups are those of all tokens.
use Rattle.std.proofs.Common.{◌≡◌, ℕ, Bool, [], ◌∷◌, Option, Some, None, refl, sym, subst, inl, inr}
use Rattle.rdf_terms.specs.Lists.{Text, In}
use Rattle.terminals.specs.Terminal.{Characters}
use Rattle.trig_lexer.specs.declared.kind.Kind.{Kind}
use Rattle.trig_lexer.specs.declared.kind.Kind.TheVariants.{AtPrefix, AtBase, WordPrefix, WordBase, WordGraph, WordA, WordTrue, WordFalse, Dot, Semicolon, Comma, Carets, LeftBrace, RightBrace, LeftBracket, RightBracket, LeftParen, RightParen, IriRef, PnameNs, PnameLn, BlankLabel, Anon, Integer, Decimal, Double, Quoted, LangTag, End}
use Rattle.trig_lexer.specs.declared.found.Found.{Found}
use Rattle.trig_lexer.specs.Longer.{Finds}
use Rattle.trig_lexer.specs.Words.{marks}
use Rattle.trig_lexer.specs.Numbers.{NumberShapes}
use Rattle.trig_lexer.specs.Strings.{QuotedShapes}
use Rattle.trig_lexer.specs.Names.{NameShapes}
use Rattle.trig_lexer.specs.Tokens.{IsToken}
use Rattle.trig_lexer.specs.Groups.{WordShapes, AtShapes, GroupShapes}
use Rattle.trig_lexer.proofs.LongerOf.{longest_same}

-- what is found does not change with the way in which the shapes are told
pub finds_same : (one other : Kind → Characters → Type 0) → ((kind : Kind) (spelled : Characters) → one kind spelled → other kind spelled)
    → ((kind : Kind) (spelled : Characters) → other kind spelled → one kind spelled) → (text : Text) (found : Option Found) → Finds one text found → Finds other text found
finds_same one other to from text None none = λ characters e kind spelled rest splits is. none characters e kind spelled rest splits (from kind spelled is)
finds_same one other to from text (Some x) p = longest_same one other to from text x.kind x.rest.now p

-- ---- from groups to tokens

of_mark : (after_string : Bool) (is kind : Kind) (c mark : ℕ) → ◌≡◌ {A = ℕ × Kind} (c, kind) (mark, is) → IsToken after_string is (mark ∷ []) → IsToken after_string kind (c ∷ [])
of_mark after_string is kind c mark e fits = subst (λ (p : ℕ × Kind). IsToken after_string p.1 (p.0 ∷ [])) (sym e) fits

-- a mark in the table is the character of its kind
mark_fits : (after_string : Bool) (kind : Kind) (c : ℕ) → In (c, kind) marks → IsToken after_string kind (c ∷ [])
unfolding IsToken
mark_fits after_string kind c (inl e) = of_mark after_string Dot kind c 46 e refl
mark_fits after_string kind c (inr (inl e)) = of_mark after_string Semicolon kind c 59 e refl
mark_fits after_string kind c (inr (inr (inl e))) = of_mark after_string Comma kind c 44 e refl
mark_fits after_string kind c (inr (inr (inr (inl e)))) = of_mark after_string LeftBrace kind c 123 e refl
mark_fits after_string kind c (inr (inr (inr (inr (inl e))))) = of_mark after_string RightBrace kind c 125 e refl
mark_fits after_string kind c (inr (inr (inr (inr (inr (inl e)))))) = of_mark after_string LeftBracket kind c 91 e refl
mark_fits after_string kind c (inr (inr (inr (inr (inr (inr (inl e))))))) = of_mark after_string RightBracket kind c 93 e refl
mark_fits after_string kind c (inr (inr (inr (inr (inr (inr (inr (inl e)))))))) = of_mark after_string LeftParen kind c 40 e refl
mark_fits after_string kind c (inr (inr (inr (inr (inr (inr (inr (inr (inl e))))))))) = of_mark after_string RightParen kind c 41 e refl
mark_fits after_string kind c (inr (inr (inr (inr (inr (inr (inr (inr (inr none))))))))) = absurd none

kind_fits : (after_string : Bool) (is kind : Kind) (spelled : Characters) → kind ≡ is → IsToken after_string is spelled → IsToken after_string kind spelled
kind_fits after_string is kind spelled e fits = subst (λ k. IsToken after_string k spelled) (sym e) fits

word_fits : (after_string : Bool) (kind : Kind) (spelled : Characters) → WordShapes kind spelled → IsToken after_string kind spelled
unfolding IsToken
word_fits after_string kind spelled (inl (e, is)) = kind_fits after_string Carets kind spelled e is
word_fits after_string kind spelled (inr (inl (e, is))) = kind_fits after_string WordA kind spelled e is
word_fits after_string kind spelled (inr (inr (inl (e, is)))) = kind_fits after_string WordTrue kind spelled e is
word_fits after_string kind spelled (inr (inr (inr (inl (e, is))))) = kind_fits after_string WordFalse kind spelled e is
word_fits after_string kind spelled (inr (inr (inr (inr (inl (e, is)))))) = kind_fits after_string WordPrefix kind spelled e is
word_fits after_string kind spelled (inr (inr (inr (inr (inr (inl (e, is))))))) = kind_fits after_string WordBase kind spelled e is
word_fits after_string kind spelled (inr (inr (inr (inr (inr (inr (e, is))))))) = kind_fits after_string WordGraph kind spelled e is

at_fits : (after_string : Bool) (kind : Kind) (spelled : Characters) → AtShapes after_string kind spelled → IsToken after_string kind spelled
unfolding IsToken
at_fits after_string AtPrefix spelled is = is
at_fits after_string AtBase spelled is = is
at_fits after_string LangTag spelled is = is
at_fits after_string _ spelled is = absurd is

number_fits : (after_string : Bool) (kind : Kind) (spelled : Characters) → NumberShapes kind spelled → IsToken after_string kind spelled
unfolding IsToken
number_fits after_string Integer spelled is = is
number_fits after_string Decimal spelled is = is
number_fits after_string Double spelled is = is
number_fits after_string _ spelled is = absurd is

quoted_fits : (after_string : Bool) (kind : Kind) (spelled : Characters) → QuotedShapes kind spelled → IsToken after_string kind spelled
unfolding IsToken
quoted_fits after_string Quoted spelled is = is
quoted_fits after_string _ spelled is = absurd is

name_fits : (after_string : Bool) (kind : Kind) (spelled : Characters) → NameShapes kind spelled → IsToken after_string kind spelled
unfolding IsToken
name_fits after_string PnameNs spelled is = is
name_fits after_string PnameLn spelled is = is
name_fits after_string _ spelled is = absurd is

pub group_fits : (after_string : Bool) (kind : Kind) (spelled : Characters) → GroupShapes after_string kind spelled → IsToken after_string kind spelled
unfolding IsToken
group_fits after_string kind spelled (inl (c, e, is)) = subst (IsToken after_string kind) (sym e) (mark_fits after_string kind c is)
group_fits after_string kind spelled (inr (inl is)) = word_fits after_string kind spelled is
group_fits after_string kind spelled (inr (inr (inl is))) = at_fits after_string kind spelled is
group_fits after_string kind spelled (inr (inr (inr (inl (e, is))))) = kind_fits after_string IriRef kind spelled e is
group_fits after_string kind spelled (inr (inr (inr (inr (inl (e, is)))))) = kind_fits after_string BlankLabel kind spelled e is
group_fits after_string kind spelled (inr (inr (inr (inr (inr (inl (e, is))))))) = kind_fits after_string Anon kind spelled e is
group_fits after_string kind spelled (inr (inr (inr (inr (inr (inr (inl is))))))) = number_fits after_string kind spelled is
group_fits after_string kind spelled (inr (inr (inr (inr (inr (inr (inr (inl is)))))))) = quoted_fits after_string kind spelled is
group_fits after_string kind spelled (inr (inr (inr (inr (inr (inr (inr (inr is)))))))) = name_fits after_string kind spelled is

-- ---- from tokens to groups

pub in_group : (after_string : Bool) (kind : Kind) (spelled : Characters) → IsToken after_string kind spelled → GroupShapes after_string kind spelled
unfolding IsToken
in_group after_string AtPrefix spelled is = inr (inr (inl is))
in_group after_string AtBase spelled is = inr (inr (inl is))
in_group after_string WordPrefix spelled is = inr (inl (inr (inr (inr (inr (inl (refl, is)))))))
in_group after_string WordBase spelled is = inr (inl (inr (inr (inr (inr (inr (inl (refl, is))))))))
in_group after_string WordGraph spelled is = inr (inl (inr (inr (inr (inr (inr (inr (refl, is))))))))
in_group after_string WordA spelled is = inr (inl (inr (inl (refl, is))))
in_group after_string WordTrue spelled is = inr (inl (inr (inr (inl (refl, is)))))
in_group after_string WordFalse spelled is = inr (inl (inr (inr (inr (inl (refl, is))))))
in_group after_string Dot spelled is = inl (46, is, inl refl)
in_group after_string Semicolon spelled is = inl (59, is, inr (inl refl))
in_group after_string Comma spelled is = inl (44, is, inr (inr (inl refl)))
in_group after_string Carets spelled is = inr (inl (inl (refl, is)))
in_group after_string LeftBrace spelled is = inl (123, is, inr (inr (inr (inl refl))))
in_group after_string RightBrace spelled is = inl (125, is, inr (inr (inr (inr (inl refl)))))
in_group after_string LeftBracket spelled is = inl (91, is, inr (inr (inr (inr (inr (inl refl))))))
in_group after_string RightBracket spelled is = inl (93, is, inr (inr (inr (inr (inr (inr (inl refl)))))))
in_group after_string LeftParen spelled is = inl (40, is, inr (inr (inr (inr (inr (inr (inr (inl refl))))))))
in_group after_string RightParen spelled is = inl (41, is, inr (inr (inr (inr (inr (inr (inr (inr (inl refl)))))))))
in_group after_string IriRef spelled is = inr (inr (inr (inl (refl, is))))
in_group after_string PnameNs spelled is = inr (inr (inr (inr (inr (inr (inr (inr is)))))))
in_group after_string PnameLn spelled is = inr (inr (inr (inr (inr (inr (inr (inr is)))))))
in_group after_string BlankLabel spelled is = inr (inr (inr (inr (inl (refl, is)))))
in_group after_string Anon spelled is = inr (inr (inr (inr (inr (inl (refl, is))))))
in_group after_string Integer spelled is = inr (inr (inr (inr (inr (inr (inl is))))))
in_group after_string Decimal spelled is = inr (inr (inr (inr (inr (inr (inl is))))))
in_group after_string Double spelled is = inr (inr (inr (inr (inr (inr (inl is))))))
in_group after_string Quoted spelled is = inr (inr (inr (inr (inr (inr (inr (inl is)))))))
in_group after_string LangTag spelled is = inr (inr (inl is))
in_group after_string End spelled is = absurd is

pub finds_token : (after_string : Bool) (text : Text) (found : Option Found) → Finds (GroupShapes after_string) text found → Finds (IsToken after_string) text found
finds_token after_string text found = finds_same (GroupShapes after_string) (IsToken after_string) (group_fits after_string) (in_group after_string) text found
