-- A token stands for one leaf.
use Rattle.std.proofs.Common.{◌≡◌, ℕ, List, [], ◌∷◌, ◌++◌, length, refl, sym, ap, subst, ◌∙◌, arith, inl, inr}
use Rattle.std.specs.Prelude.{encode_utf8_all}
use Rattle.std.proofs.lemmas.List.{append_cancel_left, length-append}
use Rattle.std.proofs.lemmas.Str.{encodes_same}
use Rattle.rdf_terms.specs.Lists.{Text}
use Rattle.terminals.specs.Terminal.{Characters}
use Rattle.terminals.specs.Terminals.{IriRef as Iri, ShortString, BlankNodeLabel, LangTag as TagTerminal}
use Rattle.terminals.specs.Spellings.{quote_mark, Spells}
use Rattle.terminals.specs.declared.bodies.Quote.{Quote}
use Rattle.terminals.specs.declared.bodies.Body.TheVariants.{Short, Long}
use Rattle.terminals.specs.declared.labels.Grammar.TheVariants.{TriG}
use Rattle.terminals.proofs.Escaping.{same_head, same_tail, same_split}
use Rattle.terminals.proofs.Unique.{same_one, none_at_mark}
use Rattle.terminals.proofs.Unescaping.{one_is_some}
use Rattle.terminals.proofs.Facts.{HasOneValue, iri_one_value, string_one_value, label_one_value, tag_one_value}
use Rattle.trig_lexer.specs.Strings.{three_marks}
use Rattle.trig_lexer.specs.declared.kind.Kind.{Kind}
use Rattle.trig_lexer.specs.declared.kind.Kind.TheVariants.{IriRef, BlankLabel, Quoted, LangTag}
use Rattle.trig_lexer.specs.declared.token.Token.{Token}
use Rattle.trig_lexer.proofs.LongPieces.{short_body}
use Rattle.trig_lexer.proofs.Quoting.{same_quote}
use Rattle.trig_terms.specs.declared.leaf.Leaf.{Leaf}
use Rattle.trig_terms.specs.declared.leaf.Leaf.TheVariants.{Iri as IriLeaf, Label, Quoted as StringLeaf, Tag}
use Rattle.trig_terms.specs.Leaves.{HasValue, MeansOne, Means, LongString, StringIn, IsLeafOf, IsLeaf, bytes_of}
use Rattle.trig_terms.proofs.LongStrings.{no_mark}
use Rattle.trig_reader.specs.Document.{AreLeaves}

-- ---- the marks of strings

-- no short string has a mark as its first character
no_mark_inside : (quote : Quote) (inner value rest : Characters) → inner ++ quote_mark quote ∷ [] ≡ quote_mark quote ∷ quote_mark quote ∷ rest → Spells (Short quote) inner value → ⊥
no_mark_inside quote [] value rest e spells = omega (arith, ap length e)
no_mark_inside quote (x ∷ inner) [] rest e spells = let none : x ∷ inner ≡ [] = spells in cc
no_mark_inside quote (x ∷ inner) (c ∷ cs) rest e (first, more, splits, one, ones) =
    let head : x ≡ quote_mark quote = same_head x (quote_mark quote) (inner ++ quote_mark quote ∷ []) (quote_mark quote ∷ rest) e in
    none_at_mark (Short quote) (quote_mark quote) inner (short_body quote).0 (short_body quote).1 first c more (ap (λ y. y ∷ inner) (sym head) ∙ splits) one

-- so none is a long string too
short_or_long : (quote other : Quote) (spelled value inside : Characters) → ShortString quote spelled value → spelled ≡ three_marks other ++ (inside ++ three_marks other) → ⊥
short_or_long quote other spelled value inside x e =
    let behind : List ℕ = quote_mark other ∷ quote_mark other ∷ (inside ++ three_marks other) in
    let whole : quote_mark quote ∷ (x.inner ++ quote_mark quote ∷ []) ≡ quote_mark other ∷ behind = sym x.marks ∙ e in
    let mark = same_head (quote_mark quote) (quote_mark other) (x.inner ++ quote_mark quote ∷ []) behind whole in
    let inner : x.inner ++ quote_mark quote ∷ [] ≡ behind = same_tail (quote_mark quote) (quote_mark other) (x.inner ++ quote_mark quote ∷ []) behind whole in
    no_mark_inside quote x.inner value (inside ++ three_marks other) (inner ∙ ap (λ m. m ∷ m ∷ (inside ++ three_marks other)) (sym mark)) x.spells

-- ---- long strings

means_some : (quote : Quote) (first more : Characters) (c : ℕ) → MeansOne quote first c → [] ≡ first ++ more → ⊥
means_some quote first more c (inl (x, p)) e = let whole : [] ≡ c ∷ more = e ∙ ap (λ f. f ++ more) x in cc
means_some quote first more c (inr one) e = one_is_some (Long quote) first more c one e

one_means_same : (quote : Quote) (xs ys us vs : Characters) (c d : ℕ) → xs ++ us ≡ ys ++ vs → MeansOne quote xs c → MeansOne quote ys d → (c ≡ d) × (us ≡ vs)
one_means_same quote xs ys us vs c d e (inl (x, p)) (inl (y, q)) =
    let whole : c ∷ us ≡ d ∷ vs = sym (ap (λ f. f ++ us) x) ∙ e ∙ ap (λ f. f ++ vs) y in
    (same_head c d us vs whole, same_tail c d us vs whole)
one_means_same quote xs ys us vs c d e (inl (x, p)) (inr two) =
    absurd (no_mark quote us ys d vs (ap (λ m. m ∷ us) (sym p) ∙ sym (ap (λ f. f ++ us) x) ∙ e) two)
one_means_same quote xs ys us vs c d e (inr one) (inl (y, q)) =
    absurd (no_mark quote vs xs c us (ap (λ m. m ∷ vs) (sym q) ∙ sym (ap (λ f. f ++ vs) y) ∙ sym e) one)
one_means_same quote xs ys us vs c d e (inr one) (inr two) =
    let same = same_one (Long quote) xs ys us vs c d e one two in
    (same.1, append_cancel_left ys us vs (sym (ap (λ f. f ++ us) same.0) ∙ e))

means_same : (quote : Quote) (value other xs ys : Characters) → xs ≡ ys → Means quote xs value → Means quote ys other → value ≡ other
means_same quote [] [] xs ys e x y = refl
means_same quote [] (d ∷ ds) xs ys e x (g, n, q, two, twos) = absurd (means_some quote g n d two (sym x ∙ e ∙ q))
means_same quote (c ∷ cs) [] xs ys e (f, m, p, one, ones) y = absurd (means_some quote f m c one (sym y ∙ sym e ∙ p))
means_same quote (c ∷ cs) (d ∷ ds) xs ys e (f, m, p, one, ones) (g, n, q, two, twos) =
    let same = one_means_same quote f g m n c d (sym p ∙ e ∙ q) one two in
    let rest = means_same quote cs ds m n same.1 ones twos in
    λ i. same.0 i ∷ rest i

long_one_value : (quote other : Quote) (spelled value more : Characters) → LongString quote spelled value → LongString other spelled more → value ≡ more
long_one_value quote other spelled value more x y =
    let whole : three_marks quote ++ (x.inside ++ three_marks quote) ≡ three_marks other ++ (y.inside ++ three_marks other) = sym x.marks ∙ y.marks in
    let marks = same_split (three_marks quote) (three_marks other) (x.inside ++ three_marks quote) (y.inside ++ three_marks other) whole refl in
    let mark = same_head (quote_mark quote) (quote_mark other) (quote_mark quote ∷ quote_mark quote ∷ []) (quote_mark other ∷ quote_mark other ∷ []) marks.0 in
    let as_long : length x.inside ≡ length y.inside = omega (arith, ap length marks.1, length-append x.inside (three_marks quote), length-append y.inside (three_marks other)) in
    let inside = same_split x.inside y.inside (three_marks quote) (three_marks other) marks.1 as_long in
    means_same other value more x.inside y.inside inside.0 (subst (λ q. Means q x.inside value) (same_quote quote other mark) x.means) y.means

string_value : HasOneValue StringIn
string_value spelled value more (quote, inl x) (other, inl y) =
    let mark = same_head (quote_mark quote) (quote_mark other) (x.inner ++ quote_mark quote ∷ []) (y.inner ++ quote_mark other ∷ []) (sym x.marks ∙ y.marks) in
    string_one_value other spelled value more (subst (λ q. ShortString q spelled value) (same_quote quote other mark) x) y
string_value spelled value more (quote, inl x) (other, inr y) = absurd (short_or_long quote other spelled value y.inside x y.marks)
string_value spelled value more (quote, inr x) (other, inl y) = absurd (short_or_long other quote spelled more x.inside y x.marks)
string_value spelled value more (quote, inr x) (other, inr y) = long_one_value quote other spelled value more x y

-- ---- leaves

value_same : (terminal : Characters → Characters → Type 0) → HasOneValue terminal → (bytes value other : Text) → HasValue terminal bytes value → HasValue terminal bytes other → value ≡ other
value_same terminal one bytes value other x y =
    let spelled : x.spelled ≡ y.spelled = encodes_same x.spelled y.spelled (sym x.bytes_are ∙ y.bytes_are) in
    x.value_is ∙ ap encode_utf8_all (one y.spelled x.meant y.meant (subst (λ s. terminal s x.meant) spelled x.fits) y.fits) ∙ sym y.value_is

leaf_same : (kind : Kind) (bytes : Text) (one other : Leaf) → IsLeafOf kind bytes one → IsLeafOf kind bytes other → one ≡ other
leaf_same IriRef bytes one other x y = x.2 ∙ ap IriLeaf (value_same Iri iri_one_value bytes x.0 y.0 x.1 y.1) ∙ sym y.2
leaf_same BlankLabel bytes one other x y = x.2 ∙ ap Label (value_same (BlankNodeLabel TriG) (label_one_value TriG) bytes x.0 y.0 x.1 y.1) ∙ sym y.2
leaf_same Quoted bytes one other x y = x.2 ∙ ap StringLeaf (value_same StringIn string_value bytes x.0 y.0 x.1 y.1) ∙ sym y.2
leaf_same LangTag bytes one other x y = x.2 ∙ ap Tag (value_same TagTerminal tag_one_value bytes x.0 y.0 x.1 y.1) ∙ sym y.2
leaf_same _ bytes one other x y = x ∙ sym y

pub one_leaf : (text : Text) (token : Token) (one other : Leaf) → IsLeaf text token one → IsLeaf text token other → one ≡ other
one_leaf text token one other x y = leaf_same token.kind (bytes_of text token) one other x y

pub same_leaves : (text : Text) (tokens : List Token) (one other : List Leaf) → AreLeaves text tokens one → AreLeaves text tokens other → one ≡ other
same_leaves text [] [] [] x y = refl
same_leaves text [] [] (m ∷ ms) x y = absurd y
same_leaves text [] (l ∷ ls) other x y = absurd x
same_leaves text (t ∷ ts) [] other x y = absurd x
same_leaves text (t ∷ ts) (l ∷ ls) [] x y = absurd y
same_leaves text (t ∷ ts) (l ∷ ls) (m ∷ ms) x y =
    let first = one_leaf text t l m x.0 y.0 in
    let rest = same_leaves text ts ls ms x.1 y.1 in
    λ i. first i ∷ rest i

-- the leaves of tokens in two parts
pub record PartedLeaves (text : Text) (front more : List Token) (all : List Leaf) : Type 0 where
  pub before : List Leaf
  pub behind : List Leaf
  pub are : all ≡ before ++ behind
  pub of_front : AreLeaves text front before
  pub of_more : AreLeaves text more behind

pub parted_leaves : (text : Text) (front more : List Token) (all : List Leaf) → AreLeaves text (front ++ more) all → PartedLeaves text front more all
parted_leaves text [] more all x = record { before = []; behind = all; are = refl; of_front = tt; of_more = x }
parted_leaves text (t ∷ front) more [] x = absurd x
parted_leaves text (t ∷ front) more (l ∷ all) x =
    let rest = parted_leaves text front more all x.1 in
    record { before = l ∷ rest.before; behind = rest.behind; are = ap (λ ls. l ∷ ls) rest.are; of_front = (x.0, rest.of_front); of_more = rest.of_more }

pub push_leaf : (text : Text) (tokens : List Token) (leaves : List Leaf) (token : Token) (leaf : Leaf) → AreLeaves text tokens leaves → IsLeaf text token leaf
    → AreLeaves text (tokens ++ token ∷ []) (leaves ++ leaf ∷ [])
push_leaf text [] [] token leaf x is = (is, tt)
push_leaf text [] (l ∷ ls) token leaf x is = absurd x
push_leaf text (t ∷ ts) [] token leaf x is = absurd x
push_leaf text (t ∷ ts) (l ∷ ls) token leaf x is = (x.0, push_leaf text ts ls token leaf x.1 is)
