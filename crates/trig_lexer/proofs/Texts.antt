-- Texts and their characters, a step at a time.
use Rattle.std.proofs.Common.{◌≡◌, ℕ, ◌<◌, [], ◌∷◌, ◌++◌, length, refl, sym, ap, subst, ◌∙◌, arith}
use Rattle.std.specs.Prelude.{encode_utf8, encode_utf8_all}
use Rattle.std.specs.Str.{IsUtf8, all_scalars}
use Rattle.std.proofs.lemmas.List.{length-append}
use Rattle.std.proofs.lemmas.Str.{cons_from_encodes, encodes_same, length-encode, len_utf8_bounds}
use Rattle.rdf_terms.specs.Lists.{Text}
use Rattle.terminals.specs.Terminal.{Characters, TextBeginsWith}
use Rattle.terminals.proofs.Running.{all_scalars-append_right}
use Rattle.terminals.proofs.Marks.{ascii_front}
use Rattle.trig_lexer.specs.Fronts.{BeginsWithShape, TextReads}

pub step_char : (cs : Characters) (text rest : Text) (c : ℕ) → text ≡ encode_utf8_all cs → text ≡ encode_utf8 c ++ rest → (more : Characters) × (cs ≡ c ∷ more) × (rest ≡ encode_utf8_all more)
step_char cs text rest c is front = let step = cons_from_encodes cs rest c (sym is ∙ front) in (step.0, step.1, sym step.2)

pub step_mark : (cs : Characters) (text rest : Text) (mark : ℕ) → mark < 128 → text ≡ encode_utf8_all cs → text ≡ mark ∷ rest → (more : Characters) × (cs ≡ mark ∷ more) × (rest ≡ encode_utf8_all more)
step_mark cs text rest mark ascii is front = let step = ascii_front cs mark rest ascii (sym is ∙ front) in (step.0, step.1, sym step.2)

pub step_end : (cs : Characters) (text : Text) → text ≡ encode_utf8_all cs → text ≡ [] → cs ≡ []
step_end [] text is nothing = refl
step_end (c ∷ cs) text is nothing =
    absurd (omega (arith, ap length (sym nothing ∙ is), length-append (encode_utf8 c) (encode_utf8_all cs), length-encode c, (len_utf8_bounds c).0))

-- what is read of a text, at the characters that it is known to have
pub reads_at : (reads : Characters → Characters → Type 0) (text rest : Text) (cs : Characters) → TextReads reads text rest → text ≡ encode_utf8_all cs
    → (more : Characters) × (rest ≡ encode_utf8_all more) × reads cs more
reads_at reads text rest cs x is =
    (x.rest_characters, x.rest_is, subst (λ t. reads t x.rest_characters) (encodes_same x.text_characters cs (sym x.text_is ∙ is)) x.reads)

-- what is read of a text in one way is read in another too, where its characters are
pub reads_then : {reads other : Characters → Characters → Type 0} {text rest : Text} (x : TextReads reads text rest) → other x.text_characters x.rest_characters → TextReads other text rest
reads_then x is = record { text_characters = x.text_characters; rest_characters = x.rest_characters; text_is = x.text_is; rest_is = x.rest_is; reads = is }

pub terminal_then : {terminal other : Characters → Characters → Type 0} {text value rest : Text} (x : TextBeginsWith terminal text value rest) → other x.text_characters x.rest_characters
    → TextReads other text rest
terminal_then x is = record { text_characters = x.text_characters; rest_characters = x.rest_characters; text_is = x.text_is; rest_is = x.rest_is; reads = is }

-- the rest is UTF-8, and shorter where the front is not empty
pub shape_utf8 : (shape : Characters → Type 0) (text rest : Text) → TextReads (BeginsWithShape shape) text rest → IsUtf8 text → IsUtf8 rest
shape_utf8 shape text rest x utf8 =
    let at = reads_at (BeginsWithShape shape) text rest utf8.0 x (sym utf8.1.1) in
    (at.0, (all_scalars-append_right at.2.front at.0 (ap all_scalars (sym at.2.splits) ∙ utf8.1.0), sym at.1))
