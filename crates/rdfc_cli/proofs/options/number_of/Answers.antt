use Rattle.std.proofs.Common.{◌≡◌, ℕ, ◌^◌, ◌<◌, Ok, Result, sym, ap, ◌∙◌, true≢false}
use Rattle.std.specs.Str.Parse.{ParsesUnsigned}
use Rattle.std.proofs.lemmas.Fmt.{parse-decimal}
use Rattle.std.proofs.lemmas.Slice.Eq.{bytes_eq-Decides}
use Rattle.rdf_terms.proofs.Common.{Text, numeral, numeral-decimal}
use Rattle.rdfc_cli.proofs.options.number_of.Goals as goal

parsed : {E : Type 0} (word : Text) (n : ℕ) (r : Result ℕ E) → n < 2 ^ 64 → word ≡ numeral n → ParsesUnsigned 64 10 word r → r ≡ Ok n
parsed word n r l e p = parse-decimal 64 n word r l l (e ∙ numeral-decimal n l) p

same_number : {E : Type 0} (r : Result ℕ E) (m n : ℕ) → r ≡ Ok m → r ≡ Ok n → m ≡ n
same_number r m n e f = cc

pub returns-in_default-clause-none : goal.returns-in_default-clause-none
returns-in_default-clause-none c n l e = c.in_default.not-Ok n (parsed c.args.word.now n c.parse.result l e c.parse.ensures.value.0)

pub returns-else-eq-clause-none : goal.returns-else-eq-clause-none
returns-else-eq-clause-none c n l e =
    let same = same_number c.parse.result c.in-Ok.number n c.in-Ok.is (parsed c.args.word.now n c.parse.result l e c.parse.ensures.value.0) in
    let texts = c.as_bytes.ensures ∙ c.of.ensures ∙ ap numeral same ∙ sym e ∙ sym c.as_bytes-2.ensures.value in
    true≢false (sym ((bytes_eq-Decides c.as_bytes.result.now c.as_bytes-2.result.now).1 texts) ∙ sym c.eq.ensures ∙ c.if-eq.false)
