-- Names of one prefix and numbers are labels, and different nodes have different ones.
use Rattle.std.proofs.Common.{◌≡◌, ℕ, ◌<◌, true, ◌++◌, inl, inr, All, length, refl, sym, ap, subst, ◌∙◌, arith, length-append}
use Rattle.std.specs.Char.{is_ascii_alphanumeric}
use Rattle.std.proofs.lemmas.List.{append_cancel_left}
use Rattle.std.proofs.lemmas.List.Elements.{All-cons}
use Rattle.rdf_terms.proofs.Common.{Text, numeral, Naming, numeral-injective, numeral-nonempty}
use Rattle.rdf_terms.specs.declared.term.Prefix.TheVariants.{Canonical, Temporary}
use Rattle.canonical_writer.specs.Determined.{HasPlainNames}
use Rattle.canonical_writer.proofs.NameTexts.{numeral-plain, identifier-plain}
use Rattle.nquads_reader.specs.RoundTrip.{IsPrefix, IsNumbered}

module _ (nodes : ℕ) (ν : Naming) (numbered : IsNumbered nodes ν) where
  pub plain_names : HasPlainNames nodes ν
  plain_names n h = by numbered.is_prefix
    where
      named : (prefix : Text) → numbered.prefix ≡ prefix → All (λ c. is_ascii_alphanumeric c ≡ true) (prefix ++ numeral (numbered.number n)) → All (λ c. is_ascii_alphanumeric c ≡ true) (ν n)
      named prefix e all = subst (All (λ c. is_ascii_alphanumeric c ≡ true)) (sym (numbered.name n h ∙ ap (λ p. p ++ numeral (numbered.number n)) e)) all

      by : IsPrefix numbered.prefix → All (λ c. is_ascii_alphanumeric c ≡ true) (ν n)
      by (inl e) = named _ e (identifier-plain Canonical (numbered.number n))
      by (inr (inl e)) = named _ e (identifier-plain Temporary (numbered.number n))
      by (inr (inr e)) = named _ e (All-cons (λ c. is_ascii_alphanumeric c ≡ true) 101 (numeral (numbered.number n)) refl (numeral-plain (numbered.number n)))

  pub no_empty_name : (n : ℕ) → n < nodes → 0 < length (ν n)
  no_empty_name n h =
      omega (arith, ap length (numbered.name n h), length-append numbered.prefix (numeral (numbered.number n)), numeral-nonempty (numbered.number n))

  pub own_names : (m n : ℕ) → m < nodes → n < nodes → ν m ≡ ν n → m ≡ n
  own_names m n h k e =
      numbered.own m n h k (numeral-injective (numbered.number m) (numbered.number n)
      (append_cancel_left numbered.prefix (numeral (numbered.number m)) (numeral (numbered.number n)) (sym (numbered.name m h) ∙ e ∙ numbered.name n k)))
