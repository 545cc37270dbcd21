-- Behind a sign.
use Rattle.std.proofs.Common.{◌≡◌, ℕ, ◌+◌, List, [], ◌∷◌, ◌++◌, refl, sym, ap, subst, ◌∙◌, arith, ◌⊎◌, inl, inr, length}
use Rattle.std.specs.Str.{IsAscii}
use Rattle.std.proofs.lemmas.List.{append_assoc, length-append}
use Rattle.std.proofs.lemmas.Str.{IsAscii-append}
use Rattle.std.proofs.lemmas.Str.Ascii.{IsAscii-nil, IsAscii-cons}
use Rattle.terminals.proofs.Escaping.{same_head, same_tail}
use Rattle.terminals.specs.Terminal.{Characters}
use Rattle.trig_lexer.specs.Numbers.{IsSign, IsSigned, BeginsWithSign}

abbrev pub IsSignMark : ℕ → Type 0
IsSignMark c = (c ≡ 43) ⊎ (c ≡ 45)

-- some character that is no sign stands first
abbrev pub BeginsUnsigned : List ℕ → Type 0
BeginsUnsigned xs = (c : ℕ) × (more : List ℕ) × (xs ≡ c ∷ more) × ¬ (IsSignMark c)

pub sign_found : (text rest : List ℕ) (mark : ℕ) → text ≡ mark ∷ rest → IsSignMark mark → BeginsWithSign text rest
sign_found text rest mark e is =
    record { sign = mark ∷ []; splits = e; is_sign = sign is; ends = λ c more f nothing. absurd (omega (arith, ap length nothing)) }
  where
    sign : IsSignMark mark → IsSign (mark ∷ [])
    sign (inl plus) = inr (inl (ap (λ m. m ∷ []) plus))
    sign (inr minus) = inr (inr (ap (λ m. m ∷ []) minus))

-- another sign at the front, behind which something unsigned stands, is the same
pub sign_same : (text rest sign unsigned : List ℕ) (so : BeginsWithSign text rest) → text ≡ sign ++ unsigned → IsSign sign → BeginsUnsigned unsigned
    → (sign ≡ so.sign) × (rest ≡ unsigned)
sign_same text rest sign unsigned so e is begins = by is so.is_sign
  where
    marked : (mark : ℕ) → sign ≡ mark ∷ [] → text ≡ mark ∷ unsigned
    marked mark f = e ∙ ap (λ s. s ++ unsigned) f

    found : (mark : ℕ) → so.sign ≡ mark ∷ [] → text ≡ mark ∷ rest
    found mark f = so.splits ∙ ap (λ s. s ++ rest) f

    both : (mark other : ℕ) → sign ≡ mark ∷ [] → so.sign ≡ other ∷ [] → (sign ≡ so.sign) × (rest ≡ unsigned)
    both mark other f g =
        let whole : mark ∷ unsigned ≡ other ∷ rest = sym (marked mark f) ∙ found other g in
        (f ∙ ap (λ m. m ∷ []) (same_head mark other unsigned rest whole) ∙ sym g, sym (same_tail mark other unsigned rest whole))

    missed : (mark : ℕ) → sign ≡ mark ∷ [] → so.sign ≡ [] → IsSignMark mark → (sign ≡ so.sign) × (rest ≡ unsigned)
    missed mark f g m = absurd (so.ends mark unsigned (marked mark f) g m)

    extra : (mark : ℕ) → sign ≡ [] → so.sign ≡ mark ∷ [] → IsSignMark mark → (sign ≡ so.sign) × (rest ≡ unsigned)
    extra mark f g m =
        let whole : mark ∷ rest ≡ begins.0 ∷ begins.1 = sym (found mark g) ∙ e ∙ ap (λ s. s ++ unsigned) f ∙ begins.2 in
        absurd (begins.3 (subst IsSignMark (same_head mark begins.0 rest begins.1 whole) m))

    by : IsSign sign → IsSign so.sign → (sign ≡ so.sign) × (rest ≡ unsigned)
    by (inl f) (inl g) = (f ∙ sym g, sym (ap (λ s. s ++ rest) g) ∙ sym so.splits ∙ e ∙ ap (λ s. s ++ unsigned) f)
    by (inl f) (inr (inl g)) = extra 43 f g (inl refl)
    by (inl f) (inr (inr g)) = extra 45 f g (inr refl)
    by (inr (inl f)) (inl g) = missed 43 f g (inl refl)
    by (inr (inr f)) (inl g) = missed 45 f g (inr refl)
    by (inr (inl f)) (inr (inl g)) = both 43 43 f g
    by (inr (inl f)) (inr (inr g)) = both 43 45 f g
    by (inr (inr f)) (inr (inl g)) = both 45 43 f g
    by (inr (inr f)) (inr (inr g)) = both 45 45 f g

sign_ascii : (sign : List ℕ) → IsSign sign → IsAscii sign
sign_ascii sign (inl e) = subst IsAscii (sym e) IsAscii-nil
sign_ascii sign (inr (inl e)) = subst IsAscii (sym e) (IsAscii-cons 43 [] (omega arith) IsAscii-nil)
sign_ascii sign (inr (inr e)) = subst IsAscii (sym e) (IsAscii-cons 45 [] (omega arith) IsAscii-nil)

-- ---- what is unsigned, behind a sign

module _ (shape : Characters → Type 0) (unsigned : (xs : Characters) → shape xs → BeginsUnsigned xs) (text rest : List ℕ) (so : BeginsWithSign text rest) where
  pub signed_same : (other other_rest : List ℕ) → text ≡ other ++ other_rest → (is : IsSigned shape other) → (is.sign ≡ so.sign) × (rest ≡ is.unsigned ++ other_rest)
  signed_same other other_rest e is =
      let begins = unsigned is.unsigned is.fits in
      sign_same text rest is.sign (is.unsigned ++ other_rest) so (e ∙ ap (λ s. s ++ other_rest) is.spelling ∙ append_assoc is.sign is.unsigned other_rest) is.is_sign
      (begins.0, begins.1 ++ other_rest, ap (λ s. s ++ other_rest) begins.2, begins.3)

  pub signed_length : (other other_rest : List ℕ) (e : text ≡ other ++ other_rest) (is : IsSigned shape other) → length other ≡ length so.sign + length is.unsigned
  signed_length other other_rest e is =
      ap length is.spelling ∙ length-append is.sign is.unsigned ∙ ap (λ s. length s + length is.unsigned) (signed_same other other_rest e is).0

pub signed_ascii : (shape : Characters → Type 0) → ((xs : Characters) → shape xs → IsAscii xs) → (xs : Characters) → IsSigned shape xs → IsAscii xs
signed_ascii shape ascii xs is = subst IsAscii (sym is.spelling) (IsAscii-append is.sign is.unsigned (sign_ascii is.sign is.is_sign) (ascii is.unsigned is.fits))
