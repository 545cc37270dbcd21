-- Fewer than eight bytes, written into a word of zeros.
use Rattle.std.proofs.Common.{arith, ◌≡◌, ◌<◌, [], ◌∷◌, ◌++◌, drop, length, refl, slice_set}
use Rattle.rdf_terms.specs.Lists.{Text}
use Rattle.rdf_terms.specs.FedText.{last_word}

pub slice_set-zeros : (bytes : Text) → length bytes < 8 → slice_set (bytes ++ drop (length bytes) (0 ∷ 0 ∷ 0 ∷ 0 ∷ 0 ∷ 0 ∷ 0 ∷ 0 ∷ [])) 7 (length bytes) ≡ last_word bytes
slice_set-zeros [] h = refl
slice_set-zeros (a ∷ []) h = refl
slice_set-zeros (a ∷ b ∷ []) h = refl
slice_set-zeros (a ∷ b ∷ c ∷ []) h = refl
slice_set-zeros (a ∷ b ∷ c ∷ d ∷ []) h = refl
slice_set-zeros (a ∷ b ∷ c ∷ d ∷ e ∷ []) h = refl
slice_set-zeros (a ∷ b ∷ c ∷ d ∷ e ∷ f ∷ []) h = refl
slice_set-zeros (a ∷ b ∷ c ∷ d ∷ e ∷ f ∷ g ∷ []) h = refl
slice_set-zeros (a ∷ b ∷ c ∷ d ∷ e ∷ f ∷ g ∷ i ∷ bytes) h = absurd (omega (arith, h))
