-- The word of a base, by how many bytes at its front may stand in an IRI.
use Rattle.std.proofs.Common.{◌≡◌, ℕ, suc, Bool, true, not, List, [], ◌∷◌, All, length, get_or, refl, sym, ap, ◌∙◌, arith}
use Rattle.std.specs.List.{prefix_len}
use Rattle.std.proofs.lemmas.Bool.{not-true}
use Rattle.std.proofs.lemmas.List.Sums.{prefix_len_passes}
use Rattle.char_tables.specs.Rows.{is_in}
use Rattle.char_tables.specs.Classes.{excluded_from_iriref, may_stand_in_iriref}
use Rattle.rdf_terms.proofs.Common.{Text, HasScheme}
use Rattle.terminals.proofs.Facts.{iri_characters}
use Rattle.trig_builder.specs.Building.{IsWhole as IsBase}

prefix_len-all : (p : ℕ → Bool) (xs : List ℕ) → All (λ c. p c ≡ true) xs → prefix_len p xs ≡ length xs
prefix_len-all p [] all = refl
prefix_len-all p (x ∷ xs) all = rw (all 0 x (omega arith)) (omega (arith, prefix_len-all p xs (λ k d l. all (suc k) d (omega arith))))

pub base-of_len : (text : Text) → HasScheme text → prefix_len may_stand_in_iriref text ≡ length text → IsBase text
base-of_len text scheme whole = record {
  has_scheme = scheme;
  allowed = λ k d l. sym (iri_characters (get_or text k d)) ∙ not-true (is_in excluded_from_iriref (get_or text k d)) (prefix_len_passes may_stand_in_iriref text k d (omega (arith, l, whole)));
}

pub len-of_base : (text : Text) → IsBase text → prefix_len may_stand_in_iriref text ≡ length text
len-of_base text base = prefix_len-all may_stand_in_iriref text (λ k d l. ap not (iri_characters (get_or text k d) ∙ base.allowed k d l))
