-- The whole document.
use Rattle.std.proofs.Common.{◌≡◌, ℕ, ◌/◌, [], ◌++◌, ap, ◌∙◌}
use Rattle.std.specs.List.{flat_map}
use Rattle.rdf_terms.specs.Lists.{Text, numbers_below}
use Rattle.load_document.specs.LoadDocument.{ring_lines, pair_lines, load_document}

pub both_parts : (n : ℕ) (out ring whole : Text) → out ≡ [] → ring ≡ out ++ flat_map (ring_lines n) (numbers_below n) → whole ≡ ring ++ flat_map pair_lines (numbers_below (n / 100))
    → whole ≡ load_document n
unfolding load_document
both_parts n out ring whole e h k = k ∙ ap (λ t. t ++ flat_map pair_lines (numbers_below (n / 100))) (h ∙ ap (λ t. t ++ flat_map (ring_lines n) (numbers_below n)) e)
