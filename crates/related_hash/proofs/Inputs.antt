-- The input of a related hash, in pieces.
use Rattle.std.proofs.Common.{ap, sym, ◌++◌, ◌∙◌, ◌≡◌, append_assoc}
use Rattle.rdf_terms.specs.Lists.{Text}

-- the letter and the predicate come first, and then the label
pub pieces-label : (letter name close first second label behind : Text) → letter ++ (name ++ close) ≡ first ++ second → behind ≡ label
    → letter ++ (name ++ (close ++ behind)) ≡ first ++ (second ++ label)
pieces-label letter name close first second label behind e l =
    ap (λ t. letter ++ t) (sym (append_assoc name close behind)) ∙ sym (append_assoc letter (name ++ close) behind) ∙ ap (λ t. t ++ behind) e ∙ append_assoc first second behind
    ∙ ap (λ t. first ++ (second ++ t)) l
