-- A line that was appended place by place.
use Rattle.std.proofs.Common.{◌≡◌, ◌++◌, ap, ◌∙◌, append_assoc, codes}
use Rattle.rdf_terms.proofs.Common.{Text, Statement, Naming, canonical_line, canonical_term, canonical_graph_name}
use Rattle.canonical_writer.specs.Runs.{line_start, line_rest}

-- after each place stands what was there before it, and the place
pub rest_by_places : (ν : Naming) (st : Statement) (old a b c new : Text)
    → a ≡ old ++ (canonical_term ν st.predicate ++ codes " ")
    → b ≡ a ++ (canonical_term ν st.object ++ codes " ")
    → c ≡ b ++ canonical_graph_name ν st.graph_name
    → new ≡ c ++ codes ".\n"
    → new ≡ old ++ line_rest ν st
unfolding line_rest
rest_by_places ν st old a b c new ea eb ec e = rw (e, ec, eb, ea) (simp append_assoc)

-- a line is its start and the rest
pub start_rest : (ν : Naming) (st : Statement) → line_start ν st.subject ++ line_rest ν st ≡ canonical_line ν st
unfolding canonical_line line_rest
start_rest ν st = append_assoc (canonical_term ν st.subject) (codes " ") _

-- the rest behind a text that ends in the start
pub line_behind : (ν : Naming) (st : Statement) (old a : Text) → a ≡ old ++ line_start ν st.subject → a ++ line_rest ν st ≡ old ++ canonical_line ν st
line_behind ν st old a e =
    ap (λ t. t ++ line_rest ν st) e ∙ (append_assoc old (line_start ν st.subject) (line_rest ν st) ∙ ap (λ t. old ++ t) (start_rest ν st))
