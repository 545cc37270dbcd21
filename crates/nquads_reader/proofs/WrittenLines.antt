-- A canonical line states its quad, and a text of canonical lines states their quads, line by line.
use Rattle.std.proofs.Common.{◌≡◌, ℕ, ◌≤◌, List, [], ◌∷◌, ◌++◌, All, Some, map, refl, sym, ap, subst, ◌∙◌, arith, append_assoc}
use Rattle.std.proofs.lemmas.Bool.{ne_eqb}
use Rattle.std.proofs.lemmas.List.Elements.{All-head, All-tail}
use Rattle.rdf_terms.proofs.Common.{Text, joined, Statement, IsValidStatement, Naming, canonical_term, canonical_graph_name, canonical_line}
use Rattle.canonical_writer.specs.Determined.{HasPlainNames}
use Rattle.canonical_writer.proofs.LineTexts.{line_body, canonical_line-body, line_body-printable}
use Rattle.nquads_reader.specs.Lines.{lines_of, onto_first}
use Rattle.nquads_reader.specs.Grammar.{IsStatement}
use Rattle.nquads_reader.specs.Document.{IsFaultless, AllState}
use Rattle.nquads_reader.proofs.WrittenQuads.{written_quad, quad_absolute}
use Rattle.nquads_reader.proofs.WrittenTerms.{Follows, no_white_space, HasNoEmptyName, follows_term, resource_reads, iri_spaced, object_reads, graph_name_reads, graph_name_follows}

-- ---- the first line of a text

-- a text without control characters, up to a line feed, is one line
first_line : (line rest : Text) → All (λ c. 32 ≤ c) line → lines_of (line ++ 10 ∷ rest) ≡ line ∷ lines_of rest
first_line [] rest h = refl
first_line (c ∷ cs) rest h =
    let printable : 32 ≤ c = All-head (λ c. 32 ≤ c) c cs h in
    goes_on c (cs ++ 10 ∷ rest) printable ∙ ap (onto_first c) (first_line cs rest (All-tail (λ c. 32 ≤ c) c cs h))
  where
    goes_on : (c : ℕ) (cs : Text) → 32 ≤ c → lines_of (c ∷ cs) ≡ onto_first c (lines_of cs)
    goes_on c cs printable =
        let lf = ne_eqb c 10 (λ e. omega arith) in
        let cr = ne_eqb c 13 (λ e. omega arith) in
        rw (lf, cr) refl

-- ---- one line

module _ (ν : Naming) (nodes : ℕ) (plain : HasPlainNames nodes ν) (named : HasNoEmptyName nodes ν) where
  abbrev at_graph_name : Statement → Text
  at_graph_name st = canonical_graph_name ν st.graph_name ++ 46 ∷ []

  abbrev at_object : Statement → Text
  at_object st = canonical_term ν st.object ++ 32 ∷ at_graph_name st

  abbrev at_predicate : Statement → Text
  at_predicate st = canonical_term ν st.predicate ++ 32 ∷ at_object st

  module _ (st : Statement) (v : IsValidStatement nodes st) where
    object_follows : Follows (at_object st)
    object_follows = follows_term ν nodes plain named st.object (at_graph_name st) v.object (graph_name_follows ν nodes plain named st.graph_name v.graph_name).utf8

    predicate_follows : Follows (at_predicate st)
    predicate_follows = follows_term ν nodes plain named st.predicate (at_object st) v.predicate object_follows.utf8

    line_follows : Follows (line_body ν st)
    line_follows = follows_term ν nodes plain named st.subject (at_predicate st) v.subject predicate_follows.utf8

    line_states : IsStatement (line_body ν st) (written_quad ν st)
    line_states = record {
      at_subject = line_body ν st;
      at_dot = 46 ∷ [];
      white = no_white_space (line_body ν st) line_follows.no_white;
      terms = record {
        at_predicate = at_predicate st;
        at_object = at_object st;
        at_graph_name = at_graph_name st;
        subject = resource_reads ν nodes plain named st.subject (at_predicate st) v.subject_kind v.subject predicate_follows;
        predicate = iri_spaced ν nodes plain named st.predicate (at_object st) v.predicate_kind v.predicate object_follows;
        object = object_reads ν nodes plain named st.object (at_graph_name st) v.object (graph_name_follows ν nodes plain named st.graph_name v.graph_name);
        graph_name = graph_name_reads ν nodes plain named st.graph_name v.graph_name_kind v.graph_name;
      };
      ends = record { after_dot = []; dot = refl; blank = record { rest = []; white = no_white_space [] tt; comment = tt } };
    }

  line_faultless : (st : Statement) → IsValidStatement nodes st → IsFaultless (line_body ν st) (Some (written_quad ν st))
  line_faultless st v = record {
    utf8 = (line_follows st v).utf8;
    states = line_states st v;
    absolute = quad_absolute ν nodes st v;
  }

  -- ---- all lines

  pub lines_state : (sts : List Statement) → All (IsValidStatement nodes) sts → AllState (lines_of (joined (map (canonical_line ν) sts))) (map (written_quad ν) sts)
  lines_state [] all = refl
  lines_state (st ∷ sts) all =
      let v = All-head (IsValidStatement nodes) st sts all in
      let rest : Text = joined (map (canonical_line ν) sts) in
      let lines : lines_of (canonical_line ν st ++ rest) ≡ line_body ν st ∷ lines_of rest =
      ap lines_of (ap (λ l. l ++ rest) (canonical_line-body ν st) ∙ append_assoc (line_body ν st) (10 ∷ []) rest) ∙ first_line (line_body ν st) rest (line_body-printable ν nodes plain st v) in
      subst (λ ls. AllState ls (map (written_quad ν) (st ∷ sts))) (sym lines)
      (Some (written_quad ν st), map (written_quad ν) sts, line_faultless st v, refl, lines_state sts (All-tail (IsValidStatement nodes) st sts all))
