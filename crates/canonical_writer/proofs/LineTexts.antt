-- A statement is known by its canonical line, and a line has a line feed at its end alone.
use Rattle.std.proofs.Common.{◌≡◌, ◌≢◌, ℕ, ◌≤◌, List, [], ◌∷◌, ◌++◌, Option, Some, None, All, IfSome, refl, sym, ap, ◌∙◌, arith, append_assoc, length, length-append}
use Rattle.std.proofs.lemmas.List.Elements.{All-head, All-tail, All-append, All-weaker, All-nil}
use Rattle.rdf_terms.proofs.Common.{Text, joined, Statement, IsValidStatement, IsValidTerm, Naming, canonical_term, canonical_graph_name, canonical_line}
use Rattle.rdf_terms.specs.declared.term.Term.{Term}
use Rattle.canonical_writer.specs.Determined.{HasPlainNames, Agree, AgreeGraphNames}
use Rattle.canonical_writer.proofs.Splitting.{head_of, split_at}
use Rattle.canonical_writer.proofs.Unescaping.{printable_byte}
use Rattle.canonical_writer.proofs.TermTexts.{same_term, no_dot, term-printable}

graph_regrouped : (ν : Naming) (t : Term) → (canonical_term ν t ++ 32 ∷ []) ++ 46 ∷ 10 ∷ [] ≡ canonical_term ν t ++ 32 ∷ 46 ∷ 10 ∷ []
graph_regrouped ν t = append_assoc (canonical_term ν t) (32 ∷ []) (46 ∷ 10 ∷ [])

module _ (ν ν' : Naming) (m n : ℕ) (plain : HasPlainNames m ν) (plain' : HasPlainNames n ν') where
  same_graph_name : (g h : Option Term) → IfSome g (IsValidTerm m) → IfSome h (IsValidTerm n)
      → canonical_graph_name ν g ++ 46 ∷ 10 ∷ [] ≡ canonical_graph_name ν' h ++ 46 ∷ 10 ∷ [] → AgreeGraphNames ν ν' g h
  same_graph_name None None v w e = tt
  same_graph_name None (Some u) v w e = no_dot ν' u (32 ∷ 46 ∷ 10 ∷ []) (sym (ap head_of (e ∙ graph_regrouped ν' u)))
  same_graph_name (Some t) None v w e = no_dot ν t (32 ∷ 46 ∷ 10 ∷ []) (ap head_of (sym (graph_regrouped ν t) ∙ e))
  same_graph_name (Some t) (Some u) v w e = (same_term ν ν' m n plain plain' t u _ _ v w (sym (graph_regrouped ν t) ∙ (e ∙ graph_regrouped ν' u))).0

  pub same_line : (st su : Statement) → IsValidStatement m st → IsValidStatement n su → canonical_line ν st ≡ canonical_line ν' su → Agree ν ν' st su
  unfolding canonical_line
  same_line st su v w e =
      let a = same_term ν ν' m n plain plain' st.subject su.subject _ _ v.subject w.subject e in
      let b = same_term ν ν' m n plain plain' st.predicate su.predicate _ _ v.predicate w.predicate a.1 in
      let c = same_term ν ν' m n plain plain' st.object su.object _ _ v.object w.object b.1 in
      record { subject = a.0; predicate = b.0; object = c.0; graph_name = same_graph_name st.graph_name su.graph_name v.graph_name w.graph_name c.1 }

-- ---- lines one after the other

-- a canonical line without its line feed
abbrev pub line_body : Naming → Statement → Text
line_body ν st = canonical_term ν st.subject ++ 32 ∷ (canonical_term ν st.predicate ++ 32 ∷ (canonical_term ν st.object ++ 32 ∷ (canonical_graph_name ν st.graph_name ++ 46 ∷ [])))

pub canonical_line-body : (ν : Naming) (st : Statement) → canonical_line ν st ≡ line_body ν st ++ 10 ∷ []
unfolding canonical_line
canonical_line-body ν st = simp append_assoc

module _ (ν : Naming) (n : ℕ) (plain : HasPlainNames n ν) where
  place-printable : (t : Term) (rest : Text) → IsValidTerm n t → All (λ c. 32 ≤ c) rest → All (λ c. 32 ≤ c) (canonical_term ν t ++ 32 ∷ rest)
  place-printable t rest v h = All-append (λ c. 32 ≤ c) (canonical_term ν t) (32 ∷ rest) (term-printable ν n plain t v) (printable_byte 32 (omega arith) rest h)

  graph_name-printable : (g : Option Term) → IfSome g (IsValidTerm n) → All (λ c. 32 ≤ c) (canonical_graph_name ν g ++ 46 ∷ [])
  graph_name-printable None v = printable_byte 46 (omega arith) [] (All-nil _)
  graph_name-printable (Some t) v =
      rw (append_assoc (canonical_term ν t) (32 ∷ []) (46 ∷ [])) (place-printable t (46 ∷ []) v (printable_byte 46 (omega arith) [] (All-nil _)))

  pub line_body-printable : (st : Statement) → IsValidStatement n st → All (λ c. 32 ≤ c) (line_body ν st)
  line_body-printable st v =
      place-printable st.subject _ v.subject (place-printable st.predicate _ v.predicate (place-printable st.object _ v.object (graph_name-printable st.graph_name v.graph_name)))

-- a line feed stands at the end of the text and nowhere else
pub record IsLine (text : Text) : Type 0 where
  pub body : Text
  pub ended : text ≡ body ++ 10 ∷ []
  pub one_feed : All (λ c. c ≢ 10) body

pub IsLine-canonical_line : (ν : Naming) (n : ℕ) → HasPlainNames n ν → (st : Statement) → IsValidStatement n st → IsLine (canonical_line ν st)
IsLine-canonical_line ν n plain st v = record {
  body = line_body ν st;
  ended = canonical_line-body ν st;
  one_feed = All-weaker (λ c. 32 ≤ c) (λ c. c ≢ 10) (λ c h e. absurd (omega (arith, h, e))) (line_body ν st) (line_body-printable ν n plain st v);
}

not_empty : (x : Text) (rest : Text) → IsLine x → x ++ rest ≡ [] → ⊥
not_empty x rest l e =
    let h : length (x ++ rest) ≡ 0 = ap length e in
    absurd (omega (arith, h, length-append x rest, ap length l.ended, length-append l.body (10 ∷ [])))

-- lines are known by the text of all
pub same_lines : (xs ys : List Text) → All IsLine xs → All IsLine ys → joined xs ≡ joined ys → xs ≡ ys
same_lines [] [] p q e = refl
same_lines [] (y ∷ ys) p q e = absurd (not_empty y (joined ys) (All-head IsLine y ys q) (sym e))
same_lines (x ∷ xs) [] p q e = absurd (not_empty x (joined xs) (All-head IsLine x xs p) e)
same_lines (x ∷ xs) (y ∷ ys) p q e =
    let a = All-head IsLine x xs p in
    let b = All-head IsLine y ys q in
    let f = ap (λ t. t ++ joined xs) a.ended ∙ append_assoc a.body (10 ∷ []) (joined xs) in
    let g = ap (λ t. t ++ joined ys) b.ended ∙ append_assoc b.body (10 ∷ []) (joined ys) in
    let s = split_at 10 a.body b.body (joined xs) (joined ys) a.one_feed b.one_feed (sym f ∙ (e ∙ g)) in
    let t = same_lines xs ys (All-tail IsLine x xs p) (All-tail IsLine y ys q) s.1 in
    let h : x ≡ y = a.ended ∙ (ap (λ z. z ++ 10 ∷ []) s.0 ∙ sym b.ended) in
    λ i. h i ∷ t i
