-- What a label more makes of a draft.
use Rattle.std.proofs.Common.{ℕ, ◌<◌, ◌≤◌, List, Option, Some, None, IfSome, length, ap, arith, length-append}
use Rattle.std.proofs.lemmas.List.Elements.{All-weaker}
use Rattle.rdf_terms.specs.Terms.{Statement, IsValidStatement, IsValidTerm}
use Rattle.rdf_terms.specs.Document.{Adds, IsDraft, statements}
use Rattle.rdf_terms.specs.declared.limits.TheConstants.{MOST_NUMBERS}
use Rattle.rdf_terms.specs.declared.term.Term.{Term}
use Rattle.rdf_terms.specs.declared.term.Term.TheVariants.{Iri, Blank, Literal}
use Rattle.rdf_terms.specs.declared.term.Quad.{Quad}
use Rattle.rdf_terms.specs.declared.term.Label.{Label}
use Rattle.rdf_terms.proofs.Membership.{AreDistinct-adds, Extends-adds, length-adds}

module _ (m n : ℕ) (more : m ≤ n) where
  term_stays : (t : Term) → IsValidTerm m t → IsValidTerm n t
  term_stays (Iri t) v = v
  term_stays (Blank k) v = omega arith
  term_stays (Literal l) v = v

  graph_stays : (g : Option Term) → IfSome g (IsValidTerm m) → IfSome g (IsValidTerm n)
  graph_stays None v = tt
  graph_stays (Some t) v = term_stays t v

  -- a statement stays valid where there are more nodes
  pub IsValidStatement-more : (st : Statement) → IsValidStatement m st → IsValidStatement n st
  IsValidStatement-more st v = record {
    subject_kind = v.subject_kind;
    predicate_kind = v.predicate_kind;
    graph_name_kind = v.graph_name_kind;
    subject = term_stays st.subject v.subject;
    predicate = term_stays st.predicate v.predicate;
    object = term_stays st.object v.object;
    graph_name = graph_stays st.graph_name v.graph_name;
  }

pub IsDraft-label : (terms : List Term) (quads : List Quad) (old new : List Label) (label : Label) → length old < MOST_NUMBERS
    → IsDraft (record { terms = terms; quads = quads; labels = old }) → Adds old label new → IsDraft (record { terms = terms; quads = quads; labels = new })
IsDraft-label terms quads old new label room d a =
    let more = Extends-adds old label new a in
    let stays : length old ≤ length new = omega (arith, ap length more.1, length-append old more.0) in
    let bound = length-adds old label new a in record {
      in_range = d.in_range;
      valid = All-weaker (IsValidStatement (length old)) (IsValidStatement (length new)) (IsValidStatement-more (length old) (length new) stays)
          (statements (record { terms = terms; quads = quads; labels = old })) d.valid;
      distinct = d.distinct;
      distinct_labels = AreDistinct-adds old label new a d.distinct_labels;
      term_used = d.term_used;
      terms_bound = d.terms_bound;
      quads_bound = d.quads_bound;
      labels_bound = omega (arith, bound);
    }
