use Rattle.std.proofs.Common.{None, Some, append-nil, ap, get_or, map, sym, ◌∙◌}
use Rattle.rdf_terms.specs.Document.{graph_name_at}
use Rattle.canon_model.specs.Groups.{iri_text}
use Rattle.canon_model.specs.Meaning.{meaning}
use Rattle.related_hash.specs.Entries.{related_entry}
use Rattle.related_hash.proofs.QuadEntries.{no_quad, quad-added, quad-at}
use Rattle.related_hash.proofs.met.add_quad.Goals as goal

pub returns-in_default : goal.returns-in_default
returns-in_default c =
    quad-added (meaning c.args.call.now.profile) c.args.call.now.dataset.now c.args.call.now.canon.now.list c.args.call.now.issuer.now.list c.args.call.now.node c.args.place
    (get_or c.quads-quads.result.now c.args.place no_quad) c.iri_of-predicate.result.now c.term_of_number-subject.result.now c.term_of_number-object.result.now None
    (map related_entry c.args.entries.now.items) (map related_entry c.add_term.new.entries.items) (map related_entry c.add_term-2.new.entries.items) (map related_entry c.add_term-2.new.entries.items)
    (quad-at c.args.call.now.dataset.now c.args.place c.quads-quads.result.now c.quads-quads.ensures.quads c.requires.place)
    (c.iri_of-predicate.ensures ∙ ap iri_text c.term_of_number-property.ensures.term) c.term_of_number-subject.ensures.term c.term_of_number-object.ensures.term
    (sym (ap (graph_name_at c.args.call.now.dataset.now.terms) c.in_default.is))
    c.in_ok-add_term.ensures c.in_ok-add_term-2.ensures (sym (append-nil (map related_entry c.add_term-2.new.entries.items)))

pub returns : goal.returns
returns c =
    quad-added (meaning c.args.call.now.profile) c.args.call.now.dataset.now c.args.call.now.canon.now.list c.args.call.now.issuer.now.list c.args.call.now.node c.args.place
    (get_or c.quads-quads.result.now c.args.place no_quad) c.iri_of-predicate.result.now c.term_of_number-subject.result.now c.term_of_number-object.result.now
    (Some c.term_of_number-graph_name.result.now)
    (map related_entry c.args.entries.now.items) (map related_entry c.add_term.new.entries.items) (map related_entry c.add_term-2.new.entries.items) (map related_entry c.add_term-3.new.entries.items)
    (quad-at c.args.call.now.dataset.now c.args.place c.quads-quads.result.now c.quads-quads.ensures.quads c.requires.place)
    (c.iri_of-predicate.ensures ∙ ap iri_text c.term_of_number-property.ensures.term) c.term_of_number-subject.ensures.term c.term_of_number-object.ensures.term
    (ap Some c.term_of_number-graph_name.ensures.term ∙ sym (ap (graph_name_at c.args.call.now.dataset.now.terms) c.in-Some.is))
    c.in_ok-add_term.ensures c.in_ok-add_term-2.ensures c.in_ok-add_term-3.ensures
