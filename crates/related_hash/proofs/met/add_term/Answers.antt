use Rattle.std.proofs.Common.{arith, length}
use Rattle.rdf_terms.specs.Document.{dataset as dataset_of}
use Rattle.canon_model.specs.FirstDegree.{hash_first_degree_quads}
use Rattle.canon_model.specs.Meaning.{meaning}
use Rattle.related_hash.proofs.QuadEntries.{entry-added, first-at, first-long}
use Rattle.related_hash.proofs.met.add_term.Goals as goal

pub bounds-call-other : goal.bounds-call-other
bounds-call-other c =
    let l = first-long (hash_first_degree_quads (meaning c.args.call.now.profile) (dataset_of c.args.call.now.dataset.now))
    (length c.args.call.now.dataset.now.labels) c.args.call.now.first.now c.args.call.now.first_is in
    let h = c.requires.known c.in-Blank.other c.in-Blank.is in
    omega arith

pub returns-in_ok-push-in-Blank : goal.returns-in_ok-push-in-Blank
returns-in_ok-push-in-Blank c =
    entry-added (meaning c.args.call.now.profile) c.args.call.now.dataset.now c.args.call.now.canon.now.list c.args.call.now.issuer.now.list c.args.call.now.node c.args.predicate.now c.args.position
    c.args.term.now c.in-Blank.other c.related-hash.result _
    c.args.entries.now.items c.push.new.self.items c.in-Blank.is c.if-other-call.false c.in_ok-push-in-Blank.ensures.items c.related-hash.ensures
    (first-at (hash_first_degree_quads (meaning c.args.call.now.profile) (dataset_of c.args.call.now.dataset.now))
    (length c.args.call.now.dataset.now.labels) c.args.call.now.first.now c.in-Blank.other c.index-call-other.result c.args.call.now.first_is (c.requires.known c.in-Blank.other c.in-Blank.is))
