use Rattle.std.proofs.Common.{◌≡◌, Some, length, slice_get, refl, subst, arith}
use Rattle.std.proofs.lemmas.Option.{slice_get_read}
use Rattle.rdf_terms.specs.Lists.{In}
use Rattle.rdf_terms.proofs.Membership.{In-at}
use Rattle.rdf_terms.proofs.Marking.{Marks-mark, mark_in-nil}
use Rattle.rdf_terms.proofs.HashedTerms.{at_number}
use Rattle.rdf_terms.proofs.finish.used_nodes.Goals as goal

pub mark-requires : goal.mark-requires
mark-requires c = λ n e.
    let hs = c.entries-entry-items.result.now in
    let here = at_number hs c.loop-entry.entry-index c.entry-item.result (slice_get_read hs (length hs) c.loop-entry.entry-index c.entry-item.result refl c.loop-entry-test.true c.entry-item.is) in
    let at = subst (λ ts. slice_get ts c.loop-entry.entry-index ≡ Some c.entry-item.result.term) c.entries-entry-items.ensures here in
    let low = c.requires n (subst (λ t. In t c.args.terms.now) e (In-at c.args.terms.now c.loop-entry.entry-index c.entry-item.result.term at)) in
    omega (arith, low, c.loop-entry.invariant.len)

pub loop-entry-preserved : goal.loop-entry-preserved
loop-entry-preserved c =
    let hs = c.entries-entry-items.result.now in
    let here = at_number hs c.loop-entry.entry-index c.entry-item.result (slice_get_read hs (length hs) c.loop-entry.entry-index c.entry-item.result refl c.loop-entry-test.true c.entry-item.is) in
    let at = subst (λ ts. slice_get ts c.loop-entry.entry-index ≡ Some c.entry-item.result.term) c.entries-entry-items.ensures here in
    Marks-mark c.loop-entry.used.items c.args.nodes c.args.terms.now c.loop-entry.entry-index c.entry-item.result.term c.mark.new.used.items at
    (λ n e. c.requires n (subst (λ t. In t c.args.terms.now) e (In-at c.args.terms.now c.loop-entry.entry-index c.entry-item.result.term at)))
    c.mark.ensures c.loop-entry.invariant

pub returns-then-nodes-eq0-clause-used : goal.returns-then-nodes-eq0-clause-used
returns-then-nodes-eq0-clause-used c = rw c.new.ensures.items (mark_in-nil c.args.terms.now (λ n i. let low = c.requires n i in omega (arith, low, c.if-nodes-eq0.true)))
