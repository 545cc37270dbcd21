use Rattle.std.proofs.Common.{◌≡◌, ◌∙◌, length, arith}
use Rattle.rdf_terms.proofs.Leaving.{blank_low, distinct_terms, labels_are, all_used, known, terms_are, IsDocument-made, Finishes-made, made-all, Finishes-all}
use Rattle.rdf_terms.proofs.draft.Draft.finish.Goals as goal

pub used_nodes-requires : goal.used_nodes-requires
used_nodes-requires c = λ n i. let low = blank_low _ _ _ c.self.invariant n i in omega (arith, low, c.len.ensures.len)

pub new-requires : goal.new-requires
new-requires c =
    let len : length c.in_ok-used.used.items ≡ length c.self.inside.labels.keys = omega (arith, c.in_ok-used.ensures.len, c.len.ensures.len) in
    record {
      draft = c.self.invariant;
      used = all_used _ _ _ c.self.invariant c.in_ok-used.used.items len c.in_ok-used.ensures.used
          (rw c.deref.ensures.value at (c.are_all_used.ensures.0 c.if-are_all_used.true));
    }

pub returns-then-are_all_used-clause-finishes : goal.returns-then-are_all_used-clause-finishes
returns-then-are_all_used-clause-finishes c =
    let len : length c.in_ok-used.used.items ≡ length c.self.inside.labels.keys = omega (arith, c.in_ok-used.ensures.len, c.len.ensures.len) in
    rw (← c.self.view_is, c.new.ensures)
    (Finishes-all _ _ _ c.self.invariant
    (all_used _ _ _ c.self.invariant c.in_ok-used.used.items len c.in_ok-used.ensures.used (rw c.deref.ensures.value at (c.are_all_used.ensures.0 c.if-are_all_used.true))))

pub renumbered-requires-clause-known : goal.renumbered-requires-clause-known
renumbered-requires-clause-known c =
    let len : length c.in_ok-used.used.items ≡ length c.self.inside.labels.keys = omega (arith, c.in_ok-used.ensures.len, c.len.ensures.len) in
    rw c.deref-3.ensures.value
    (known _ _ _ c.self.invariant c.in_ok-used.used.items len c.in_ok-used.ensures.used c.in_ok-numbers.numbers.items (rw c.deref-2.ensures.value at c.in_ok-numbers.ensures))

pub renumbered-requires-clause-distinct : goal.renumbered-requires-clause-distinct
renumbered-requires-clause-distinct c =
    let len : length c.in_ok-used.used.items ≡ length c.self.inside.labels.keys = omega (arith, c.in_ok-used.ensures.len, c.len.ensures.len) in
    let same = terms_are _ _ _ c.self.invariant c.in_ok-used.used.items len c.in_ok-used.ensures.used c.in_ok-numbers.numbers.items (rw c.deref-2.ensures.value at c.in_ok-numbers.ensures) in
    rw (c.deref-3.ensures.value, same) (distinct_terms _ _ _ c.self.invariant (rw c.terms.view_is at c.terms.invariant.1))

pub new-requires-2 : goal.new-requires-2
new-requires-2 c =
    let len : length c.in_ok-used.used.items ≡ length c.self.inside.labels.keys = omega (arith, c.in_ok-used.ensures.len, c.len.ensures.len) in
    let same = terms_are _ _ _ c.self.invariant c.in_ok-used.used.items len c.in_ok-used.ensures.used c.in_ok-numbers.numbers.items (rw c.deref-2.ensures.value at c.in_ok-numbers.ensures) in
    IsDocument-made _ _ _ c.self.invariant c.in_ok-terms.terms c.in_ok-labels.labels.keys ((rw c.deref-3.ensures.value at c.in_ok-terms.ensures) ∙ same)
    (labels_are _ _ _ c.self.invariant c.in_ok-used.used.items len c.in_ok-used.ensures.used c.in_ok-labels.labels.keys (rw c.deref-4.ensures.value at c.in_ok-labels.ensures))

pub returns-clause-finishes : goal.returns-clause-finishes
returns-clause-finishes c =
    let len : length c.in_ok-used.used.items ≡ length c.self.inside.labels.keys = omega (arith, c.in_ok-used.ensures.len, c.len.ensures.len) in
    let same = terms_are _ _ _ c.self.invariant c.in_ok-used.used.items len c.in_ok-used.ensures.used c.in_ok-numbers.numbers.items (rw c.deref-2.ensures.value at c.in_ok-numbers.ensures) in
    rw (← c.self.view_is, c.new-2.ensures) (Finishes-made _ _ _ c.self.invariant c.in_ok-terms.terms c.in_ok-labels.labels.keys ((rw c.deref-3.ensures.value at c.in_ok-terms.ensures) ∙ same)
    (labels_are _ _ _ c.self.invariant c.in_ok-used.used.items len c.in_ok-used.ensures.used c.in_ok-labels.labels.keys (rw c.deref-4.ensures.value at c.in_ok-labels.ensures)))

pub returns-clause-whole : goal.returns-clause-whole
returns-clause-whole c =
    let len : length c.in_ok-used.used.items ≡ length c.self.inside.labels.keys = omega (arith, c.in_ok-used.ensures.len, c.len.ensures.len) in
    let same = terms_are _ _ _ c.self.invariant c.in_ok-used.used.items len c.in_ok-used.ensures.used c.in_ok-numbers.numbers.items (rw c.deref-2.ensures.value at c.in_ok-numbers.ensures) in
    rw (← c.self.view_is, c.new-2.ensures) (made-all _ _ _ c.self.invariant c.in_ok-terms.terms c.in_ok-labels.labels.keys ((rw c.deref-3.ensures.value at c.in_ok-terms.ensures) ∙ same)
    (labels_are _ _ _ c.self.invariant c.in_ok-used.used.items len c.in_ok-used.ensures.used c.in_ok-labels.labels.keys (rw c.deref-4.ensures.value at c.in_ok-labels.ensures)))
