use Rattle.std.proofs.Common.{◌≡◌, ◌<◌, length, sym, ap, ◌∙◌, subst, arith}
use Rattle.map_search.specs.Table.{entry_at, no_entry, HasEntry, IsLeastValue, IsStart}
use Rattle.map_search.specs.declared.table.Entry.{Entry}
use Rattle.map_search.proofs.Finding.{found, none_at}
use Rattle.std.proofs.lemmas.List.{get_or_default}
use Rattle.map_search.proofs.table.Table.least.Goals as goal
use Rattle.map_search.proofs.table.Table.least.Goals.{else-at-len-via-then-at-len+then-index-first+else-index-second, else-at-len-via-then-at-len+else-index-first, else-at-len-via-else-at-len}

pub returns-then-index-second-clause-some : goal.returns-then-index-second-clause-some
returns-then-index-second-clause-some c =
    let s = subst
    (λ xs. IsStart xs (record { first = c.args.first; second = c.args.second; value = c.args.from; quad = 0 }) c.start_of-start.result) c.as_slice.ensures.value c.start_of-start.ensures in
    let n = c.in-Some.ensures.some in
    let l : c.in-Some.at < length c.self.inside.entries.items = (let a = c.if-at-len.true in let b = c.len.ensures in omega arith) in
    let e0 : c.index.result.now ≡ entry_at c.self.inside.entries.items c.in-Some.at = c.index.ensures ∙ get_or_default c.self.inside.entries.items c.in-Some.at c.index.result.now no_entry l in
    let e1 : c.index-then-index-first.result.now ≡ entry_at c.self.inside.entries.items c.in-Some.at = c.index-then-index-first.ensures
    ∙ get_or_default c.self.inside.entries.items c.in-Some.at c.index-then-index-first.result.now no_entry l in
    let e2 : c.index-then-index-second.result.now ≡ entry_at c.self.inside.entries.items c.in-Some.at = c.index-then-index-second.ensures
    ∙ get_or_default c.self.inside.entries.items c.in-Some.at c.index-then-index-second.result.now no_entry l in
    let r = found
    (record { entries = c.self.inside.entries.items; marks = c.self.inside.marks }) c.self.invariant.in_order c.args.first c.args.second c.args.from c.start_of-start.result s c.in-Some.at n l
    (sym (ap (λ (x : Entry). x.first) e0) ∙ c.if-index-first.true) (sym (ap (λ (x : Entry). x.second) e1) ∙ c.if-index-second.true) in
    subst (λ v. IsLeastValue v c.args.first c.args.second c.args.from c.index-then-index-second.result.now.value) c.self.view_is
    (subst (IsLeastValue (record { entries = c.self.inside.entries.items; marks = c.self.inside.marks }) c.args.first c.args.second c.args.from) (sym (ap (λ (x : Entry). x.value) e2)) r)

pub returns-else-at-len-clause-none : goal.returns-else-at-len-clause-none
returns-else-at-len-clause-none c v b h =
    let s = subst
    (λ xs. IsStart xs (record { first = c.args.first; second = c.args.second; value = c.args.from; quad = 0 }) c.start_of-start.result) c.as_slice.ensures.value c.start_of-start.ensures in
    let n = c.in-Some.ensures.some in
    none_at (record { entries = c.self.inside.entries.items; marks = c.self.inside.marks }) c.self.invariant.in_order c.args.first c.args.second c.args.from c.start_of-start.result s c.in-Some.at n
    (λ l f g. elim c.else-at-len.branch [
      | else-at-len-via-then-at-len+then-index-first+else-index-second w ↦ w.if-index-second.false
          (ap (λ (x : Entry). x.second) (w.index-then-index-first.ensures ∙ get_or_default c.self.inside.entries.items c.in-Some.at w.index-then-index-first.result.now no_entry l) ∙ g)
      | else-at-len-via-then-at-len+else-index-first w ↦ w.if-index-first.false
          (ap (λ (x : Entry). x.first) (w.index.ensures ∙ get_or_default c.self.inside.entries.items c.in-Some.at w.index.result.now no_entry l) ∙ f)
      | else-at-len-via-else-at-len w ↦ (let a = w.if-at-len.false in let b = c.len.ensures in omega arith)
    ])
    v b (subst (λ x. HasEntry x c.args.first c.args.second v) (sym c.self.view_is) h)
