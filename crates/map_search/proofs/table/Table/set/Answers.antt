use Rattle.std.proofs.Common.{◌≡◌, ◌<◌, List, length, sym, ap, ◌∙◌, subst, arith}
use Rattle.rdf_terms.specs.Lists.{In}
use Rattle.map_search.specs.Marks.{mark_at}
use Rattle.map_search.specs.declared.table.Entry.{Entry}
use Rattle.map_search.specs.Table.{TableView, entry_at, IsStart}
use Rattle.map_search.proofs.Ordering.{start_is, once}
use Rattle.map_search.proofs.table.Table.set.Goals as goal

pub set-requires : goal.set-requires
set-requires c =
    let s = subst (λ xs. IsStart xs c.args.entry c.start_of-place.result) c.as_slice.ensures.value c.start_of-place.ensures in
    let p = start_is c.self.inside.entries.items c.self.invariant.in_order c.args.entry c.start_of-place.result s
    (subst (λ (v : TableView). In c.args.entry v.entries) (sym c.self.view_is) c.requires) in
    let r = c.self.invariant.enough in
    let q = p.0 in
    omega arith

pub returns-clause-here : goal.returns-clause-here
returns-clause-here c k l e =
    let s = subst (λ xs. IsStart xs c.args.entry c.start_of-place.result) c.as_slice.ensures.value c.start_of-place.ensures in
    let p = start_is c.self.inside.entries.items c.self.invariant.in_order c.args.entry c.start_of-place.result s
    (subst (λ (v : TableView). In c.args.entry v.entries) (sym c.self.view_is) c.requires) in
    let same = ap (λ (v : TableView). v.entries) (sym c.self.view_is) in
    let is : k ≡ c.start_of-place.result = once c.self.inside.entries.items c.self.invariant.in_order c.args.entry k c.start_of-place.result (subst (λ (xs : List Entry). k < length xs) same l) p.0
    (subst (λ (xs : List Entry). entry_at xs k ≡ c.args.entry) same e ∙ sym p.1) in
    ap (mark_at c.set.new.self) is ∙ c.set.ensures.here

pub returns-clause-others : goal.returns-clause-others
returns-clause-others c k l n =
    let s = subst (λ xs. IsStart xs c.args.entry c.start_of-place.result) c.as_slice.ensures.value c.start_of-place.ensures in
    let p = start_is c.self.inside.entries.items c.self.invariant.in_order c.args.entry c.start_of-place.result s
    (subst (λ (v : TableView). In c.args.entry v.entries) (sym c.self.view_is) c.requires) in
    let same = ap (λ (v : TableView). v.entries) (sym c.self.view_is) in
    c.set.ensures.others k (λ e. n (ap (λ (xs : List Entry). entry_at xs k) same ∙ ap (entry_at c.self.inside.entries.items) e ∙ p.1)) ∙ ap (λ (v : TableView). mark_at v.marks k) c.self.view_is
