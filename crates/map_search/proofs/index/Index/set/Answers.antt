use Rattle.std.proofs.Common.{◌≡◌, ℕ, ◌<◌, Bool, List, length, get_or, sym, ap, ◌∙◌, subst, arith}
use Rattle.std.proofs.lemmas.List.{length-set, get_or_default}
use Rattle.rdf_terms.specs.Lists.{In}
use Rattle.rdf_terms.specs.declared.term.Quad.{Quad}
use Rattle.map_search.specs.declared.table.Entry.{Entry}
use Rattle.map_search.specs.declared.index.Asked.{Asked}
use Rattle.map_search.specs.declared.index.Asked.TheVariants.{AsSubject, AsObject, AsBoth, AsSomeSubject, AsSomeObject}
use Rattle.map_search.specs.Index.{IndexView, entry_for, quad_at, no_quad, IsTableOf}
use Rattle.map_search.specs.Table.{TableView}
use Rattle.map_search.proofs.Indexing.{table_set}
use Rattle.map_search.proofs.index.Index.set.Goals as goal

-- the entries of the quad at the place
module _ (v : IndexView) (quads : List Quad) (live : List Bool) (terms : ℕ) (same : record { quads = quads; live = live; terms = terms } ≡ v) (place : ℕ) (within : place < length v.quads) (q : Quad)
    (read : q ≡ get_or quads place q) where
  inside : place < length quads
  inside = subst (λ (w : IndexView). place < length w.quads) (sym same) within

  entry_is : (asked : Asked) (entry : Entry) → entry ≡ entry_for asked q place → entry ≡ entry_for asked (quad_at quads place) place
  entry_is asked entry e = e ∙ ap (λ (x : Quad). entry_for asked x place) (read ∙ get_or_default quads place q no_quad inside)

  in_table : (asked : Asked) (entry : Entry) (t : TableView) → entry ≡ entry_for asked q place → IsTableOf asked quads live t → In entry t.entries
  in_table asked entry t e is = subst (λ (x : Entry). In x t.entries) (sym (entry_is asked entry e)) (is.all place inside)

pub set-requires : goal.set-requires
set-requires c =
    in_table _ c.self.inside.quads.items c.self.inside.live.items c.self.inside.terms c.self.view_is c.args.place c.requires c.index-quad.result.now c.index-quad.ensures
    AsSubject c.entry_of.result c.self.inside.subjects c.entry_of.ensures c.self.invariant.subjects_are

pub set-requires-2 : goal.set-requires-2
set-requires-2 c =
    in_table _ c.self.inside.quads.items c.self.inside.live.items c.self.inside.terms c.self.view_is c.args.place c.requires c.index-quad.result.now c.index-quad.ensures
    AsObject c.entry_of-2.result c.self.inside.objects c.entry_of-2.ensures c.self.invariant.objects_are

pub set-requires-3 : goal.set-requires-3
set-requires-3 c =
    in_table _ c.self.inside.quads.items c.self.inside.live.items c.self.inside.terms c.self.view_is c.args.place c.requires c.index-quad.result.now c.index-quad.ensures
    AsBoth c.entry_of-3.result c.self.inside.both c.entry_of-3.ensures c.self.invariant.both_are

pub set-requires-4 : goal.set-requires-4
set-requires-4 c =
    in_table _ c.self.inside.quads.items c.self.inside.live.items c.self.inside.terms c.self.view_is c.args.place c.requires c.index-quad.result.now c.index-quad.ensures
    AsSomeSubject c.entry_of-4.result c.self.inside.some_subjects c.entry_of-4.ensures c.self.invariant.some_subjects_are

pub set-requires-5 : goal.set-requires-5
set-requires-5 c =
    in_table _ c.self.inside.quads.items c.self.inside.live.items c.self.inside.terms c.self.view_is c.args.place c.requires c.index-quad.result.now c.index-quad.ensures
    AsSomeObject c.entry_of-5.result c.self.inside.some_objects c.entry_of-5.ensures c.self.invariant.some_objects_are

pub invariant_of-self : goal.invariant_of-self
invariant_of-self c =
    let i = c.self.invariant in
    let l : c.args.place < length c.self.inside.quads.items = inside _ c.self.inside.quads.items c.self.inside.live.items c.self.inside.terms c.self.view_is c.args.place c.requires
    c.index-quad.result.now c.index-quad.ensures in
    let k : c.args.place < length c.self.inside.live.items = (let n = i.live_count in omega arith) in
    let is : (asked : Asked) (entry : Entry) → entry ≡ entry_for asked c.index-quad.result.now c.args.place → entry ≡ entry_for asked (quad_at c.self.inside.quads.items c.args.place) c.args.place =
    entry_is _ c.self.inside.quads.items c.self.inside.live.items c.self.inside.terms c.self.view_is c.args.place c.requires c.index-quad.result.now c.index-quad.ensures in
    record {
      live_count = length-set c.self.inside.live.items c.args.place c.args.there ∙ i.live_count;
      in_range = i.in_range;
      bound = i.bound;
      subjects_are = table_set AsSubject c.self.inside.quads.items c.self.inside.live.items c.self.inside.subjects c.set.new.self c.args.place c.args.there c.entry_of.result i.subjects_are k
          (is AsSubject c.entry_of.result c.entry_of.ensures) c.set.ensures.entries c.set.ensures.here c.set.ensures.others;
      objects_are = table_set AsObject c.self.inside.quads.items c.self.inside.live.items c.self.inside.objects c.set-2.new.self c.args.place c.args.there c.entry_of-2.result i.objects_are k
          (is AsObject c.entry_of-2.result c.entry_of-2.ensures) c.set-2.ensures.entries c.set-2.ensures.here c.set-2.ensures.others;
      both_are = table_set AsBoth c.self.inside.quads.items c.self.inside.live.items c.self.inside.both c.set-3.new.self c.args.place c.args.there c.entry_of-3.result i.both_are k
          (is AsBoth c.entry_of-3.result c.entry_of-3.ensures) c.set-3.ensures.entries c.set-3.ensures.here c.set-3.ensures.others;
      some_subjects_are =
          table_set AsSomeSubject c.self.inside.quads.items c.self.inside.live.items c.self.inside.some_subjects c.set-4.new.self c.args.place c.args.there c.entry_of-4.result i.some_subjects_are k
          (is AsSomeSubject c.entry_of-4.result c.entry_of-4.ensures) c.set-4.ensures.entries c.set-4.ensures.here c.set-4.ensures.others;
      some_objects_are =
          table_set AsSomeObject c.self.inside.quads.items c.self.inside.live.items c.self.inside.some_objects c.set-5.new.self c.args.place c.args.there c.entry_of-5.result i.some_objects_are k
          (is AsSomeObject c.entry_of-5.result c.entry_of-5.ensures) c.set-5.ensures.entries c.set-5.ensures.here c.set-5.ensures.others;
    }
