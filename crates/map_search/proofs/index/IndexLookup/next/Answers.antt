use Rattle.std.proofs.Common.{◌≡◌, ℕ, ◌<◌, ◌≤◌, List, Bool, length, Option, IfSome, sym, subst, refl}
use Rattle.std.specs.Option.{IfNone}
use Rattle.rdf_terms.specs.declared.term.Quad.{Quad}
use Rattle.map_search.specs.Maps.{IsNext, NoneFits}
use Rattle.map_search.specs.Table.{TableView, HasEntry, IsLeastValue}
use Rattle.map_search.specs.declared.rows.Condition.{Condition}
use Rattle.map_search.specs.Index.{IndexView, IsTableOf, quad_at, graph_of, meets_in, asked_by, first_asked, second_asked}
use Rattle.map_search.proofs.Indexing.{some_for, none_for}
use Rattle.map_search.proofs.index.IndexLookup.next.Goals as goal

-- what the table of a condition's form tells of the condition
module _ (v : IndexView) (quads : List Quad) (live : List Bool) (terms : ℕ) (same : record { quads = quads; live = live; terms = terms } ≡ v)
    (range : (k : ℕ) → k < length quads → ((quad_at quads k).s < terms) × ((quad_at quads k).o < terms)) (images : List ℕ) (from : ℕ) (condition form : Condition) (is : condition ≡ form)
    (t : TableView)
    (table : IsTableOf (asked_by form) quads live t) (first second : ℕ) (f : first ≡ first_asked images form) (s : second ≡ second_asked images form) (r : Option ℕ) where
  some : IfSome r (IsLeastValue t first second from) → IfSome r (IsNext v.terms (meets_in (graph_of v) images condition) from)
  some h =
      subst (λ (x : Condition). IfSome r (IsNext v.terms (meets_in (graph_of v) images x) from)) (sym is)
      (subst (λ (x : IndexView). IfSome r (IsNext x.terms (meets_in (graph_of x) images form) from)) same (some_for quads live terms range images form t table first second f s from r h))

  none : IfNone r ((value : ℕ) → from ≤ value → ¬ (HasEntry t first second value)) → IfNone r (NoneFits v.terms (meets_in (graph_of v) images condition) from)
  none h =
      subst (λ (x : Condition). IfNone r (NoneFits v.terms (meets_in (graph_of v) images x) from)) (sym is)
      (subst (λ (x : IndexView). IfNone r (NoneFits x.terms (meets_in (graph_of x) images form) from)) same (none_for quads live terms range images form t table first second f s from r h))

pub returns-in-Subject-clause-some : goal.returns-in-Subject-clause-some
returns-in-Subject-clause-some c =
    some _ c.self.inside.quads.items c.self.inside.live.items c.self.inside.terms c.self.view_is c.self.invariant.in_range c.args.images.now c.args.from c.args.condition _ c.in-Subject.is
    c.self.inside.subjects c.self.invariant.subjects_are c.in-Subject.p c.end.result refl c.end.ensures c.least.result c.least.ensures.some

pub returns-in-Subject-clause-none : goal.returns-in-Subject-clause-none
returns-in-Subject-clause-none c =
    none _ c.self.inside.quads.items c.self.inside.live.items c.self.inside.terms c.self.view_is c.self.invariant.in_range c.args.images.now c.args.from c.args.condition _ c.in-Subject.is
    c.self.inside.subjects c.self.invariant.subjects_are c.in-Subject.p c.end.result refl c.end.ensures c.least.result c.least.ensures.none

pub returns-in-Object-clause-some : goal.returns-in-Object-clause-some
returns-in-Object-clause-some c =
    some _ c.self.inside.quads.items c.self.inside.live.items c.self.inside.terms c.self.view_is c.self.invariant.in_range c.args.images.now c.args.from c.args.condition _ c.in-Object.is
    c.self.inside.objects c.self.invariant.objects_are c.end-in-Object.result c.in-Object.p c.end-in-Object.ensures refl c.least-in-Object.result c.least-in-Object.ensures.some

pub returns-in-Object-clause-none : goal.returns-in-Object-clause-none
returns-in-Object-clause-none c =
    none _ c.self.inside.quads.items c.self.inside.live.items c.self.inside.terms c.self.view_is c.self.invariant.in_range c.args.images.now c.args.from c.args.condition _ c.in-Object.is
    c.self.inside.objects c.self.invariant.objects_are c.end-in-Object.result c.in-Object.p c.end-in-Object.ensures refl c.least-in-Object.result c.least-in-Object.ensures.none

pub returns-in-Both-clause-some : goal.returns-in-Both-clause-some
returns-in-Both-clause-some c =
    some _ c.self.inside.quads.items c.self.inside.live.items c.self.inside.terms c.self.view_is c.self.invariant.in_range c.args.images.now c.args.from c.args.condition _ c.in-Both.is
    c.self.inside.both c.self.invariant.both_are c.in-Both.p 1 refl refl c.least-in-Both.result c.least-in-Both.ensures.some

pub returns-in-Both-clause-none : goal.returns-in-Both-clause-none
returns-in-Both-clause-none c =
    none _ c.self.inside.quads.items c.self.inside.live.items c.self.inside.terms c.self.view_is c.self.invariant.in_range c.args.images.now c.args.from c.args.condition _ c.in-Both.is
    c.self.inside.both c.self.invariant.both_are c.in-Both.p 1 refl refl c.least-in-Both.result c.least-in-Both.ensures.none

pub returns-in-SomeSubject-clause-some : goal.returns-in-SomeSubject-clause-some
returns-in-SomeSubject-clause-some c =
    some _ c.self.inside.quads.items c.self.inside.live.items c.self.inside.terms c.self.view_is c.self.invariant.in_range c.args.images.now c.args.from c.args.condition _ c.in-SomeSubject.is
    c.self.inside.some_subjects c.self.invariant.some_subjects_are c.in-SomeSubject.p 0 refl refl c.least-in-SomeSubject.result c.least-in-SomeSubject.ensures.some

pub returns-in-SomeSubject-clause-none : goal.returns-in-SomeSubject-clause-none
returns-in-SomeSubject-clause-none c =
    none _ c.self.inside.quads.items c.self.inside.live.items c.self.inside.terms c.self.view_is c.self.invariant.in_range c.args.images.now c.args.from c.args.condition _ c.in-SomeSubject.is
    c.self.inside.some_subjects c.self.invariant.some_subjects_are c.in-SomeSubject.p 0 refl refl c.least-in-SomeSubject.result c.least-in-SomeSubject.ensures.none

pub returns-in-SomeObject-clause-some : goal.returns-in-SomeObject-clause-some
returns-in-SomeObject-clause-some c =
    some _ c.self.inside.quads.items c.self.inside.live.items c.self.inside.terms c.self.view_is c.self.invariant.in_range c.args.images.now c.args.from c.args.condition _ c.in-SomeObject.is
    c.self.inside.some_objects c.self.invariant.some_objects_are c.in-SomeObject.p 0 refl refl c.least-in-SomeObject.result c.least-in-SomeObject.ensures.some

pub returns-in-SomeObject-clause-none : goal.returns-in-SomeObject-clause-none
returns-in-SomeObject-clause-none c =
    none _ c.self.inside.quads.items c.self.inside.live.items c.self.inside.terms c.self.view_is c.self.invariant.in_range c.args.images.now c.args.from c.args.condition _ c.in-SomeObject.is
    c.self.inside.some_objects c.self.invariant.some_objects_are c.in-SomeObject.p 0 refl refl c.least-in-SomeObject.result c.least-in-SomeObject.ensures.none
