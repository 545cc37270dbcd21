use Rattle.rdf_terms.specs.Lists.{Permutes}
use Rattle.rdf_terms.specs.declared.memory.NoMemory.{NoMemory}
use Rattle.std.proofs.Common.{true, ◌≡◌, ℕ, ◌<◌, length, Result, Ok, Err, IfOk}
use Rattle.map_search.specs.Table.{TableView}
use Rattle.map_search.specs.Marks.{mark_at}
use Rattle.map_search.specs.Index.{IsTableOf}
use Rattle.map_search.proofs.Indexing.{distinct_entries, table_from_build}
use Rattle.map_search.proofs.index.table_of.Goals as goal

pub build-requires-clause-distinct : goal.build-requires-clause-distinct
build-requires-clause-distinct c = distinct_entries c.args.asked c.args.quads.now c.in_ok-entries.entries.items c.in_ok-entries.ensures.count c.in_ok-entries.ensures.each

pub returns : goal.returns
returns c = by c.build.result c.build.ensures.permutes c.build.ensures.all
  where
    by : (r : Result TableView NoMemory) → IfOk r (λ t. Permutes c.in_ok-entries.entries.items t.entries) → IfOk r (λ t. (k : ℕ) → k < length t.entries → mark_at t.marks k ≡ true)
        → IfOk r (IsTableOf c.args.asked c.args.quads.now c.args.live.now)
    by (Ok t) p m = table_from_build c.args.asked c.args.quads.now c.args.live.now c.in_ok-entries.entries.items t c.in_ok-entries.ensures.count c.in_ok-entries.ensures.each p m c.requires.all
    by (Err e) p m = p
