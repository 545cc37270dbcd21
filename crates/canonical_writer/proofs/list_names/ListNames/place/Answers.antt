use Rattle.std.proofs.Common.{Some, sym, ap, subst, ◌∙◌, arith}
use Rattle.std.proofs.lemmas.List.{get_or_read}
use Rattle.canonical_writer.specs.Places.{TellsPlaces}
use Rattle.canonical_writer.proofs.Placing.{told_place}
use Rattle.canonical_writer.proofs.list_names.ListNames.place.Goals as goal

pub index-requires : goal.index-requires
index-requires c =
    let places = c.self.inside.places in
    let told = subst (λ l. TellsPlaces l places.items) (ap (λ names. names.list) c.self.view_is) c.self.invariant in
    omega (arith, (told_place c.args.self.now.list places.items c.args.node told c.requires).0, places.ok.0)

pub returns : goal.returns
returns c =
    let places = c.self.inside.places in
    let told = subst (λ l. TellsPlaces l places.items) (ap (λ names. names.list) c.self.view_is) c.self.invariant in
    let found = told_place c.args.self.now.list places.items c.args.node told c.requires in
    found.1 ∙ ap Some (sym (get_or_read places.items _ _ found.0 c.index.ensures 0))
