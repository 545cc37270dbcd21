-- What the search of a graph works with, between two components.
use Rattle.std.specs.Prelude.{◌≡◌, length}
use Rattle.rdf_terms.specs.Document.{Document}
use Rattle.component_walk.specs.Walk.{IsUnmarked}
use Rattle.component_walk.specs.Places.{AreNoPlaces}
use Rattle.entail.specs.declared.workspace.Workspace.{Workspace}

pub record IsWorkspace (e : Document) (workspace : Workspace) : Type 0 where
  pub places : AreNoPlaces (length e.terms) workspace.place_of.items
  pub walked : IsUnmarked (length e.labels) workspace.walked.items
  pub ahead : IsUnmarked (length e.labels) workspace.ahead
  pub count : length workspace.images.items ≡ length e.labels
