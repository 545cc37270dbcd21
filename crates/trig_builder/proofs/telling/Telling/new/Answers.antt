use Rattle.std.proofs.Common.{[], reverse, refl, sym, ap, subst, inl}
use Rattle.std.specs.List.{AllZip}
use Rattle.rdf_terms.specs.Document.{Document, statements}
use Rattle.trig_builder.specs.Telling.{IsPlace}
use Rattle.trig_builder.proofs.telling.Telling.new.Goals as goal

pub returns-clause-tells : goal.returns-clause-tells
returns-clause-tells c = record {
  place = tt;
  outer = subst (λ items. AllZip (IsPlace c.new.result.labels) (reverse items) []) (sym c.new-2.ensures.items) tt;
  graph_name = refl;
  opened = refl;
  labels = ap (λ (d : Document). d.labels) c.new.ensures;
  drafted = record { front = []; passed_over = []; numbers = tt; adds = ap statements c.new.ensures; all_or_full = inl refl };
}
