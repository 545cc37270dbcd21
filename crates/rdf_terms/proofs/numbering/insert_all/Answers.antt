use Rattle.std.proofs.Common.{sym, subst}
use Rattle.std.proofs.lemmas.List.{take_more}
use Rattle.rdf_terms.specs.Document.{AddsAll}
use Rattle.rdf_terms.specs.contracts.term.QuadPartialEq.TheImpl.{eq-value}
use Rattle.rdf_terms.proofs.Membership.{inserted, Extends-adds}
use Rattle.rdf_terms.proofs.SameTerm.{quads_tell}
use Rattle.rdf_terms.proofs.Growing.{extends-trans}
use Rattle.rdf_terms.proofs.AddingAll.{AddsAll-push}
use Rattle.rdf_terms.proofs.numbering.insert_all.Goals as goal

pub loop-quad-preserved : goal.loop-quad-preserved
loop-quad-preserved c =
    let adds = inserted eq-value.it quads_tell c.loop-quad.quads.keys c.insert.new.self.keys _ c.in_ok-insert.ensures.keys in
    record {
      adds = subst (λ xs. AddsAll c.args.quads.now.keys xs c.insert.new.self.keys) (sym (take_more c.args.numbered.now c.loop-quad.quad-index _ c.loop-quad-test.true))
          (AddsAll-push _ _ _ _ _ c.loop-quad.invariant.adds adds);
      extends = extends-trans _ _ _ c.loop-quad.invariant.extends (Extends-adds _ _ _ adds);
    }
