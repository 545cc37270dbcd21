-- An allowed output is carried back along an isomorphism.
use Rattle.std.proofs.Common.{map, sym, ◌∙◌}
use Rattle.canon_model.proofs.Equivariance.{back_relabelling, carries_back}
use Rattle.canon_model.proofs.RelabelRun.{canonical_form-relabel, canonical_list-relabel}
use Rattle.other_output.specs.SharedOutputs.{OutputsOfIsomorphic}

pub outputs_of_isomorphic : OutputsOfIsomorphic
outputs_of_isomorphic ρ D E iso text w =
    let σ = iso.relabelling in
    let car = iso.carries in
    let back = back_relabelling D E σ car.nodes in
    let car' = carries_back σ.to σ.from σ.from-to D E car in
    record {
      list = map σ.from w.list;
      allowed = canonical_list-relabel ρ E D back car' w.list w.allowed;
      text_is = w.text_is ∙ sym (canonical_form-relabel ρ E D back car' w.list);
    }
