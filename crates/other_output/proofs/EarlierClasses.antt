-- Where the ties of some classes are joined, whatever may be issued by way of them is what the counted run issues, but for a symmetry that moves no other node.
use Rattle.std.proofs.Common.{Bool, List, [], ap, false, map, refl, subst, sym, true, true≢false, ℕ, ◌++◌, ◌∙◌, ◌∷◌, ◌≡◌}
use Rattle.std.proofs.lemmas.Bool.{false_from_ne_true}
use Rattle.rdf_terms.proofs.Common.{Dataset, IsValid, Text, map-map}
use Rattle.canon_model.specs.Allowed.{IssuesForHashes, issue_results, unissued_nodes}
use Rattle.canon_model.specs.CountedRun.{counted_hashes, counted_results, ties_of_results, trace_of_starts}
use Rattle.canon_model.specs.Hashing.{Hashing}
use Rattle.canon_model.specs.Issuer.{is_issued}
use Rattle.canon_model.specs.Ties.{AreJoined}
use Rattle.canon_model.proofs.Components.{IsBase, alike_refl}
use Rattle.canon_model.proofs.CountedAllowed.{counted_hashes-issue}
use Rattle.canon_model.proofs.Equivariance.{map_back, map_forth, same_test}
use Rattle.canon_model.proofs.ExchangeSymmetry.{AreAlike}
use Rattle.canon_model.proofs.HashStep.{counted_results-base, results-alike}
use Rattle.canon_model.proofs.LocalSymmetry.{AreQuads}
use Rattle.canon_model.proofs.OneOutput.{base_again}
use Rattle.canon_model.proofs.Relabel.{is_issued-relabel}
use Rattle.canon_model.proofs.RelabelRun.{issues_for_hashes-relabel}
use Rattle.canon_model.proofs.Symmetries.{composed_fixes, composed_symmetry, inverse_symmetry}
use Rattle.canon_model.proofs.Uniqueness.{joined_left, joined_right}
use Rattle.other_output.proofs.IssuedFronts.{issues_for_hashes-keeps}

module _ (D : Dataset) (quads : AreQuads D) where
  -- the one step and then the others
  module _ (c c' d' e d : List ℕ) (a : AreAlike D quads c c c' d') (u : AreAlike D quads c' c' e (map a.s.relabelling.from d))
      (sub : (x : ℕ) → is_issued x c ≡ true → is_issued x c' ≡ true)
      (kept : (x : ℕ) → is_issued x c' ≡ true → is_issued x e ≡ true) (kept' : (x : ℕ) → is_issued x d' ≡ true → is_issued x d ≡ true) where
    abbrev to : ℕ → ℕ
    to = a.s.relabelling.to

    abbrev from : ℕ → ℕ
    from = a.s.relabelling.from

    not_before : (x : ℕ) → is_issued x e ≡ false → is_issued x c' ≡ false
    not_before x h = false_from_ne_true (is_issued x c') (λ g. true≢false (sym (kept x g) ∙ h))

    same : (x : ℕ) → is_issued x (map from d) ≡ is_issued x d
    same x = by (is_issued x c') refl
      where
        by : (t : Bool) → is_issued x c' ≡ t → is_issued x (map from d) ≡ is_issued x d
        by true h = sym (u.same x) ∙ kept x h ∙ sym (kept' x (sym (a.same x) ∙ h))
        by false h =
            let stays : from x ≡ x = ap from (sym (a.out x h)) ∙ a.s.relabelling.from-to x in
            ap (λ y. is_issued y (map from d)) (sym stays) ∙ is_issued-relabel from (same_test from to a.s.relabelling.to-from) x d

    alike-onward : AreAlike D quads c c e d
    alike-onward = record {
      s = composed_symmetry D a.s u.s;
      fixes = composed_fixes D a.s u.s c a.fixes (λ x h. u.fixes x (sub x h));
      out = λ x h. ap to (u.out x h) ∙ a.out x (not_before x h);
      is = sym (map-map to u.s.relabelling.to e) ∙ ap (map to) u.is ∙ map_forth to from (same_test to from a.s.relabelling.from-to) a.s.relabelling.from-to a.s.relabelling.to-from d;
      same = λ x. u.same x ∙ same x;
    }

module _ (ρ : Hashing) (D : Dataset) (valid : IsValid D) (quads : AreQuads D) where
  pub counted_hashes-alike : (hs : List Text) (c d : List ℕ) → IsBase D quads c c → AreJoined D (counted_hashes ρ D hs c).trace.ties → IssuesForHashes ρ D hs c d
      → AreAlike D quads c c (counted_hashes ρ D hs c).value d
  counted_hashes-alike [] c d b j w = subst (AreAlike D quads c c c) (sym w) (alike_refl D quads c c c)
  counted_hashes-alike (h ∷ hs) c d b j w =
      let results = counted_results ρ D c h in
      let c' = issue_results c results in
      let d' = issue_results c w.results in
      let e = (counted_hashes ρ D hs c').value in
      let starts = (trace_of_starts ρ D c (unissued_nodes ρ D c h)).ties in
      let own = ties_of_results c results in
      let here = joined_left D (starts ++ own) (counted_hashes ρ D hs c').trace.ties j in
      let j_in = joined_left D starts own here in
      let j_out = joined_right D starts own here in
      let a = results-alike ρ D valid quads c b h j_in j_out w.results w.list in
      let base = counted_results-base ρ D valid quads c b h j_in j_out in
      let to = a.s.relabelling.to in
      let from = a.s.relabelling.from in
      let t = inverse_symmetry D a.s in
      let there : map from d' ≡ c' = ap (map from) (sym a.is) ∙ map_back to from (same_test to from a.s.relabelling.from-to) a.s.relabelling.from-to a.s.relabelling.to-from c' in
      let back : IssuesForHashes ρ D hs c' (map from d) = subst (λ v. IssuesForHashes ρ D hs v (map from d)) there (issues_for_hashes-relabel ρ D D t.relabelling t.keeps hs d' d w.following) in
      let u = counted_hashes-alike hs c' (map from d) (base_again ρ D valid quads c c' base) (joined_right D (starts ++ own) (counted_hashes ρ D hs c').trace.ties j) back in
      alike-onward D quads c c' d' e d a u base.sub
      (issues_for_hashes-keeps ρ D hs c' e (counted_hashes-issue ρ D valid hs c' (record { once = base.distinct; below = base.below })))
      (issues_for_hashes-keeps ρ D hs d' d w.following)
